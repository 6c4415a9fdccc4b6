-- The writers: each changes one part of the layout and leaves the others.
use mathlib.Core.Path.{◌≡◌, refl, sym, ap, ◌∙◌}
use mathlib.Core.List.{List, [], ◌∷◌, ◌++◌}
use mathlib.Core.Logic.{◌≢◌, ◌⊎◌, inl, inr}
use mathlib.Core.Option.{Option, none, some}
use Prim.Native.Nat.{ℕ, zero, suc, ◌+◌, ◌*◌, ◌/◌, ◌%◌, ◌≤◌, ◌<◌}
use native.Mathlib.Omega.{arith}
use lib.ListN.{length, get_or, get_or-append}
use Rattle.disc.specs.Numbers.{slice_start}
use Rattle.disc.specs.Words.{word, Holds}
use Rattle.disc.specs.Names.{key_of}
use Rattle.disc.specs.Slices.{occurrences, in_unit, InRangeOnce}
use Rattle.disc.specs.Stretches.{sector_in, index_words, sys_from}
use Rattle.disc.specs.Kit.{Kit, kit_sector}
use Rattle.disc.specs.Map.{map_bit}
use Rattle.disc.specs.Entries.{place_word, place_count, name_at}
use Rattle.disc.specs.Catalog.{place_sector, Catalog, places_of, places_in, with_layer}
use Rattle.disc.proofs.Compare.{same_or, below_or}
use Rattle.disc.proofs.SliceLaws.{in_unit_mono, occurrences_append}
use Rattle.words.specs.Store.{zero_words}
use Rattle.words.proofs.StoreLaws.{length-zero_words, get_d_zero_words, word_store_in, word_store_beside}
use Rattle.map.specs.Marks.{all_used, all_free}
use Rattle.map.proofs.MarkLaws.{map_taken, map_freed, in_map}
use Rattle.plain.specs.Table.{Table, table_find, table_put, table_remove, Every}
use Rattle.plain.specs.Unit.{Plain, File, AreaUser, sys_of, M, with_files, with_tables}
use Rattle.plain.proofs.TableLaws.{some_inj, find_put, find_put_other, remove_some}
use Rattle.sound.specs.Places.{Unused}
use Rattle.refine.specs.Represents.{FileOnImage, CatalogOnImage, Layout}
use Rattle.refine.specs.Writes.{set_free, store_place}
use Rattle.refine.proofs.Sectors.{Same, Outside, holds_kept, store_outside, marked_outside-map, bit_kept}
use Rattle.refine.proofs.CatalogLaws.{Named, name_in, catalog_put, catalog_remove, catalog_grow, catalog_same}
use Rattle.refine.proofs.Ground.{Ground, top, joined_in, sys_ground, first_in, block_in, catalog_data, file_data, catalog_file, file_file, in_catalog, place_in, CatalogGround}

-- ---- the kit

pub kit_kept : {i j : List ℕ} {H s N free F : ℕ} → Kit i H s N free F → Same i j kit_sector → Kit j H s N free F
kit_kept k e = record {
  keys = e.at 0 (omega arith) ∙ k.keys;
  slice = e.at 1 (omega arith) ∙ k.slice;
  sectors = e.at 2 (omega arith) ∙ k.sectors;
  unused = e.at 3 (omega arith) ∙ k.unused;
  first = e.at 4 (omega arith) ∙ k.first;
  top = e.at 5 (omega arith) ∙ k.top;
}

free_outside : (i : List ℕ) (v : ℕ) → Outside i (set_free i v) (kit_sector ∷ [])
free_outside i v = store_outside i (v ∷ []) kit_sector 3 (omega arith)

kit_free : {i : List ℕ} {H s N free F : ℕ} (v : ℕ) → Kit i H s N free F → 2304 ≤ length i → Kit (set_free i v) H s N v F
kit_free {i} v k l =
    let off : (b : ℕ) → (b < 3) ⊎ (3 + 1 ≤ b) → word (set_free i v) kit_sector b ≡ word i kit_sector b = word_store_beside i kit_sector 3 (v ∷ []) in
    record {
      keys = off 0 (inl (omega arith)) ∙ k.keys;
      slice = off 1 (inl (omega arith)) ∙ k.slice;
      sectors = off 2 (inl (omega arith)) ∙ k.sectors;
      unused = word_store_in i kit_sector 3 (v ∷ []) (omega arith) 0 (omega arith);
      first = off 4 (inr (omega arith)) ∙ k.first;
      top = off 5 (inr (omega arith)) ∙ k.top;
    }

-- ---- frames of files and places

module _ (p : Plain) (g : Ground p) where
  -- a file whose sectors keep their words
  pub file_kept : (i j : List ℕ) (m : ℕ) (a : File) → table_find m p.files ≡ some a → ((b : ℕ) → b / p.s < length a.slices → Same i j (sector_in p.F p.s a.slices b))
      → FileOnImage i p.F p.s a → FileOnImage j p.F p.s a
  file_kept i j m a e same q = record {
    index = λ x. holds_kept (q.index x) (same 0 (first_in p g a.slices x));
    blocks = λ b x. holds_kept (q.blocks b x) (same (b + 1) (block_in p g m a e b x));
  }

module _ {p : Plain} {c : Catalog} (g : CatalogGround p c) where
  abbrev F : ℕ
  F = p.F

  abbrev s : ℕ
  s = p.s

  module _ (i : List ℕ) (size : length i ≡ 256 * p.N) (t : ℕ) (x : t < places_of p.H c) (e : List ℕ) (len : length e ≡ 16) where
    pub place_outside : Outside i (store_place p c i t e) (place_sector F s c t ∷ [])
    place_outside = store_outside i e (place_sector F s c t) (t % 16 * 16) (omega arith)

    pub place_here : (w : ℕ) → w < 16 → places_in (store_place p c i t e) F s c t w ≡ get_or e w 0
    place_here w y =
        let d = catalog_data g (t / 16 + c.from) (place_in g t x) in
        word_store_in i (place_sector F s c t) (t % 16 * 16) e (omega (arith, d.1)) w (omega arith)

    pub place_off : (u w : ℕ) → u < places_of p.H c → u ≢ t → w < 16 → places_in (store_place p c i t e) F s c u w ≡ places_in i F s c u w
    place_off u w y d z = same_or (u / 16) (t / 16)
        (λ q. rw q (word_store_beside i (place_sector F s c t) (t % 16 * 16) e (u % 16 * 16 + w)
        (below_or (u % 16) (t % 16) (λ h. inl (omega arith)) (λ h. inr (omega arith)))))
        (λ q. (place_outside.same (place_sector F s c u) ((λ r. apart q r), tt)).at (u % 16 * 16 + w) (omega arith))
      where
        apart : u / 16 ≢ t / 16 → place_sector F s c u ≢ place_sector F s c t
        apart q r =
            let same : u / 16 + c.from ≡ t / 16 + c.from = in_catalog g (u / 16 + c.from) (t / 16 + c.from) (place_in g u y) (place_in g t x) r in
            q (omega arith)

  -- places where the catalog's sectors keep their words
  pub place_same : (i j : List ℕ) → ((q : ℕ) → q / s < length c.slices → Same i j (sector_in F s c.slices q))
      → (t w : ℕ) → t < places_of p.H c → w < 16 → places_in j F s c t w ≡ places_in i F s c t w
  place_same i j same t w x y = (same (t / 16 + c.from) (place_in g t x)).at (t % 16 * 16 + w) (omega arith)

-- ---- a catalog on the image

module _ {p : Plain} {c : Catalog} (g : CatalogGround p c) {i : List ℕ} {E : ℕ → Option (List ℕ)} (on : CatalogOnImage i p.H p.s p.F c E) where
  -- where its index block and its sectors keep their words
  pub catalog_kept : (j : List ℕ) → Same i j c.index → ((q : ℕ) → q / p.s < length c.slices → Same i j (sector_in p.F p.s c.slices q))
      → CatalogOnImage j p.H p.s p.F c E
  catalog_kept j head same = record { index = holds_kept on.index head; places = catalog_same on.places _ E (place_same g i j same) (λ m. refl) }

  module _ (size : length i ≡ 256 * p.N) (t : ℕ) (in₀ : t < places_of p.H c) where
    index_kept : (e : List ℕ) → length e ≡ 16 → Holds (store_place p c i t e) c.index (index_words p.F p.s c.slices)
    index_kept e len =
        holds_kept on.index ((place_outside g i size t in₀ e len).same c.index ((λ q. g.index (t / 16 + c.from) (omega arith) (place_in g t in₀) (sym q)), tt))

    -- an entry at an unused place, or in the place of the name's old one
    pub catalog_entered : (e : List ℕ) → length e ≡ 16 → (D : ℕ → Option (List ℕ)) (n : ℕ) → Named E → ((m : ℕ) → m ≢ n → D m ≡ E m) → D n ≡ some e → name_in e ≡ n → n ≢ 0
        → t / 16 % p.H ≡ key_of p.H n → ((u : ℕ) → u < places_of p.H c → name_at (places_in i p.F p.s c) u ≡ n → u ≡ t)
        → (name_at (places_in i p.F p.s c) t ≢ n → name_at (places_in i p.F p.s c) t ≡ 0) → CatalogOnImage (store_place p c i t e) p.H p.s p.F c D
    catalog_entered e len D n nm other new named nz key only mine = record {
      index = index_kept e len;
      places = catalog_put on.places nm _ D n t in₀ (place_off g i size t in₀ e len) other e new named nz (place_here g i size t in₀ e len) key only mine;
    }

    -- a place emptied
    pub catalog_emptied : (D : ℕ → Option (List ℕ)) (n : ℕ) → Named E → ((m : ℕ) → m ≢ n → D m ≡ E m) → D n ≡ none → name_at (places_in i p.F p.s c) t ≡ n → n ≢ 0
        → CatalogOnImage (store_place p c i t (zero_words 16)) p.H p.s p.F c D
    catalog_emptied D n nm other gone was nz =
        let len : length (zero_words 16) ≡ 16 = length-zero_words 16 in
        record {
          index = index_kept (zero_words 16) len;
          places =
              catalog_remove on.places nm _ D n t in₀ (place_off g i size t in₀ (zero_words 16) len) other gone was nz
              (record { zero = λ w x. place_here g i size t in₀ (zero_words 16) len w x ∙ get_d_zero_words 16 w });
        }

-- ---- a catalog grows by a layer

pub grown_sector : (F s : ℕ) (l y : List ℕ) (q : ℕ) → q / s < length l → sector_in F s (l ++ y) q ≡ sector_in F s l q
grown_sector F s l y q x = ap (λ (k : ℕ). slice_start F s k + q % s) (get_or-append l y 0 (q / s) x)

-- what is written where it took the slices y: its index block, and the blocks of the new layer, which are zeroed
pub record NewLayer (p : Plain) (c : Catalog) (y i j : List ℕ) : Type 0 where
  pub size : length j ≡ length i
  pub keep : (q : ℕ) → q ≢ c.index
      → ((b : ℕ) → p.H * c.layers + c.from ≤ b → b < p.H * suc c.layers + c.from → q ≢ sector_in p.F p.s (c.slices ++ y) b) → Same i j q
  pub index : Holds j c.index (index_words p.F p.s (c.slices ++ y))
  pub zeroed : (b w : ℕ) → p.H * c.layers + c.from ≤ b → b < p.H * suc c.layers + c.from → w < 256 → word j (sector_in p.F p.s (c.slices ++ y) b) w ≡ 0

module _ {p : Plain} {c : Catalog} {y : List ℕ} {layers : ℕ} {sys : List ℕ} {files : Table File} {areas : Table (Table AreaUser)} (g : CatalogGround p c)
    (g' : CatalogGround (with_tables p layers sys files areas) (with_layer c y)) {i j : List ℕ} (n : NewLayer p c y i j) where
  -- the old places keep their words, the new ones are zero
  pub layer_old : (t w : ℕ) → t < places_of p.H c → w < 16 → places_in j p.F p.s (with_layer c y) t w ≡ places_in i p.F p.s c t w
  layer_old t w x z =
      let old : (t / 16 + c.from) / p.s < length c.slices = place_in g t x in
      let e : sector_in p.F p.s (c.slices ++ y) (t / 16 + c.from) ≡ place_sector p.F p.s c t = grown_sector p.F p.s c.slices y (t / 16 + c.from) old in
      let q : Same i j (place_sector p.F p.s c t) = n.keep _ (g.index (t / 16 + c.from) (omega arith) old) (λ b lo hi r.
      let u : t / 16 + c.from ≡ b = in_catalog g' (t / 16 + c.from) b (joined_in g' (t / 16 + c.from) (omega arith)) (joined_in g' b (omega (arith, hi))) (e ∙ r) in omega arith) in
      ap (λ (k : ℕ). word j k (t % 16 * 16 + w)) e ∙ q.at (t % 16 * 16 + w) (omega arith)

  pub layer_new : (t : ℕ) → places_of p.H c ≤ t → t < places_of p.H (with_layer c y) → Unused (places_in j p.F p.s (with_layer c y)) t
  layer_new t lo hi = record { zero = λ w x. n.zeroed (t / 16 + c.from) (t % 16 * 16 + w) (omega arith) (omega arith) (omega arith) }

  pub catalog_layered : {E : ℕ → Option (List ℕ)} → CatalogOnImage i p.H p.s p.F c E → CatalogOnImage j p.H p.s p.F (with_layer c y) E
  catalog_layered {E} on = record {
    index = n.index;
    places = catalog_grow on.places _ E (places_of p.H (with_layer c y)) (omega arith) layer_old layer_new (λ m. refl);
  }

-- q is none of the sectors of a slice list
abbrev pub Off : ℕ → ℕ → List ℕ → ℕ → Type 0
Off F s l q = (b : ℕ) → b / s < length l → q ≢ sector_in F s l b

-- the entries under another name
pub relabel : {i : List ℕ} {p : Plain} {v w : ℕ} {h k : List ℕ} {E D : ℕ → Option (List ℕ)} → Layout i p v h E → w ≡ v → ((x : ℕ) → occurrences x k ≡ occurrences x h) → ((m : ℕ) → D m ≡ E m) → Layout i p w k D
relabel {i} {p} {v} {w} {h} {k} {E} {D} r e t d = record {
  size = r.size;
  kit = rw e r.kit;
  map = λ x a b. omega (arith, r.map x a b, t x);
  sys = record { index = r.sys.index; places = catalog_same r.sys.places _ D (λ t w x y. refl) d };
  map_index = r.map_index;
  files = r.files;
}

module _ {i : List ℕ} {p : Plain} {v : ℕ} {h : List ℕ} {E : ℕ → Option (List ℕ)} (g : Ground p) (r : Layout i p v h E) where
  pub long : 2560 ≤ length i
  long = omega (arith, r.size, g.limits.first, g.limits.some_data)

  -- ---- writes below the data

  pub low_write : (j : List ℕ) (w : ℕ) (k : List ℕ) → length j ≡ length i → ((q : ℕ) → 10 ≤ q → Same i j q) → Same i j 6 → Same i j 7
      → Kit j p.H p.s p.N w p.F → ((x : ℕ) → 1 ≤ x → x ≤ 4096 → map_bit j x + occurrences x k ≡ in_unit (M p) x) → Layout j p w k E
  low_write j w k size keep six seven kit map = record {
    size = size ∙ r.size;
    kit = kit;
    map = map;
    sys = catalog_kept (sys_ground g) r.sys j six (λ q x. keep _ (catalog_data (sys_ground g) q x).0);
    map_index = holds_kept r.map_index seven;
    files = λ m a e. file_kept p g i j m a e (λ b x. keep _ (file_data p g m a e b x).0) (r.files m a e);
  }

  -- the free count
  pub write_free : (w : ℕ) → Layout (set_free i w) p w h E
  write_free w =
      let o = free_outside i w in
      low_write (set_free i w) w h o.size (λ q x. o.same q (omega arith, tt)) (o.same 6 (omega arith, tt)) (o.same 7 (omega arith, tt))
      (kit_free w r.kit (omega (arith, long)))
      (λ x a b. omega (arith, bit_kept x a b (o.same 9 (omega arith, tt)), r.map x a b))

  map_write : (j : List ℕ) (k : List ℕ) → Outside i j (9 ∷ []) → ((x : ℕ) → 1 ≤ x → x ≤ 4096 → map_bit j x + occurrences x k ≡ in_unit (M p) x) → Layout j p v k E
  map_write j k o m =
      low_write j v k o.size (λ q x. o.same q (omega arith, tt)) (o.same 6 (omega arith, tt)) (o.same 7 (omega arith, tt)) (kit_kept r.kit (o.same 8 (omega arith, tt))) m

  -- a slice of the unit is one of the map
  few : (x : ℕ) → in_unit (M p) x ≤ in_unit 4096 x
  few x = in_unit_mono (M p) 4096 x g.limits.slices_high

  -- slices l marked free: k is left
  pub write_freed : (l k : List ℕ) → InRangeOnce (M p) h → ((x : ℕ) → occurrences x k + occurrences x l ≡ occurrences x h) → Layout (all_free i l) p v k E
  write_freed l k once left =
      map_write (all_free i l) k
      (marked_outside-map 1 i l (omega arith) (in_map l (λ x. omega (arith, left x, once x, few x))) long)
      (map_freed (M p) l k h i g.limits.slices_high long r.map once (λ x. omega (arith, left x)))

  -- slices l marked used: k is held then
  pub write_used : (l k : List ℕ) → InRangeOnce (M p) k → ((x : ℕ) → occurrences x k ≡ occurrences x l + occurrences x h) → Layout (all_used i l) p v k E
  write_used l k once both =
      map_write (all_used i l) k
      (marked_outside-map 0 i l (omega arith) (in_map l (λ x. omega (arith, both x, once x, few x))) long)
      (λ x a b.
      omega (
        arith,
        map_taken (M p) l h i g.limits.slices_high long r.map (λ y. omega (arith, both y, once y, occurrences_append y l h)) x a b,
        occurrences_append x l h,
        both x,
      ))

  -- ---- a place of SYS

  module _ (t : ℕ) (in₀ : t < place_count p.H p.layers) where
    place_write : (e : List ℕ) → length e ≡ 16 → {D : ℕ → Option (List ℕ)} → CatalogOnImage (store_place p (sys_of p) i t e) p.H p.s p.F (sys_of p) D
        → Layout (store_place p (sys_of p) i t e) p v h D
    place_write e len c =
        let o = place_outside (sys_ground g) i r.size t in₀ e len in
        let d = catalog_data (sys_ground g) (t / 16 + sys_from) (place_in (sys_ground g) t in₀) in
        let low : (q : ℕ) → q < 10 → Same i (store_place p (sys_of p) i t e) q = λ q x. o.same q (omega (arith, d.0), tt) in
        record {
          size = o.size ∙ r.size;
          kit = kit_kept r.kit (low 8 (omega arith));
          map = λ x a b. omega (arith, bit_kept x a b (low 9 (omega arith)), r.map x a b);
          sys = c;
          map_index = holds_kept r.map_index (low 7 (omega arith));
          files = λ m a f. file_kept p g i _ m a f (λ b x. o.same _ (catalog_file (sys_ground g) m a f b (t / 16 + sys_from) x (place_in (sys_ground g) t in₀), tt)) (r.files m a f);
        }

    -- an entry at an unused place, or in the place of the name's old one
    pub write_entry : (e : List ℕ) → length e ≡ 16 → (D : ℕ → Option (List ℕ)) (n : ℕ) → Named E → ((m : ℕ) → m ≢ n → D m ≡ E m) → D n ≡ some e → name_in e ≡ n → n ≢ 0
        → t / 16 % p.H ≡ key_of p.H n → ((u : ℕ) → u < place_count p.H p.layers → name_at (place_word i p.F p.s p.sys sys_from) u ≡ n → u ≡ t)
        → (name_at (place_word i p.F p.s p.sys sys_from) t ≢ n → name_at (place_word i p.F p.s p.sys sys_from) t ≡ 0)
        → Layout (store_place p (sys_of p) i t e) p v h D
    write_entry e len D n nm other new named nz key only mine =
        place_write e len (catalog_entered (sys_ground g) r.sys r.size t in₀ e len D n nm other new named nz key only mine)

    -- a place emptied
    pub write_zero : (D : ℕ → Option (List ℕ)) (n : ℕ) → Named E → ((m : ℕ) → m ≢ n → D m ≡ E m) → D n ≡ none
        → name_at (place_word i p.F p.s p.sys sys_from) t ≡ n → n ≢ 0 → Layout (store_place p (sys_of p) i t (zero_words 16)) p v h D
    write_zero D n nm other gone was nz =
        place_write (zero_words 16) (length-zero_words 16) (catalog_emptied (sys_ground g) r.sys r.size t in₀ D n nm other gone was nz)

  -- ---- a file

  -- its name and lists dropped: nothing is written
  pub forget_file : (n : ℕ) → Layout i (with_files p (table_remove n p.files)) v h E
  forget_file n =
      let files : Every (λ m a. FileOnImage i p.F p.s a) (table_remove n p.files) = λ m a e. r.files m a (remove_some m n 0 p.files a g.names e).1 in
      search r

  -- writes inside the sectors of the file's new slices only
  pub write_file : (n : ℕ) (f : File) → Ground (with_files p (table_put n f p.files)) → (j : List ℕ) → length j ≡ length i → ((q : ℕ) → Off p.F p.s f.slices q → Same i j q)
      → FileOnImage j p.F p.s f → Layout j (with_files p (table_put n f p.files)) v h E
  write_file n f g' j size keep new =
      let p' : Plain = with_files p (table_put n f p.files) in
      let here : table_find n p'.files ≡ some f = find_put n f p.files in
      let low : (q : ℕ) → q < 10 → Same i j q = λ q x. keep q (λ b y e. let d = file_data p' g' n f here b y in omega (arith, d.0)) in
      record {
        size = size ∙ r.size;
        kit = kit_kept r.kit (low 8 (omega arith));
        map = λ x a b. omega (arith, bit_kept x a b (low 9 (omega arith)), r.map x a b);
        sys = catalog_kept (sys_ground g) r.sys j (low 6 (omega arith)) (λ q x. keep _ (λ b y z. catalog_file (sys_ground g') n f here b q y x (sym z)));
        map_index = holds_kept r.map_index (low 7 (omega arith));
        files = λ m a e. same_or m n
            (λ q. let z : f ≡ a = some_inj (sym here ∙ ap (λ (x : ℕ). table_find x p'.files) (sym q) ∙ e) in rw (← z) new)
            (λ d. file_kept p' g' i j m a e (λ b x. keep _ (λ c y. file_file p' g' m n a f d e here b c x y)) (r.files m a (sym (find_put_other m n f p.files d) ∙ e)));
      }

  -- ---- SYS grows by a layer

  pub write_layer : (y : List ℕ) → Ground (with_tables p (suc p.layers) (p.sys ++ y) p.files p.areas) → (j : List ℕ) → NewLayer p (sys_of p) y i j
      → Layout j (with_tables p (suc p.layers) (p.sys ++ y) p.files p.areas) v h E
  write_layer y g' j n =
      let grown : Plain = with_tables p (suc p.layers) (p.sys ++ y) p.files p.areas in
      let low : (q : ℕ) → q < 10 → q ≢ 6 → Same i j q = λ q x d. n.keep q d (λ b lo hi e. let z = catalog_data (sys_ground g') b (joined_in (sys_ground g') b (omega (arith, hi))) in omega (arith, z.0)) in
      record {
        size = n.size ∙ r.size;
        kit = kit_kept r.kit (low 8 (omega arith) (omega arith));
        map = λ x a b. omega (arith, bit_kept x a b (low 9 (omega arith) (omega arith)), r.map x a b);
        sys = catalog_layered (sys_ground g) (sys_ground g') n r.sys;
        map_index = holds_kept r.map_index (low 7 (omega arith) (omega arith));
        files = λ m a e. file_kept grown g' i j m a e
            (λ b x. n.keep _ (let d = file_data grown g' m a e b x in omega (arith, d.0)) (λ c lo hi. catalog_file (sys_ground g') m a e b c x (joined_in (sys_ground g') c (omega (arith, hi))))) (r.files m a e);
      }
