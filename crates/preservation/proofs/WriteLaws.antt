-- Laws of the writes that the messages share: what each stores, what it leaves, and that words stay words.
use mathlib.Core.Path.{◌≡◌, refl, sym, ap, ◌∙◌}
use mathlib.Core.List.{List, [], ◌∷◌, ◌++◌, append-nil}
use mathlib.Core.Logic.{◌≢◌, ⊎_elim}
use mathlib.Core.Option.{Option, some}
use Prim.Native.Nat.{ℕ, zero, suc, ◌+◌, ◌*◌, ◌/◌, ◌%◌, ◌≤◌, ◌<◌}
use native.Mathlib.Omega.{arith}
use native.Mathlib.Nat.{mul-le-mul_left}
use lib.Dec.{T}
use lib.ListN.{length, get_or, replicate, get_or-replicate}
use Rattle.disc.specs.Words.{word, Words, Holds}
use Rattle.disc.specs.Names.{SYS, legal_name, key_of}
use Rattle.disc.specs.Slices.{occurrences, free_count}
use Rattle.disc.specs.Stretches.{sector_in, index_words, stretch_count, sys_from}
use Rattle.disc.specs.Kit.{kit_sector, map_sector}
use Rattle.disc.specs.Map.{ones_in_map, MapOf}
use Rattle.disc.specs.Entries.{entry_words, index_sector, sys_entry, place_word, place_count, name_at}
use Rattle.disc.proofs.Compare.{same_or}
use Rattle.disc.proofs.NameLaws.{legal_begins}
use Rattle.disc.proofs.WordLaws.{words_none, words_cons, words_append, words_replicate}
use Rattle.disc.proofs.SliceLaws.{in_unit_mono, sum_law}
use Rattle.disc.proofs.Geometry.{in_range}
use Rattle.disc.proofs.EntryLaws.{sector_first}
use Rattle.words.specs.Store.{store, zero_words}
use Rattle.words.proofs.StoreLaws.{length_store, store_in, store_store, words_store, length-zero_words, get_d_zero_words, words-zero_words, word_sector_in}
use Rattle.map.specs.Marks.{all_marked, all_used}
use Rattle.map.proofs.CountLaws.{ones_free}
use Rattle.map.proofs.MarkLaws.{InMap, in_map, words_all_marked}
use Rattle.index.specs.Block.{whole_index}
use Rattle.index.proofs.BlockLaws.{length-whole_index, words-whole_index, holds_stored}
use Rattle.plain.specs.Table.{table_find}
use Rattle.plain.specs.Unit.{Plain, File, sys_of, M, held, free_sectors, file_entry, entry}
use Rattle.plain.specs.Good.{Good}
use Rattle.plain.proofs.AttributeLaws.{not_negative}
use Rattle.sound.specs.Places.{Unused}
use Rattle.refine.specs.Represents.{PlaceOf, CatalogOf, Layout}
use Rattle.refine.specs.OnDisc.{OnDisc}
use Rattle.refine.specs.Writes.{set_free, counted_free, store_place, zeroed_sectors, taken_image}
use Rattle.refine.proofs.Sectors.{Same, same_refl, same_trans, store_outside, sector_outside, ones_kept}
use Rattle.refine.proofs.CatalogLaws.{Named, name_in, name_zero}
use Rattle.refine.proofs.Ground.{Ground, ground, positive, top, sys_ground, part_file, file_data, first_in, part_sectors, length_small}
use Rattle.refine.proofs.Writers.{write_free, write_entry}

-- ---- the free word

pub counted_free_lem : (m s : ℕ) (held image : List ℕ) → m ≤ 4096 → MapOf image m held → Words image → counted_free image s ≡ set_free image (s * free_count m held)
unfolding counted_free
counted_free_lem m s held image few is w = ap (λ (x : ℕ). set_free image (s * x)) (ones_free m held image few is w)

-- the end of a message: its free word is counted
pub counted_on : {i : List ℕ} {p : Plain} {v : ℕ} → Good p → Words i → Layout i p v (held p) (entry p) → OnDisc (counted_free i p.s) p
counted_on {i} {p} g w r =
    let e : counted_free i p.s ≡ set_free i (free_sectors p) = counted_free_lem (M p) p.s (held p) i g.limits.slices_high r.map w in
    let some_words : p.s * free_count (M p) (held p) ≤ p.s * M p = mul-le-mul_left p.s (omega (arith, sum_law (M p) (held p) g.once)) in
    let small : free_sectors p < 65536 = omega (arith, top p (ground p g), g.limits.sectors) in
    record {
      good = g;
      words = rw e (words_store i (8 * 256 + 3) (free_sectors p ∷ []) w (words_cons (free_sectors p) [] small words_none));
      layout = rw e (write_free (ground p g) r (free_sectors p));
    }

-- where the image with its free word counted is one of words, the free word fits
pub counted_word : (image : List ℕ) (s : ℕ) → 2560 ≤ length image → Words (counted_free image s) → s * ones_in_map image < 65536
unfolding counted_free
counted_word image s far w =
    let v : ℕ = s * ones_in_map image in
    let e : get_or (store image 2051 (v ∷ [])) (2051 + 0) 0 ≡ v = store_in image 2051 (v ∷ []) 0 (omega arith) (omega arith) in
    omega (arith, w.each 2051)

pub counted_keep : (image : List ℕ) (s q : ℕ) → q ≢ kit_sector → Same image (counted_free image s) q
unfolding counted_free
counted_keep image s q d = (store_outside image (s * ones_in_map image ∷ []) kit_sector 3 (omega arith)).same q (d, tt)

-- a data sector may be stored before or after it
pub counted_store : (image words : List ℕ) (s q : ℕ) → 10 ≤ q → length words ≤ 256 → counted_free (store image (q * 256) words) s ≡ store (counted_free image s) (q * 256) words
unfolding counted_free
counted_store image words s q far short =
    ap (λ (n : ℕ). set_free (store image (q * 256) words) (s * n)) (ones_kept ((sector_outside image words q short).same map_sector (λ e. omega arith, tt)))
    ∙ sym (store_store image (kit_sector * 256 + 3) (s * ones_in_map image ∷ []) (q * 256) words (omega arith))

-- ---- zeroed sectors

module _ (image : List ℕ) (F s : ℕ) (slices : List ℕ) (b : ℕ) where
  pub zeroed_size : (n : ℕ) → length (zeroed_sectors image F s slices b n) ≡ length image
  unfolding zeroed_sectors
  zeroed_size zero = refl
  zeroed_size (suc n) = length_store (zeroed_sectors image F s slices b n) (sector_in F s slices (b + n) * 256) (zero_words 256) ∙ zeroed_size n

  -- the last of them
  zero_last : (n : ℕ) (q : ℕ) → q ≢ sector_in F s slices (b + n) → Same (zeroed_sectors image F s slices b n) (zeroed_sectors image F s slices b (suc n)) q
  unfolding zeroed_sectors
  zero_last n q d =
      (sector_outside (zeroed_sectors image F s slices b n) (zero_words 256) (sector_in F s slices (b + n)) (omega (arith, length-zero_words 256))).same q (d, tt)

  -- every other sector keeps its words
  pub zeroed_keep : (n q : ℕ) → ((x : ℕ) → b ≤ x → x < b + n → q ≢ sector_in F s slices x) → Same image (zeroed_sectors image F s slices b n) q
  unfolding zeroed_sectors
  zeroed_keep zero q off = same_refl image q
  zeroed_keep (suc n) q off =
      same_trans (zeroed_keep n q (λ x lo hi. off x lo (omega arith))) (zero_last n q (off (b + n) (omega arith) (omega arith)))

  pub zeroed_zero : (n : ℕ) → ((x : ℕ) → b ≤ x → x < b + n → sector_in F s slices x * 256 + 256 ≤ length image)
      → (x w : ℕ) → b ≤ x → x < b + n → w < 256 → word (zeroed_sectors image F s slices b n) (sector_in F s slices x) w ≡ 0
  unfolding zeroed_sectors
  zeroed_zero zero inside x w lo hi l = absurd (omega arith)
  zeroed_zero (suc n) inside x w lo hi l =
      let i : List ℕ = zeroed_sectors image F s slices b n in
      let q : ℕ = sector_in F s slices (b + n) in
      let len = length-zero_words 256 in
      same_or (sector_in F s slices x) q
      (λ e. ap (λ (r : ℕ). word (store i (q * 256) (zero_words 256)) r w) e
      ∙ word_sector_in i q (zero_words 256) (omega (arith, zeroed_size n, inside (b + n) (omega arith) (omega arith))) w (omega arith) ∙ get_d_zero_words 256 w)
      (λ d.
      let below : x < b + n = same_or x (b + n) (λ e. absurd (d (ap (sector_in F s slices) e))) (λ ne. omega arith) in
      (zero_last n (sector_in F s slices x) d).at w l ∙ zeroed_zero n (λ y a c. inside y a (omega arith)) x w lo below l)

  pub words_zeroed : (n : ℕ) → Words image → Words (zeroed_sectors image F s slices b n)
  unfolding zeroed_sectors
  words_zeroed zero w = w
  words_zeroed (suc n) w =
      words_store (zeroed_sectors image F s slices b n) (sector_in F s slices (b + n) * 256) (zero_words 256) (words_zeroed n w) (words-zero_words 256)

-- a sector of zero words
pub zero_holds : (i : List ℕ) (q : ℕ) → ((w : ℕ) → w < 256 → word i q w ≡ 0) → Holds i q (replicate 256 0)
zero_holds i q z = record { at = λ b h l. z b l ∙ sym (get_or-replicate 256 b 0 0 l) }

-- ---- slices taken: the map is marked, then the index block is written, if there are any

pub marked_none : (v : ℕ) (image : List ℕ) → all_marked v image [] ≡ image
unfolding all_marked
marked_none v image = refl

module _ (image : List ℕ) (q F s : ℕ) (slices : List ℕ) where
  pub taken_size : (new : List ℕ) → length (taken_image image q F s slices new) ≡ length (all_used image new)
  unfolding taken_image
  taken_size [] = ap length (sym (marked_none 0 image))
  taken_size (k ∷ new) = length_store (all_used image (k ∷ new)) (q * 256) (whole_index F s (slices ++ (k ∷ new)))

  -- the index block's sector alone changes beside the map
  pub taken_keep : (new : List ℕ) → stretch_count (slices ++ new) ≤ 127 → (r : ℕ) → (0 < length new → r ≢ q) → Same (all_used image new) (taken_image image q F s slices new) r
  unfolding taken_image
  taken_keep [] few r d = rw (marked_none 0 image) (same_refl image r)
  taken_keep (k ∷ new) few r d =
      (sector_outside (all_used image (k ∷ new)) (whole_index F s (slices ++ (k ∷ new))) q (omega (arith, length-whole_index F s (slices ++ (k ∷ new)) few))).same r (d (omega arith), tt)

  pub taken_holds : (new : List ℕ) → stretch_count (slices ++ new) ≤ 127 → q * 256 + 256 ≤ length (all_used image new) → 0 < length new
      → Holds (taken_image image q F s slices new) q (index_words F s (slices ++ new))
  unfolding taken_image
  taken_holds [] few inside has = absurd (omega arith)
  taken_holds (k ∷ new) few inside has = holds_stored (all_used image (k ∷ new)) q F s (slices ++ (k ∷ new)) few inside

  -- the index of the longer list, where that of the list stood
  pub taken_index : (new : List ℕ) → stretch_count (slices ++ new) ≤ 127 → q * 256 + 256 ≤ length (all_used image new) → Holds (all_used image new) q (index_words F s slices)
      → Holds (taken_image image q F s slices new) q (index_words F s (slices ++ new))
  unfolding taken_image
  taken_index [] few inside h = rw (append-nil slices) (rw (marked_none 0 image) at h)
  taken_index (k ∷ new) few inside h = holds_stored (all_used image (k ∷ new)) q F s (slices ++ (k ∷ new)) few inside

  -- no slices taken: nothing is written
  pub taken_none : taken_image image q F s slices [] ≡ image
  unfolding taken_image
  taken_none = refl

  pub words_taken : (new : List ℕ) → Words (all_used image new) → Words (whole_index F s (slices ++ new)) → Words (taken_image image q F s slices new)
  unfolding taken_image
  words_taken [] w x = rw (marked_none 0 image) at w
  words_taken (k ∷ new) w x = words_store (all_used image (k ∷ new)) (q * 256) (whole_index F s (slices ++ (k ∷ new))) w x

-- ---- words that a unit's numbers and lists make

module _ (p : Plain) (g : Ground p) where
  -- slices of the unit, each once
  abbrev pub Part : List ℕ → Type 0
  Part l = (k : ℕ) → occurrences k l ≤ occurrences k (held p)

  pub part_in_map : (l : List ℕ) → Part l → InMap l
  part_in_map l q = in_map l (λ k. omega (arith, q k, g.once k, in_unit_mono (M p) 4096 k g.limits.slices_high))

  pub words_index_part : (l : List ℕ) → Part l → Words (whole_index p.F p.s l)
  words_index_part l q =
      words-whole_index p.F p.s (M p) l (positive p g) (omega (arith, top p g, g.limits.sectors)) (omega (arith, part_sectors p g l q))
      (λ j x. (in_range p.F p.s (M p) (held p) (positive p g) g.once l j q x).1)

  pub words_marks : (v : ℕ) → v ≤ 1 → (l image : List ℕ) → Part l → 2560 ≤ length image → Words image → Words (all_marked v image l)
  words_marks v bit l image q far w = words_all_marked v bit l image (part_in_map l q) far w

-- ---- the words of an entry

legal_small : (n : ℕ) → T (legal_name n) → n < 0x1000000000000
legal_small n t = omega (arith, (legal_begins n t).1)

words_entry : (n : ℕ) (optional : List ℕ) (attributes size index reserved : ℕ) (tail : List ℕ) → n < 0x1000000000000 → Words optional → attributes < 65536 → size < 65536 → index < 65536
    → reserved < 65536 → Words tail → Words (entry_words n optional attributes size index reserved tail)
words_entry n optional attributes size index reserved tail hn wo ha hs hi hr wt =
    let rest : Words (attributes ∷ size ∷ index ∷ reserved ∷ tail) =
    words_cons attributes _ ha (words_cons size _ hs (words_cons index _ hi (words_cons reserved tail hr wt))) in
    words_cons (n / 0x100000000) _ (omega arith)
    (words_cons (n / 65536 % 65536) _ (omega arith) (words_cons (n % 65536) _ (omega arith) (words_append optional _ wo rest)))

module _ (p : Plain) (g : Good p) where
  gr : Ground p
  gr = ground p g

  index_small : (n : ℕ) (f : File) → table_find n p.files ≡ some f → (b : ℕ) → b ≤ length f.slices → index_sector p.F p.s b f.slices < 65536
  index_small n f h zero le = omega arith
  index_small n f h (suc b) le = go f.slices le (file_data p gr n f h 0 (first_in p gr f.slices (omega arith))).1
    where
      go : (l : List ℕ) → suc b ≤ length l → sector_in p.F p.s l 0 < p.N → index_sector p.F p.s (suc b) l < 65536
      go [] le q = absurd (omega arith)
      go (x ∷ l) le q = omega (arith, sector_first p.F p.s (x ∷ l) (omega arith), g.limits.sectors)

  pub words_file_entry : (n : ℕ) (f : File) → table_find n p.files ≡ some f → Words (file_entry p.F p.s n f)
  words_file_entry n f h =
      let fg = g.catalog.files n f h in
      words_entry n f.optional f.attributes f.booked (index_sector p.F p.s f.booked_slices f.slices) (p.s * f.booked_slices) f.tail
      (legal_small n fg.name) fg.optional.words (omega (arith, not_negative f.attributes fg.attributes)) (omega (arith, fg.booked_low, length_small p gr n f h))
      (index_small n f h f.booked_slices fg.booked_slices_low)
      (omega (arith, mul-le-mul_left p.s fg.booked_slices_low, part_sectors p gr f.slices (part_file p gr n f h))) fg.tail.words

  pub words_sys_entry : Words (sys_entry p.H p.s p.layers p.sys)
  words_sys_entry =
      let few = part_sectors p gr p.sys (sys_ground gr).part in
      words_entry SYS (replicate 3 0) 0x8010 (p.H * p.layers) 6 (p.s * length p.sys) (replicate 6 0)
      (omega arith) (words_replicate 3 0 (omega arith)) (omega arith) (omega (arith, gr.sys_cover)) (omega arith) (omega arith) (words_replicate 6 0 (omega arith))

-- ---- places

-- a place where a name stands is in a sector of its key
place_key : {P : ℕ → ℕ → ℕ} {N H : ℕ} {E : ℕ → Option (List ℕ)} → CatalogOf P N H E → (t n : ℕ) → t < N → name_at P t ≡ n → n ≢ 0 → t / 16 % H ≡ key_of H n
place_key {P} {N} {H} {E} c t n x e nz =
    ⊎_elim (λ (z : Unused P t). absurd (nz (sym e ∙ name_zero P t z))) (λ (u : PlaceOf P H E t). u.key ∙ ap (key_of H) e) (c.each t x)

-- another entry of a name in its own place
pub write_own : {i : List ℕ} {p : Plain} {v : ℕ} {h : List ℕ} {E : ℕ → Option (List ℕ)} → Ground p → Layout i p v h E → Named E → (D : ℕ → Option (List ℕ)) (n : ℕ) (e : List ℕ)
    → length e ≡ 16 → ((m : ℕ) → m ≢ n → D m ≡ E m) → D n ≡ some e → name_in e ≡ n → n ≢ 0
    → (t : ℕ) → t < place_count p.H p.layers → name_at (place_word i p.F p.s p.sys sys_from) t ≡ n
    → Layout (store_place p (sys_of p) i t e) p v h D
write_own g r nm D n e len other new named nz t x was =
    write_entry g r t x e len D n nm other new named nz (place_key r.sys.places t n x was nz)
    (λ u y q. r.sys.places.alone u t y x (q ∙ sym was) (λ z. nz (sym q ∙ z))) (λ d. absurd (d was))
