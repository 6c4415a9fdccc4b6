-- A file's slices and blocks cut or lengthened: what `cut_image` and `resized_image` write, what they leave, and that words stay words.
use mathlib.Core.Path.{◌≡◌, refl, sym, ap, ◌∙◌, subst}
use mathlib.Core.List.{List, [], ◌∷◌, ◌++◌, append-nil}
use mathlib.Core.Logic.{◌≢◌}
use mathlib.Core.Option.{Option, none, some}
use Prim.Native.Nat.{ℕ, zero, suc, ◌+◌, ◌*◌, ◌-◌, ◌/◌, ◌%◌, ◌≤◌, ◌<◌}
use native.Mathlib.Omega.{arith}
use lib.ListN.{length, get_or, take, drop, replicate, length-append, length-take, length-drop, take-append-drop, drop_of_length-le, get_or-replicate, get_or-append}
use lib.Seq.{get_or-take, get_or-append-add, take_all, take_at, length-take-le}
use borrow.Author.Tests.{le-leb, lt-leb}
use Rattle.disc.specs.Numbers.{slice_start}
use Rattle.disc.specs.Words.{Words, Holds}
use Rattle.disc.specs.Slices.{occurrences}
use Rattle.disc.specs.Stretches.{sector_in, index_words, stretch_count, sys_from, file_from}
use Rattle.disc.specs.Kit.{map_sector}
use Rattle.disc.specs.Entries.{place_word, place_count}
use Rattle.disc.proofs.Compare.{same_or, below_or}
use Rattle.disc.proofs.SliceLaws.{occurrences_append}
use Rattle.disc.proofs.EntryLaws.{no_slices}
use Rattle.words.specs.Store.{store}
use Rattle.words.proofs.StoreLaws.{length_store, words_store}
use Rattle.map.specs.Marks.{all_used, all_free}
use Rattle.map.proofs.MarkLaws.{length_all_marked}
use Rattle.index.specs.Block.{whole_index}
use Rattle.index.proofs.BlockLaws.{length-whole_index, holds_stored}
use Rattle.plain.specs.Table.{Table, table_find, table_put, table_remove}
use Rattle.plain.specs.Unit.{Plain, File, held, with_files}
use Rattle.plain.specs.Taking.{zero_sectors}
use Rattle.plain.specs.Catalog.{resized}
use Rattle.plain.proofs.TableLaws.{weight_at, find_put, sorted_remove, total_put, total_remove, remove_some}
use Rattle.plain.proofs.UnitLaws.{holds, occurrences_held}
use Rattle.plain.proofs.WordLaws.{length_resized}
use Rattle.refine.specs.Represents.{FileOnImage, Layout}
use Rattle.refine.specs.Writes.{zeroed_sectors, taken_image, cut_block, cut_image, resized_image}
use Rattle.refine.proofs.Sectors.{Same, same_refl, same_trans, holds_kept, sector_outside, marked_outside-map}
use Rattle.refine.proofs.Ground.{Ground, part_file, first_in, block_in, catalog_data, sys_ground, file_data, catalog_file, in_file}
use Rattle.refine.proofs.Writers.{place_same, long, write_freed, write_used, forget_file, write_file}
use Rattle.preservation.proofs.WriteLaws.{part_in_map, words_index_part, words_marks, zeroed_size, zeroed_keep, zeroed_zero, words_zeroed, marked_none, taken_none, zero_holds}

-- ---- one slice list begins with the other: slices are given back from the end, or taken at the end, or neither

pub record Resizes (l l' : List ℕ) : Type 0 where
  pub common : take (length l') l ≡ take (length l) l'

-- the first ones kept, and as many taken as are wanted beyond those there are
pub resizes_taken : (l l' new : List ℕ) (count : ℕ) → length new ≡ count - length l → l' ≡ take count l ++ new → Resizes l l'
resizes_taken l l' new count len e = below_or (length l) count
    (λ (x : length l < count).
    let whole : l' ≡ l ++ new = e ∙ ap (λ (k : List ℕ). k ++ new) (take_all count l (omega arith)) in
    let size : length l ≤ length l' = omega (arith, ap length whole, length-append l new) in
    record { common = take_all (length l') l size ∙ sym (take_at l new (length l) refl) ∙ ap (take (length l)) (sym whole) })
    (λ (x : count ≤ length l).
    let none_new : new ≡ [] = no_slices new (omega arith) in
    let part : l' ≡ take count l = e ∙ ap (λ (k : List ℕ). take count l ++ k) none_new ∙ append-nil (take count l) in
    let size : length l' ≡ count = ap length part ∙ length-take-le count l x in
    record { common = ap (λ (k : ℕ). take k l) size ∙ sym part ∙ sym (take_all (length l) l' (omega arith)) })

module _ {l l' : List ℕ} (r : Resizes l l') where
  -- given back or kept
  pub kept_first : length l' ≤ length l → l' ≡ take (length l') l
  kept_first h = sym (take_all (length l) l' h) ∙ sym r.common

  -- taken
  pub taken_last : length l ≤ length l' → l ++ drop (length l) l' ≡ l'
  taken_last h =
      ap (λ (k : List ℕ). k ++ drop (length l) l') (sym (take_all (length l') l h) ∙ r.common) ∙ take-append-drop (length l) l'

  -- the slices of both lists
  pub agree : (j : ℕ) → j < length l → j < length l' → get_or l' j 0 ≡ get_or l j 0
  agree j a b =
      sym (get_or-take (length l) l' j 0 a) ∙ ap (λ (k : List ℕ). get_or k j 0) (sym r.common) ∙ get_or-take (length l') l j 0 b

  pub same_sector : (F s b : ℕ) → b / s < length l → b / s < length l' → sector_in F s l' b ≡ sector_in F s l b
  same_sector F s b x y = ap (λ (k : ℕ). slice_start F s k + b % s) (agree (b / s) x y)

  -- how often a slice stands in the first part and in what is given back; in the first part and in what is taken
  pub occurrences_old : (k : ℕ) → occurrences k (take (length l') l) + occurrences k (drop (length l') l) ≡ occurrences k l
  occurrences_old k = sym (occurrences_append k (take (length l') l) (drop (length l') l)) ∙ ap (occurrences k) (take-append-drop (length l') l)

  pub occurrences_new : (k : ℕ) → occurrences k (take (length l') l) + occurrences k (drop (length l) l') ≡ occurrences k l'
  occurrences_new k =
      sym (occurrences_append k (take (length l') l) (drop (length l) l'))
      ∙ ap (λ (x : List ℕ). occurrences k (x ++ drop (length l) l')) r.common ∙ ap (occurrences k) (take-append-drop (length l) l')

-- ---- slices given back: the map is marked, then the index block is written, if some are kept and some given back

module _ (image : List ℕ) (q F s : ℕ) (slices : List ℕ) where
  -- none given back: nothing is written
  pub cut_none : (keep : ℕ) → length slices ≤ keep → cut_image image q F s slices keep ≡ image
  unfolding cut_image
  cut_none keep h = rw (le-leb (length slices) keep h) refl

  -- none kept: the map alone
  pub cut_all : (keep : ℕ) → keep ≡ 0 → keep < length slices → cut_image image q F s slices keep ≡ all_free image (drop keep slices)
  unfolding cut_image cut_block
  cut_all zero z h = rw (lt-leb (length slices) 0 h) refl
  cut_all (suc keep) z h = absurd (omega arith)

  pub cut_some : (keep : ℕ) → 0 < keep → keep < length slices
      → cut_image image q F s slices keep ≡ store (all_free image (drop keep slices)) (q * 256) (whole_index F s (take keep slices))
  unfolding cut_image cut_block
  cut_some zero z h = absurd (omega arith)
  cut_some (suc keep) z h = rw (lt-leb (length slices) (suc keep) h) refl

-- ---- given back or taken: at most one of the two writes

pub taken_some : (image : List ℕ) (q F s : ℕ) (slices new : List ℕ) → 0 < length new
    → taken_image image q F s slices new ≡ store (all_used image new) (q * 256) (whole_index F s (slices ++ new))
unfolding taken_image
taken_some image q F s slices [] h = absurd (omega arith)
taken_some image q F s slices (k ∷ new) h = refl

-- the marks
abbrev pub remarked : List ℕ → List ℕ → List ℕ → List ℕ
remarked image l l' = all_used (all_free image (drop (length l') l)) (drop (length l) l')

-- the marks and the index block in sector q
abbrev pub resliced : List ℕ → ℕ → ℕ → ℕ → List ℕ → List ℕ → List ℕ
resliced image q F s l l' = taken_image (cut_image image q F s l (length l')) q F s l (drop (length l) l')

module _ (image : List ℕ) (q F s : ℕ) {l l' : List ℕ} (r : Resizes l l') where
  pub resliced_cases : (P : List ℕ → Type 0) → (l' ≡ l → P (remarked image l l')) → (length l' ≡ 0 → P (remarked image l l'))
      → (0 < length l' → P (store (remarked image l l') (q * 256) (whole_index F s l'))) → P (resliced image q F s l l')
  resliced_cases P same none_left written = below_or (length l) (length l') grown
      (λ x. below_or (length l') (length l) shorter (λ y. equal (omega arith)))
    where
      -- none is given back
      uncut : length l ≤ length l' → remarked image l l' ≡ all_used image (drop (length l) l')
      uncut x = ap (λ (k : List ℕ). all_used (all_free image k) (drop (length l) l')) (drop_of_length-le l x) ∙ ap (λ (k : List ℕ). all_used k (drop (length l) l')) (marked_none 1 image)

      -- none is taken
      untaken : length l' ≤ length l → remarked image l l' ≡ all_free image (drop (length l') l)
      untaken x = ap (all_used (all_free image (drop (length l') l))) (drop_of_length-le l' x) ∙ marked_none 0 (all_free image (drop (length l') l))

      cut_only : length l' ≤ length l → resliced image q F s l l' ≡ cut_image image q F s l (length l')
      cut_only x =
          ap (taken_image (cut_image image q F s l (length l')) q F s l) (drop_of_length-le l' x) ∙ taken_none (cut_image image q F s l (length l')) q F s l

      grown : length l < length l' → P (resliced image q F s l l')
      grown x =
          let e : resliced image q F s l l' ≡ store (remarked image l l') (q * 256) (whole_index F s l') =
          ap (λ (i : List ℕ). taken_image i q F s l (drop (length l) l')) (cut_none image q F s l (length l') (omega arith))
          ∙ taken_some image q F s l (drop (length l) l') (omega (arith, length-drop (length l) l'))
          ∙ ap (λ (k : List ℕ). store (all_used image (drop (length l) l')) (q * 256) (whole_index F s k)) (taken_last r (omega arith))
          ∙ ap (λ (i : List ℕ). store i (q * 256) (whole_index F s l')) (sym (uncut (omega arith))) in
          rw e (written (omega arith))

      shorter : length l' < length l → P (resliced image q F s l l')
      shorter x = same_or (length l') 0
          (λ z.
          let e : resliced image q F s l l' ≡ remarked image l l' =
          cut_only (omega arith) ∙ cut_all image q F s l (length l') z x ∙ sym (untaken (omega arith)) in
          rw e (none_left z))
          (λ d.
          let e : resliced image q F s l l' ≡ store (remarked image l l') (q * 256) (whole_index F s l') =
          cut_only (omega arith) ∙ cut_some image q F s l (length l') (omega arith) x
          ∙ ap (λ (k : List ℕ). store (all_free image (drop (length l') l)) (q * 256) (whole_index F s k)) (sym (kept_first r (omega arith)))
          ∙ ap (λ (i : List ℕ). store i (q * 256) (whole_index F s l')) (sym (untaken (omega arith))) in
          rw e (written (omega arith)))

      equal : length l ≡ length l' → P (resliced image q F s l l')
      equal x =
          let e : resliced image q F s l l' ≡ remarked image l l' =
          cut_only (omega arith) ∙ cut_none image q F s l (length l') (omega arith)
          ∙ sym (ap (all_used image) (drop_of_length-le l' {i = length l} (omega arith)) ∙ marked_none 0 image) ∙ sym (uncut (omega arith)) in
          rw e (same (kept_first r (omega arith) ∙ take_all (length l') l (omega arith)))

  pub remarked_size : length (remarked image l l') ≡ length image
  remarked_size = length_all_marked 0 (drop (length l) l') (all_free image (drop (length l') l)) ∙ length_all_marked 1 (drop (length l') l) image

  pub resliced_size : length (resliced image q F s l l') ≡ length image
  resliced_size =
      resliced_cases (λ i. length i ≡ length image) (λ _. remarked_size) (λ _. remarked_size)
      (λ _. length_store (remarked image l l') (q * 256) (whole_index F s l') ∙ remarked_size)

  -- the index block's sector alone changes beside the map
  pub resliced_keep : stretch_count l' ≤ 127 → (x : ℕ) → (0 < length l' → x ≢ q) → Same (remarked image l l') (resliced image q F s l l') x
  resliced_keep few x d =
      let i : List ℕ = remarked image l l' in
      resliced_cases (λ j. Same i j x) (λ _. same_refl i x) (λ _. same_refl i x)
      (λ h. (sector_outside i (whole_index F s l') q (omega (arith, length-whole_index F s l' few))).same x (d h, tt))

  -- the index of the new list, where that of the old one stood
  pub resliced_index : stretch_count l' ≤ 127 → 0 < length l' → q * 256 + 256 ≤ length image → (0 < length l → Holds (remarked image l l') q (index_words F s l))
      → Holds (resliced image q F s l l') q (index_words F s l')
  resliced_index few has inside old =
      resliced_cases (λ i. Holds i q (index_words F s l'))
      (λ e. subst (λ (k : List ℕ). Holds (remarked image l l') q (index_words F s k)) (sym e) (old (omega (arith, ap length e))))
      (λ z. absurd (omega arith))
      (λ _. holds_stored (remarked image l l') q F s l' few (omega (arith, remarked_size)))

  pub words_resliced : Words (remarked image l l') → Words (whole_index F s l') → Words (resliced image q F s l l')
  words_resliced w x = resliced_cases Words (λ _. w) (λ _. w) (λ _. words_store (remarked image l l') (q * 256) (whole_index F s l') w x)

-- ---- the sectors of a resized file

pub resized_old : (n b : ℕ) (l : List (List ℕ)) → b < n → b < length l → get_or (resized n l) b [] ≡ get_or l b []
resized_old n b l x y =
    get_or-append (take n l) (zero_sectors (n - length l)) [] b (omega (arith, length-take n l)) ∙ get_or-take n l b [] x

pub resized_joined : (n b : ℕ) (l : List (List ℕ)) → b < n → length l ≤ b → get_or (resized n l) b [] ≡ replicate 256 0
resized_joined n b l x y =
    let e : b ≡ length l + (b - length l) = omega arith in
    ap (λ (q : List (List ℕ)). get_or (q ++ zero_sectors (n - length l)) b []) (take_all n l (omega arith))
    ∙ ap (λ (q : ℕ). get_or (l ++ zero_sectors (n - length l)) q []) e
    ∙ get_or-append-add l (zero_sectors (n - length l)) (b - length l) []
    ∙ get_or-replicate (n - length l) (b - length l) (replicate 256 0) [] (omega arith)

-- ---- the file that is resized: one of the unit, or, for a new file, one with no slices and no sectors

-- File f on the image, beside the files that stay.
pub record Beside (i : List ℕ) (p : Plain) (v : ℕ) (E : ℕ → Option (List ℕ)) (others : Table File) (f : File) : Type 0 where
  pub ground : Ground (with_files p others)
  pub layout : Layout i (with_files p others) v (held p) E
  pub slices : (k : ℕ) → occurrences k (held (with_files p others)) + occurrences k f.slices ≡ occurrences k (held p)
  pub file : FileOnImage i p.F p.s f
  pub inside : (b : ℕ) → b < length f.sectors → (b + 1) / p.s < length f.slices

abbrev pub no_file : File
no_file = record { attributes = 0; optional = []; tail = []; booked = 0; booked_slices = 0; slices = []; sectors = [] }

module _ {i : List ℕ} {p : Plain} {v : ℕ} {E : ℕ → Option (List ℕ)} (g : Ground p) (r : Layout i p v (held p) E) where
  pub entered : (n : ℕ) {f : File} → table_find n p.files ≡ some f → Beside i p v E (table_remove n p.files) f
  entered n {f} found = record {
    ground = record {
      limits = g.limits;
      once = λ k. omega (arith, g.once k, slices k);
      names = sorted_remove 0 n p.files g.names;
      sys_cover = g.sys_cover;
      cover = λ k a h. g.cover k a (remove_some k n 0 p.files a g.names h).1;
    };
    layout = forget_file g r n;
    slices = slices;
    file = r.files n f found;
    inside = block_in p g n f found;
  }
    where
      slices : (k : ℕ) → occurrences k (held (with_files p (table_remove n p.files))) + occurrences k f.slices ≡ occurrences k (held p)
      slices k =
          omega (
            arith,
            occurrences_held k p.sys p.files,
            occurrences_held k p.sys (table_remove n p.files),
            total_remove (holds k) n p.files,
            ap (weight_at (holds k) n) found,
          )

  pub unentered : Beside i p v E p.files no_file
  unentered = record {
    ground = g;
    layout = r;
    slices = λ k. omega arith;
    file = record { index = λ x. absurd (omega arith); blocks = λ b x. absurd (omega arith) };
    inside = λ b x. absurd (omega arith);
  }

-- ---- resized_image: the file f becomes f' of name m, the other files stay

module _ {i : List ℕ} {p : Plain} {v : ℕ} {E : ℕ → Option (List ℕ)} {others : Table File} {f : File} (g : Ground p) (old : Beside i p v E others f) (m : ℕ) (f' : File)
    (vacant : table_find m others ≡ none) (g' : Ground (with_files p (table_put m f' others))) (re : Resizes f.slices f'.slices) (few : stretch_count f'.slices ≤ 127) where
  abbrev l : List ℕ
  l = f.slices

  abbrev l' : List ℕ
  l' = f'.slices

  abbrev without : Plain
  without = with_files p others

  abbrev after : Plain
  after = with_files p (table_put m f' others)

  here : table_find m after.files ≡ some f'
  here = find_put m f' others

  occurrences_after : (k : ℕ) → occurrences k (held after) ≡ occurrences k l' + occurrences k (held without)
  occurrences_after k =
      omega (
        arith,
        occurrences_held k p.sys others,
        occurrences_held k p.sys (table_put m f' others),
        total_put (holds k) m f' others,
        ap (weight_at (holds k) m) vacant,
      )

  -- what is held between giving back and taking
  abbrev between : List ℕ
  between = take (length l') l ++ held without

  part_given : (k : ℕ) → occurrences k (drop (length l') l) ≤ occurrences k (held p)
  part_given k = omega (arith, occurrences_old re k, old.slices k)

  part_taken : (k : ℕ) → occurrences k (drop (length l) l') ≤ occurrences k (held after)
  part_taken k = omega (arith, occurrences_new re k, occurrences_after k)

  marked_layout : Layout (remarked i l l') without v (held after) E
  marked_layout =
      let r₁ = write_freed old.ground old.layout (drop (length l') l) between g.once
      (λ k. omega (arith, occurrences_append k (take (length l') l) (held without), occurrences_old re k, old.slices k)) in
      write_used old.ground r₁ (drop (length l) l') (held after) g'.once
      (λ k. omega (arith, occurrences_append k (take (length l') l) (held without), occurrences_new re k, occurrences_after k))

  far : 2560 ≤ length i
  far = long old.ground old.layout

  -- beside the map the marks leave every sector
  marked_keep : (x : ℕ) → x ≢ map_sector → Same i (remarked i l l') x
  marked_keep x d =
      let size = length_all_marked 1 (drop (length l') l) i in
      same_trans ((marked_outside-map 1 i (drop (length l') l) (omega arith) (part_in_map p g (drop (length l') l) part_given) far).same x (d, tt))
      ((marked_outside-map 0 (all_free i (drop (length l') l)) (drop (length l) l') (omega arith) (part_in_map after g' (drop (length l) l') part_taken) (omega (arith, far))).same x (d, tt))

  abbrev q : ℕ
  q = sector_in p.F p.s l' 0

  abbrev from : ℕ
  from = length f.sectors + file_from

  abbrev more : ℕ
  more = length f'.sectors - length f.sectors

  abbrev longer : List ℕ
  longer = resliced i q p.F p.s l l'

  zero_in : 0 < length l' → 0 / p.s < length l'
  zero_in x = first_in after g' l' x

  joined_in : (x : ℕ) → from ≤ x → x < from + more → x / p.s < length l'
  joined_in x lo hi = let z : x - 1 + 1 ≡ x = omega arith in rw z at (block_in after g' m f' here (x - 1) (omega arith))

  pub resized_size : length (resized_image p i f f') ≡ length i
  unfolding resized_image
  resized_size = zeroed_size longer p.F p.s l' from more ∙ resliced_size i q p.F p.s re

  pub words_resized : Words i → Words (resized_image p i f f')
  unfolding resized_image
  words_resized w =
      let size = length_all_marked 1 (drop (length l') l) i in
      let w₁ = words_marks p g 1 (omega arith) (drop (length l') l) i part_given far w in
      let w₂ = words_marks after g' 0 (omega arith) (drop (length l) l') (all_free i (drop (length l') l)) part_taken (omega (arith, far)) w₁ in
      words_zeroed longer p.F p.s l' from more
      (words_resliced i q p.F p.s re w₂ (words_index_part after g' l' (part_file after g' m f' here)))

  -- beside the marks, the index block and the blocks that join change
  written_keep : (x : ℕ) → (0 < length l' → x ≢ q) → ((b : ℕ) → from ≤ b → b < from + more → x ≢ sector_in p.F p.s l' b)
      → Same (remarked i l l') (resized_image p i f f') x
  unfolding resized_image
  written_keep x d off = same_trans (resliced_keep i q p.F p.s re few x d) (zeroed_keep longer p.F p.s l' from more x off)

  -- the frame: the map, the index block and the blocks that join are written, every other sector keeps its words
  pub resized_keep : (x : ℕ) → x ≢ map_sector → (0 < length l' → x ≢ q) → ((b : ℕ) → from ≤ b → b < from + more → x ≢ sector_in p.F p.s l' b)
      → Same i (resized_image p i f f') x
  resized_keep x d e off = same_trans (marked_keep x d) (written_keep x e off)

  pub resized_index : 0 < length l' → Holds (resized_image p i f f') q (index_words p.F p.s l')
  unfolding resized_image
  resized_index has =
      let here₀ = file_data after g' m f' here 0 (zero_in has) in
      holds_kept
      (resliced_index i q p.F p.s re few has (omega (arith, here₀.1, old.layout.size))
      (λ x. holds_kept
      (rw (same_sector re p.F p.s 0 (first_in p g l x) (zero_in has)) (old.file.index x)) (marked_keep q (omega (arith, here₀.0)))))
      (zeroed_keep longer p.F p.s l' from more q
      (λ b lo hi e. let z : 0 ≡ b = in_file after g' m f' here 0 b (zero_in has) (joined_in b lo hi) e in omega arith))

  -- the blocks below the old and the new length
  pub resized_kept : (b : ℕ) → b < length f.sectors → b < length f'.sectors → Holds (resized_image p i f f') (sector_in p.F p.s l' (b + 1)) (get_or f.sectors b [])
  resized_kept b x y =
      let inside = block_in after g' m f' here b y in
      let d = file_data after g' m f' here (b + 1) inside in
      holds_kept
      (rw (same_sector re p.F p.s (b + 1) (old.inside b x) inside) (old.file.blocks b x))
      (resized_keep (sector_in p.F p.s l' (b + 1)) (omega (arith, d.0))
      (λ has e. let z : b + 1 ≡ 0 = in_file after g' m f' here (b + 1) 0 inside (zero_in has) e in omega arith)
      (λ c lo hi e. let z : b + 1 ≡ c = in_file after g' m f' here (b + 1) c inside (joined_in c lo hi) e in omega arith))

  -- the blocks that join
  pub resized_zero : (b : ℕ) → length f.sectors ≤ b → b < length f'.sectors → Holds (resized_image p i f f') (sector_in p.F p.s l' (b + 1)) (replicate 256 0)
  unfolding resized_image
  resized_zero b x y =
      zero_holds (zeroed_sectors longer p.F p.s l' from more) (sector_in p.F p.s l' (b + 1)) (λ w h.
      zeroed_zero longer p.F p.s l' from more
      (λ c lo hi. let d = file_data after g' m f' here c (joined_in c lo hi) in omega (arith, d.1, old.layout.size, resliced_size i q p.F p.s re))
      (b + 1) w (omega arith) (omega arith) h)

  pub write_resized : (size : ℕ) → f'.sectors ≡ resized size f.sectors → Layout (resized_image p i f f') after v (held after) E
  write_resized size e =
      let len : length f'.sectors ≡ size = ap length e ∙ length_resized size f.sectors in
      let at : (b : ℕ) → get_or f'.sectors b [] ≡ get_or (resized size f.sectors) b [] = λ b. ap (λ (k : List (List ℕ)). get_or k b []) e in
      write_file old.ground marked_layout m f' g' (resized_image p i f f') (resized_size ∙ sym (remarked_size i q p.F p.s re))
      (λ x off. written_keep x (λ h. off 0 (zero_in h)) (λ b lo hi. off b (joined_in b lo hi)))
      (record {
        index = resized_index;
        blocks = λ b x. below_or b (length f.sectors)
            (λ y. rw (at b ∙ resized_old size b f.sectors (omega arith) y) (resized_kept b y x))
            (λ y. rw (at b ∙ resized_joined size b f.sectors (omega arith) y) (resized_zero b y x));
      })

  -- the places of SYS keep their words
  pub resized_places : (t w : ℕ) → t < place_count p.H p.layers → w < 16
      → place_word (resized_image p i f f') p.F p.s p.sys sys_from t w ≡ place_word i p.F p.s p.sys sys_from t w
  resized_places =
      place_same (sys_ground g) i (resized_image p i f f') (λ x y.
      let d = catalog_data (sys_ground g) x y in
      resized_keep (sector_in p.F p.s p.sys x) (omega (arith, d.0)) (λ has e. catalog_file (sys_ground g') m f' here 0 x (zero_in has) y (sym e))
      (λ b lo hi e. catalog_file (sys_ground g') m f' here b x (joined_in b lo hi) y (sym e)))
