-- Change: slices are given back or taken, the blocks that join are zeroed, the entry is written, the free word is counted.
use mathlib.Core.Path.{◌≡◌, ◌∙◌}
use mathlib.Core.List.{List}
use mathlib.Core.Logic.{◌≢◌}
use mathlib.Core.Option.{none, some}
use Prim.Native.Nat.{ℕ, ◌*◌, ◌-◌, ◌<◌, ◌/◌, ◌%◌}
use native.Mathlib.Omega.{arith}
use lib.ListN.{length}
use Rattle.disc.specs.Words.{Words}
use Rattle.disc.specs.OneStretch.{taken_for_file}
use Rattle.disc.specs.Stretches.{sys_from}
use Rattle.disc.specs.Entries.{index_sector, place_word, place_count, name_at}
use Rattle.disc.proofs.OneStretchLaws.{length_for_file}
use Rattle.disc.proofs.EntryLaws.{length_entry}
use Rattle.words.proofs.StoreLaws.{words_store, words-zero_words}
use Rattle.plain.specs.Table.{table_find, table_put, table_remove, Table}
use Rattle.plain.specs.Unit.{Plain, File, M, held, free_sectors, entry, with_files, file_entry, sys_of}
use Rattle.plain.specs.Good.{Good}
use Rattle.plain.proofs.TableLaws.{find_put, find_put_other, find_remove, find_remove_other, sorted_remove}
use Rattle.plain.proofs.UnitLaws.{legal_positive, entry_beside, entry_of, vacant_name, no_area, entry_removed}
use Rattle.plain.proofs.TakingLaws.{places_same, chains_put}
use Rattle.plain.proofs.ChangeUnit.{Changes, changed_good}
use Rattle.refine.specs.Represents.{Layout}
use Rattle.refine.specs.OnDisc.{OnDisc}
use Rattle.refine.specs.Writes.{resized_image, changed_image, empty_place, renamed_image}
use Rattle.refine.proofs.CatalogLaws.{name_cong, name_zero, absent}
use Rattle.refine.proofs.Ground.{Ground, ground, entry_named}
use Rattle.preservation.proofs.WriteLaws.{counted_on, words_file_entry, write_own}
use Rattle.preservation.proofs.ResizeLaws.{Resizes, resizes_taken, entered, words_resized, write_resized, resized_places}
use lib.Dec.{T}
use Rattle.disc.specs.Names.{legal_name, key_of}
use Rattle.words.specs.Store.{zero_words}
use Rattle.plain.specs.Taking.{places_taken}
use Rattle.plain.proofs.CatalogLaws.{catalog_removed}
use Rattle.sound.specs.Places.{Unused}
use Rattle.refine.proofs.Writers.{write_zero, write_entry}

module _ {p : Plain} {f f' : File} {size count : ℕ} (c : Changes p f f' size count) where
  pub changes_resizes : Resizes f.slices f'.slices
  changes_resizes =
      resizes_taken f.slices f'.slices (taken_for_file (M p) (held p) f.slices (count - length f.slices)) count
      (length_for_file (M p) (held p) f.slices (count - length f.slices)) c.slices

  pub changes_entry : (n : ℕ) → length (file_entry p.F p.s n f') ≡ 16
  changes_entry n =
      length_entry n f'.optional f'.attributes f'.booked (index_sector p.F p.s f'.booked_slices f'.slices) (p.s * f'.booked_slices) f'.tail
      c.optional.count c.tail.count

-- ---- the slices and blocks, before the entries: file n of the unit p is another file, in the unit q

record Resized (i : List ℕ) (p q : Plain) (n : ℕ) (f f' : File) : Type 0 where
  ground : Ground q
  layout : Layout (resized_image p i f f') q (free_sectors p) (held q) (entry p)
  words : Words (resized_image p i f f')
  place : (t : ℕ) → t < place_count p.H p.layers → name_at (place_word i p.F p.s p.sys sys_from) t ≡ n → name_at (place_word (resized_image p i f f') p.F p.s p.sys sys_from) t ≡ n

resized_file : {i : List ℕ} {p : Plain} {f f' : File} {size count : ℕ} (o : OnDisc i p) (n m : ℕ) → table_find n p.files ≡ some f → Changes p f f' size count → table_find m (table_remove n p.files) ≡ none
    → Good (with_files p (table_put m f' (table_remove n p.files))) → Resized i p (with_files p (table_put m f' (table_remove n p.files))) n f f'
resized_file {i} {p} {f} {f'} {size} o n m found c vacant good' =
    let gr = ground p o.good in
    let gr' = ground (with_files p (table_put m f' (table_remove n p.files))) good' in
    let old = entered gr o.layout n found in
    record {
      ground = gr';
      layout = write_resized gr old m f' vacant gr' (changes_resizes c) c.few size c.sectors;
      words = words_resized gr old m f' vacant gr' (changes_resizes c) c.few o.words;
      place = λ t x was.
          name_cong (place_word i p.F p.s p.sys sys_from) (place_word (resized_image p i f f') p.F p.s p.sys sys_from) t
          (λ w y. resized_places gr old m f' vacant gr' (changes_resizes c) c.few t w x y) ∙ was;
    }

-- ---- with the name kept, the entry is written anew in its place

module _ {i : List ℕ} {p : Plain} {f f' : File} {size count : ℕ} (o : OnDisc i p) (n : ℕ) (found : table_find n p.files ≡ some f)
    (shut : table_find n p.areas ≡ none) (c : Changes p f f' size count)
    (t : ℕ) (in₀ : t < place_count p.H p.layers) (was : name_at (place_word i p.F p.s p.sys sys_from) t ≡ n) where
  abbrev kept : Plain
  kept = with_files p (table_put n f' (table_remove n p.files))

  pub change_good : Good kept
  change_good =
      let fg = o.good.catalog.files n f found in
      changed_good c o.good n n found shut shut fg.name fg.ordinary
      (λ k. omega (arith, places_same p.H k (sys_of p) n f f' p.files found, o.good.catalog.chains k))

  pub change_on : OnDisc (changed_image p (sys_of p) i t n f f') kept
  unfolding changed_image
  change_on =
      let here = find_put n f' (table_remove n p.files) in
      let re = resized_file o n n found c (find_remove n 0 p.files o.good.catalog.names) change_good in
      let ordinary = (o.good.catalog.files n f found).ordinary in
      let new_entry : entry kept n ≡ some (file_entry p.F p.s n f') = entry_of kept n f' ordinary here in
      let stay : (m : ℕ) → m ≢ n → entry kept m ≡ entry p m = λ m d.
      entry_beside p (table_put n f' (table_remove n p.files)) p.areas m
      (find_put_other m n f' (table_remove n p.files) d ∙ find_remove_other m n 0 p.files o.good.catalog.names d) in
      let nz : n ≢ 0 = λ e. (let q = legal_positive n (o.good.catalog.files n f found).name in omega arith) in
      let named = (entry_named kept change_good.catalog.names).name n (file_entry p.F p.s n f') new_entry in
      let r = write_own re.ground re.layout (entry_named p o.good.catalog.names) (entry kept) n (file_entry p.F p.s n f') (changes_entry c n) stay new_entry named nz t in₀ (re.place t in₀ was) in
      counted_on change_good (words_store (resized_image p i f f') _ (file_entry p.F p.s n f') re.words (words_file_entry kept change_good n f' here)) r

-- ---- with another name, the entry's place is emptied, and the entry under the new name stands in a place of the new key

module _ {i : List ℕ} {p : Plain} {f f' : File} {size count : ℕ} (o : OnDisc i p) (n m : ℕ) (found : table_find n p.files ≡ some f)
    (shut : table_find n p.areas ≡ none) (c : Changes p f f' size count) (other : m ≢ n) (legal : T (legal_name m)) (unused : entry p m ≡ none)
    (fits : places_taken p.H (key_of p.H m) (sys_of p) (table_remove n p.files) < 16 * p.layers)
    (t : ℕ) (in₀ : t < place_count p.H p.layers) (was : name_at (place_word i p.F p.s p.sys sys_from) t ≡ n) where
  abbrev others : Table File
  others = table_remove n p.files

  abbrev without : Plain
  without = with_files p others

  abbrev after : Plain
  after = with_files p (table_put m f' others)

  fresh : table_find m p.files ≡ none
  fresh = (vacant_name p m unused).0

  vacant : table_find m others ≡ none
  vacant = find_remove_other m n 0 p.files o.good.catalog.names other ∙ fresh

  pub rename_good : Good after
  rename_good =
      changed_good c o.good n m found shut (no_area p m o.good fresh) legal (vacant_name p m unused).1
      (chains_put p.H (sys_of p) p.layers m f' others (catalog_removed o.good.catalog n).chains fits)

  abbrev image : List ℕ
  image = resized_image p i f f'

  re : Resized i p after n f f'
  re = resized_file o n m found c vacant rename_good

  -- the entry's place emptied
  after_remove : (k : ℕ) → k ≢ n → entry without k ≡ entry p k
  after_remove k d = entry_beside p others p.areas k (find_remove_other k n 0 p.files o.good.catalog.names d)

  gone : entry without n ≡ none
  gone = entry_removed p n o.good.catalog.names (o.good.catalog.files n f found).ordinary

  pub rename_emptied : Layout (empty_place p (sys_of p) image t) after (free_sectors p) (held after) (entry without)
  rename_emptied =
      let nz : n ≢ 0 = λ e. (let q = legal_positive n (o.good.catalog.files n f found).name in omega arith) in
      write_zero re.ground re.layout t in₀ (entry without) n (entry_named p o.good.catalog.names) after_remove gone (re.place t in₀ was) nz

  -- the entry in a place that is unused then
  pub rename_on : (u : ℕ) → u < place_count p.H p.layers → u / 16 % p.H ≡ key_of p.H m
      → Unused (place_word (empty_place p (sys_of p) image t) p.F p.s p.sys sys_from) u → OnDisc (renamed_image p (sys_of p) i t u m f f') after
  unfolding renamed_image
  rename_on u in₁ key clear =
      let e : List ℕ = file_entry p.F p.s m f' in
      let new_entry : entry after m ≡ some e = entry_of after m f' (vacant_name p m unused).1 (find_put m f' others) in
      let stay : (k : ℕ) → k ≢ m → entry after k ≡ entry without k = λ k d.
      entry_beside without (table_put m f' others) p.areas k (find_put_other k m f' others d) in
      let nz : m ≢ 0 = λ z. (let q = legal_positive m legal in omega arith) in
      let named = (entry_named after rename_good.catalog.names).name m e new_entry in
      let r = write_entry re.ground rename_emptied u in₁ e (changes_entry c m) (entry after) m (entry_named without (sorted_remove 0 n p.files o.good.catalog.names)) stay new_entry named nz key
      (λ x y q. absurd (absent rename_emptied.sys.places m (after_remove m other ∙ unused) nz x y q))
      (λ _. name_zero (place_word (empty_place p (sys_of p) image t) p.F p.s p.sys sys_from) u clear) in
      let w₂ : Words (empty_place p (sys_of p) image t) = words_store image _ (zero_words 16) re.words (words-zero_words 16) in
      counted_on rename_good (words_store (empty_place p (sys_of p) image t) _ e w₂ (words_file_entry after rename_good m f' (find_put m f' others))) r
