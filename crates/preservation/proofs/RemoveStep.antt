-- Remove: the place of the name is emptied, its slices are marked free, the free word is counted.
use mathlib.Core.Path.{◌≡◌}
use mathlib.Core.List.{List}
use mathlib.Core.Logic.{◌≢◌}
use mathlib.Core.Option.{none, some}
use Prim.Native.Nat.{ℕ, ◌<◌}
use native.Mathlib.Omega.{arith}
use Rattle.disc.specs.Words.{Words}
use Rattle.disc.specs.Stretches.{sys_from}
use Rattle.disc.specs.Entries.{place_word, place_count, name_at}
use Rattle.words.specs.Store.{zero_words}
use Rattle.words.proofs.StoreLaws.{words_store, words-zero_words}
use Rattle.map.specs.Marks.{all_free}
use Rattle.plain.specs.Table.{table_find, table_remove}
use Rattle.plain.specs.Unit.{Plain, File, sys_of, held, free_sectors, entry, with_files}
use Rattle.plain.specs.Good.{Good}
use Rattle.plain.proofs.TableLaws.{find_remove_other}
use Rattle.plain.proofs.UnitLaws.{legal_positive, entry_removed, entry_beside}
use Rattle.plain.proofs.KeepsCatalog.{removed_good}
use Rattle.refine.specs.Represents.{Layout}
use Rattle.refine.specs.OnDisc.{OnDisc}
use Rattle.refine.specs.Writes.{empty_place, removed_image}
use Rattle.refine.proofs.Ground.{Ground, ground, entry_named, part_file}
use Rattle.refine.proofs.Writers.{long, write_zero, write_freed, forget_file}
use Rattle.preservation.proofs.WriteLaws.{counted_on, words_marks}
use Rattle.preservation.proofs.ResizeLaws.{entered}

module _ {i : List ℕ} {p : Plain} (o : OnDisc i p) (n : ℕ) (f : File) (found : table_find n p.files ≡ some f) (shut : table_find n p.areas ≡ none)
    (t : ℕ) (in₀ : t < place_count p.H p.layers) (was : name_at (place_word i p.F p.s p.sys sys_from) t ≡ n) where
  abbrev left : Plain
  left = with_files p (table_remove n p.files)

  gr : Ground p
  gr = ground p o.good

  good : Good left
  good = removed_good p n o.good shut

  stay : (m : ℕ) → m ≢ n → entry left m ≡ entry p m
  stay m d = entry_beside p (table_remove n p.files) p.areas m (find_remove_other m n 0 p.files o.good.catalog.names d)

  gone : entry left n ≡ none
  gone = entry_removed p n o.good.catalog.names (o.good.catalog.files n f found).ordinary

  -- the place emptied, and the slices given back
  emptied : Layout (empty_place p (sys_of p) i t) p (free_sectors p) (held p) (entry left)
  emptied =
      let nz : n ≢ 0 = λ e. (let q = legal_positive n (o.good.catalog.files n f found).name in omega arith) in
      write_zero gr o.layout t in₀ (entry left) n (entry_named p o.good.catalog.names) stay gone was nz

  pub freed_layout : Layout (all_free (empty_place p (sys_of p) i t) f.slices) p (free_sectors p) (held left) (entry left)
  freed_layout = write_freed gr emptied f.slices (held left) o.good.once (entered gr o.layout n found).slices

  pub freed_words : Words (all_free (empty_place p (sys_of p) i t) f.slices)
  freed_words =
      let w : Words (empty_place p (sys_of p) i t) = words_store i _ (zero_words 16) o.words (words-zero_words 16) in
      words_marks p gr 1 (omega arith) f.slices (empty_place p (sys_of p) i t) (part_file p gr n f found) (long gr emptied) w

  pub remove_on : OnDisc (removed_image p (sys_of p) i t f) (with_files p (table_remove n p.files))
  unfolding removed_image
  remove_on = counted_on good freed_words (forget_file gr freed_layout n)
