-- Create and Set: the new file's slices are marked used, its index is written, its blocks are zeroed, its entry is written in an
-- unused place and the free word counted.
use mathlib.Core.Path.{◌≡◌, refl, ◌∙◌}
use mathlib.Core.List.{List, []}
use mathlib.Core.Logic.{◌≢◌}
use mathlib.Core.Option.{none, some}
use Prim.Native.Nat.{ℕ, zero, ◌-◌, ◌/◌, ◌%◌, ◌<◌}
use native.Mathlib.Omega.{arith}
use native.Mathlib.Nat.{sub-zero}
use lib.ListN.{length}
use lib.Seq.{take_all}
use Rattle.disc.specs.Names.{key_of}
use Rattle.disc.specs.Stretches.{sector_in, sys_from, file_from}
use Rattle.disc.specs.Entries.{place_word, place_count}
use Rattle.words.proofs.StoreLaws.{words_store}
use Rattle.plain.specs.Table.{table_find, table_put}
use Rattle.plain.specs.Unit.{Plain, File, sys_of, held, free_sectors, file_entry, entry, with_files}
use Rattle.plain.specs.Good.{Good}
use Rattle.plain.proofs.TableLaws.{find_put, find_put_other}
use Rattle.plain.proofs.UnitLaws.{legal_positive, vacant_name, entry_beside, entry_of}
use Rattle.plain.proofs.CreateUnit.{NewFile, ordinary, created_good}
use Rattle.sound.specs.Places.{Unused}
use Rattle.refine.specs.Represents.{Layout}
use Rattle.refine.specs.OnDisc.{OnDisc}
use Rattle.refine.specs.Writes.{store_place, zeroed_sectors, taken_image, created_image, resized_image}
use Rattle.refine.proofs.CatalogLaws.{absent, name_zero}
use Rattle.refine.proofs.Ground.{Ground, ground, entry_named, entry_length}
use Rattle.refine.proofs.Writers.{write_entry}
use Rattle.refine.proofs.PlaceCount.{sys_entries, unused_room}
use Rattle.preservation.proofs.ResizeLaws.{Resizes, Beside, no_file, unentered, cut_none, words_resized, write_resized, resized_places}
use Rattle.preservation.proofs.WriteLaws.{counted_on, words_file_entry}

module _ {i : List ℕ} {p : Plain} (o : OnDisc i p) {n : ℕ} {f : File} (new : NewFile p n f) (t : ℕ) (in₀ : t < place_count p.H p.layers)
    (clear : Unused (place_word i p.F p.s p.sys sys_from) t) (key : t / 16 % p.H ≡ key_of p.H n) where
  abbrev p' : Plain
  p' = with_files p (table_put n f p.files)

  good' : Good p'
  good' = created_good o.good new (unused_room (sys_entries o.good) o.layout.sys.places (key_of p.H n) t in₀ key clear)

  gr : Ground p
  gr = ground p o.good

  gr' : Ground p'
  gr' = ground p' good'

  here : table_find n p'.files ≡ some f
  here = find_put n f p.files

  -- the new file is one of no slices and no sectors, resized
  old : Beside i p (free_sectors p) (entry p) p.files no_file
  old = unentered gr o.layout

  begins : Resizes [] f.slices
  begins = record { common = take_all (length f.slices) [] (omega arith) }

  fresh : table_find n p.files ≡ none
  fresh = (vacant_name p n new.fresh).0

  abbrev i₃ : List ℕ
  i₃ = resized_image p i no_file f

  r₃ : Layout i₃ p' (free_sectors p) (held p') (entry p)
  r₃ = write_resized gr old n f fresh gr' begins new.few f.booked (rw (take_all {A = List ℕ} f.booked [] (omega arith), sub-zero) new.sectors)

  -- the places keep their words until then
  old₃ : (u w : ℕ) → u < place_count p.H p.layers → w < 16 → place_word i₃ p.F p.s p.sys sys_from u w ≡ place_word i p.F p.s p.sys sys_from u w
  old₃ = resized_places gr old n f fresh gr' begins new.few

  abbrev e : List ℕ
  e = file_entry p.F p.s n f

  r₄ : Layout (store_place p (sys_of p) i₃ t e) p' (free_sectors p) (held p') (entry p')
  r₄ =
      let nz : n ≢ 0 = λ z. (let q = legal_positive n new.name in omega arith) in
      let new_entry : entry p' n ≡ some e = entry_of p' n f (ordinary o.good new) here in
      write_entry gr' r₃ t in₀ e
      (entry_length p' good' n e new_entry)
      (entry p') n (entry_named p o.good.catalog.names) (λ m d. entry_beside p (table_put n f p.files) p.areas m (find_put_other m n f p.files d))
      new_entry ((entry_named p' good'.catalog.names).name n e new_entry) nz key (λ u x q. absurd (absent r₃.sys.places n new.fresh nz u x q))
      (λ d. name_zero (place_word i₃ p.F p.s p.sys sys_from) t (record { zero = λ w x. old₃ t w in₀ x ∙ clear.zero w x }))

  resized_is : zeroed_sectors (taken_image i (sector_in p.F p.s f.slices 0) p.F p.s [] f.slices) p.F p.s f.slices file_from (length f.sectors) ≡ i₃
  unfolding resized_image
  resized_is = rw (cut_none i (sector_in p.F p.s f.slices 0) p.F p.s [] (length f.slices) (omega arith), sub-zero (length f.sectors)) refl

  pub create_on : OnDisc (created_image p (sys_of p) i t n f) (with_files p (table_put n f p.files))
  unfolding created_image
  create_on = rw resized_is (counted_on good' (words_store i₃ _ e (words_resized gr old n f fresh gr' begins new.few o.words) (words_file_entry p' good' n f here)) r₄)
