-- A place emptied and another one taken: what each write asks for, and the image that is left.
use Rattle.std.specs.Prelude.{Option, Some, None}
use mathlib.Core.Path.{◌≡◌, ap, ap₂, ◌∙◌}
use mathlib.Core.List.{List}
use Prim.Native.Nat.{ℕ, ◌+◌, ◌*◌, ◌%◌, ◌≤◌}
use native.Mathlib.Omega.{arith}
use lib.ListN.{length, take}
use lib.Seq.{take_all}
use Rattle.disc.specs.Catalog.{place_sector}
use Rattle.words.specs.Store.{store, zero_words}
use Rattle.words.proofs.StoreLaws.{length_store}
use Rattle.catalog.specs.declared.Place.{Place}
use Rattle.catalog.specs.declared.Unit.{Unit}
use Rattle.catalog.specs.Catalog.{place_start}
use Rattle.plain.specs.Unit.{Plain, sys_of}
use Rattle.refine.specs.Writes.{store_place, empty_place}
use Rattle.lookup.specs.Unit.{CatalogOn}
use Rattle.lookup.specs.Find.{PlaceIs, UnusedAt, UnusedFound, FindsUnused}
use Rattle.lookup.proofs.FindLaws.{place_room}
use Rattle.change.specs.Move.{CanMoveFrom, MovedFrom}

-- a store in a place of the code is one in SYS's place
pub stored_place : (p : Plain) (image : List ℕ) {t : ℕ} {place : Place} → PlaceIs p (sys_of p) t place → (words : List ℕ) → store image (place_start place) words ≡ store_place p (sys_of p) image t words
stored_place p image is words = ap₂ (λ (q slot : ℕ). store image (q * 256 + slot * 16) words) is.sector is.slot

module _ {image : List ℕ} {o : Unit} {place : Place} {k : ℕ} {p : Plain} {t : ℕ} (can : CanMoveFrom image o place k p t) where
  pub move_room : place_start place + 16 ≤ length image
  move_room = omega (arith, place_room can.emptied can.is, length_store image (place_sector p.F p.s (sys_of p) t * 256 + t % 16 * 16) (zero_words 16))

  module _ {cleared : List ℕ} (empty : cleared ≡ store image (place_start place) (zero_words 16)) where
    cleared_is : cleared ≡ empty_place p (sys_of p) image t
    cleared_is = empty ∙ stored_place p image can.is (zero_words 16)

    on : CatalogOn cleared p
    on = rw cleared_is can.emptied

    module _ {r : Option Place} (finds : FindsUnused cleared o k r) where
      found : UnusedFound cleared p (sys_of p) p.files k r
      found = finds.all p on can.numbers

      module _ {free : Place} (e : r ≡ Some free) where
        at : UnusedAt cleared p (sys_of p) p.files k free
        at = found.at free e

        pub move_inside : place_start free + 16 ≤ length cleared
        move_inside = place_room on at.is

        pub moved_from : {words after : List ℕ} → length words ≡ 16 → after ≡ store cleared (place_start free) (take 16 words) → MovedFrom image p t k words after
        moved_from {words} {after} size a =
            let u : UnusedAt (empty_place p (sys_of p) image t) p (sys_of p) p.files k free = rw cleared_is at at in
            record {
              u = u.number;
              first = u.first;
              written =
                  a ∙ stored_place p cleared u.is (take 16 words) ∙ ap (store_place p (sys_of p) cleared u.number) (take_all 16 words (omega arith))
                  ∙ ap (λ (i : List ℕ). store_place p (sys_of p) i u.number words) cleared_is;
            }
