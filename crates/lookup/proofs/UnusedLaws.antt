-- What a search for an unused place of SYS finds, said of the plain unit.
use Rattle.std.specs.Prelude.{Option, Some, None}
use mathlib.Core.Path.{◌≡◌, refl, sym, ◌∙◌}
use mathlib.Core.List.{List}
use Prim.Native.Nat.{ℕ, ◌*◌, ◌≤◌, ◌<◌}
use native.Mathlib.Omega.{arith}
use Rattle.catalog.specs.declared.Place.{Place}
use Rattle.catalog.specs.Catalog.{place_unused}
use Rattle.catalog.proofs.PlaceLaws.{unused_at, unused_nothing}
use Rattle.plain.specs.Unit.{Plain, sys_of}
use Rattle.plain.specs.Taking.{places_taken}
use Rattle.refine.proofs.PlaceCount.{unused_room, used_full, sys_entries}
use Rattle.lookup.specs.Unit.{CatalogOn}
use Rattle.lookup.specs.Find.{FirstUnused, UnusedAt, UnusedFound}
use Rattle.lookup.proofs.FindLaws.{unit_sys, sys_lies, found_is}

module _ {image : List ℕ} {p : Plain} (on : CatalogOn image p) where
  pub unused_found : (k : ℕ) {r : Option Place} → k < p.H → r ≡ place_unused image (unit_sys p) k → UnusedFound image p (sys_of p) p.files k r
  unused_found k {r} low e = record { at = at_place; nothing = none_there }
    where
      at_place : (place : Place) → r ≡ Some place → UnusedAt image p (sys_of p) p.files k place
      at_place place q =
          let f = unused_at image (unit_sys p) p.F p.s p.sys (sys_lies on) k low place (sym e ∙ q) in
          record {
            number = f.place;
            is = found_is on f;
            first = record { inside = f.inside; key = f.key; unused = f.has; earlier = f.earlier };
            room = unused_room (sys_entries on.good) on.sys.places k f.place f.inside f.key f.has;
          }

      none_there : r ≡ None → 16 * p.layers ≤ places_taken p.H k (sys_of p) p.files
      none_there q =
          used_full (sys_entries on.good) on.sys.places k low
          (unused_nothing image (unit_sys p) p.F p.s p.sys (sys_lies on) k low (sym e ∙ q)).lacks

  -- names that take fewer places than their key has leave one
  pub unused_there : (k : ℕ) → k < p.H → places_taken p.H k (sys_of p) p.files < 16 * p.layers → (u : ℕ) × FirstUnused image p (sys_of p) k u
  unused_there k low room = go (place_unused image (unit_sys p) k) refl
    where
      go : (r : Option Place) → r ≡ place_unused image (unit_sys p) k → (u : ℕ) × FirstUnused image p (sys_of p) k u
      go (Some place) e = let a = (unused_found k low e).at place refl in (a.number, a.first)
      go None e = absurd (omega (arith, (unused_found k low e).nothing refl))
