-- A name is entered exactly if it is found in the sectors of its key.
use Rattle.std.specs.Prelude.{Option, Some, None}
use mathlib.Core.Path.{◌≡◌, refl, ◌∙◌, subst, ap}
use mathlib.Core.List.{List}
use Prim.Native.Nat.{ℕ, ◌≤◌, ◌<◌}
use native.Mathlib.Omega.{arith}
use lib.Dec.{T}
use Rattle.disc.specs.Names.{pack, is_system, legal_name, key_of}
use Rattle.disc.specs.Entries.{place_count}
use Rattle.catalog.specs.declared.Catalog.{Catalog}
use Rattle.catalog.specs.declared.Place.{Place}
use Rattle.catalog.specs.Catalog.{NamePlace}
use Rattle.kit.specs.declared.Geometry.{Geometry}
use Rattle.sound_entries.specs.Sys.{places_in}
use Rattle.sound_entries.proofs.FindLaws.{sys_at_lem, sys_none}
use Rattle.sound_entries.proofs.NamesLaws.{named_used}
use Rattle.sound_entries.proofs.PlaceLaws.{legal_first}
use Rattle.sound_names.specs.Scan.{LegalSys}
use Rattle.soundness.specs.Areas.{OrdinaryEntered}

module _ {image : List ℕ} {g : Geometry} {c : Catalog} (sys : LegalSys image g c) where
  abbrev Entered : ℕ → Type 0
  Entered n = OrdinaryEntered (places_in image g) (place_count g.keys c.layers) n

  -- an entered name is legal, so its first word is not 0
  pub entered_first : (x y z : ℕ) → y < 65536 → z < 65536 → Entered (pack x y z) → x ≡ 0 → ⊥
  entered_first x y z hy hz e zero =
      let t = e.entered in
      legal_first (pack x y z) (subst (λ (n : ℕ). T (legal_name n)) t.3 (sys.legal t.0 t.1 t.2).name) (omega arith)

  module _ {n : ℕ} {r : Option Place} (found : NamePlace image c n r) where
    pub entered_found : r ≡ None → Entered n → ⊥
    entered_found none e =
        let t = e.entered in
        (sys_none sys.catalog refl found none).lacks t.0 t.1 ((sys.legal t.0 t.1 t.2).key ∙ ap (key_of g.keys) t.3) t.3

    pub found_entered : {p : Place} → 1 ≤ n → (T (is_system n) → ⊥) → r ≡ Some p → Entered n
    found_entered some ordinary at =
        let f = sys_at_lem sys.catalog refl found at in
        record { entered = (f.place, f.inside, named_used _ f.place (omega (arith, f.has, some)), f.has); ordinary = ordinary }
