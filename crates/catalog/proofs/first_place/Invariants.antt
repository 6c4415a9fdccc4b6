use Rattle.std.proofs.Common.{◌≡◌, Bool, ℕ, Option, ◌-◌}
use Rattle.types.specs.declared.Sector.{Sector}
use Rattle.catalog.specs.Catalog.{key_sector, first_slot, slot_answer, place_from}
use Rattle.catalog.proofs.first_place.Given as goal

abbrev pub invariant-loop-layer : goal.invariant-loop-layer
invariant-loop-layer g l =
    (t : ℕ → ℕ → Bool) → ((q : Sector) (r : Option ℕ) → goal.F-post g l.slot_in q r → r ≡ slot_answer (first_slot (t q.0)))
    → place_from t (key_sector l.image l.c l.key) (l.c.layers - l.layer) l.layer ≡ place_from t (key_sector l.image l.c l.key) l.c.layers 0
