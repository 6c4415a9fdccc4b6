-- Remove leaves the image of the plain unit after it, with the state as it was.
use mathlib.Core.Path.{refl}
use mathlib.Core.List.{List}
use Prim.Native.Nat.{ℕ}
use Rattle.types.specs.declared.Name.{Name}
use Rattle.types.specs.declared.State.{State}
use Rattle.disc.specs.Names.{named}
use Rattle.plain.specs.Unit.{Plain}
use Rattle.plain.specs.Good.{Good}
use Rattle.plain.specs.Questions.{answer}
use Rattle.plain.specs.Catalog.{step_remove}
use Rattle.refine.specs.Represents.{Represents}
use Rattle.refine.specs.Leaves.{Leaves, StandFor}
use Rattle.refine.proofs.LeavesLaws.{leaves_map, decided_cases}
use Rattle.preservation.proofs.Whole.{on_disc, stand_for_lem, still}
use Rattle.preservation.proofs.RemoveStep.{remove_on}
use Rattle.preservation.proofs.AreaSteps.{remove_areas}
use Rattle.remove.specs.Remove.{RemoveStep}

pub remove_stepped : {image : List ℕ} {state : State} {p : Plain} → Good p → Represents image state p → {name : Name} {after : List ℕ} {result : ℕ} → RemoveStep p image name after result → (lent : List ℕ)
    → Leaves (step_remove p name lent) (answer result 0 0 0) lent (StandFor after state)
remove_stepped g r {name} s lent = leaves_map (decided_cases
    (λ u same. still g r u same refl)
    (λ w. rw (w.unit, w.written)
    (stand_for_lem (remove_on (on_disc g r) (named name) w.f w.file w.closed w.t w.inside w.stands) (remove_areas (named name) g w.closed r.areas)))) (s.step lent)
