-- Area create and remove leave the image and the state of the plain unit after them.
use mathlib.Core.Path.{refl}
use mathlib.Core.List.{List, []}
use Prim.Native.Nat.{ℕ}
use Rattle.types.specs.declared.Name.{Name}
use Rattle.types.specs.declared.State.{State}
use Rattle.plain.specs.Table.{table_put}
use Rattle.plain.specs.Unit.{Plain}
use Rattle.plain.specs.Good.{Good}
use Rattle.plain.specs.Questions.{answer}
use Rattle.plain.specs.Areas.{step_create_area, step_remove_area}
use Rattle.plain.proofs.KeepsAreas.{opened_good}
use Rattle.refine.specs.Represents.{Represents}
use Rattle.refine.specs.Leaves.{Leaves, StandFor}
use Rattle.refine.proofs.LeavesLaws.{leaves_map, decided_cases}
use Rattle.refine.proofs.StateLaws.{same_room}
use Rattle.preservation.proofs.Whole.{on_disc, stand_for_lem, still}
use Rattle.preservation.proofs.BookStep.{book_on}
use Rattle.preservation.proofs.AreaSteps.{areas_on, open_areas, close_areas}
use Rattle.areas.specs.Areas.{AreaDone, AreaCreated, dummy_create, made, CreateAreaStep, AreaRemoved, dummy_remove, books, RemoveAreaStep}

module _ {image : List ℕ} {state : State} {p : Plain} (g : Good p) (r : Represents image state p) where
  created : {n : ℕ} {next : State} {q : Plain} → AreaCreated p state n next q → StandFor image next q
  created (dummy_create u same) = still g r u refl same
  created {n} (made w) =
      let room = same_room state p r.areas w.j g.area_names w.vacant in
      rw (w.unit, w.left)
      (stand_for_lem (areas_on (table_put n [] p.areas) (on_disc g r) (opened_good p n w.f g w.file room))
      (open_areas r.areas n w.j w.f w.file w.name _ _ w.absent w.vacant w.is.packed refl refl))

  pub create_area_stepped : {name : Name} {done : AreaDone} → CreateAreaStep p state name done → (lent : List ℕ)
      → Leaves (step_create_area p name lent) (answer done.result 0 0 0) lent (StandFor image done.state)
  create_area_stepped s lent = leaves_map (decided_cases (λ u same. still g r u refl same) created) (s.step lent)

  removed : {n : ℕ} {after : List ℕ} {next : State} {q : Plain} → AreaRemoved p image state n after next q → StandFor after next q
  removed (dummy_remove u i same) = still g r u i same
  removed {n} (books w) =
      rw (w.unit, w.left, w.written)
      (stand_for_lem (book_on (on_disc g r) n w.f w.file w.t w.inside w.stands) (close_areas r.areas n w.j w.f w.file g w.found))

  pub remove_area_stepped : {name : Name} {after : List ℕ} {done : AreaDone} → RemoveAreaStep p image state name after done → (lent : List ℕ)
      → Leaves (step_remove_area p name lent) (answer done.result 0 0 0) lent (StandFor after done.state)
  remove_area_stepped s lent = leaves_map (decided_cases (λ u same. still g r u same.0 same.1) removed) (s.step lent)
