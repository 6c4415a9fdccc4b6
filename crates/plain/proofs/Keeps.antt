-- Every call and every list of calls keeps `Good`; the free and the held slices add up.
use mathlib.Core.List.{List, [], ◌∷◌}
use Prim.Native.Nat.{ℕ}
use Rattle.types.specs.declared.Message.{Message}
use Rattle.types.specs.declared.Message.TheVariants.{Init, Set, Create, LookUp, Change, Remove, CreateArea, RemoveArea, AreaMessage, UnitDescription, Listing}
use Rattle.disc.specs.Words.{Words}
use Rattle.disc.proofs.SliceLaws.{sum_law}
use Rattle.plain.specs.Unit.{Plain, M, held}
use Rattle.plain.specs.Reports.{step_listing, step_description}
use Rattle.plain.specs.Step.{Call, step, after}
use Rattle.plain.specs.Good.{Good}
use Rattle.plain.specs.Claims.{LentWords, Adds}
use Rattle.plain.proofs.QuestionLaws.{asks_law}
use Rattle.plain.proofs.KeepsAreas.{Keeps, create_area_keeps, remove_area_keeps}
use Rattle.plain.proofs.KeepsTransput.{area_keeps}
use Rattle.plain.proofs.KeepsCatalog.{init_keeps, look_up_keeps, remove_keeps, create_keeps, set_keeps, change_keeps}

listing_keeps : (p : Plain) (unit : ℕ) (lent : List ℕ) → Good p → Keeps (step_listing p unit lent)
unfolding step_listing
listing_keeps p unit lent g = asks_law Keeps _ g λ _. asks_law Keeps _ g λ _. g

description_keeps : (p : Plain) (unit bytes : ℕ) (lent : List ℕ) → Good p → Keeps (step_description p unit bytes lent)
unfolding step_description
description_keeps p unit bytes lent g = asks_law Keeps _ g λ _. asks_law Keeps _ g λ _. asks_law Keeps _ g λ _. g

pub step_keeps : (p : Plain) (message : Message) (lent : List ℕ) → Good p → Words lent → Good (step p message lent).unit
step_keeps p (Init unit) lent g w = init_keeps p unit lent g
step_keeps p (Set name) lent g w = set_keeps p name lent g w
step_keeps p (Create name size attributes) lent g w = create_keeps p name size attributes lent g
step_keeps p (LookUp name) lent g w = look_up_keeps p name lent g
step_keeps p (Change name) lent g w = change_keeps p name lent g w
step_keeps p (Remove name) lent g w = remove_keeps p name lent g
step_keeps p (CreateArea name) lent g w = create_area_keeps p name lent g
step_keeps p (RemoveArea name) lent g w = remove_area_keeps p name lent g
step_keeps p (AreaMessage name sender operation) lent g w = area_keeps p name sender operation lent g w
step_keeps p (UnitDescription unit bytes) lent g w = description_keeps p unit bytes lent g
step_keeps p (Listing unit) lent g w = listing_keeps p unit lent g

pub list_keeps : (calls : List Call) (p : Plain) → Good p → LentWords calls → Good (after p calls)
list_keeps [] p g w = g
list_keeps (c ∷ calls) p g w = list_keeps calls (step p c.message c.lent).unit (step_keeps p c.message c.lent g w.0) w.1

pub good_adds : (p : Plain) → Good p → Adds p
good_adds p g = record { sum = sum_law (M p) (held p) g.once; once = g.once }
