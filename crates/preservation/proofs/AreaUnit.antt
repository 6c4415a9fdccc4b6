-- A message to an area process in the plain unit: the outcome for each way its questions are answered, and the operation it is.
use mathlib.Core.Path.{◌≡◌, refl, ap, ◌∙◌}
use mathlib.Core.Bool.{true, false, not}
use mathlib.Core.List.{List}
use mathlib.Core.Option.{none, some}
use Prim.Native.Nat.{ℕ}
use lib.Dec.{eqb}
use Rattle.types.specs.declared.Name.{Name}
use Rattle.types.specs.declared.Operation.{Operation}
use Rattle.types.specs.declared.Operation.TheVariants.{Reserve, Position, Sense, Transput}
use Rattle.disc.specs.Names.{named, unit_in}
use Rattle.plain.specs.Table.{Table, table_find, table_put}
use Rattle.plain.specs.Unit.{Plain, File, AreaUser, with_areas}
use Rattle.plain.specs.Questions.{replies, done, known}
use Rattle.plain.specs.Areas.{is_exclusive, other, released, step_reserve, step_release, step_position}
use Rattle.plain.specs.Transput.{step_transput}
use Rattle.plain.specs.Step.{is_known, reserve_count, user_step, operation_step, step_area}
use Rattle.plain.proofs.QuestionLaws.{true_yes, false_no, asks_yes, asks_no, given_none, given_some}

-- ---- "open? 4800h; no other exclusive user? 0200h; sender not 0? 0810h; known operation? 0A00h"

module _ (p : Plain) (name : Name) (sender : ℕ) (operation : Operation) (lent : List ℕ) where
  module _ (k : known p (unit_in name) ≡ true) where
    pub area_shut : table_find (named name) p.areas ≡ none → step_area p name sender operation lent ≡ replies p 0x4800 lent
    area_shut e = asks_yes _ _ _ (true_yes k) ∙ given_none _ _ _ e

    module _ {users : Table AreaUser} (e : table_find (named name) p.areas ≡ some users) where
      pub area_reserved : other is_exclusive sender users ≡ true → step_area p name sender operation lent ≡ replies p 0x0200 lent
      area_reserved x = asks_yes _ _ _ (true_yes k) ∙ given_some _ users _ _ e ∙ asks_no _ _ _ (false_no (ap not x))

      pub area_nobody : other is_exclusive sender users ≡ false → eqb sender 0 ≡ true → step_area p name sender operation lent ≡ replies p 0x0810 lent
      area_nobody x z = asks_yes _ _ _ (true_yes k) ∙ given_some _ users _ _ e ∙ asks_yes _ _ _ (false_no x) ∙ asks_no _ _ _ (false_no (ap not z))

      pub area_strange : other is_exclusive sender users ≡ false → eqb sender 0 ≡ false → is_known operation ≡ false → step_area p name sender operation lent ≡ replies p 0x0A00 lent
      area_strange x z s = asks_yes _ _ _ (true_yes k) ∙ given_some _ users _ _ e ∙ asks_yes _ _ _ (false_no x) ∙ asks_yes _ _ _ (false_no z) ∙ asks_no _ _ _ (false_no s)

      pub area_asked : other is_exclusive sender users ≡ false → eqb sender 0 ≡ false → is_known operation ≡ true
          → step_area p name sender operation lent ≡ operation_step p (named name) sender users operation (reserve_count operation) lent
      area_asked x z s = asks_yes _ _ _ (true_yes k) ∙ given_some _ users _ _ e ∙ asks_yes _ _ _ (false_no x) ∙ asks_yes _ _ _ (false_no z) ∙ asks_yes _ _ _ (true_yes s)

-- ---- the operation

module _ (p : Plain) (n sender : ℕ) (users : Table AreaUser) (operation : Operation) (lent : List ℕ) where
  pub operation_reserve : (count : ℕ) → operation_step p n sender users operation (some count) lent ≡ step_reserve p n sender users count lent
  unfolding operation_step
  operation_reserve count = refl

  -- "Release and all else: sender a user? 0810h."
  pub operation_stranger : table_find sender users ≡ none → operation_step p n sender users operation none lent ≡ replies p 0x0810 lent
  unfolding operation_step
  operation_stranger w = given_none _ _ _ w

  pub operation_user : (u : AreaUser) (f : File) → table_find sender users ≡ some u → table_find n p.files ≡ some f
      → operation_step p n sender users operation none lent ≡ user_step p n sender users u f operation lent
  unfolding operation_step
  operation_user u f w h = given_some _ u _ _ w ∙ given_some _ f _ _ h

module _ (p : Plain) (n sender : ℕ) (users : Table AreaUser) (u : AreaUser) (f : File) (lent : List ℕ) where
  pub user_release : (count : ℕ) → user_step p n sender users u f (Reserve count) lent ≡ done (with_areas p (table_put n (released sender u.opens u users) p.areas)) lent
  unfolding user_step step_release
  user_release count = refl

  pub user_position : (block : ℕ) → user_step p n sender users u f (Position block) lent ≡ step_position p n sender users u f block lent
  unfolding user_step
  user_position block = refl

  pub user_sense : user_step p n sender users u f Sense lent ≡ done p lent
  unfolding user_step
  user_sense = refl

  pub user_transput : (operation bytes block : ℕ) → user_step p n sender users u f (Transput operation bytes block) lent ≡ step_transput p n sender users u f operation bytes block lent
  unfolding user_step
  user_transput operation bytes block = refl
