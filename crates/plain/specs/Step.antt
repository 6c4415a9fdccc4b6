-- One call, and lists of calls.
use Rattle.std.specs.Prelude.{Bool, true, false, not, List, [], ◌∷◌, ℕ, zero, suc, eqb}
use Rattle.std.proofs.Math.Option.{Option, none, some}
use Rattle.types.specs.declared.Name.{Name}
use Rattle.types.specs.declared.Answer.{Answer}
use Rattle.types.specs.declared.Operation.{Operation}
use Rattle.types.specs.declared.Operation.TheVariants.{Reserve, Position, Sense, Transput, Other}
use Rattle.types.specs.declared.Message.{Message}
use Rattle.types.specs.declared.Message.TheVariants.{Init, Set, Create, LookUp, Change, Remove, CreateArea, RemoveArea}
use Rattle.types.specs.declared.Message.TheVariants.{AreaMessage, UnitDescription, Listing}
use Rattle.disc.specs.Names.{named, unit_in}
use Rattle.plain.specs.Table.{Table, table_find}
use Rattle.plain.specs.Unit.{Plain, File, AreaUser}
use Rattle.plain.specs.Questions.{Outcome, asks, given, replies, done, known}
use Rattle.plain.specs.Catalog.{step_init, step_create, step_set, step_look_up, step_remove, step_change}
use Rattle.plain.specs.Areas.{step_create_area, step_remove_area, is_exclusive, other, step_reserve, step_release, step_position}
use Rattle.plain.specs.Transput.{one_of, step_transput}
use Rattle.plain.specs.Reports.{step_listing, step_description}

-- "Known operation (Reserve 0, 2, 3, 4; Position; Sense; transput 1, 3, 5, 7, 19)".
abbrev pub is_known : Operation → Bool
is_known (Reserve count) = one_of count (0 ∷ 2 ∷ 3 ∷ 4 ∷ [])
is_known (Position block) = true
is_known Sense = true
is_known (Transput operation bytes block) = one_of operation (1 ∷ 3 ∷ 5 ∷ 7 ∷ 19 ∷ [])
is_known (Other operation) = false

-- The count of a Reserve other than Release.
abbrev pub reserve_count : Operation → Option ℕ
reserve_count (Reserve zero) = none
reserve_count (Reserve (suc k)) = some (suc k)
reserve_count (Position block) = none
reserve_count Sense = none
reserve_count (Transput operation bytes block) = none
reserve_count (Other operation) = none

-- A user's operation other than Reserve 2 to 4; a Reserve is a Release here, and an unknown operation was refused before.
-- "Sense answers 0."
unfoldable pub user_step : Plain → ℕ → ℕ → Table AreaUser → AreaUser → File → Operation → List ℕ → Outcome
user_step p n sender users u f (Reserve count) lent = step_release p n sender users u lent
user_step p n sender users u f (Position block) lent = step_position p n sender users u f block lent
user_step p n sender users u f Sense lent = done p lent
user_step p n sender users u f (Transput operation bytes block) lent = step_transput p n sender users u f operation bytes block lent
user_step p n sender users u f (Other operation) lent = replies p 0x0A00 lent

-- "Release and all else: sender a user? 0810h." An open area has a file in every good unit: the second question is never
-- answered no.
unfoldable pub operation_step : Plain → ℕ → ℕ → Table AreaUser → Operation → Option ℕ → List ℕ → Outcome
operation_step p n sender users operation (some count) lent = step_reserve p n sender users count lent
operation_step p n sender users operation none lent =
    given (table_find sender users) (replies p 0x0810 lent) λ u.
    given (table_find n p.files) (replies p 0x4800 lent) λ f.
    user_step p n sender users u f operation lent

-- "Area messages: open? 4800h; no other exclusive user? 0200h; sender not 0? 0810h; known operation? 0A00h."
abbrev pub step_area : Plain → Name → ℕ → Operation → List ℕ → Outcome
step_area p name sender operation lent =
    let n : ℕ = named name in
    asks (known p (unit_in name)) (replies p 0x0A00 lent)
    (given (table_find n p.areas) (replies p 0x4800 lent) λ users.
    asks (not (other is_exclusive sender users)) (replies p 0x0200 lent)
    (asks (not (eqb sender 0)) (replies p 0x0810 lent)
    (asks (is_known operation) (replies p 0x0A00 lent)
    (operation_step p n sender users operation (reserve_count operation) lent))))

-- One call of the list that demand 3 speaks of.
abbrev pub step : Plain → Message → List ℕ → Outcome
step p (Init unit) lent = step_init p unit lent
step p (Set name) lent = step_set p name lent
step p (Create name size attributes) lent = step_create p name size attributes lent
step p (LookUp name) lent = step_look_up p name lent
step p (Change name) lent = step_change p name lent
step p (Remove name) lent = step_remove p name lent
step p (CreateArea name) lent = step_create_area p name lent
step p (RemoveArea name) lent = step_remove_area p name lent
step p (AreaMessage name sender operation) lent = step_area p name sender operation lent
step p (UnitDescription unit bytes) lent = step_description p unit bytes lent
step p (Listing unit) lent = step_listing p unit lent

-- "Every call brings lent words of its own, whatever stands in them."
pub record Call : Type 0 where
  pub message : Message
  pub lent : List ℕ

-- The unit after a list of calls.
abbrev pub after : Plain → List Call → Plain
after p [] = p
after p (c ∷ calls) = after (step p c.message c.lent).unit calls

-- "Its answer is the result word with the returned byte count, block or number of entries. Words handed back are those
-- it fills or hands out": the answer, and all lent words after the call.
pub record Reply : Type 0 where
  pub answer : Answer
  pub lent : List ℕ

abbrev pub reply : Outcome → Reply
reply o = record { answer = o.answer; lent = o.lent }

-- The answers and handed-back words of a list of calls.
abbrev pub answers : Plain → List Call → List Reply
answers p [] = []
answers p (c ∷ calls) = reply (step p c.message c.lent) ∷ answers (step p c.message c.lent).unit calls
