-- The messages to an area process: their contract has a result.
use Rattle.std.specs.Prelude.{Option, Some, None}
use mathlib.Core.Path.{◌≡◌, refl}
use mathlib.Core.Bool.{Bool, true, false}
use mathlib.Core.List.{List}
use mathlib.Core.Logic.{◌≢◌}
use Prim.Native.Nat.{ℕ}
use Rattle.types.specs.declared.Name.{Name}
use Rattle.types.specs.declared.State.{State}
use Rattle.types.specs.declared.Operation.{Operation}
use Rattle.types.specs.declared.Operation.TheVariants.{Reserve, Position, Sense, Transput, Other}
use Rattle.types.specs.State.{area_at}
use Rattle.disc.specs.Words.{Words}
use Rattle.disc.specs.Names.{named, unit_in}
use Rattle.disc.proofs.Compare.{same_or}
use Rattle.catalog.specs.declared.Unit.{Unit}
use Rattle.state.specs.declared.Kind.TheVariants.{Exclusive}
use Rattle.state.specs.Areas.{area_named, entry_of, any_other}
use Rattle.plain.specs.Unit.{Plain, M, sys_of}
use Rattle.plain.specs.Step.{is_known}
use Rattle.catalog.specs.Value.{value_of}
use Rattle.lookup.specs.Unit.{NumbersOf, Meant}
use Rattle.transput.specs.Transput.{Seated}
use Rattle.area_messages.specs.AreaMessages.{reserve_word, UserSteps, CanOperate, Operates, AreaMessages}
use Rattle.area_messages.proofs.MessageLaws.{step_release_lem, step_position_lem, step_sense, step_other, step_transput_lem, operate_reserve, operate_stranger, operate_seated, operate_user, message_shut, message_reserved, message_nobody, message_strange, message_can, message_asked}
use Rattle.witness.proofs.Transput.{SomeReply, transput_some}

-- the unit's numbers
abbrev pub numbers : Plain → Unit
numbers p = record { slice = p.s; first = record { 0 = p.F }; slices = M p; catalog = value_of p.H (sys_of p) }

pub numbers_of : (p : Plain) → NumbersOf (numbers p) p
numbers_of p = record { slice = refl; first = refl; slices = refl; catalog = record { index = refl; from = refl; keys = refl; layers = refl } }

module _ {image : List ℕ} {state : State} {o : Unit} {j sender : ℕ} (lent : List ℕ) (words : Words lent) where
  -- ---- a user's operation

  user_some : {u : ℕ} → Seated image state o j sender u → (operation : Operation) → SomeReply (UserSteps image state o j sender u operation lent)
  user_some s (Reserve count) = record { reply = _; filled = _; after = _; holds = step_release_lem refl }
  user_some s (Position block) = record { reply = _; filled = _; after = _; holds = step_position_lem refl }
  user_some s Sense = record { reply = _; filled = _; after = _; holds = step_sense refl }
  user_some s (Transput operation bytes block) =
      let t = transput_some s.seat s.numbers operation bytes block lent words in
      record { reply = t.reply; filled = t.filled; after = t.after; holds = step_transput_lem t.holds }
  user_some s (Other operation) = record { reply = _; filled = _; after = _; holds = step_other refl }

  -- ---- the operation

  operate_some : (operation : Operation) → CanOperate image state o j sender → SomeReply (Operates image state o j sender operation lent)
  operate_some operation can = same_or (reserve_word operation) 0
      (λ z. go z (entry_of sender (area_at state j)) refl)
      (λ d. record { reply = _; filled = _; after = _; holds = operate_reserve image state o j sender operation refl d refl })
    where
      go : reserve_word operation ≡ 0 → (found : Option ℕ) → entry_of sender (area_at state j) ≡ found → SomeReply (Operates image state o j sender operation lent)
      go z None e = record { reply = _; filled = _; after = _; holds = operate_stranger image state o j sender operation refl z refl refl e refl }
      go z (Some u) e =
          let s = user_some (operate_seated image state o j sender operation refl z refl refl e can) operation in
          record { reply = s.reply; filled = s.filled; after = s.after; holds = operate_user image state o j sender operation refl z refl refl e s.holds }

-- ---- the message

module _ {image : List ℕ} {state : State} {o : Unit} (name : Name) (h : Meant image state o (unit_in name)) (sender : ℕ) (operation : Operation) (lent : List ℕ) (words : Words lent) where
  abbrev Result : Type 0
  Result = SomeReply (AreaMessages image state o name sender operation lent)

  -- "open?" is answered yes
  open_some : (j : ℕ) → area_named (named name) state ≡ Some j → Result
  open_some j e = alone (any_other Exclusive sender (area_at state j)) refl
    where
      asked : any_other Exclusive sender (area_at state j) ≡ false → sender ≢ 0 → (b : Bool) → is_known operation ≡ b → Result
      asked x d false k = record { reply = _; filled = _; after = _; holds = message_strange name h sender operation refl refl e refl x d k refl }
      asked x d true k =
          let s = operate_some lent words operation (message_can name h sender operation refl refl e refl x d) in
          record { reply = s.reply; filled = s.filled; after = s.after; holds = message_asked name h sender operation refl refl e refl x d k s.holds }

      alone : (b : Bool) → any_other Exclusive sender (area_at state j) ≡ b → Result
      alone true x = record { reply = _; filled = _; after = _; holds = message_reserved name h sender operation refl refl e refl x refl }
      alone false x = same_or sender 0
          (λ z. record { reply = _; filled = _; after = _; holds = message_nobody name h sender operation refl refl e refl x z refl })
          (λ d. asked x d (is_known operation) refl)

  pub message_some : SomeReply (AreaMessages image state o name sender operation lent)
  message_some = go (area_named (named name) state) refl
    where
      go : (found : Option ℕ) → area_named (named name) state ≡ found → Result
      go None e = record { reply = _; filled = _; after = _; holds = message_shut name h sender operation refl refl e refl }
      go (Some j) e = open_some j e
