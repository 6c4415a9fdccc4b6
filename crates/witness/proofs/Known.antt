-- The first question of a call has an answer, whatever the state is.
use mathlib.Core.Path.{◌≡◌, refl, sym}
use mathlib.Core.Bool.{Bool, true, false}
use Prim.Native.Nat.{ℕ, zero, suc, ◌≤◌, ◌<◌}
use native.Mathlib.Omega.{arith}
use Rattle.types.specs.declared.State.{State}
use Rattle.types.specs.declared.Message.{Message}
use Rattle.types.specs.State.{area_at, is_open, IsOpen, UnitKnown}
use Rattle.disc.proofs.Compare.{same_or, below_or}
use Rattle.disc.proofs.DecideLaws.{true≢false}
use Rattle.first_question.specs.declared.Class.{Class}
use Rattle.first_question.specs.declared.Class.TheVariants as class
use Rattle.first_question.specs.Known.{classified, unit_meant, Ready, Known}

pub at_most : (a b : ℕ) {C : Type 0} → (a ≤ b → C) → ((a ≤ b → ⊥) → C) → C
at_most a b f h = below_or b a (λ x. h (λ y. omega arith)) f

true_or : (b : Bool) {C : Type 0} → (b ≡ true → C) → ((b ≡ true → ⊥) → C) → C
true_or true f h = f refl
true_or false f h = h (λ e. true≢false (sym e))

module _ (state : State) where
  -- no descriptor below c is open
  none_or : (c : ℕ) {C : Type 0} → (((j : ℕ) → j < c → IsOpen state j → ⊥) → C) → ((((j : ℕ) → j < c → IsOpen state j → ⊥) → ⊥) → C) → C
  none_or zero f h = f (λ j x. absurd (omega arith))
  none_or (suc c) f h = none_or c
      (λ below. true_or (is_open (area_at state c)) (λ o. h (λ all. all c (omega arith) o))
      (λ n. f (λ j x. same_or j c (λ e. rw e n) (λ d. below j (omega arith)))))
      (λ n. h (λ all. n (λ j x. all j (omega arith))))

  ready_or : (kind : Class) {C : Type 0} → (Ready state kind → C) → ((Ready state kind → ⊥) → C) → C
  ready_or class.Init f h = none_or 8 f h
  ready_or class.Catalog f h = true_or state.initialized f h
  ready_or class.Area f h = true_or state.initialized f h
  ready_or class.Report f h = true_or state.initialized f h

  unit_or : (unit : ℕ) {C : Type 0} → (UnitKnown state unit → C) → ((UnitKnown state unit → ⊥) → C) → C
  unit_or unit f h = same_or unit state.unit
      (λ e. at_most state.unit 3 (λ x. f (record { number = e; low = x })) (λ n. h (λ k. n k.low)))
      (λ d. h (λ k. d k.number))

  pub known_or : (message : Message) {C : Type 0} → (Known state message → C) → ((Known state message → ⊥) → C) → C
  known_or message f h = unit_or (unit_meant message)
      (λ u. ready_or (classified message).class (λ r. f (record { unit = u; ready = r })) (λ n. h (λ k. n k.ready)))
      (λ n. h (λ k. n k.unit))
