-- What a message asks for, by the number of its call; what comes of a call and of Format, by what comes of those below.
use Rattle.std.specs.Prelude.{Some, None}
use mathlib.Core.Path.{◌≡◌, sym, ap}
use mathlib.Core.List.{List}
use Prim.Native.Nat.{ℕ, zero, suc, ◌<◌}
use native.Mathlib.Omega.{arith}
use borrow.Author.Tests.{ne_eqb}
use Rattle.types.specs.declared.Answer.{Answer}
use Rattle.types.specs.declared.State.{State}
use Rattle.types.specs.declared.Message.{Message}
use Rattle.sound.specs.State.{Shaped}
use Rattle.perform.specs.Perform.{performed, Performs}
use Rattle.format.specs.Format.{FormatAnswer}
use Rattle.export.specs.declared.UnitMessage.{UnitMessage}
use Rattle.export.specs.declared.UnitAnswer.{UnitAnswer}
use Rattle.export.specs.declared.UnitState.{UnitState}
use Rattle.export.specs.Mirror.{state_of, remirrored, Arrays}
use Rattle.export.specs.Calls.{numbered, asked_of, answer_of, unit_performed, UnitCalled, unit_formatted, UnitFormats}
use Rattle.export.proofs.MirrorLaws.{mirrored}

pub by_number : (m : UnitMessage) (call : ℕ) → m.call ≡ call → numbered call m ≡ asked_of m
by_number m call e = ap (λ (k : ℕ). numbered k m) (sym e)

pub other_number : (m : UnitMessage) (call : ℕ)
    → (call ≡ 0 → ⊥) → (call ≡ 1 → ⊥) → (call ≡ 2 → ⊥) → (call ≡ 3 → ⊥) → (call ≡ 4 → ⊥) → (call ≡ 5 → ⊥)
    → (call ≡ 6 → ⊥) → (call ≡ 7 → ⊥) → (call ≡ 8 → ⊥) → (call ≡ 9 → ⊥) → (call ≡ 10 → ⊥)
    → None ≡ numbered call m
other_number m call n0 n1 n2 n3 n4 n5 n6 n7 n8 n9 n10 =
    simp (ne_eqb _ 0 n0, ne_eqb _ 1 n1, ne_eqb _ 2 n2, ne_eqb _ 3 n3, ne_eqb _ 4 n4, ne_eqb _ 5 n5, ne_eqb _ 6 n6, ne_eqb _ 7 n7, ne_eqb _ 8 n8, ne_eqb _ 9 n9, ne_eqb _ 10 n10)

none : {m : Message} {A : Type 0} → Some m ≡ None → A
none e = let z : ◌≡◌ {A = ℕ} 0 1 = cc in absurd (omega arith)

pub above : (m : UnitMessage) → 10 < m.call → asked_of m ≡ None
above m h = sym (other_number m m.call (λ e. omega arith) (λ e. omega arith) (λ e. omega arith) (λ e. omega arith) (λ e. omega arith) (λ e. omega arith)
    (λ e. omega arith) (λ e. omega arith) (λ e. omega arith) (λ e. omega arith) (λ e. omega arith))

-- 0 to 10 are calls
pub no_number : (call : ℕ) (m : UnitMessage) → numbered call m ≡ None → 10 < call
no_number zero m e = none e
no_number (suc zero) m e = none e
no_number (suc (suc zero)) m e = none e
no_number (suc (suc (suc zero))) m e = none e
no_number (suc (suc (suc (suc zero)))) m e = none e
no_number (suc (suc (suc (suc (suc zero))))) m e = none e
no_number (suc (suc (suc (suc (suc (suc zero)))))) m e = none e
no_number (suc (suc (suc (suc (suc (suc (suc zero))))))) m e = none e
no_number (suc (suc (suc (suc (suc (suc (suc (suc zero)))))))) m e = none e
no_number (suc (suc (suc (suc (suc (suc (suc (suc (suc zero))))))))) m e = none e
no_number (suc (suc (suc (suc (suc (suc (suc (suc (suc (suc zero)))))))))) m e = none e
no_number (suc (suc (suc (suc (suc (suc (suc (suc (suc (suc (suc k))))))))))) m e = omega arith

module _ {state m : UnitState} {own next : State} {image lent after : List ℕ} (shape : Arrays state) (own_is : own ≡ state_of state) (shaped : Shaped next) (left_is : m ≡ remirrored state next) where
  pub called : {message : Message} {answer : Answer} {a : UnitAnswer} {left : List ℕ} → Performs image own message lent (performed after next answer left) → answer_of a ≡ answer
      → UnitCalled image state message lent (unit_performed after m a left)
  called {message} {answer} {a} {left} performs told =
      let k = mirrored state m next shaped left_is in
      record {
        arrays = shape;
        performs = rw (← own_is, k.0, told) performs;
        mirror = k.1;
      }

  pub formats : {bytes result : ℕ} → FormatAnswer image own bytes lent after (record { result = result; state = next })
      → UnitFormats image state bytes lent (unit_formatted after m result)
  formats {bytes} {result} answer =
      let k = mirrored state m next shaped left_is in
      record {
        arrays = shape;
        formats = rw (← own_is, k.0) answer;
        mirror = k.1;
      }
