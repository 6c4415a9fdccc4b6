-- Laws of decisions: a known answer, a negated one, and one by a test of two numbers.
use mathlib.Core.Path.{◌≡◌, sym, ◌∙◌, refl}
use mathlib.Core.Bool.{Bool, true, false}
pub use mathlib.Core.Bool.{true≢false}
use mathlib.Core.Bool as B
use Prim.Native.Nat.{ℕ, ◌≤◌}
use native.Mathlib.Omega.{arith}
use lib.Dec.{eqb, leb}
use borrow.Author.Tests.{not-true, not-false, eqb-true, eqb-false, leb-true, leb-false}
use Rattle.disc.specs.Decide.{Decides}

pub never_true : (b : Bool) → (b ≡ true → ⊥) → b ≡ false
never_true true never = absurd (never refl)
never_true false never = refl

pub holds : {P : Type 0} → P → Decides true P
holds p = record { yes = λ _. p; not = λ e. absurd (true≢false e) }

pub fails : {P : Type 0} → (P → ⊥) → Decides false P
fails n = record { yes = λ e. absurd (true≢false (sym e)); not = λ _. n }

-- after `if !f(..)`: refused, and granted
pub refutes : {P : Type 0} (r : Bool) → Decides r P → B.not r ≡ true → P → ⊥
refutes r d e = d.not (not-true r e)

pub grants : {P : Type 0} (r : Bool) → Decides r P → B.not r ≡ false → P
grants r d e = d.yes (not-false r e)

-- what a test that the code negates says of the value that it tests
pub was_true : {r t : Bool} → r ≡ t → B.not r ≡ false → t ≡ true
was_true {r} e h = sym e ∙ not-false r h

pub was_false : {r t : Bool} → r ≡ t → B.not r ≡ true → t ≡ false
was_false {r} e h = sym e ∙ not-true r h

-- ---- the answer is a test of two numbers

pub decides_eq : {P : Type 0} (a b : ℕ) → (a ≡ b → P) → (P → a ≡ b) → Decides (eqb a b) P
decides_eq a b to fro = record { yes = λ e. to (eqb-true a b e); not = λ e p. eqb-false a b e (fro p) }

pub decides_le : {P : Type 0} (a b : ℕ) → (a ≤ b → P) → (P → a ≤ b) → Decides (leb a b) P
decides_le a b to fro = record { yes = λ e. to (leb-true a b e); not = λ e p. omega (arith, fro p, leb-false a b e) }
