-- Laws of the loops over map words and marks: words that are filled, and numbers that are 0 if their sum is.
use mathlib.Core.Path.{◌≡◌, ap, ◌∙◌}
use mathlib.Core.List.{List}
use Prim.Native.Nat.{ℕ, ◌+◌, ◌-◌, ◌≤◌, ◌<◌}
use native.Mathlib.Omega.{arith}
use lib.Dec.{eqb}
use lib.ListN.{get_or}
use borrow.Author.Count.{below_more}
use Rattle.disc.specs.Decide.{Decides}
use Rattle.disc.specs.Words.{word}
use Rattle.disc.specs.Kit.{map_sector}
use Rattle.disc.proofs.Compare.{same_or}
use Rattle.disc.proofs.DecideLaws.{decides_eq}
use Rattle.marks.specs.Marked.{Free}
use Rattle.marks.specs.Packed.{packed_marks, Filled, Cleared}

pub filled_more : {image marks : List ℕ} (n x y : ℕ) → x ≡ word image map_sector n → y ≡ packed_marks marks n → x + y ≡ 0xFFFF → Filled image marks n
    → Filled image marks (n + 1)
filled_more n x y ex ey e f = record { each = below_more _ n f.each (omega arith) }

pub filled_fails : {image marks : List ℕ} (n m x y : ℕ) → n < m → x ≡ word image map_sector n → y ≡ packed_marks marks n → (x + y ≡ 0xFFFF → ⊥)
    → Filled image marks m → ⊥
filled_fails n m x y h ex ey ne f = ne (omega (arith, f.each n h))

pub filled_all : {image marks : List ℕ} (n m : ℕ) → m ≤ n → Filled image marks n → Filled image marks m
filled_all n m h f = record { each = λ w l. f.each w (omega arith) }

-- a sum of the numbers f n to f (w - 1) is 0 exactly if they are
pub record ZeroIf (f : ℕ → ℕ) (n w sum : ℕ) : Type 0 where
  pub to : sum ≡ 0 → (k : ℕ) → n ≤ k → k < w → f k ≡ 0
  pub fro : ((k : ℕ) → n ≤ k → k < w → f k ≡ 0) → sum ≡ 0

pub zero_none : {f : ℕ → ℕ} {n : ℕ} (w : ℕ) → w ≡ n → ZeroIf f n w 0
zero_none w e = record { to = λ z k l h. absurd (omega arith); fro = λ z. omega arith }

pub zero_more : {f : ℕ → ℕ} {n w v sum x : ℕ} → n ≤ w → v ≡ w + 1 → x ≡ f w → ZeroIf f n w sum → ZeroIf f n v (sum + x)
zero_more {w = w} h next e is = record {
  to = λ z k l b. same_or k w (λ s. rw s (omega arith)) (λ d. is.to (omega arith) k l (omega arith));
  fro = λ z. omega (arith, is.fro (λ k l b. z k l (omega arith)), z w h (omega arith));
}

pub zero_cleared : {image : List ℕ} {n w sum : ℕ} → w ≡ 256 → ZeroIf (word image map_sector) n w sum → Decides (eqb sum 0) (Cleared image n)
zero_cleared {sum = sum} e is = decides_eq sum 0
    (λ z. record { each = λ k l b. is.to z k l (omega arith) })
    (λ c. is.fro (λ k l b. c.each k l (omega arith)))

pub zero_free : {marks : List ℕ} {from n count sum : ℕ} → n ≡ count → ZeroIf (λ k. get_or marks k 0) from (from + n) sum → Decides (eqb sum 0) (Free marks from count)
zero_free {marks} {from} {sum = sum} e is = decides_eq sum 0
    (λ z. record { each = λ i h. is.to z (from + i) (omega arith) (omega arith) })
    (λ free. is.fro (λ k l b. ap (λ (i : ℕ). get_or marks i 0) (let f : k ≡ from + (k - from) = omega arith in f) ∙ free.each (k - from) (omega arith)))
