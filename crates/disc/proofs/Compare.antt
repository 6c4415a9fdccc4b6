-- How two numbers compare, with what that says.
use mathlib.Core.Path.{◌≡◌, refl, ap}
use mathlib.Core.Logic.{◌≢◌}
use Prim.Native.Nat.compare
use Prim.Native.Nat.{ℕ, zero, suc, ◌≤◌, ◌<◌, suc-le-suc, compare, Ordering}
use native.Mathlib.Omega.{arith}

pub data Tri (n m : ℕ) : Ordering → Type 0 where
  less : n < m → Tri n m Ordering.lt
  same : n ≡ m → Tri n m Ordering.eq
  more : m < n → Tri n m Ordering.gt

tri_suc : {n m : ℕ} {o : Ordering} → Tri n m o → Tri (suc n) (suc m) o
tri_suc (less h) = less (suc-le-suc h)
tri_suc (same e) = same (ap suc e)
tri_suc (more h) = more (suc-le-suc h)

pub tri : (n m : ℕ) → Tri n m (compare n m)
tri zero zero = rw compare.zero-zero (same refl)
tri zero (suc m) = rw compare.zero-suc (less (omega arith))
tri (suc n) zero = rw compare.suc-zero (more (omega arith))
tri (suc n) (suc m) = rw compare.suc-suc (tri_suc (tri n m))

-- Three cases: below, equal, above.
pub compare_cases : (n m : ℕ) (C : Ordering → Type 0) → (n < m → C Ordering.lt) → (n ≡ m → C Ordering.eq) → (m < n → C Ordering.gt) → C (compare n m)
compare_cases n m C below equal above = go (compare n m) (tri n m)
  where
    go : (o : Ordering) → Tri n m o → C o
    go o (less h) = below h
    go o (same e) = equal e
    go o (more h) = above h

pub tri_less : {n m : ℕ} → n < m → compare n m ≡ Ordering.lt
tri_less {n} {m} h = compare_cases n m (λ o. o ≡ Ordering.lt) (λ k. refl) (λ k. absurd (omega arith)) (λ k. absurd (omega arith))

pub tri_more : {n m : ℕ} → m < n → compare n m ≡ Ordering.gt
tri_more {n} {m} h = compare_cases n m (λ o. o ≡ Ordering.gt) (λ k. absurd (omega arith)) (λ k. absurd (omega arith)) (λ k. refl)

pub tri_same : (n : ℕ) → compare n n ≡ Ordering.eq
tri_same n = compare_cases n n (λ o. o ≡ Ordering.eq) (λ k. absurd (omega arith)) (λ k. refl) (λ k. absurd (omega arith))

-- Two cases: equal or not.
pub same_or : (k n : ℕ) {C : Type 0} → (k ≡ n → C) → (k ≢ n → C) → C
same_or k n {C} f g = compare_cases k n (λ _. C) (λ h. g (omega arith)) f (λ h. g (omega arith))

-- Two cases: below or not.
pub below_or : (k n : ℕ) {C : Type 0} → (k < n → C) → (n ≤ k → C) → C
below_or k n {C} f g = compare_cases k n (λ _. C) f (λ e. g (omega arith)) (λ h. g (omega arith))
