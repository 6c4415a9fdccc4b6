-- Laws of the layout's formulas: quotients rounded up, the slices that a file needs, and the slice of a slice's first sector.
use mathlib.Core.Path.{◌≡◌, ap, ◌∙◌}
use mathlib.Core.Logic.{◌↔◌}
use Prim.Native.Nat.{ℕ, zero, suc, ◌+◌, ◌-◌, ◌*◌, ◌/◌, ◌≤◌, ◌<◌}
use native.Mathlib.Nat.{div-eq_of_lt, add-div_right, div-lt_iff_lt-mul, div-mul-le_self, le-div_iff_mul-le, mul-div_cancel, mul-le-mul_left}
use native.Mathlib.Omega.{arith}
use Rattle.disc.specs.Numbers.{ceil_div, need, slice_start}

pub div_mono : (s : ℕ) {a b : ℕ} → 0 < s → a ≤ b → a / s ≤ b / s
div_mono s {a} {b} pos le = (le-div_iff_mul-le pos).1 (omega (arith, div-mul-le_self a s))

pub ceil_div_mono : (s : ℕ) {a b : ℕ} → 0 < s → a ≤ b → ceil_div a s ≤ ceil_div b s
ceil_div_mono s pos le = div_mono s pos (omega arith)

-- at most s more is at most one more
pub ceil_div_step : (s a b : ℕ) → 0 < s → b ≤ a + s → ceil_div b s ≤ ceil_div a s + 1
ceil_div_step s a b pos le =
    omega (arith, div_mono s {a = b + (s - 1)} {b = a + (s - 1) + s} pos (omega arith), add-div_right (a + (s - 1)) pos)

pub ceil_div_one : (s : ℕ) {a : ℕ} → 0 < s → a ≤ s → ceil_div a s ≤ 1
ceil_div_one s {a} pos le = omega (arith, (div-lt_iff_lt-mul {k = s} {x = a + (s - 1)} {y = 2} pos).1 (omega arith))

-- One sector more needs at most one slice more: the first slice serves the index block and the first sector.
pub need_suc : (s n : ℕ) → 2 ≤ s → need s (suc n) ≤ need s n + 1
need_suc s zero le = omega (arith, ceil_div_one s {a = 2} (omega arith) le)
need_suc s (suc n) le = ceil_div_step s (suc n + 1) (suc (suc n) + 1) (omega arith) (omega arith)

-- ---- without the rounding

pub ceil_div_none : (b : ℕ) → 1 ≤ b → ceil_div 0 b ≡ 0
ceil_div_none b h = div-eq_of_lt (omega arith)

pub ceil_div_some : (a b : ℕ) → 1 ≤ b → 1 ≤ a → ceil_div a b ≡ (a - 1) / b + 1
ceil_div_some a b h k =
    let e : a + (b - 1) ≡ (a - 1) + b = omega arith in
    ap (λ (n : ℕ). n / b) e ∙ add-div_right (a - 1) h

-- a quotient rounded up is at most k exactly if k divisors are enough
pub ceil_div_le : (a b k : ℕ) → 1 ≤ b → (ceil_div a b ≤ k) ↔ (a ≤ k * b)
ceil_div_le a b k h =
    let i : (ceil_div a b < k + 1) ↔ (a + (b - 1) < (k + 1) * b) = div-lt_iff_lt-mul h in
    let e : (k + 1) * b ≡ k * b + b = omega arith in (
      λ l. let m : a + (b - 1) < (k + 1) * b = i.0 (omega arith) in omega arith,
      λ l. let m : ceil_div a b < k + 1 = i.1 (omega arith) in omega arith,
    )

pub need_some : (s n : ℕ) → 1 ≤ s → 1 ≤ n → need s n ≡ n / s + 1
need_some s zero h k = absurd (omega arith)
need_some s (suc n) h k = ceil_div_some (suc n + 1) s h (omega arith) ∙ ap (λ (m : ℕ). m / s + 1) (omega arith)

-- k slices are enough for n sectors exactly if they have room for the sectors and the index block
pub need_le : (s n k : ℕ) → 1 ≤ s → 1 ≤ n → (need s n ≤ k) ↔ (n + 1 ≤ k * s)
need_le s zero k h m = absurd (omega arith)
need_le s (suc n) k h m = ceil_div_le (suc n + 1) s k h

-- a quotient by 2 or more is at most half
pub quotient_lt : (n s m : ℕ) → 2 ≤ s → n < 2 * m → n / s < m
quotient_lt n s m h l = (div-lt_iff_lt-mul {k = s} {x = n} {y = m} (omega arith)).1 (omega (arith, mul-le-mul_left m h))

pub slice_of_start : (F s k : ℕ) → 1 ≤ s → 1 ≤ k → (slice_start F s k - F) / s + 1 ≡ k
slice_of_start F s k h l =
    let e : slice_start F s k - F ≡ (k - 1) * s = omega arith in
    let d : (k - 1) * s / s ≡ k - 1 = mul-div_cancel (k - 1) h in
    let f : (slice_start F s k - F) / s ≡ k - 1 = ap (λ (n : ℕ). n / s) e ∙ d in
    omega arith
