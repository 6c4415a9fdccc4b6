-- Digits under the operations on words: `&`, `<<` and `!`; a word's first one, and its last.
use mathlib.Core.Path.{◌≡◌, refl, sym, ap, ◌∙◌}
use Prim.Native.Nat.{ℕ, zero, suc, ◌+◌, ◌-◌, ◌*◌, ◌/◌, ◌%◌, ◌^◌, ◌≤◌, ◌<◌, min}
use native.Mathlib.Nat.{add-zero, div-lt_iff_lt-mul, le-div_iff_mul-le, pow-succ', zero-div}
use native.Mathlib.Omega.{arith}
use lib.Bits.{bit_and, and_shr, and_step}
use lib.Count.{count_leading_zeros, leading_top, leading_of_zero, count_trailing_zeros, under}
use lib.Pow.{pow_pos, split, shr-shr, shl-shr}
use Rattle.map.proofs.Digits.{digit, digit_zero, digit_suc, digit_low}

-- a digit of `a & b` is the lesser of the two
pub and_digit : (a b e : ℕ) → digit (bit_and a b) e ≡ min (digit a e) (digit b e)
and_digit a b e =
    ap (λ (x : ℕ). x % 2) (and_shr a b e)
    ∙ omega (arith, and_step (a / 2 ^ e) (b / 2 ^ e))

pub zero_digit : (e : ℕ) → digit 0 e ≡ 0
zero_digit e = ap (λ (y : ℕ). y % 2) (zero-div (2 ^ e))

-- digits of x << k in a word of n digits: x's, k places higher, and zeros below
pub shl_high : (x k n e : ℕ) → k ≤ e → e < n → digit (x * 2 ^ k % 2 ^ n) e ≡ digit x (e - k)
shl_high x k n e l h =
    sym (digit_low (x * 2 ^ k / 2 ^ n) n (x * 2 ^ k % 2 ^ n) e h) ∙ ap (λ (y : ℕ). digit y e) (split (x * 2 ^ k) n)
    ∙ ap (λ (d : ℕ). digit (x * 2 ^ k) d) (let f : e ≡ k + (e - k) = omega arith in f)
    ∙ ap (λ (y : ℕ). y % 2) (sym (shr-shr (x * 2 ^ k) k (e - k)) ∙ ap (λ (y : ℕ). y / 2 ^ (e - k)) (shl-shr x k))

pub shl_low : (x k n e : ℕ) → e < k → e < n → digit (x * 2 ^ k % 2 ^ n) e ≡ 0
shl_low x k n e l h =
    sym (digit_low (x * 2 ^ k / 2 ^ n) n (x * 2 ^ k % 2 ^ n) e h)
    ∙ ap (λ (y : ℕ). digit y e) (split (x * 2 ^ k) n ∙ sym (add-zero (x * 2 ^ k)))
    ∙ digit_low x k 0 e l ∙ zero_digit e

-- the digits of the complement
not_even : (p x : ℕ) → x < 2 * p → (2 * p - 1 - x) % 2 ≡ 1 - x % 2
not_even p x h = omega arith

not_half : (p x : ℕ) → x < 2 * p → (2 * p - 1 - x) / 2 ≡ p - 1 - x / 2
not_half p x h = omega arith

pub not_digit : (n x e : ℕ) → x < 2 ^ n → e < n → digit (2 ^ n - 1 - x) e ≡ 1 - digit x e
not_digit zero x e h l = absurd (omega arith)
not_digit (suc n) x zero h l =
    digit_zero (2 ^ suc n - 1 - x)
    ∙ ap (λ (p : ℕ). (p - 1 - x) % 2) (pow-succ' 2 n) ∙ not_even (2 ^ n) x (omega (arith, pow-succ' 2 n))
    ∙ ap (λ (d : ℕ). 1 - d) (sym (digit_zero x))
not_digit (suc n) x (suc e) h l =
    digit_suc (2 ^ suc n - 1 - x) e
    ∙ ap (λ (y : ℕ). digit y e) (ap (λ (p : ℕ). (p - 1 - x) / 2) (pow-succ' 2 n) ∙ not_half (2 ^ n) x (omega (arith, pow-succ' 2 n)))
    ∙ not_digit n (x / 2) e (omega (arith, pow-succ' 2 n)) (omega arith) ∙ ap (λ (d : ℕ). 1 - d) (sym (digit_suc x e))

-- the bit after the leading zeros is one
pub leading_some : (x : ℕ) → 1 ≤ x → x < 2 ^ 16 → count_leading_zeros 16 x < 16
leading_some x a h = omega (arith, (leading_top 16 x a h).1)

pub leading_one : (x : ℕ) → x < 2 ^ 16 → count_leading_zeros 16 x < 16 → digit x (15 - count_leading_zeros 16 x) ≡ 1
leading_one zero h l = absurd (omega (arith, leading_of_zero 16))
leading_one (suc x) h l =
    let t = leading_top 16 (suc x) (omega arith) h in
    let j = t.0 in
    let low : 1 ≤ suc x / 2 ^ j = (le-div_iff_mul-le (pow_pos j)).1 (omega (arith, t.2)) in
    let high : suc x / 2 ^ j < 2 = (div-lt_iff_lt-mul (pow_pos j)).1 (omega (arith, t.3, pow-succ' 2 j)) in
    ap (digit (suc x)) (let e : 15 - count_leading_zeros 16 (suc x) ≡ j = omega (arith, t.1) in e) ∙ omega arith

-- the digits below a word's lowest one are zeros, and then comes the one
pub trailing_digit : (k x e : ℕ) → e < count_trailing_zeros k x → digit x e ≡ 0
unfolding count_trailing_zeros
trailing_digit zero x e l = absurd (omega arith)
trailing_digit (suc k) x e l = go (x % 2) refl e l (trailing_digit k (x / 2))
  where
    t : ℕ
    t = count_trailing_zeros k (x / 2)

    go : (d : ℕ) → x % 2 ≡ d → (e : ℕ) → e < under d t → ((e : ℕ) → e < t → digit (x / 2) e ≡ 0) → digit x e ≡ 0
    go zero f zero l rest = digit_zero x ∙ f
    go zero f (suc e) l rest = digit_suc x e ∙ rest e (omega arith)
    go (suc d) f e l rest = absurd (omega arith)

pub trailing_one : (k x : ℕ) → count_trailing_zeros k x < k → digit x (count_trailing_zeros k x) ≡ 1
unfolding count_trailing_zeros
trailing_one zero x l = absurd (omega arith)
trailing_one (suc k) x l = go (x % 2) refl l (trailing_one k (x / 2))
  where
    t : ℕ
    t = count_trailing_zeros k (x / 2)

    go : (d : ℕ) → x % 2 ≡ d → under d t < suc k → (t < k → digit (x / 2) t ≡ 1) → digit x (under d t) ≡ 1
    go zero f l rest = digit_suc x t ∙ rest (omega arith)
    go (suc d) f l rest = digit_zero x ∙ omega arith
