-- Binary digits, the lowest 0: one digit of a number replaced, the digits that `ones` counts, and a word's leading zeros.
use mathlib.Core.Path.{◌≡◌, refl, sym, ap, ◌∙◌}
use mathlib.Core.Logic.{◌≢◌}
use Prim.Native.Nat.{ℕ, zero, suc, ◌+◌, ◌-◌, ◌*◌, ◌/◌, ◌%◌, ◌^◌, ◌≤◌, ◌<◌}
use native.Mathlib.Nat.{add-zero, add-suc, mul_left_comm, mul-le-mul_right, mod-le, le_trans, div-mul-le_self, div-one, div-eq_of_lt, pow-succ'}
use native.Mathlib.Numerals.{add-one}
use native.Mathlib.Omega.{arith}
use lib.Count.{ones, ones_step, ones-le, count_leading_zeros, leading_length}
use lib.Pow.{shr-shr, pow_mono}

abbrev pub digit : ℕ → ℕ → ℕ
digit x e = x / 2 ^ e % 2

-- x with digit e made v
abbrev pub with_digit : ℕ → ℕ → ℕ → ℕ
with_digit e v x = x - digit x e * 2 ^ e + v * 2 ^ e

pub digit_zero : (x : ℕ) → digit x 0 ≡ x % 2
digit_zero x = rw div-one

pub digit_suc : (x e : ℕ) → digit x (suc e) ≡ digit (x / 2) e
digit_suc x e = ap (λ (y : ℕ). y % 2) (ap (λ (k : ℕ). x / 2 ^ k) (omega arith) ∙ sym (shr-shr x 1 e))

-- what a digit adds to its number
pub digit_share : (x e : ℕ) → digit x e * 2 ^ e ≤ x
digit_share x e = le_trans (mul-le-mul_right (2 ^ e) (mod-le (x / 2 ^ e) 2)) (div-mul-le_self x (2 ^ e))

double : (a e : ℕ) → a * 2 ^ suc e ≡ 2 * (a * 2 ^ e)
double a e = ap (λ (p : ℕ). a * p) (pow-succ' 2 e) ∙ mul_left_comm a 2 (2 ^ e)

-- the lowest digit stays, and the rest is the rest's number with the digit made v
with_suc : (e v x : ℕ) → with_digit (suc e) v x ≡ 2 * with_digit e v (x / 2) + x % 2
with_suc e v x =
    omega (arith, double (digit x (suc e)) e, double v e, ap (λ (d : ℕ). d * 2 ^ e) (digit_suc x e), digit_share (x / 2) e)

with_half : (e v x : ℕ) → with_digit (suc e) v x / 2 ≡ with_digit e v (x / 2)
with_half e v x = omega (arith, with_suc e v x)

module _ (v : ℕ) (bit : v ≤ 1) where
  pub with_same : (e x : ℕ) → digit (with_digit e v x) e ≡ v
  with_same zero x = omega arith
  with_same (suc e) x =
      digit_suc (with_digit (suc e) v x) e ∙ ap (λ (y : ℕ). digit y e) (with_half e v x) ∙ with_same e (x / 2)

  pub with_other : (e d x : ℕ) → d ≢ e → digit (with_digit e v x) d ≡ digit x d
  with_other zero zero x ne = absurd (ne refl)
  with_other zero (suc d) x ne =
      digit_suc (with_digit 0 v x) d ∙ ap (λ (y : ℕ). digit y d) (omega arith) ∙ sym (digit_suc x d)
  with_other (suc e) zero x ne = omega (arith, with_suc e v x)
  with_other (suc e) (suc d) x ne =
      digit_suc (with_digit (suc e) v x) d ∙ ap (λ (y : ℕ). digit y d) (with_half e v x)
      ∙ with_other e d (x / 2) (λ q. ne (ap suc q)) ∙ sym (digit_suc x d)

  pub with_lt : (e n x : ℕ) → e < n → x < 2 ^ n → with_digit e v x < 2 ^ n
  with_lt e zero x l h = absurd (omega arith)
  with_lt zero (suc n) x l h = omega arith
  with_lt (suc e) (suc n) x l h = omega (arith, with_suc e v x, with_lt e n (x / 2) (omega arith) (omega arith))

-- what stands above the lowest n digits does not change them
pub digit_low : (hi n lo e : ℕ) → e < n → digit (hi * 2 ^ n + lo) e ≡ digit lo e
digit_low hi zero lo e h = absurd (omega arith)
digit_low hi (suc n) lo zero h = omega (arith, double hi n)
digit_low hi (suc n) lo (suc e) h =
    let half : (hi * 2 ^ suc n + lo) / 2 ≡ hi * 2 ^ n + lo / 2 = omega (arith, double hi n) in
    digit_suc (hi * 2 ^ suc n + lo) e ∙ ap (λ (y : ℕ). digit y e) half
    ∙ digit_low hi n (lo / 2) e (omega arith) ∙ sym (digit_suc lo e)

-- the sum of bits 1 to n
abbrev pub count_to : (ℕ → ℕ) → ℕ → ℕ
count_to bits zero = 0
count_to bits (suc n) = bits (suc n) + count_to bits n

-- n bits after the first k that are the digits of x, the highest first: as many of them are one as `ones` counts
pub ones_count : (bits : ℕ → ℕ) (k n x : ℕ) → x < 2 ^ n → ((b : ℕ) → b < n → bits (k + b + 1) ≡ digit x (n - 1 - b))
    → count_to bits (k + n) ≡ ones x + count_to bits k
ones_count bits k zero x h same = rw add-zero (omega (arith, ones-le 0 x h))
ones_count bits k (suc n) x h same =
    rw add-suc (omega (arith, ap bits (add-one (k + n)), last, ones_count bits k n (x / 2) (omega arith) half, ones_step x))
  where
    last : bits (k + n + 1) ≡ x % 2
    last = same n (omega arith) ∙ ap (digit x) (let e : suc n - 1 - n ≡ 0 = omega arith in e) ∙ digit_zero x

    half : (b : ℕ) → b < n → bits (k + b + 1) ≡ digit (x / 2) (n - 1 - b)
    half b l =
        same b (omega arith) ∙ ap (digit x) (let e : suc n - 1 - b ≡ suc (n - 1 - b) = omega arith in e) ∙ digit_suc x (n - 1 - b)

-- the bits before a word's first one are 0
pub leading_digit : (x b : ℕ) → x < 2 ^ 16 → b < count_leading_zeros 16 x → digit x (15 - b) ≡ 0
leading_digit x b h l =
    let t = leading_length 16 x h in
    let g : 2 ^ t.0 ≤ 2 ^ (15 - b) = pow_mono (omega (arith, t.1)) in
    let d : x / 2 ^ (15 - b) ≡ 0 = div-eq_of_lt (omega (arith, t.2)) in
    ap (λ (n : ℕ). n % 2) d
