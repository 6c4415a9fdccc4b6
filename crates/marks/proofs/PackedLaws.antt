-- Laws of packed digits: sums, bounds, a run of ones, and that digits 0 and 1 are known by the number that they make.
use mathlib.Core.Path.{◌≡◌, refl, ap, ap₂, ◌∙◌}
use Prim.Native.Nat.{ℕ, zero, suc, ◌+◌, ◌-◌, ◌*◌, ◌/◌, ◌%◌, ◌^◌, ◌≤◌, ◌<◌}
use native.Mathlib.Nat.{add-zero, add-suc}
use native.Mathlib.Numerals.{add-one}
use native.Mathlib.Omega.{arith}
use Rattle.disc.proofs.Compare.{same_or}
use Rattle.map.proofs.Digits.{digit, digit_zero, digit_suc}
use Rattle.marks.specs.Packed.{packed}

-- one digit more
pub packed_none : (f : ℕ → ℕ) (at : ℕ) → packed f at 0 ≡ 0
unfolding packed
packed_none f at = refl

pub packed_more : (f : ℕ → ℕ) (at n : ℕ) → packed f at (n + 1) ≡ 2 * packed f at n + f (at + n)
unfolding packed
packed_more f at n = rw add-one

-- digits below 256 make a number below 255 times the power
pub packed_bound : (x d n : ℕ) → x + 255 ≤ 255 * 2 ^ n → d ≤ 255 → 2 * x + d + 255 ≤ 255 * 2 ^ (n + 1)
packed_bound x d n h l = rw add-one (omega arith)

-- the same digits
pub packed_same : (f g : ℕ → ℕ) (at n : ℕ) → ((b : ℕ) → b < n → f (at + b) ≡ g (at + b)) → packed f at n ≡ packed g at n
unfolding packed
packed_same f g at zero h = refl
packed_same f g at (suc n) h = ap₂ (λ (a b : ℕ). 2 * a + b) (packed_same f g at n (λ b l. h b (omega arith))) (h n (omega arith))

pub packed-sum : (f g : ℕ → ℕ) (at n : ℕ) → packed (λ i. f i + g i) at n ≡ packed f at n + packed g at n
unfolding packed
packed-sum f g at zero = refl
packed-sum f g at (suc n) = omega (arith, packed-sum f g at n)

-- digits 0 and 1 are known by their number
pub packed_unique : (f g : ℕ → ℕ) (at n : ℕ) → ((i : ℕ) → f i ≤ 1) → ((i : ℕ) → g i ≤ 1) → packed f at n ≡ packed g at n
    → (b : ℕ) → b < n → f (at + b) ≡ g (at + b)
unfolding packed
packed_unique f g at zero hf hg e b l = absurd (omega arith)
packed_unique f g at (suc n) hf hg e b l = same_or b n
    (λ s. rw s (omega (arith, hf (at + n), hg (at + n))))
    (λ d. packed_unique f g at n hf hg (omega (arith, hf (at + n), hg (at + n))) b (omega arith))

-- the digits of a number, the highest first, make the number
pub packed_digits : (f : ℕ → ℕ) (at n x : ℕ) → x < 2 ^ n → ((b : ℕ) → b < n → f (at + b) ≡ digit x (n - 1 - b)) → packed f at n ≡ x
unfolding packed
packed_digits f at zero x h same = omega arith
packed_digits f at (suc n) x h same = omega (arith, last, packed_digits f at n (x / 2) (omega arith) half)
  where
    last : f (at + n) ≡ x % 2
    last = same n (omega arith) ∙ ap (digit x) (let e : suc n - 1 - n ≡ 0 = omega arith in e) ∙ digit_zero x

    half : (b : ℕ) → b < n → f (at + b) ≡ digit (x / 2) (n - 1 - b)
    half b l =
        same b (omega arith) ∙ ap (digit x) (let e : suc n - 1 - b ≡ suc (n - 1 - b) = omega arith in e) ∙ digit_suc x (n - 1 - b)

-- ones, then zeros
pub packed_zeros : (f : ℕ → ℕ) (at n : ℕ) → ((b : ℕ) → b < n → f (at + b) ≡ 0) → packed f at n ≡ 0
unfolding packed
packed_zeros f at zero h = refl
packed_zeros f at (suc n) h = omega (arith, packed_zeros f at n (λ b l. h b (omega arith)), h n (omega arith))

pub packed_ones : (f : ℕ → ℕ) (at n : ℕ) → ((b : ℕ) → b < n → f (at + b) ≡ 1) → packed f at n + 1 ≡ 2 ^ n
unfolding packed
packed_ones f at zero h = omega arith
packed_ones f at (suc n) h = omega (arith, packed_ones f at n (λ b l. h b (omega arith)), h n (omega arith))

pub packed_edge : (f : ℕ → ℕ) (at e n : ℕ) → ((b : ℕ) → b < e → f (at + b) ≡ 1) → ((b : ℕ) → e ≤ b → b < e + n → f (at + b) ≡ 0)
    → packed f at (e + n) + 2 ^ n ≡ 2 ^ (e + n)
unfolding packed
packed_edge f at e zero one none = rw add-zero (packed_ones f at e one)
packed_edge f at e (suc n) one none =
    rw add-suc (omega (arith, packed_edge f at e n one (λ b p q. none b p (omega arith)), none (e + n) (omega arith) (omega arith)))
