-- The words that `map_word` gives make the map of a unit.
use mathlib.Core.Path.{◌≡◌, ap, ◌∙◌}
use mathlib.Core.List.{List}
use Prim.Native.Nat.{ℕ, zero, suc, ◌+◌, ◌-◌, ◌*◌, ◌/◌, ◌%◌, ◌^◌, ◌≤◌, ◌<◌}
use native.Mathlib.Nat.{mul-le-mul, mul-le-mul_right, pow-succ'}
use native.Mathlib.Omega.{arith}
use lib.Pow.{high}
use Rattle.disc.specs.Words.{word}
use Rattle.disc.specs.Kit.{map_sector}
use Rattle.disc.specs.Slices.{in_unit, occurrences, one_if_none, InRangeOnce}
use Rattle.disc.specs.Map.{map_bit, map_bits, map_word, MapOf}
use Rattle.disc.proofs.SliceLaws.{in_unit_le}
use Rattle.map.proofs.Digits.{digit, digit_low}

-- slice k's bit in the map of a unit with m slices
abbrev pub free_bit : ℕ → List ℕ → ℕ → ℕ
free_bit m held k = in_unit m k * one_if_none (occurrences k held)

none_le : (x : ℕ) → one_if_none x ≤ 1
none_le zero = omega arith
none_le (suc x) = omega arith

pub free_bit_le : (m : ℕ) (held : List ℕ) (k : ℕ) → free_bit m held k ≤ 1
free_bit_le m held k = mul-le-mul (in_unit_le m k) (none_le (occurrences k held))

-- n bits are a number of n digits
pub map_bits_lt : (m : ℕ) (held : List ℕ) (n k : ℕ) → map_bits m held n k < 2 ^ n
map_bits_lt m held zero k = omega arith
map_bits_lt m held (suc n) k =
    omega (arith, pow-succ' 2 n, mul-le-mul_right (2 ^ n) (free_bit_le m held k), map_bits_lt m held n (suc k))

pub map_word_lt : (m : ℕ) (held : List ℕ) (w : ℕ) → map_word m held w < 65536
map_word_lt m held w = map_bits_lt m held 16 (16 * w + 1)

-- and each is its digit
map_bits_digit : (m : ℕ) (held : List ℕ) (n k b : ℕ) → b < n → digit (map_bits m held n k) (n - 1 - b) ≡ free_bit m held (k + b)
map_bits_digit m held zero k b h = absurd (omega arith)
map_bits_digit m held (suc n) k zero h =
    let top : suc n - 1 - 0 ≡ n = omega arith in
    let here : k + 0 ≡ k = omega arith in
    ap (digit (map_bits m held (suc n) k)) top
    ∙ ap (λ (x : ℕ). x % 2) (high (free_bit m held k) n (map_bits_lt m held n (suc k)))
    ∙ omega (arith, free_bit_le m held k, ap (free_bit m held) here)
map_bits_digit m held (suc n) k (suc b) h =
    let down : suc n - 1 - suc b ≡ n - 1 - b = omega arith in
    let next : suc k + b ≡ k + suc b = omega arith in
    ap (digit (map_bits m held (suc n) k)) down
    ∙ digit_low (free_bit m held k) n (map_bits m held n (suc k)) (n - 1 - b) (omega arith)
    ∙ map_bits_digit m held n (suc k) b (omega arith) ∙ ap (free_bit m held) next

-- a slice that is in the unit at least as often as it is held
free_or_held : (i x : ℕ) → x ≤ i → i ≤ 1 → i * one_if_none x + x ≡ i
free_or_held i zero h l = omega arith
free_or_held i (suc x) h l = omega arith

-- a sector 9 of these words is the map of the held slices
pub map_of_words : (image : List ℕ) (m : ℕ) (held : List ℕ) → InRangeOnce m held
    → ((w : ℕ) → w < 256 → word image map_sector w ≡ map_word m held w) → MapOf image m held
unfolding map_bit
map_of_words image m held once words k a b =
    let w : ℕ = (k - 1) / 16 in
    let c : ℕ = (k - 1) % 16 in
    let slice : 16 * w + 1 + c ≡ k = omega arith in
    let bit : map_bit image k ≡ free_bit m held k =
    ap (λ (x : ℕ). digit x (15 - c)) (words w (omega arith)) ∙ map_bits_digit m held 16 (16 * w + 1) c (omega arith) ∙ ap (free_bit m held) slice in
    omega (arith, bit, free_or_held (in_unit m k) (occurrences k held) (once k) (in_unit_le m k))
