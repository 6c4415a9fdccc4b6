-- Laws of `Beginnings`: the bits of a word at which n ones begin, joined to longer ones, and the first of them.
use mathlib.Core.Path.{◌≡◌, sym, ap, ◌∙◌}
use Prim.Native.Nat.{ℕ, ◌+◌, ◌-◌, ◌*◌, ◌%◌, ◌^◌, ◌≤◌, ◌<◌}
use native.Mathlib.Omega.{arith}
use lib.Bits.{bit_and}
use lib.Count.{count_leading_zeros}
use borrow.Author.Tests.{eq-eqb, ne_eqb}
use Rattle.disc.proofs.Compare.{same_or, below_or}
use Rattle.disc.proofs.DecideLaws.{decides_eq}
use Rattle.map.specs.Stretch.{OnesFrom, Beginnings}
use Rattle.map.proofs.Digits.{digit, leading_digit}
use Rattle.map.proofs.DigitOps.{and_digit, shl_high, shl_low, leading_one}

-- the contract at one bit, by the bit's digit
begins : (x n r b : ℕ) → Beginnings x n r → b < 16 → digit r (15 - b) ≡ 1 → OnesFrom x n b
begins x n r b s h e = (s.at b h).yes (eq-eqb (digit r (15 - b)) 1 e)

begun : (x n r b : ℕ) → Beginnings x n r → b < 16 → OnesFrom x n b → digit r (15 - b) ≡ 1
begun x n r b s h o = same_or (digit r (15 - b)) 1 (λ e. e) (λ d. absurd ((s.at b h).not (ne_eqb (digit r (15 - b)) 1 d) o))

-- one bit begins itself
pub begins_self : (x : ℕ) → Beginnings x 1 x
begins_self x = record {
  at = λ b h. decides_eq (digit x (15 - b)) 1
      (λ e. record { high = omega arith; ones = λ i p q. ap (λ (j : ℕ). digit x (15 - j)) (let f : i ≡ b = omega arith in f) ∙ e })
      (λ o. o.ones b (omega arith) (omega arith));
}

-- bit b of the word shifted s places is bit b + s
module _ (r s b : ℕ) (h : b < 16) where
  later : b + s < 16 → digit (r * 2 ^ s % 2 ^ 16) (15 - b) ≡ digit r (15 - (b + s))
  later l = shl_high r s 16 (15 - b) (omega arith) (omega arith) ∙ ap (digit r) (omega arith)

  later_in : digit (r * 2 ^ s % 2 ^ 16) (15 - b) ≡ 1 → b + s < 16
  later_in e = below_or (b + s) 16 (λ l. l) (λ g. absurd (omega (arith, shl_low r s 16 (15 - b) (omega arith) (omega arith))))

-- n ones that begin at bit b and n that begin s later are n + s ones
module _ (x n s b : ℕ) where
  ones_join : s ≤ n → OnesFrom x n b → OnesFrom x n (b + s) → OnesFrom x (n + s) b
  ones_join l o p = record {
    high = omega (arith, p.high);
    ones = λ i g h. below_or i (b + n) (λ k. o.ones i g k) (λ k. p.ones i (omega arith) (omega arith));
  }

  ones_first : OnesFrom x (n + s) b → OnesFrom x n b
  ones_first o = record { high = omega (arith, o.high); ones = λ i g h. o.ones i g (omega arith) }

  ones_second : OnesFrom x (n + s) b → OnesFrom x n (b + s)
  ones_second o = record { high = omega (arith, o.high); ones = λ i g h. o.ones i (omega arith) (omega arith) }

pub begins_join : (x n r s : ℕ) → Beginnings x n r → 1 ≤ n → s ≤ n → Beginnings x (n + s) (bit_and r (r * 2 ^ s % 2 ^ 16))
begins_join x n r s is a l = record { at = λ b h. decides_eq (digit (bit_and r (r * 2 ^ s % 2 ^ 16)) (15 - b)) 1 (to b h) (fro b h) }
  where
    to : (b : ℕ) → b < 16 → digit (bit_and r (r * 2 ^ s % 2 ^ 16)) (15 - b) ≡ 1 → OnesFrom x (n + s) b
    to b h e =
        let both = and_digit r (r * 2 ^ s % 2 ^ 16) (15 - b) in
        let second : digit (r * 2 ^ s % 2 ^ 16) (15 - b) ≡ 1 = omega arith in
        let inside = later_in r s b h second in
        ones_join x n s b l
        (begins x n r b is h (omega arith)) (begins x n r (b + s) is inside (sym (later r s b h inside) ∙ second))

    fro : (b : ℕ) → b < 16 → OnesFrom x (n + s) b → digit (bit_and r (r * 2 ^ s % 2 ^ 16)) (15 - b) ≡ 1
    fro b h o =
        let inside : b + s < 16 = omega (arith, o.high) in
        omega (
          arith,
          and_digit r (r * 2 ^ s % 2 ^ 16) (15 - b),
          begun x n r b is h (ones_first x n s b o),
          begun x n r (b + s) is inside (ones_second x n s b o),
          later r s b h inside,
        )

-- the first bit at which n ones begin, if there is one
pub first_begins : (x n r : ℕ) → r < 2 ^ 16 → Beginnings x n r → count_leading_zeros 16 r < 16 → OnesFrom x n (count_leading_zeros 16 r)
first_begins x n r h is l = begins x n r (count_leading_zeros 16 r) is l (leading_one r h l)

pub none_begins : (x n r b : ℕ) → r < 2 ^ 16 → 1 ≤ n → Beginnings x n r → b < count_leading_zeros 16 r → OnesFrom x n b → ⊥
none_begins x n r b h a is l o =
    omega (arith, leading_digit r b h l, begun x n r b is (omega (arith, o.high)) o)
