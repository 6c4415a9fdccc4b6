-- Laws of attributes: a word with the mask of the bits that a file may have is the sum of those that it has; bit 13 beside slices.
use Rattle.std.proofs.Common.{Bool, true, false, not, ◌&&◌, refl, ◌≡◌, ℕ, zero, suc, ◌+◌, ◌*◌, ◌/◌, ◌%◌, ◌<◌, ap, nat_eq, ◌∙◌, arith}
use Rattle.std.specs.Int.Bits.{bit_and}
use Rattle.std.proofs.lemmas.Nat.{and_block, and_mask}
use Rattle.std.proofs.lemmas.Nat.Bits.{and_pow}
use Rattle.std.proofs.lemmas.Bool.{lt-ltb}
use Rattle.disc.specs.Attributes.{word_if, bit_in, entry_only, legal_with}

word_if_lem : (x v : ℕ) → x < 2 → word_if (nat_eq x 1) v ≡ v * x
word_if_lem zero v h = omega arith
word_if_lem (suc zero) v h = omega arith
word_if_lem (suc (suc x)) v h = absurd (omega arith)

-- the mask's one high bit, its three bits from place 2 on, and its lowest one
mask : (a : ℕ) → bit_and a 0x401D ≡ a / 32 / 512 % 2 * 512 * 32 + (a / 4 % 8 * 4 + a % 4 % 2)
mask a =
    let e : a ≡ a / 32 * 32 + (a % 32 / 4 * 4 + a % 4) = omega arith in
    ap (λ (n : ℕ). bit_and n 0x401D) e
    ∙ and_block 5 (a / 32) 512 (a % 32 / 4 * 4 + a % 4) 29 (omega arith) (omega arith)
    ∙ rw (and_pow (a / 32) 9, and_block 2 (a % 32 / 4) 7 (a % 4) 1 (omega arith) (omega arith), and_mask (a % 32 / 4) 3, and_mask (a % 4) 1) (omega arith)

pub own_bits : (a : ℕ) → bit_and a 0x401D ≡ bit_in 1 a + bit_in 11 a + bit_in 12 a + bit_in 13 a + bit_in 15 a
own_bits a =
    omega (
      arith,
      mask a,
      word_if_lem (a / 16384 % 2) 16384 (omega arith),
      word_if_lem (a / 16 % 2) 16 (omega arith),
      word_if_lem (a / 8 % 2) 8 (omega arith),
      word_if_lem (a / 4 % 2) 4 (omega arith),
      word_if_lem (a / 1 % 2) 1 (omega arith),
    )

-- ---- bit 13, beside slices

pub with_some : (a slices : ℕ) → (slices ≡ 0 → ⊥) → not (entry_only a) ≡ legal_with a slices
with_some a slices d = rw (lt-ltb 0 slices (omega arith)) (go (entry_only a))
  where
    go : (b : Bool) → not b ≡ not (b && true)
    go true = refl
    go false = refl
