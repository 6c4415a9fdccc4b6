-- What a scan of the map has passed: the bits below a slice are all 0.
use mathlib.Core.Path.{◌≡◌, sym, ap, ◌∙◌}
use mathlib.Core.List.{List}
use Prim.Native.Nat.{ℕ, ◌+◌, ◌-◌, ◌*◌, ◌/◌, ◌%◌, ◌^◌, ◌<◌, compare, Ordering}
use native.Mathlib.Omega.{arith}
use lib.Count.{count_leading_zeros, leading_le}
use Rattle.disc.specs.Numbers.{bit_word}
use Rattle.disc.specs.Words.{word}
use Rattle.disc.specs.Kit.{map_sector}
use Rattle.disc.specs.Map.{map_bit}
use Rattle.disc.proofs.Compare.{Tri, less, same, more, tri, below_or}
use Rattle.map.proofs.Digits.{leading_digit}
use Rattle.map.proofs.CountLaws.{map_bit_at, map_bit_in}
use Rattle.map.proofs.ChoiceLaws.{NoneBelow}

module _ (image : List ℕ) where
  pub none_first : NoneBelow (map_bit image) 1
  none_first j p q = absurd (omega arith)

  -- the code's test of bit b of word w
  pub scan_bit : (w b p : ℕ) → b < 16 → p ≡ bit_word b → word image map_sector w / p % 2 ≡ map_bit image (16 * w + b + 1)
  scan_bit w b p h e = rw e (sym (map_bit_at image w b h))

  -- one bit more
  pub none_next : (k n : ℕ) → n ≡ k + 1 → NoneBelow (map_bit image) k → map_bit image k ≡ 0 → NoneBelow (map_bit image) n
  none_next k n e none this j p q = go (compare j k) (tri j k)
    where
      go : (o : Ordering) → Tri j k o → map_bit image j ≡ 0
      go o (less h) = none j p h
      go o (same h) = ap (map_bit image) h ∙ this
      go o (more h) = absurd (omega arith)

  -- the zeros before the first one of word w
  pub none_leading : (w : ℕ) → word image map_sector w < 2 ^ 16 → NoneBelow (map_bit image) (16 * w + 1)
      → NoneBelow (map_bit image) (16 * w + count_leading_zeros 16 (word image map_sector w) + 1)
  none_leading w h none j p q =
      let x = word image map_sector w in
      below_or (16 * w) j
      (λ l. map_bit_in image w j l (omega (arith, leading_le 16 x)) ∙ leading_digit x (j - 1 - 16 * w) h (omega arith))
      (λ l. none j p (omega arith))
