-- A filter of names: 4,096 words of 64 bits. Each name has three bits of one word, or fewer, by a number that is mixed from its words;
-- other names may have the same ones.
use Rattle.std.specs.Prelude.{◌≡◌, Bool, false, List, ℕ, ◌+◌, ◌*◌, ◌/◌, ◌%◌, ◌^◌, length, get_or}
use Rattle.std.specs.Int.Bits.{bit_and, bit_or}

-- The number mixed from a name's three words.
abbrev pub mixed : ℕ → ℕ
mixed n = n / 0x100000000 * 173961102589770 + n / 65536 % 65536 * 9202655381969 + n % 65536 * 836226975143

-- The word and the bits in it, by a mixed number.
abbrev pub cell_by : ℕ → ℕ
cell_by x = x / 1048576 % 4096

unfoldable pub mask_by : ℕ → ℕ
mask_by x = bit_or (bit_or (2 ^ (x / 4294967296 % 64)) (2 ^ (x / 16384 % 64))) (2 ^ (x / 256 % 64))

-- All bits of the name n are set.
pub record Has (filter : List ℕ) (n : ℕ) : Type 0 where
  pub bits : bit_and (get_or filter (cell_by (mixed n)) 0) (mask_by (mixed n)) ≡ mask_by (mixed n)

-- The name n is in the filter now, and so is every name that was; where the answer is false, n was not.
pub record Noted (answer : Bool) (filter after : List ℕ) (n : ℕ) : Type 0 where
  pub size : length after ≡ 4096
  pub new : answer ≡ false → Has filter n → ⊥
  pub has : Has after n
  pub kept : (m : ℕ) → Has filter m → Has after m
