-- The lowest stretch of neighbouring free slices, and what a search for it has found when it has passed a part of the map.
use Rattle.std.specs.Prelude.{◌≡◌, List, ℕ, ◌+◌, ◌/◌, ◌%◌, ◌≤◌, ◌<◌, Option, Some, None}
use Rattle.types.specs.declared.Slice.{Slice}
use Rattle.disc.specs.Decide.{Decides}
use Rattle.disc.specs.Numbers.{bit_word, bit}
use Rattle.disc.specs.Map.{map_bit}

-- The n slices from k on are slices of the map, and each is marked free.
pub record FreeFrom (image : List ℕ) (n k : ℕ) : Type 0 where
  pub low : 1 ≤ k
  pub high : k + n ≤ 4097
  pub free : (j : ℕ) → k ≤ j → j < k + n → map_bit image j ≡ 1

-- "The lowest stretch of as many neighbouring free slices as it needs, if there is one" (document 02, R-6): the answer is
-- the lowest slice at which n free ones begin; none only if there is none.
pub record FindsStretch (image : List ℕ) (n : ℕ) (r : Option Slice) : Type 0 where
  pub found : (k : Slice) → r ≡ Some k → FreeFrom image n k.0
  pub lowest : (k : Slice) → r ≡ Some k → (j : ℕ) → FreeFrom image n j → k.0 ≤ j
  pub none : r ≡ None → (j : ℕ) → FreeFrom image n j → ⊥

-- A search that has passed the first e slices: those after `start`, up to n of them, are free, and at no slice up to
-- `start` do n free ones begin.
pub record Passed (image : List ℕ) (n e start : ℕ) : Type 0 where
  pub within : start ≤ e
  pub free : (j : ℕ) → start < j → j ≤ start + n → j ≤ e → map_bit image j ≡ 1
  pub none : (j : ℕ) → j ≤ start → FreeFrom image n j → ⊥

-- The n bits of the word x from bit b on are bits of the word, and each is one.
pub record OnesFrom (x n b : ℕ) : Type 0 where
  pub high : b + n ≤ 16
  pub ones : (i : ℕ) → b ≤ i → i < b + n → x / bit_word i % 2 ≡ 1

-- Bit b of r is one exactly if n ones of the word x begin at bit b.
pub record Beginnings (x n r : ℕ) : Type 0 where
  pub at : (b : ℕ) → b < 16 → Decides (bit b r) (OnesFrom x n b)
