-- The pairs of an index block: "word 0 the count of descriptions, 1 to 127; then pairs, length in sectors and first
-- sector, one pair for each longest stretch of neighbouring slices in file order", said of the words pair by pair.
use Rattle.std.specs.Prelude.{◌≡◌, List, ◌≢◌, ℕ, suc, ◌+◌, ◌*◌, ◌-◌, ◌%◌, ◌≤◌, ◌<◌}
use Rattle.disc.specs.Words.{word}

-- The length in sectors, and the first sector, of pair j of the index block in sector q.
abbrev pub pair_length : List ℕ → ℕ → ℕ → ℕ
pair_length image q j = word image q (2 * j + 1)

abbrev pub pair_start : List ℕ → ℕ → ℕ → ℕ
pair_start image q j = word image q (2 * j + 2)

-- Pair j describes some whole slices, of s sectors each and the first one from sector F on.
pub record LegalPair (image : List ℕ) (F s q j : ℕ) : Type 0 where
  pub some : 1 ≤ pair_length image q j
  pub whole : pair_length image q j % s ≡ 0
  pub low : F ≤ pair_start image q j
  pub aligned : (pair_start image q j - F) % s ≡ 0

-- The count is legal, each pair is, and no pair starts where the one before it ends: each stretch is a longest one.
pub record LegalPairs (image : List ℕ) (F s q : ℕ) : Type 0 where
  pub some : 1 ≤ word image q 0
  pub few : word image q 0 ≤ 127
  pub each : (j : ℕ) → j < word image q 0 → LegalPair image F s q j
  pub apart : (j : ℕ) → suc j < word image q 0 → pair_start image q j + pair_length image q j ≢ pair_start image q (suc j)
