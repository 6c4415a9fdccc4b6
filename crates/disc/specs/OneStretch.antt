-- New files in one stretch (document 02, R-6): the slices that a file takes.
use Rattle.std.specs.Prelude.{◌≡◌, List, [], ◌∷◌, ℕ, zero, suc, ◌+◌, ◌*◌, ◌≤◌, ◌<◌}
use Rattle.disc.specs.Slices.{in_unit, occurrences, one_if_none, lowest_one, taken, last_of}
use Rattle.disc.specs.Stretches.{span}

-- 1 where the n slices from k on are all slices of a unit with m slices, and free; else 0.
abbrev pub free_span : ℕ → List ℕ → ℕ → ℕ → ℕ
free_span m held zero k = 1
free_span m held (suc n) k = in_unit m k * one_if_none (occurrences k held) * free_span m held n (suc k)

-- "The lowest stretch of as many neighbouring free slices as it needs": the lowest slice at which n free ones begin; 0 if there is none.
unfoldable pub lowest_stretch : ℕ → List ℕ → ℕ → ℕ
lowest_stretch m held n = lowest_one (free_span m held n) m 1

-- "If there is one, and 01's old choice otherwise": the n slices from k on; the others where k is 0.
abbrev pub span_or : ℕ → ℕ → List ℕ → List ℕ
span_or zero n others = others
span_or (suc k) n others = span (suc k) n

-- n slices taken, beside the held ones, for a file with these slices: "for a file that has none" the lowest stretch, or 01's choice where
-- there is none; for any other 01's choice.
unfoldable pub taken_for_file : ℕ → List ℕ → List ℕ → ℕ → List ℕ
taken_for_file m held [] n = span_or (lowest_stretch m held n) n (taken m held 0 n)
taken_for_file m held (x ∷ l) n = taken m held (last_of (x ∷ l)) n

-- ---- the same without a search

-- Each of the n slices from k on is one of the unit's, and free.
abbrev pub FreeRun : ℕ → List ℕ → ℕ → ℕ → Type 0
FreeRun m held n k = (j : ℕ) → k ≤ j → j < k + n → (in_unit m j ≡ 1) × (occurrences j held ≡ 0)

-- n slices for a file that has none are those from k on, where k is the lowest slice at which n free ones begin; where n free ones begin
-- nowhere, and for a file that has slices, they are 01's choice.
pub record InOneStretch (m : ℕ) (held : List ℕ) (n : ℕ) : Type 0 where
  pub lowest : (k : ℕ) → 1 ≤ k → FreeRun m held n k → ((j : ℕ) → 1 ≤ j → FreeRun m held n j → k ≤ j) → taken_for_file m held [] n ≡ span k n
  pub nowhere : ((k : ℕ) → 1 ≤ k → FreeRun m held n k → ⊥) → taken_for_file m held [] n ≡ taken m held 0 n
  pub others : (x : ℕ) (l : List ℕ) → taken_for_file m held (x ∷ l) n ≡ taken m held (last_of (x ∷ l)) n
