-- Marks that stand for slices of a unit.
use Rattle.std.specs.Prelude.{◌≡◌, Bool, true, false, List, ℕ, zero, suc, ◌+◌, ◌<◌, get_or, set}
use Rattle.disc.specs.Slices.{InRangeOnce}
use Rattle.sound.specs.Parts.{MarksOf}

-- The marks are those of a list of slices, each one of the unit's m slices and standing once: "No slice is in two files or twice
-- in one".
pub record Marked (m : ℕ) (marks slices : List ℕ) : Type 0 where
  pub is : MarksOf marks slices
  pub once : InRangeOnce m slices

-- Some list is that one.
pub record SomeMarked (m : ℕ) (marks : List ℕ) : Type 0 where
  pub slices : List ℕ
  pub marked : Marked m marks slices

-- None of the slices from + 1 to from + count is marked.
pub record Free (marks : List ℕ) (from count : ℕ) : Type 0 where
  pub each : (i : ℕ) → i < count → get_or marks (from + i) 0 ≡ 0

-- The marks once those slices are marked.
unfoldable pub run_marks : List ℕ → ℕ → ℕ → List ℕ
run_marks marks from zero = marks
run_marks marks from (suc n) = set (run_marks marks from n) (from + n) 1

-- They are marked if none was; else nothing is changed.
pub record RunMarking (answer : Bool) (from count : ℕ) (before after : List ℕ) : Type 0 where
  pub yes : answer ≡ true → Free before from count × (after ≡ run_marks before from count)
  pub not : answer ≡ false → (Free before from count → ⊥) × (after ≡ before)
