-- "Sectors that join are zero."
use Rattle.std.specs.Prelude.{◌≡◌, List, ℕ, ◌+◌, ◌*◌, ◌≤◌, ◌<◌, length}
use Rattle.refine.specs.Writes.{zeroed_sectors}
use Rattle.slices.specs.FileBlock.{FileBlock}

-- The n sectors from joined sector `from` on are the file's; nothing is asked of none.
pub record CanZeroFrom (image block : List ℕ) (from n F s m : ℕ) (slices : List ℕ) : Type 0 where
  pub file : FileBlock image block F s m slices
  pub room : 0 < n → from + n ≤ s * length slices

pub record CanZero (image block : List ℕ) (from n : ℕ) : Type 0 where
  pub F : ℕ
  pub s : ℕ
  pub m : ℕ
  pub slices : List ℕ
  pub can : CanZeroFrom image block from n F s m slices

pub record Zeroed (image block : List ℕ) (from n : ℕ) (after : List ℕ) : Type 0 where
  pub all : (F s m : ℕ) (slices : List ℕ) → CanZeroFrom image block from n F s m slices → after ≡ zeroed_sectors image F s slices from n
