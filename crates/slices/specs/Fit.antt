-- "8. At most 127 stretches in each? 1008h", asked before anything is written.
use Rattle.std.specs.Prelude.{List, ◌++◌, Bool, ℕ, ◌+◌, ◌≤◌}
use Rattle.disc.specs.Decide.{Decides}
use Rattle.disc.specs.Slices.{taken, last_of}
use Rattle.disc.specs.Stretches.{stretch_count}
use Rattle.disc.specs.OneStretch.{taken_for_file}
use Rattle.slices.specs.declared.Growth.{Growth}
use Rattle.slices.specs.Take.{CanTakeFrom}

-- The slices of a catalog and of a file are among those held, and there are free ones enough for both together.
pub record CanFitFrom (image : List ℕ) (F s m : ℕ) (catalog file : Growth) (held catalog_slices file_slices : List ℕ) : Type 0 where
  pub first : CanTakeFrom image catalog.block.words F s m (catalog.more + file.more) held catalog_slices
  pub second : CanTakeFrom image file.block.words F s m (catalog.more + file.more) held file_slices

pub record CanFit (image : List ℕ) (F s m : ℕ) (catalog file : Growth) : Type 0 where
  pub held : List ℕ
  pub catalog_slices : List ℕ
  pub file_slices : List ℕ
  pub can : CanFitFrom image F s m catalog file held catalog_slices file_slices

-- "SYS takes before the file takes": whether each would have at most 127 stretches with the slices that it takes.
pub record Fits (image : List ℕ) (F s m : ℕ) (catalog file : Growth) (r : Bool) : Type 0 where
  pub all : (held catalog_slices file_slices : List ℕ) → CanFitFrom image F s m catalog file held catalog_slices file_slices
      → let catalog_new = taken m held (last_of catalog_slices) catalog.more in
      let file_new = taken_for_file m (catalog_new ++ held) file_slices file.more in
      Decides r ((stretch_count (catalog_slices ++ catalog_new) ≤ 127) × (stretch_count (file_slices ++ file_new) ≤ 127))
