-- A place among the joined sectors of a block that is walked along, from one pair to the next.
use Rattle.std.specs.Prelude.{◌≡◌, List, ℕ, ◌+◌, ◌-◌, ◌≤◌}
use Rattle.index.specs.declared.Reached.{Reached}
use Rattle.index.specs.Block.{pair_count, sector_from, joint_sector}

-- The pairs from pair j on are those after the first `before` joined sectors.
pub record Along (l : List ℕ) (j before : ℕ) : Type 0 where
  pub within : j ≤ pair_count l 0
  pub same : (b : ℕ) → sector_from l 0 (pair_count l 0 - j) j b ≡ joint_sector l 0 (before + b)

-- The joined sector b is told, and the walk can go on from it.
pub record Reaches (l : List ℕ) (b : ℕ) (r : Reached) : Type 0 where
  pub sector : r.sector.0 ≡ joint_sector l 0 b
  pub along : Along l r.pair r.before
  pub behind : r.before ≤ b
