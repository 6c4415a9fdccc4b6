-- A file's slices are known by its index block, which is held as a value; each function promises its write for every slice list that
-- the block stands for.
use Rattle.std.specs.Prelude.{◌≡◌, List, ℕ, ◌+◌, ◌*◌, ◌≤◌, ◌<◌, length}
use Rattle.disc.specs.Slices.{InRangeOnce}
use Rattle.disc.specs.Stretches.{stretch_count}
use Rattle.index.specs.Block.{whole_index}

-- The block is that of a file's slices, none of them twice and each one of the unit's 1 to m: "Slice k (1 to M) starts at sector
-- F + (k - 1) times s."
pub record SliceBlock (block : List ℕ) (F s m : ℕ) (slices : List ℕ) : Type 0 where
  pub size : 2 ≤ s
  pub most : m ≤ 4096
  pub top : F + s * m < 65536
  pub words : block ≡ whole_index F s slices
  pub few : stretch_count slices ≤ 127
  pub once : InRangeOnce m slices

-- The image has the sectors of all of the unit's slices.
pub record FileBlock (image block : List ℕ) (F s m : ℕ) (slices : List ℕ) : Type 0 where
  pub own : SliceBlock block F s m slices
  pub long : 2560 ≤ length image
  pub sectors : (F + s * m) * 256 ≤ length image
