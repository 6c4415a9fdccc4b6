-- "Gives back from the end": slices marked free, and the index block of those that are kept.
use Rattle.std.specs.Prelude.{◌≡◌, List, ℕ, ◌≤◌, ◌<◌, length, get_or, take, drop}
use Rattle.disc.specs.Numbers.{slice_start}
use Rattle.disc.specs.Stretches.{stretch_count, sector_in}
use Rattle.map.specs.Marks.{all_free}
use Rattle.index.specs.Block.{whole_index}
use Rattle.refine.specs.Writes.{cut_image}
use Rattle.slices.specs.FileBlock.{FileBlock}

-- ---- marking free

-- The block is that of this number of slices, each a bit of the map, with a start that is a word.
pub record CanFreeFrom (image block : List ℕ) (F s total : ℕ) (slices : List ℕ) : Type 0 where
  pub long : 2560 ≤ length image
  pub size : 2 ≤ s
  pub words : block ≡ whole_index F s slices
  pub few : stretch_count slices ≤ 127
  pub above : (j : ℕ) → j < length slices → 1 ≤ get_or slices j 0
  pub most : (j : ℕ) → j < length slices → get_or slices j 0 ≤ 4096
  pub starts : (j : ℕ) → j < length slices → slice_start F s (get_or slices j 0) < 65536
  pub count : length slices ≡ total

pub record CanFree (image block : List ℕ) (F s total : ℕ) : Type 0 where
  pub slices : List ℕ
  pub can : CanFreeFrom image block F s total slices

-- The slices past the first `keep` are marked free.
pub record Freed (image block : List ℕ) (F s keep total : ℕ) (after : List ℕ) : Type 0 where
  pub all : (slices : List ℕ) → CanFreeFrom image block F s total slices → after ≡ all_free image (drop keep slices)

-- ---- with the index block

-- A file with this number of slices.
pub record CanCutFrom (image block : List ℕ) (F s m total : ℕ) (slices : List ℕ) : Type 0 where
  pub file : FileBlock image block F s m slices
  pub count : length slices ≡ total

pub record CanCut (image block : List ℕ) (F s total : ℕ) : Type 0 where
  pub m : ℕ
  pub slices : List ℕ
  pub can : CanCutFrom image block F s m total slices

-- Of an ordinary file `keep` slices are left, if it has more.
pub record Cut (image block : List ℕ) (F s keep total : ℕ) (after new : List ℕ) : Type 0 where
  pub all : (m : ℕ) (slices : List ℕ) → CanCutFrom image block F s m total slices
      → (after ≡ cut_image image (sector_in F s (take keep slices) 0) F s slices keep) × (new ≡ whole_index F s (take keep slices))
