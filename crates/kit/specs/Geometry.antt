-- The numbers of a unit as one value: those of its kit, and the number of its slices.
use Rattle.std.specs.Prelude.{◌≡◌, List, ℕ, ◌*◌, length}
use Rattle.disc.specs.Numbers.{slice_count}
use Rattle.disc.specs.Words.{word}
use Rattle.disc.specs.Kit.{kit_sector, Limits}
use Rattle.sound.specs.Parts.{SoundKit}
use Rattle.kit.specs.declared.Geometry.{Geometry}

-- "Kit words 0 to 5: H (SYS size), s (sectors in a slice), N (sectors), free sectors, F (first data sector), top = N";
-- "M = (N - F) / s".
pub record GeometryOf (image : List ℕ) (g : Geometry) : Type 0 where
  pub keys : g.keys ≡ word image kit_sector 0
  pub slice : g.slice ≡ word image kit_sector 1
  pub first : g.first.0 ≡ word image kit_sector 4
  pub sectors : g.sectors ≡ word image kit_sector 2
  pub slices : g.slices ≡ slice_count g.slice g.first.0 g.sectors

-- "The image has 256 times N words", and the numbers are within limits: every sector that they name is in the image.
pub record UnitOf (image : List ℕ) (g : Geometry) : Type 0 where
  pub size : length image ≡ 256 * g.sectors
  pub limits : Limits g.keys g.slice g.first.0 g.sectors
  pub slices : g.slices ≡ slice_count g.slice g.first.0 g.sectors

-- The rules of a sound unit on image length, kit, limits, free sectors and MAP's index, with H, s, F and N as they stand in the
-- kit.
abbrev pub SoundByKit : List ℕ → Type 0
SoundByKit image =
    SoundKit image (word image kit_sector 0) (word image kit_sector 1) (word image kit_sector 4) (word image kit_sector 2)
