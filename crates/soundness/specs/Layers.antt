-- The rules of a sound unit in the two steps in which they are decided once the kit is read: SYS's slices and layers, and the rest.
use Rattle.std.specs.Prelude.{◌≡◌, List, ℕ, ◌*◌, ◌≤◌, length, Option, Some, IfSome}
use Rattle.types.specs.declared.State.{State}
use Rattle.disc.specs.Numbers.{ceil_div}
use Rattle.disc.specs.Slices.{InRangeOnce, first_of}
use Rattle.disc.specs.Kit.{sys_index_sector}
use Rattle.disc.specs.Entries.{place_count}
use Rattle.sound.specs.Places.{IndexBlock}
use Rattle.sound.specs.Sound.{SoundMap, all_slices}
use Rattle.kit.specs.declared.Geometry.{Geometry}
use Rattle.marks.specs.Marked.{Marked}
use Rattle.sound_entries.specs.Sys.{sys_slices, places_in, sys_with, SysNames}
use Rattle.sound_files.specs.Walk.{SysFiles}
use Rattle.soundness.specs.Areas.{AreasEntered}

-- "SYS has length H times L and H times L / s slices, rounded up, slice 1 first", its index as it must be.
pub record SysSound (image : List ℕ) (g : Geometry) (L : ℕ) : Type 0 where
  pub some : 1 ≤ L
  pub index : IndexBlock image g.first.0 g.slice sys_index_sector
  pub once : InRangeOnce g.slices (sys_slices image g)
  pub first : first_of (sys_slices image g) ≡ 1
  pub count : length (sys_slices image g) ≡ ceil_div (g.keys * L) g.slice

-- The answer is a number of layers that fits SYS's slices, which are marked then, or none; and no other number has sound names.
pub record SysMarking (image : List ℕ) (g : Geometry) (marks : List ℕ) (r : Option ℕ) : Type 0 where
  pub known : IfSome r (λ L. SysSound image g L × Marked g.slices marks (sys_slices image g))
  pub only : (L : ℕ) → SysSound image g L → SysNames image g L → r ≡ Some L

-- The slices that all files have, SYS's first.
abbrev pub unit_slices : List ℕ → State → Geometry → ℕ → List ℕ
unit_slices image state g L = all_slices image state g.keys g.slice g.first.0 (sys_with image g L)

-- The rules on names, open areas' names, files and map, where SYS has L layers.
pub record SoundLayers (image : List ℕ) (state : State) (g : Geometry) (L : ℕ) : Type 0 where
  pub names : SysNames image g L
  pub areas : AreasEntered state (places_in image g) (place_count g.keys L)
  pub files : SysFiles image state g L
  pub once : InRangeOnce g.slices (unit_slices image state g L)
  pub map : SoundMap image g.slices (unit_slices image state g L)
