-- SYS as its entries are judged: its slices, its places, and what is known of them by then.
use Rattle.std.specs.Prelude.{◌≡◌, ℕ, ◌*◌, ◌≤◌, List, length}
use Rattle.disc.specs.Slices.{InRangeOnce}
use Rattle.disc.specs.Stretches.{slices_at, sys_from}
use Rattle.disc.specs.Kit.{sys_index_sector}
use Rattle.disc.specs.Entries.{place_word}
use Rattle.disc.specs.Catalog as disc
use Rattle.sound.specs.Places.{IndexBlock}
use Rattle.sound.specs.Parts.{SoundNames}
use Rattle.catalog.specs.declared.Catalog.{Catalog}
use Rattle.catalog.specs.Catalog.{sys_value}
use Rattle.kit.specs.declared.Geometry.{Geometry}
use Rattle.kit.specs.Geometry.{UnitOf}

-- The slices that SYS's index block in sector 6 describes, and the places in them, of any number of layers.
abbrev pub sys_slices : List ℕ → Geometry → List ℕ
sys_slices image g = slices_at image g.first.0 g.slice sys_index_sector

abbrev pub places_in : List ℕ → Geometry → ℕ → ℕ → ℕ
places_in image g = place_word image g.first.0 g.slice (sys_slices image g) sys_from

-- The catalog SYS with so many layers, and the rules on the names in it.
abbrev pub sys_with : List ℕ → Geometry → ℕ → disc.Catalog
sys_with image g layers = disc.sys_catalog layers (sys_slices image g)

abbrev pub SysNames : List ℕ → Geometry → ℕ → Type 0
SysNames image g layers = SoundNames image g.keys g.slice g.first.0 (sys_with image g layers)

-- "The image has 256 times N words, laid out as above; the kit is within limits"; SYS has an index block as it must be, and its
-- slices are the unit's, none of them twice.
pub record SysOf (image : List ℕ) (g : Geometry) : Type 0 where
  pub unit : UnitOf image g
  pub index : IndexBlock image g.first.0 g.slice sys_index_sector
  pub once : InRangeOnce g.slices (sys_slices image g)

-- The catalog is SYS, and its slices have room for the layers.
pub record SysIn (image : List ℕ) (g : Geometry) (c : Catalog) : Type 0 where
  pub sys : SysOf image g
  pub is : c ≡ sys_value g.keys c.layers
  pub room : g.keys * c.layers ≤ g.slice * length (sys_slices image g)
