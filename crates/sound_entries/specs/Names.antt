-- The names in SYS's first `count` places: legal, entered, alone; and the number of SYS's layers.
use Rattle.std.specs.Prelude.{◌≡◌, ℕ, ◌*◌, ◌/◌, ◌<◌, ◌≤◌, cond, ◌&&◌, List, length, ◌==◌, Option, Some, None, IfSome}
use Rattle.catalog.specs.declared.Place.{Place}
use Rattle.disc.specs.Numbers.{ceil_div}
use Rattle.disc.specs.Names.{SYS, MAP}
use Rattle.disc.specs.Entries.{name_at}
use Rattle.sound.specs.Places.{Used}
use Rattle.catalog.specs.declared.Catalog.{Catalog}
use Rattle.catalog.specs.Catalog.{sys_value, entry_word, place_named}
use Rattle.kit.specs.declared.Geometry.{Geometry}
use Rattle.sound_entries.specs.Sys.{sys_slices, SysNames}
use Rattle.sound_entries.specs.Legal.{PlacesLegal}

-- Some place has the name n.
pub record Met (P : ℕ → ℕ → ℕ) (n count : ℕ) : Type 0 where
  pub place : ℕ
  pub inside : place < count
  pub named : name_at P place ≡ n

-- Every place is legal, and places named SYS and MAP were met.
pub record NamesLegal (P : ℕ → ℕ → ℕ) (H : ℕ) (sys : List ℕ) (count : ℕ) : Type 0 where
  pub places : PlacesLegal P H sys count
  pub sys_met : Met P SYS count
  pub map_met : Met P MAP count

-- "alone of that name"
pub record NamesAlone (P : ℕ → ℕ → ℕ) (count : ℕ) : Type 0 where
  pub alone : (t u : ℕ) → t < count → u < count → Used P t → Used P u → name_at P t ≡ name_at P u → t ≡ u

-- "SYS has length H times L and H times L / s slices, rounded up": L by the length, where SYS has `count` slices; none if there is no such L, or
-- if it is 0.
abbrev pub layers_by : ℕ → ℕ → ℕ → ℕ → Option ℕ
layers_by H s count size =
    cond (size / H * H == size && ceil_div size s == count) (cond (size / H == 0) None (Some (size / H))) None

-- SYS with all complete layers that fit its slices: "SYS has H times L sectors".
abbrev pub full_sys : List ℕ → Geometry → Catalog
full_sys image g = sys_value g.keys (g.slice * length (sys_slices image g) / g.keys)

-- L as SYS's own entry says it, in the place where a search found it; none if it found none.
abbrev pub layers_in : List ℕ → Geometry → Option Place → Option ℕ
layers_in image g (Some place) = layers_by g.keys g.slice (length (sys_slices image g)) (entry_word image place 7)
layers_in image g None = None

-- r is read from the first place named SYS. So it is a number of layers that fits SYS's slices, or none; and no other number of
-- layers has sound names.
pub record LayersOf (image : List ℕ) (g : Geometry) (r : Option ℕ) : Type 0 where
  pub read : r ≡ layers_in image g (place_named image (full_sys image g) SYS)
  pub fits : IfSome r (λ L. (1 ≤ L) × (length (sys_slices image g) ≡ ceil_div (g.keys * L) g.slice))
  pub only : (L : ℕ) → 1 ≤ L → length (sys_slices image g) ≡ ceil_div (g.keys * L) g.slice
      → SysNames image g L → r ≡ Some L
