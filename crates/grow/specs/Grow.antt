-- SYS's growth: "With all 16 times L places taken by other names, SYS first grows by H zeroed sectors."
use Rattle.std.specs.Prelude.{◌≡◌, List, [], ◌++◌, ℕ, suc, ◌≤◌, ◌<◌}
use Rattle.disc.specs.Names.{SYS}
use Rattle.disc.specs.Stretches.{stretch_count}
use Rattle.disc.specs.Entries.{name_at}
use Rattle.disc.specs.Catalog.{Catalog, places_of}
use Rattle.catalog.specs.declared.Unit.{Unit}
use Rattle.plain.specs.Unit.{Plain, free_slices, sys_of}
use Rattle.plain.specs.Taking.{taking}
use Rattle.refine.specs.Writes.{layered_image, grown_sys}
use Rattle.preservation.specs.Units.{layer_of, layer_slices, grown_unit}
use Rattle.grow.specs.Catalog.{CatalogIn}
use Rattle.lookup.specs.Unit.{NumbersOf, unit_places}

-- A catalog of a unit that has slices for one layer more, in at most 127 stretches.
pub record CanGrowFrom (image : List ℕ) (o : Unit) (p : Plain) (c : Catalog) : Type 0 where
  pub catalog : CatalogIn image o p c
  pub room : (taking p c (suc c.layers) [] 0).for_catalog ≤ free_slices p
  pub few : stretch_count (c.slices ++ layer_of p c) ≤ 127

-- ---- the layer

pub record CanAddLayer (image : List ℕ) (o : Unit) : Type 0 where
  pub unit : Plain
  pub own : Catalog
  pub can : CanGrowFrom image o unit own

-- The slices are taken and the layer's sectors are zeroed: "blocks H*L to H*(L+1)-1" of SYS.
pub record LayerAdded (image : List ℕ) (o : Unit) (after : List ℕ) : Type 0 where
  pub all : (p : Plain) (c : Catalog) → CanGrowFrom image o p c → after ≡ layered_image p c image (layer_of p c)

-- ---- SYS

pub record CanGrow (image : List ℕ) (o : Unit) : Type 0 where
  pub unit : Plain
  pub can : CanGrowFrom image o unit (sys_of unit)

-- The image after SYS has grown; its entry stands in its own place.
pub record GrownFrom (image : List ℕ) (p : Plain) (after : List ℕ) : Type 0 where
  pub place : ℕ
  pub inside : place < places_of p.H (sys_of p)
  pub named : name_at (unit_places image p) place ≡ SYS
  pub written : after ≡ grown_sys p image place (layer_slices p)

-- The unit's numbers with so many layers of its catalog.
abbrev pub with_layers : Unit → ℕ → Unit
with_layers o layers = record {
  slice = o.slice;
  first = o.first;
  slices = o.slices;
  catalog = record { index = o.catalog.index; from = o.catalog.from; keys = o.catalog.keys; layers = layers };
}

-- Image and numbers are those of the unit with one layer more.
pub record Grows (image : List ℕ) (o : Unit) (after : List ℕ) (r : Unit) : Type 0 where
  pub all : (p : Plain) → CanGrowFrom image o p (sys_of p) → GrownFrom image p after × NumbersOf r (grown_unit p)
