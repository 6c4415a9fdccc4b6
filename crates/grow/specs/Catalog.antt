-- A catalog of a unit, as its growth finds it. SYS is one.
use Rattle.std.specs.Prelude.{◌≡◌, List, ℕ, ◌+◌, ◌*◌, ◌≤◌, length}
use Rattle.disc.specs.Words.{Holds}
use Rattle.disc.specs.Slices.{occurrences}
use Rattle.disc.specs.Stretches.{index_words, stretch_count}
use Rattle.disc.specs.Catalog.{Catalog, slices_needed}
use Rattle.plain.specs.Unit.{Plain, held}
use Rattle.refine.specs.OnDisc.{OnDisc}
use Rattle.catalog.specs.declared.Unit.{Unit}
use Rattle.lookup.specs.Unit.{NumbersWith}

-- "SYS has .. H times L / s slices, rounded up": the catalog has the slices of its layers, which are among those of the unit, and its
-- index block describes them.
pub record CatalogIn (image : List ℕ) (o : Unit) (p : Plain) (c : Catalog) : Type 0 where
  pub on : OnDisc image p
  pub numbers : NumbersWith o p c
  pub index : Holds image c.index (index_words p.F p.s c.slices)
  pub inside : c.index * 256 + 256 ≤ length image
  pub count : length c.slices ≡ slices_needed p.H p.s c c.layers
  pub few : stretch_count c.slices ≤ 127
  pub part : (k : ℕ) → occurrences k c.slices ≤ occurrences k (held p)
