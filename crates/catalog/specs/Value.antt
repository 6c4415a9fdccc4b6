-- A catalog of the code, and the catalog that it is.
use Rattle.std.specs.Prelude.{◌≡◌, ℕ}
use Rattle.disc.specs.Catalog as disc
use Rattle.catalog.specs.declared.Catalog.{Catalog}

-- The code's value of the catalog c of a unit with H keys.
abbrev pub value_of : ℕ → disc.Catalog → Catalog
value_of H c = record { index = record { 0 = c.index }; from = c.from; keys = H; layers = c.layers }

-- The code's value is that of the catalog c.
pub record CatalogIs (value : Catalog) (H : ℕ) (c : disc.Catalog) : Type 0 where
  pub index : value.index.0 ≡ c.index
  pub from : value.from ≡ c.from
  pub keys : value.keys ≡ H
  pub layers : value.layers ≡ c.layers
