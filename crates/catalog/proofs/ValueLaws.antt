-- A catalog of the code is the value of the catalog that it is.
use mathlib.Core.Path.{◌≡◌}
use Prim.Native.Nat.{ℕ}
use Rattle.disc.specs.Catalog as disc
use Rattle.catalog.specs.declared.Catalog.{Catalog}
use Rattle.catalog.specs.Value.{value_of, CatalogIs}

pub is_value : {value : Catalog} {H : ℕ} {c : disc.Catalog} → CatalogIs value H c → value ≡ value_of H c
is_value is = rw (← is.index, ← is.from, ← is.keys, ← is.layers)
