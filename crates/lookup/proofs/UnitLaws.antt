-- What every search starts from, and what the image of a good plain unit says of its SYS.
use mathlib.Core.List.{List}
use Prim.Native.Nat.{ℕ}
use native.Mathlib.Omega.{arith}
use Rattle.disc.specs.Slices.{InRangeOnce}
use Rattle.plain.specs.Unit.{Plain, M, entry}
use Rattle.catalog.specs.declared.Unit.{Unit}
use Rattle.refine.specs.OnDisc.{OnDisc}
use Rattle.refine.proofs.CatalogLaws.{Named}
use Rattle.refine.proofs.Ground.{Ground, ground, entry_named, sys_ground}
use Rattle.lookup.specs.Unit.{CatalogOn, Searchable, UnitOn}

-- the catalog of a unit on the image
pub on_catalog : {image : List ℕ} {p : Plain} → OnDisc image p → CatalogOn image p
on_catalog on = record { good = on.good; size = on.layout.size; sys = on.layout.sys }

pub searchable : {image : List ℕ} {o : Unit} → UnitOn image o → Searchable image o
searchable h = record { unit = h.unit; on = on_catalog h.on; numbers = h.numbers }

module _ {image : List ℕ} {p : Plain} (on : CatalogOn image p) where
  pub unit_ground : Ground p
  unit_ground = ground p on.good

  pub unit_named : Named (entry p)
  unit_named = entry_named p on.good.catalog.names

  pub sys_once : InRangeOnce (M p) p.sys
  sys_once k = omega (arith, on.good.once k, (sys_ground unit_ground).part k)
