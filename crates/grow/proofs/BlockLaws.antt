-- A catalog's block and slices.
use mathlib.Core.Path.{◌≡◌, refl, ap, ◌∙◌}
use mathlib.Core.List.{List}
use Prim.Native.Nat.{ℕ, zero, suc, ◌+◌, ◌*◌, ◌≤◌, ◌<◌}
use native.Mathlib.Omega.{arith}
use native.Mathlib.Nat.{mul_comm, mul-le-mul_right}
use lib.ListN.{length}
use Rattle.disc.specs.Numbers.{ceil_div}
use Rattle.disc.specs.Catalog.{Catalog, slices_for}
use Rattle.disc.proofs.Geometry.{ceil_cover}
use Rattle.index.specs.Block.{block_at, slice_total}
use Rattle.index.proofs.ReadLaws.{read_block}
use Rattle.plain.specs.Unit.{Plain, M, sys_of}
use Rattle.refine.specs.OnDisc.{OnDisc}
use Rattle.refine.proofs.Ground.{ground, sys_ground, part_sectors}
use Rattle.catalog.specs.declared.Unit.{Unit}
use Rattle.lookup.specs.Unit.{NumbersOf}
use Rattle.slices.specs.FileBlock.{FileBlock}
use Rattle.slices.proofs.BlockLaws.{block_total, unit_file}
use Rattle.grow.specs.Catalog.{CatalogIn}

-- the slices that are needed, by one formula
pub slices_for_lem : (from s n : ℕ) → slices_for from s n ≡ ceil_div (n + from) s
slices_for_lem zero s n = let e : n ≡ n + 0 = omega arith in ap (λ (k : ℕ). ceil_div k s) e
slices_for_lem (suc from) s n = refl

-- SYS is a catalog of its unit
pub sys_in : {image : List ℕ} {o : Unit} {p : Plain} → OnDisc image p → NumbersOf o p → CatalogIn image o p (sys_of p)
sys_in {image} {o} {p} on num = record {
  on = on;
  numbers = num;
  index = on.layout.sys.index;
  inside = omega (arith, on.layout.size, on.good.limits.first, on.good.limits.some_data);
  count = on.good.catalog.count;
  few = on.good.catalog.few;
  part = (sys_ground (ground p on.good)).part;
}

module _ {image : List ℕ} {o : Unit} {p : Plain} {c : Catalog} (a : CatalogIn image o p c) where
  -- its block, as it is read
  pub catalog_file : {block : List ℕ} → block ≡ block_at image c.index → FileBlock image block p.F p.s (M p) c.slices
  catalog_file {block} e =
      unit_file image block c.slices a.on.good.limits a.on.layout.size (e ∙ read_block image p.F p.s c.index c.slices a.few a.index)
      a.few (λ k. omega (arith, a.part k, a.on.good.once k))

  -- its sectors are those of a unit
  pub catalog_sectors : p.s * length c.slices + 10 ≤ 32767
  catalog_sectors = part_sectors p (ground p a.on.good) c.slices a.part

  -- the block by the code's numbers, and the slices that it has
  pub catalog_block : {block : List ℕ} → block ≡ block_at image o.catalog.index.0 → FileBlock image block p.F p.s (M p) c.slices
  catalog_block e = catalog_file (e ∙ ap (block_at image) a.numbers.catalog.index)

  pub catalog_had : {block : List ℕ} → block ≡ block_at image o.catalog.index.0 → slice_total o.slice block 0 ≡ length c.slices
  catalog_had {block} e = ap (λ (s : ℕ). slice_total s block 0) a.numbers.slice ∙ block_total (catalog_block e).own

  pub had_small : {block : List ℕ} → block ≡ block_at image o.catalog.index.0 → slice_total o.slice block 0 < 65536
  had_small e = omega (arith, catalog_had e, catalog_sectors, mul-le-mul_right (length c.slices) a.on.good.limits.slice_low)

  pub slice_low_lem : 2 ≤ o.slice
  slice_low_lem = omega (arith, a.numbers.slice, a.on.good.limits.slice_low)

  pub catalog_from : c.from ≤ 32767
  catalog_from =
      omega (
        arith,
        a.count,
        slices_for_lem c.from p.s (p.H * c.layers),
        ceil_cover p.s (p.H * c.layers + c.from) (length c.slices) (omega (arith, a.on.good.limits.slice_low)) (omega (arith, a.count, slices_for_lem c.from p.s (p.H * c.layers))),
        mul_comm p.s (length c.slices),
        catalog_sectors,
      )
