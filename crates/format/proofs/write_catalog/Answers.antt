-- `format::write_catalog` meets its contract: SYS's sectors lie in the image, and both entries in them. Assumes nothing.
use Prim.Native.Nat.{compare}
use native.Mathlib.Omega.{arith}
use Rattle.disc.proofs.SliceLaws.{same_le}
use Rattle.refine.proofs.Format.{sys_end}
use Rattle.format.proofs.WriteLaws.{part_fits, catalog_written, key_sector_lem}
use Rattle.format.proofs.write_catalog.Goals as goal

pub overflow_mul-reserved : goal.overflow_mul-reserved
overflow_mul-reserved c = part_fits _ _ _ _ c.requires.1 (omega arith)

pub clear_words-requires : goal.clear_words-requires
clear_words-requires c = omega (arith, sys_end _ _ _ _ c.requires.1)

pub enter-requires : goal.enter-requires
enter-requires c =
    let q = key_sector_lem _ _ _ _ c.requires.1 _ _ c.key-sys_key.ensures c.sector_after.ensures in
    omega (arith, q.0, q.1)

pub enter-requires-2 : goal.enter-requires-2
enter-requires-2 c =
    let q = key_sector_lem _ _ _ _ c.requires.1 _ _ c.key-map_key.ensures c.sector_after-2.ensures in
    omega (arith, q.0, q.1, c.map_place.ensures, same_le (compare c.key-map_key.result c.key-sys_key.result))

pub returns : goal.returns
returns c =
    catalog_written _ _ _ _ c.requires.1 c.sys_slices.result
    c.sys_slices.ensures _ _ _ _ _ c.sys_name-sys.ensures.packed c.map_name-map.ensures.packed
    c.key-sys_key.ensures c.key-map_key.ensures c.map_place.ensures c.args.image.now _ _ _
    c.clear_words.ensures (key_sector_lem _ _ _ _ c.requires.1 _ _ c.key-sys_key.ensures c.sector_after.ensures).0 c.enter.ensures
    (key_sector_lem _ _ _ _ c.requires.1 _ _ c.key-map_key.ensures c.sector_after-2.ensures).0 c.enter-2.ensures
