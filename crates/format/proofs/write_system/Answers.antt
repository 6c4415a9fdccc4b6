-- `format::write_system` meets its contract: the four blocks, and the numbers that they hold fit. Assumes nothing.
use native.Mathlib.Omega.{arith}
use Rattle.format.proofs.WriteLaws.{part_fits, system_written}
use Rattle.format.proofs.write_system.Goals as goal

pub overflow_mul-free : goal.overflow_mul-free
overflow_mul-free c = part_fits _ _ _ _ c.requires.1 (omega arith)

pub overflow_mul-sys_index : goal.overflow_mul-sys_index
overflow_mul-sys_index c = part_fits _ _ _ _ c.requires.1 (omega arith)

pub returns : goal.returns
returns c =
    system_written _ _ _ _ c.requires.1 c.sys_slices-used.result
    c.sys_slices-used.ensures _ _ c.args.image.now _ _ _ _ c.store_block.ensures
    c.store_block-2.ensures c.store_block-3.ensures c.write_map.ensures
