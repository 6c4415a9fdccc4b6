-- `create::write_file` meets its contract. Assumes nothing.
use native.Mathlib.Omega.{arith}
use Rattle.create.proofs.FileLaws.{reserved_small, can-take, can_zero, can_enter, can_count, file_written}
use Rattle.create.proofs.write_file.Goals as goal

pub take_more-block-requires : goal.take_more-block-requires
take_more-block-requires c =
    can-take c.requires.can c.empty_block.ensures c.need-count.ensures

pub zero_sectors-requires : goal.zero_sectors-requires
zero_sectors-requires c =
    can_zero c.requires.can c.empty_block.ensures c.need-count.ensures c.take_more-block.ensures

pub overflow_mul-unit : goal.overflow_mul-unit
overflow_mul-unit c =
    omega (arith, reserved_small c.requires.can c.need-count.ensures)

pub enter-requires : goal.enter-requires
enter-requires c =
    can_enter c.requires.can c.empty_block.ensures c.need-count.ensures c.take_more-block.ensures
    c.zero_sectors.ensures

pub count_free-requires : goal.count_free-requires
count_free-requires c =
    can_count c.requires.can c.empty_block.ensures c.need-count.ensures c.take_more-block.ensures
    c.zero_sectors.ensures c.block_sector-sector.ensures c.enter.ensures

pub returns : goal.returns
returns c =
    record {
      all = λ p can.
          file_written can c.empty_block.ensures c.need-count.ensures c.take_more-block.ensures c.zero_sectors.ensures c.block_sector-sector.ensures
          c.enter.ensures c.count_free.ensures;
    }
