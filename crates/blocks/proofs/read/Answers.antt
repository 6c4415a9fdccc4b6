-- `blocks::read` meets its contract. Assumes nothing.
use Rattle.blocks.proofs.BlockLaws.{sector_inside, block_read}
use Rattle.blocks.proofs.read.Goals as goal

pub copy_sector-requires : goal.copy_sector-requires
copy_sector-requires c =
    (c.requires.1, sector_inside c.sector_of-q.ensures c.requires.0)

pub returns : goal.returns
returns c =
    block_read c.sector_of-q.ensures c.copy_sector.ensures
