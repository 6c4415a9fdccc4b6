-- `blocks::replace` meets its contract. Assumes nothing.
use Rattle.blocks.proofs.BlockLaws.{sector_inside, block_replaced}
use Rattle.blocks.proofs.replace.Goals as goal

pub store_sector-requires : goal.store_sector-requires
store_sector-requires c =
    (c.requires.1, sector_inside c.sector_of-q.ensures c.requires.0)

pub returns : goal.returns
returns c =
    block_replaced c.sector_of-q.ensures c.store_sector.ensures
