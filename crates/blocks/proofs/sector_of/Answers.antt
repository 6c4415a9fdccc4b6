-- `blocks::sector_of` meets its contract. Assumes nothing.
use Rattle.blocks.proofs.BlockLaws.{block_sector_of}
use Rattle.blocks.proofs.sector_of.Goals as goal

pub returns : goal.returns
returns c = block_sector_of c.file_block-block.ensures.file c.block_sector.ensures
