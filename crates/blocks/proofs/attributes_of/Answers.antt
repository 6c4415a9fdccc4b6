-- `blocks::attributes_of` meets its contract. Assumes nothing.
use Rattle.blocks.proofs.BlockLaws.{attributes_some}
use Rattle.blocks.proofs.attributes_of.Goals as goal

pub returns : goal.returns
returns c =
    attributes_some c.find_name.ensures c.in-Some.is c.entry_word.ensures
