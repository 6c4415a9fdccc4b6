-- `transput::input` meets its contract. Assumes nothing.
use Rattle.output.proofs.OutputLaws.{block_there}
use Rattle.transput.proofs.TransputLaws.{inputs_refused, inputs_handed}
use Rattle.transput.proofs.input.Goals as goal

pub returns-then-area-k : goal.returns-then-area-k
returns-then-area-k c =
    inputs_refused c.area-area.ensures c.if-area-k.true c.attributes_of.ensures c.end_word-end.ensures
    c.refused.ensures

pub read-requires : goal.read-requires
read-requires c =
    (block_there c.area-area.ensures c.requires.0 c.if-area-k.false, c.requires.1)

pub returns : goal.returns
returns c =
    inputs_handed c.area-area.ensures c.if-area-k.false c.read.ensures c.transferred.ensures
