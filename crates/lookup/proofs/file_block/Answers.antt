-- `lookup::file_block` meets its contract. Assumes nothing.
use mathlib.Core.Path.{◌∙◌}
use Rattle.lookup.proofs.FileLaws.{block_none, block_some, own_none, own_some}
use Rattle.lookup.proofs.file_block.Goals as goal

pub returns-then-index-eq0 : goal.returns-then-index-eq0
returns-then-index-eq0 c =
    let zero = c.if-index-eq0.true in
    record {
      words = c.empty_block.ensures ∙ own_none _ _ zero;
      file = block_none _ _ zero c.empty_block.ensures;
    }

pub returns : goal.returns
returns c =
    let some = c.if-index-eq0.false in
    record {
      words = c.read_block.ensures ∙ own_some _ _ some;
      file = block_some _ _ some c.read_block.ensures;
    }
