-- `format::store_block` meets its contract. Assumes nothing.
use Rattle.format.proofs.BlockLaws.{block_stores}
use Rattle.format.proofs.store_block.Goals as goal

pub returns : goal.returns
returns c =
    let a = c.args in
    block_stores a.image.now a.q.0 a.block.now _ _ c.store_words.ensures c.clear_words.ensures
