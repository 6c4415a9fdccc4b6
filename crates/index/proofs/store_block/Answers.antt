-- `index::store_block` meets its contract: the block's 256 words are all that is stored. Assumes nothing.
use mathlib.Core.Path.{ap, ◌∙◌}
use Prim.Native.Nat.{◌*◌}
use native.Mathlib.Omega.{arith}
use lib.Seq.{take_all}
use Rattle.words.specs.Store.{store}
use Rattle.index.proofs.store_block.Goals as goal

pub returns : goal.returns
returns c =
    let a = c.args in
    c.store_sector.ensures ∙ ap (store a.image.now (a.q.0 * 256)) (take_all 256 a.block.words (omega arith))
