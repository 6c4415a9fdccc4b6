-- `index::read_block` meets its contract: in turn j the block has the count and the first j pairs. Assumes nothing.
use mathlib.Core.Path.{ap, ◌∙◌}
use mathlib.Core.List.{◌∷◌}
use Prim.Native.Nat.{ℕ}
use native.Mathlib.Nat.{sub-zero}
use native.Mathlib.Omega.{arith}
use Rattle.index.specs.Block.{pairs_from, block_at, whole}
use Rattle.index.proofs.BlockLaws.{whole_none}
use Rattle.index.proofs.WalkLaws.{pairs_more, pairs_none, fill_start, fill_more, fill_count, fill_all}
use Rattle.index.proofs.read_block.Goals as goal

pub loop-j-init : goal.loop-j-init
loop-j-init c =
    let n = c.pair_count-n.result in
    rw sub-zero (fill_count n (fill_start 0 _ _ (c.empty_block-block.ensures ∙ whole_none)))

pub loop-j-preserved : goal.loop-j-preserved
loop-j-preserved c =
    let a = c.args in
    let n = c.pair_count-n.result in
    let f = rw (pairs_more a.image.now a.q.0 n c.loop-j.j c.loop-j-test.true) at c.loop-j.invariant in
    rw (c.set_pair.ensures, c.pair_length.ensures, c.pair_start.ensures)
    (fill_more n _ c.loop-j.block.words c.loop-j.j _ _ _ (omega arith) f)

pub returns : goal.returns
unfolding block_at
returns c =
    let a = c.args in
    let n = c.pair_count-n.result in
    let f = rw (pairs_none a.image.now a.q.0 n c.loop-j.j c.loop-j-test.false) at c.loop-j.invariant in
    fill_all n _ _ _ f ∙ ap (λ (k : ℕ). whole (k ∷ pairs_from a.image.now a.q.0 k 0)) c.pair_count-n.ensures
