-- `index::cut_block` meets its contract: in turn j the cut block has the first j pairs. Assumes nothing.
use mathlib.Core.Path.{◌≡◌, ap, ◌∙◌}
use mathlib.Core.List.{◌∷◌}
use Prim.Native.Nat.{ℕ, ◌+◌, ◌-◌, ◌*◌, ◌/◌, min}
use native.Mathlib.Nat.{sub-zero}
use native.Mathlib.Omega.{arith}
use lib.ListN.{length}
use Rattle.disc.specs.Pairs.{pair_length}
use Rattle.index.specs.Block.{cut_pairs, cut_to, whole}
use Rattle.index.proofs.BlockLaws.{whole_none}
use Rattle.index.proofs.WalkLaws.{cut_none, cut_end, cut_more, fill_start, fill_more, fill_count, fill_counted}
use Rattle.index.proofs.cut_block.Goals as goal

pub loop-j-init : goal.loop-j-init
loop-j-init c = rw sub-zero (fill_start 0 _ _ (c.empty_block-cut.ensures ∙ whole_none))

pub loop-j-preserved : goal.loop-j-preserved
loop-j-preserved c =
    let w = c.args.block.words in
    let n = c.pair_count-count.result in
    let j = c.loop-j.j in
    let rest = c.loop-j.rest in
    let less : rest - c.min-kept.result ≡ rest - pair_length w 0 j = omega (arith, c.min-kept.ensures, c.pair_length.ensures) in
    let kept : c.min-kept.result ≡ min (pair_length w 0 j) rest = omega (arith, c.min-kept.ensures, c.pair_length.ensures) in
    let f = rw (cut_more w n j rest c.loop-j-test.true (omega (arith, c.if-rest-eq0.false))) at c.loop-j.invariant in
    rw (less, c.set_pair.ensures, kept, c.pair_start-start.ensures) (fill_count (j + 1) (fill_more j _ c.loop-j.cut.words j _ _ _ (omega arith) f))

-- all pairs are passed
pub returns-after-loop-j : goal.returns-after-loop-j
unfolding cut_to
returns-after-loop-j c =
    let w = c.args.block.words in
    let n = c.pair_count-count.result in
    let f = rw (cut_none w n c.loop-j.j c.loop-j.rest c.loop-j-test.false) at c.loop-j.invariant in
    fill_counted _ _ _ f ∙ ap (λ (n : ℕ). let pairs = cut_pairs w n 0 (c.args.s * c.args.n) in whole (length pairs / 2 ∷ pairs)) c.pair_count-count.ensures

-- all sectors are passed
pub returns-then-rest-eq0 : goal.returns-then-rest-eq0
unfolding cut_to
returns-then-rest-eq0 c =
    let w = c.args.block.words in
    let n = c.pair_count-count.result in
    let f = rw c.if-rest-eq0.true at c.loop-j.invariant in
    fill_counted _ _ _ (rw (cut_end w n c.loop-j.j) at f)
    ∙ ap (λ (n : ℕ). let pairs = cut_pairs w n 0 (c.args.s * c.args.n) in whole (length pairs / 2 ∷ pairs)) c.pair_count-count.ensures
