-- `index::sector_total_at` meets its contract: the total and the sectors of the pairs to come are all sectors. Assumes nothing.
use native.Mathlib.Omega.{arith}
use Rattle.index.proofs.WalkLaws.{sectors_none, sectors_more}
use Rattle.index.proofs.sector_total_at.Goals as goal

pub loop-j-preserved : goal.loop-j-preserved
loop-j-preserved c =
    let a = c.args in
    let n = c.pair_count-n.result in
    (omega arith, omega (arith, c.pair_length.ensures, sectors_more a.image.now a.q.0 n c.loop-j.j c.loop-j-test.true, c.loop-j.invariant.1))

pub returns : goal.returns
returns c =
    let a = c.args in
    let n = c.pair_count-n.result in
    omega (arith, sectors_none a.image.now a.q.0 n c.loop-j.j c.loop-j-test.false, c.loop-j.invariant.1)
