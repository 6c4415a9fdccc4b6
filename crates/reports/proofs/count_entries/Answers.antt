-- `reports::count_entries` meets its contract: the entries in the first b blocks are counted. Assumes nothing.
use native.Mathlib.Omega.{arith}
use Rattle.reports.proofs.TurnLaws.{slots_most, blocks_most, count_none, count_block}
use Rattle.reports.proofs.count_entries.Goals as goal

pub loop-b-init : goal.loop-b-init
loop-b-init c = count_none _

pub overflow_add-count : goal.overflow_add-count
overflow_add-count c =
    let image = c.args.image.now in
    omega (arith, blocks_most image c.args.c c.loop-b.b, slots_most image c.sector_at-q.result.0 16)

pub loop-b-preserved : goal.loop-b-preserved
loop-b-preserved c =
    count_block c.args.image.now c.args.c c.loop-b.b c.loop-b.invariant c.sector_at-q.ensures c.count_slots-count.ensures
