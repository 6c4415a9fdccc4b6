-- `reports::count_slots` meets its contract: the entries in the first slots are counted. Assumes nothing.
use native.Mathlib.Omega.{arith}
use Rattle.reports.proofs.TurnLaws.{slots_most, count_none, count_unused, count_used}
use Rattle.reports.proofs.count_slots.Goals as goal
use Rattle.reports.proofs.count_slots.Goals.{then-image-q-ne0, else-image-q-ne0}

pub loop-i-init : goal.loop-i-init
loop-i-init c = count_none _

pub overflow_add-count : goal.overflow_add-count
overflow_add-count c = omega (arith, slots_most c.args.image.now c.args.q.0 c.loop-i.i)

pub loop-i-preserved : goal.loop-i-preserved
loop-i-preserved c =
    let a = c.args in
    let n = c.loop-i.invariant in
    elim c.if-image-q-ne0.branch [
      | then-image-q-ne0 w ↦ rw w.count-is (count_used a.image.now a.q.0 c.loop-i.i n w.if-image-q-ne0.true)
      | else-image-q-ne0 w ↦ rw w.count-is (count_unused a.image.now a.q.0 c.loop-i.i n w.if-image-q-ne0.false)
    ]
