-- `marks::mark_many` meets its contract: the slices passed are marked. Assumes nothing.
use Rattle.std.proofs.Common.{◌≡◌, ◌∙◌, ap, arith}
use Rattle.marks.specs.Marked.{run_marks}
use Rattle.marks.proofs.RunLaws.{run_none, run_more, run_done}
use Rattle.marks.proofs.mark_many.Goals as goal

pub loop-n-init : goal.loop-n-init
loop-n-init c = run_none _ _

pub loop-n-preserved : goal.loop-n-preserved
loop-n-preserved c = run_more _ _ c.loop-n.n c.loop-n.invariant

pub returns : goal.returns
returns c =
    let e : c.loop-n.n ≡ c.args.count = omega arith in
    run_done _ _ (c.is_free.ensures.yes c.if-not-is_free.false) (c.loop-n.invariant ∙ ap (run_marks _ _) e)
