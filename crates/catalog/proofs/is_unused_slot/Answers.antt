-- `catalog::is_unused_slot` meets its contract: what is asked is whether the words from w on are zero. Assumes nothing.
use Rattle.catalog.proofs.WalkLaws.{run_start, run_stop, run_next, run_end}
use Rattle.catalog.proofs.is_unused_slot.Goals as goal

pub loop-w-init : goal.loop-w-init
loop-w-init c = run_start c.args.image.now c.args.q.0 c.args.slot

pub returns-then-word-ne0 : goal.returns-then-word-ne0
returns-then-word-ne0 c = run_stop c.args.image.now c.args.q.0 c.args.slot c.loop-w.w c.loop-w.invariant c.loop-w-test.true c.word.ensures c.if-word-ne0.true

pub loop-w-preserved : goal.loop-w-preserved
loop-w-preserved c = run_next c.args.image.now c.args.q.0 c.args.slot c.loop-w.w c.loop-w.invariant c.loop-w-test.true c.word.ensures c.if-word-ne0.false

pub returns : goal.returns
returns c = run_end c.args.image.now c.args.q.0 c.args.slot c.loop-w.w c.loop-w.invariant c.loop-w-test.false
