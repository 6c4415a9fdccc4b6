use Rattle.catalog.proofs.WalkLaws.{WordsLeft}
use Rattle.catalog.proofs.is_unused_slot.Given as goal

abbrev pub invariant-loop-w : goal.invariant-loop-w
invariant-loop-w l = WordsLeft l.image l.q.0 l.slot l.w
