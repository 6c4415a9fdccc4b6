use Rattle.marks.specs.Packed.{Filled}
use Rattle.marks.proofs.filled.Given as goal

abbrev pub invariant-loop-w : goal.invariant-loop-w
invariant-loop-w l = Filled l.image l.marks l.w
