use Rattle.marks.proofs.IndexMarks.{Passed}
use Rattle.marks.proofs.mark_pairs.Given as goal

abbrev pub invariant-loop-j : goal.invariant-loop-j
invariant-loop-j l = Passed l.image l.g l.fn.q.0 l.initial.marks l.j l.slices l.end.0 l.marks
