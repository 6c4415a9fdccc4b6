use Rattle.std.proofs.Common.{◌≡◌}
use Rattle.marks.specs.Marked.{run_marks}
use Rattle.marks.proofs.mark_many.Given as goal

abbrev pub invariant-loop-n : goal.invariant-loop-n
invariant-loop-n l = l.marks ≡ run_marks l.initial.marks l.from l.n
