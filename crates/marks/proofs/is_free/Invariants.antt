use Rattle.std.proofs.Common.{◌+◌, ◌*◌, ◌≤◌, get_or}
use Rattle.marks.proofs.WordTests.{ZeroIf}
use Rattle.marks.proofs.is_free.Given as goal

abbrev pub invariant-loop-mark : goal.invariant-loop-mark
invariant-loop-mark l = (l.taken ≤ 255 * l.mark-index) × ZeroIf (λ k. get_or l.marks k 0) l.from (l.from + l.mark-index) l.taken
