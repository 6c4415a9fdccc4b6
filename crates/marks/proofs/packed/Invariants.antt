use Rattle.std.proofs.Common.{◌≡◌, ◌+◌, ◌*◌, ◌^◌, ◌≤◌, get_or}
use Rattle.marks.specs.Packed.{packed}
use Rattle.marks.proofs.packed.Given as goal

abbrev pub invariant-loop-mark : goal.invariant-loop-mark
invariant-loop-mark l = (l.word ≡ packed (λ k. get_or l.marks k 0) l.at l.mark-index) × (l.word + 255 ≤ 255 * 2 ^ l.mark-index)
