-- `paper_cases::lines::numbers_of` meets its contract: there are at most 16 numbers.
use Rattle.std.proofs.Common.{◌≤◌}
use Rattle.paper_cases.proofs.lines.numbers_of.Given as goal

abbrev pub invariant-loop-byte : goal.invariant-loop-byte
invariant-loop-byte l = l.count ≤ 16
