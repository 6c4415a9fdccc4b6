use Rattle.std.proofs.Common.{◌+◌, ◌*◌, ◌≤◌}
use Rattle.disc.specs.Words.{word}
use Rattle.disc.specs.Kit.{map_sector}
use Rattle.marks.proofs.WordTests.{ZeroIf}
use Rattle.marks.proofs.cleared.Given as goal

abbrev pub invariant-loop-word : goal.invariant-loop-word
invariant-loop-word l = (l.sum ≤ 65535 * l.word-index) × ZeroIf (word l.image map_sector) l.n (l.n + l.word-index) l.sum
