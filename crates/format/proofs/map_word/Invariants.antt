use Rattle.disc.specs.Stretches.{span}
use Rattle.format.proofs.MapLaws.{BitsDone}
use Rattle.format.proofs.map_word.Given as goal

abbrev pub invariant-loop-b : goal.invariant-loop-b
invariant-loop-b l = BitsDone l.slices (span 1 l.used) l.w l.b l.word
