use Rattle.sound_files.specs.Walk.{places_from}
use Rattle.sound_files.proofs.PlainLaws.{ClosedPassed}
use Rattle.sound_files.proofs.quick_run.Given as goal

abbrev pub invariant-loop-i : goal.invariant-loop-i
invariant-loop-i g l = ClosedPassed l.image l.g (places_from l.image l.at) l.files l.initial.marks l.marks l.i
