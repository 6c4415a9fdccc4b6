use Rattle.std.proofs.Common.{◌-◌, ◌≤◌}
use Rattle.sound_files.specs.Live.{lives}
use Rattle.sound_files.specs.Walk.{places_from}
use Rattle.sound_files.proofs.WalkLaws.{PlacesPassed}
use Rattle.sound_files.proofs.run_sound.Given as goal

abbrev pub invariant-loop-i : goal.invariant-loop-i
invariant-loop-i l = (l.i ≤ l.count) × PlacesPassed l.image l.g (lives l.files) (places_from l.image l.at) l.initial.marks l.marks l.i

abbrev pub decreases-loop-i : goal.decreases-loop-i
decreases-loop-i l = l.count - l.i
