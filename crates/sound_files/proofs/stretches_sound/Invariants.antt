use Rattle.std.proofs.Common.{◌≡◌, ◌*◌, ◌-◌, ◌≤◌, ◌<◌}
use Rattle.disc.specs.Words.{word}
use Rattle.disc.proofs.WalkLaws.{sectors_before}
use Rattle.sound_entries.specs.Sys.{places_in}
use Rattle.sound_files.specs.Live.{lives}
use Rattle.sound_files.proofs.WalkLaws.{PlacesPassed}
use Rattle.sound_files.proofs.stretches_sound.Given as goal

abbrev pub invariant-loop-b : goal.invariant-loop-b
invariant-loop-b l =
    (l.j ≤ word l.image 6 0) × (l.b ≤ l.g.keys * l.sys.layers) × (l.b < l.g.keys * l.sys.layers → l.b ≡ sectors_before l.image 6 l.j)
    × PlacesPassed l.image l.g (lives l.files) (places_in l.image l.g) l.initial.marks l.marks (16 * l.b)

abbrev pub decreases-loop-b : goal.decreases-loop-b
decreases-loop-b l = word l.image 6 0 - l.j
