use Rattle.std.proofs.Common.{◌≡◌, ◌*◌, ◌-◌, ◌≤◌, ◌<◌}
use Rattle.disc.specs.Words.{word}
use Rattle.disc.proofs.WalkLaws.{sectors_before}
use Rattle.sound_entries.specs.Legal.{own_entry}
use Rattle.sound_entries.specs.Sys.{places_in}
use Rattle.sound_names.specs.Scan.{Passed}
use Rattle.sound_names.proofs.Scan.stretches_sound.Given as goal

abbrev pub invariant-loop-b : goal.invariant-loop-b
invariant-loop-b l =
    let s = l.self in
    (l.j ≤ word s.image.now 6 0) × (l.b ≤ s.expected.size) × (l.b < s.expected.size → l.b ≡ sectors_before s.image.now 6 l.j)
    × Passed (places_in s.image.now s.g) s.g.keys (own_entry s.expected) l.filter (16 * l.b)

abbrev pub decreases-loop-b : goal.decreases-loop-b
decreases-loop-b l = word l.self.image.now 6 0 - l.j
