use Rattle.std.proofs.Common.{◌≡◌, ◌+◌, ◌*◌, ◌%◌}
use Rattle.sound_entries.specs.Legal.{own_entry}
use Rattle.sound_entries.specs.Sys.{places_in}
use Rattle.sound_names.specs.Scan.{Passed}
use Rattle.sound_names.proofs.Scan.stretch_sound.Given as goal

abbrev pub invariant-loop-c : goal.invariant-loop-c
invariant-loop-c l =
    let s = l.self in
    (l.key ≡ (l.b.0 + l.c) % s.g.keys) × Passed (places_in s.image.now s.g) s.g.keys (own_entry s.expected) l.filter (16 * (l.b.0 + l.c))
