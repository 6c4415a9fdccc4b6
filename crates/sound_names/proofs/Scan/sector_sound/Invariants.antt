use Rattle.std.proofs.Common.{◌+◌, ◌*◌}
use Rattle.sound_entries.specs.Legal.{own_entry}
use Rattle.sound_entries.specs.Sys.{places_in}
use Rattle.sound_names.specs.Scan.{Passed}
use Rattle.sound_names.proofs.Scan.sector_sound.Given as goal

abbrev pub invariant-loop-i : goal.invariant-loop-i
invariant-loop-i l = let s = l.self in Passed (places_in s.image.now s.g) s.g.keys (own_entry s.expected) l.filter (16 * l.b.0 + l.i)
