use Rattle.std.proofs.Common.{◌≡◌, length}
use Rattle.sound_files.proofs.LiveLaws.{Flat}
use Rattle.sound_files.proofs.flatten.Given as goal

abbrev pub invariant-loop-j : goal.invariant-loop-j
invariant-loop-j l = (length l.list ≡ 8) × Flat l.fn.state.areas l.list l.j
