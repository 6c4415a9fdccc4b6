use Rattle.std.proofs.Common.{◌≡◌, drop}
use Rattle.sound_files.specs.Live.{live_in}
use Rattle.sound_files.proofs.live_of.Given as goal

abbrev pub invariant-loop-file : goal.invariant-loop-file
invariant-loop-file l = live_in l.list l.name ≡ live_in (drop l.file-index l.list) l.name
