-- `sound_names::Scan::sector_sound` meets its contract: the places before place i of the block have passed. Assumes nothing.
use Rattle.std.proofs.Common.{arith}
use Rattle.sound_names.proofs.AloneLaws.{passed_at, scanned, refused, granted}
use Rattle.sound_names.proofs.Scan.sector_sound.Goals as goal

pub loop-i-init : goal.loop-i-init
loop-i-init c = passed_at (omega arith) c.requires.3

pub returns-then-not-place_sound : goal.returns-then-not-place_sound
returns-then-not-place_sound c = refused c.place_sound.ensures c.if-not-place_sound.true (omega arith)

pub loop-i-preserved : goal.loop-i-preserved
loop-i-preserved c = passed_at (omega arith) (granted c.place_sound.ensures c.if-not-place_sound.false)

pub returns : goal.returns
returns c = scanned (passed_at (omega arith) c.loop-i.invariant)
