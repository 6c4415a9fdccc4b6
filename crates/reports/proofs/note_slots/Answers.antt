-- `reports::note_slots` meets its contract: the records of the first slots are stored. Assumes nothing.
use native.Mathlib.Omega.{arith}
use Rattle.reports.specs.Listing.{slot_record}
use Rattle.reports.proofs.TurnLaws.{turn_room, turn_start, noted_turn}
use Rattle.reports.proofs.note_slots.Goals as goal

pub loop-slot-init : goal.loop-slot-init
loop-slot-init c = turn_start _ _ _

pub note_slot-at-requires : goal.note_slot-at-requires
note_slot-at-requires c =
    let a = c.args in
    let room = turn_room (slot_record a.image.now a.q.0) c.loop-slot.slot 16 (omega arith) in
    (c.requires.0, omega arith, omega (arith, c.loop-slot.invariant.end, c.requires.1))

pub loop-slot-preserved : goal.loop-slot-preserved
loop-slot-preserved c = noted_turn _ _ c.loop-slot.invariant c.note_slot-at.ensures
