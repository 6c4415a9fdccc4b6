use Rattle.reports.specs.Listing.{slot_records, Noted}
use Rattle.reports.proofs.note_slots.Given as goal

abbrev pub invariant-loop-slot : goal.invariant-loop-slot
invariant-loop-slot l = Noted l.initial.lent l.start (slot_records l.image l.q.0 l.slot) l.lent l.at
