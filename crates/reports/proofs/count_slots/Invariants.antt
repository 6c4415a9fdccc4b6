use Rattle.reports.specs.Listing.{slot_records, CountOf}
use Rattle.reports.proofs.count_slots.Given as goal

abbrev pub invariant-loop-i : goal.invariant-loop-i
invariant-loop-i l = CountOf (slot_records l.image l.q.0 l.i) l.count
