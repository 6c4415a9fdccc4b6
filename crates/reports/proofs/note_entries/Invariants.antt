use Rattle.reports.specs.Listing.{block_records, Noted}
use Rattle.reports.proofs.note_entries.Given as goal

abbrev pub invariant-loop-b : goal.invariant-loop-b
invariant-loop-b l = Noted l.initial.lent l.start (block_records l.image l.c l.b) l.lent l.at
