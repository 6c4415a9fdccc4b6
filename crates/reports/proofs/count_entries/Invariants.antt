use Rattle.reports.specs.Listing.{block_records, CountOf}
use Rattle.reports.proofs.count_entries.Given as goal

abbrev pub invariant-loop-b : goal.invariant-loop-b
invariant-loop-b l = CountOf (block_records l.image l.c l.b) l.count
