-- `reports::list` meets its contract. Assumes nothing.
use native.Mathlib.Omega.{arith}
use Rattle.reports.proofs.ListingLaws.{can_read, lists_short, lists_can, lists_done}
use Rattle.reports.proofs.list.Goals as goal

pub overflow_mul-blocks : goal.overflow_mul-blocks
overflow_mul-blocks c = omega (arith, (can_read c.requires.meant.standing).few)

pub count_entries-count-requires : goal.count_entries-count-requires
count_entries-count-requires c = can_read c.requires.meant.standing

pub returns-then-lent-count : goal.returns-then-lent-count
returns-then-lent-count c =
    lists_short _ c.count_entries-count.ensures c.if-lent-count.true

pub note_entries-requires : goal.note_entries-requires
note_entries-requires c =
    (can_read c.requires.meant.standing, omega (arith, c.if-lent-count.false, c.count_entries-count.ensures.words))

pub by_name-requires : goal.by_name-requires
by_name-requires c =
    lists_can _ c.count_entries-count.ensures c.if-lent-count.false c.note_entries.ensures (omega arith) c.requires.meant.standing

pub returns : goal.returns
returns c =
    lists_done _ c.count_entries-count.ensures c.if-lent-count.false c.note_entries.ensures c.by_name.ensures
