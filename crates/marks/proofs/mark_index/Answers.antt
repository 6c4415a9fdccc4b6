-- `marks::mark_index` meets its contract. Assumes nothing.
use Rattle.marks.proofs.IndexMarks.{refused_index}
use Rattle.marks.proofs.mark_index.Goals as goal

pub returns-then-is_none : goal.returns-then-is_none
returns-then-is_none c =
    let a = c.args in
    refused_index a.image.now a.g a.q.0 _ c.if-is_none.ensures c.mark_pairs-found.ensures c.unmark_all.ensures
