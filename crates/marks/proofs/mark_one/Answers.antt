-- `marks::mark_one` meets its contract. Assumes nothing.
use Rattle.marks.proofs.RunLaws.{one_done}
use Rattle.marks.proofs.mark_one.Goals as goal

pub returns : goal.returns
returns c = one_done _ c.if-marks-from-ne0.false
