-- `marks::mark_four` meets its contract: fewer than four slices are marked twice. Assumes nothing.
use Rattle.std.proofs.Common.{refl, arith}
use Rattle.marks.proofs.RunLaws.{four_done}
use Rattle.marks.proofs.mark_four.Goals as goal

pub returns : goal.returns
returns c =
    four_done c.args.marks.now c.args.from c.args.count _ _ c.requires.0 c.requires.1 refl (λ h. omega arith) (λ h. omega arith)
    c.if-marks-from-ne0.false c.if-marks-from-ne0-2.false c.if-marks-third-ne0.false c.if-marks-last-ne0.false
