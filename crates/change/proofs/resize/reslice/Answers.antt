-- `change::resize::reslice` meets its contract. Assumes nothing.
use native.Mathlib.Omega.{arith}
use Rattle.change.proofs.ResizeLaws.{can_cut, cut_sliced, can_lengthen, longer_sliced}
use Rattle.change.proofs.resize.reslice.Goals as goal

pub give_back-requires : goal.give_back-requires
give_back-requires c = can_cut c.requires.can c.if-has-had.true

pub returns-then-has-had : goal.returns-then-has-had
returns-then-has-had c =
    record { all = λ p n f can. cut_sliced can c.if-has-had.true c.give_back.ensures }

pub take_more-requires : goal.take_more-requires
take_more-requires c =
    can_lengthen c.requires.can (omega (arith, c.if-has-had.false))

pub returns-else-has-had : goal.returns-else-has-had
returns-else-has-had c =
    record { all = λ p n f can. longer_sliced can (omega (arith, c.if-has-had.false)) c.take_more.ensures }
