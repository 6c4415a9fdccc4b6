-- `create::set` meets its contract. Assumes nothing.
use native.Mathlib.Omega.{arith}
use Rattle.create.proofs.MessageLaws.{sets, sets_short}
use Rattle.create.proofs.set.Goals as goal

pub returns-then-lent-lt16 : goal.returns-then-lent-lt16
returns-then-lent-lt16 c = sets_short c.args.name c.args.lent.now c.requires c.if-lent-lt16.true

pub returns : goal.returns
returns c =
    sets c.args.name c.requires c.stored.ensures.packed (omega (arith, c.if-lent-lt16.false)) c.new_file.ensures
