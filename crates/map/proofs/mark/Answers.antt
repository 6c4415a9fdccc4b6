-- `map::mark` meets its contract. Assumes nothing.
use Rattle.map.specs.Marks.{marked}
use Rattle.map.proofs.mark.Goals as goal

pub returns : goal.returns
unfolding marked
returns c = rw c.with_bit.ensures
