-- `map::is_free` meets its contract. Assumes nothing.
use Rattle.disc.specs.Map.{map_bit}
use Rattle.map.proofs.is_free.Goals as goal

pub returns : goal.returns
unfolding map_bit
returns c = c.bit.ensures
