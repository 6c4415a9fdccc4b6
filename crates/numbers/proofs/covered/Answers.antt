-- `numbers::covered` meets its contract: the room for the sectors and the index block is compared. Assumes nothing.
use Rattle.std.proofs.Common.{◌+◌, ◌*◌, arith}
use Rattle.disc.proofs.DecideLaws.{decides_le}
use Rattle.disc.proofs.NumberLaws.{need_le}
use Rattle.numbers.proofs.covered.Goals as goal

pub returns-else-n-eq0 : goal.returns-else-n-eq0
returns-else-n-eq0 c =
    let a = c.args in
    let enough = need_le a.s a.n a.slices (omega arith) (omega arith) in
    decides_le (a.n + 1) (a.slices * a.s) enough.1 enough.0
