-- `numbers::need` meets its contract. Assumes nothing.
use Rattle.std.proofs.Common.{sym, arith}
use Rattle.disc.proofs.NumberLaws.{need_some}
use Rattle.numbers.proofs.need.Goals as goal

pub returns-else-n-eq0 : goal.returns-else-n-eq0
returns-else-n-eq0 c = sym (need_some _ _ (omega arith) (omega arith))
