-- `kit::within_limits` meets its contract. Assumes nothing.
use Rattle.std.proofs.Common.{arith}
use Rattle.std.proofs.lemmas.Grind.{common_steps}
use Rattle.kit.proofs.within_limits.Goals as goal

pub returns-then-data-slice-le4096 : goal.returns-then-data-slice-le4096
returns-then-data-slice-le4096 c = grind (arith, common_steps)

pub returns-else-data-slice-le4096 : goal.returns-else-data-slice-le4096
returns-else-data-slice-le4096 c = grind (arith, common_steps)
