-- `soundness::mark_sys` meets its contract. Assumes nothing.
use Rattle.std.proofs.Common.{arith}
use Rattle.std.proofs.lemmas.Grind.{common_steps}
use Rattle.soundness.proofs.SysLaws.{sys_refused_lem, sys_of_lem, sys_elsewhere, sys_layers_lem}
use Rattle.soundness.proofs.mark_sys.Goals as goal

pub returns-in_err-sys : goal.returns-in_err-sys
returns-in_err-sys c = rw c.from_residual.ensures (sys_refused_lem c.requires.0 c.requires.1 c.in_err-sys.ensures)

pub returns-then-ne : goal.returns-then-ne
returns-then-ne c =
    sys_elsewhere c.requires.0 c.requires.1 c.in_ok-sys.ensures.pairs (λ e. absurd (grind (arith, common_steps)))

pub find_layers-requires : goal.find_layers-requires
find_layers-requires c = sys_of_lem c.requires.0 c.requires.1 c.in_ok-sys.ensures.pairs

pub returns : goal.returns
returns c =
    sys_layers_lem c.requires.0 c.requires.1 c.in_ok-sys.ensures.pairs _ (grind (arith, common_steps)) c.find_layers.ensures
