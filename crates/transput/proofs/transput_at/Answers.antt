-- `transput::transput_at` meets its contract. Assumes nothing.
use mathlib.Core.Path.{sym, ◌∙◌}
use Rattle.transput.proofs.TransputLaws.{at_output, at_input}
use Rattle.transput.proofs.transput_at.Goals as goal

pub returns-then-is_output : goal.returns-then-is_output
returns-then-is_output c =
    at_output (sym c.is_output.ensures ∙ c.if-is_output.true) c.output.ensures

pub returns-else-is_output : goal.returns-else-is_output
returns-else-is_output c =
    at_input (sym c.is_output.ensures ∙ c.if-is_output.false) c.input.ensures
