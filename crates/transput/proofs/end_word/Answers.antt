-- `transput::end_word` meets its contract. Assumes nothing.
use mathlib.Core.Path.{sym, ◌∙◌}
use Rattle.plain.proofs.TransputLaws.{end_extendable, end_fixed}
use Rattle.transput.proofs.end_word.Goals as goal

pub returns-then-bit : goal.returns-then-bit
returns-then-bit c = sym (end_extendable _ (sym c.bit.ensures ∙ c.if-bit.true))

pub returns : goal.returns
returns c = sym (end_fixed _ (sym c.bit.ensures ∙ c.if-bit.false))
