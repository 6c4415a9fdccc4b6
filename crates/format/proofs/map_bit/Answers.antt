-- `format::map_bit` meets its contract. Assumes nothing.
use mathlib.Core.Path.{ap, ◌∙◌}
use mir.Val.{bool_byte}
use Rattle.format.proofs.MapLaws.{bit_used, bit_tested}
use Rattle.format.proofs.map_bit.Goals as goal
use Rattle.format.proofs.map_bit.Goals.{then-used-k, else-used-k}

pub returns : goal.returns
returns c =
    let a = c.args in
    elim c.if-used-k.branch [
      | then-used-k w ↦ c.from.ensures ∙ ap bool_byte w.from-is ∙ bit_tested a.used a.slices a.k.0 c.requires w.if-used-k.true
      | else-used-k w ↦ c.from.ensures ∙ ap bool_byte w.from-is ∙ bit_used a.used a.slices a.k.0 c.requires w.if-used-k.false
    ]
