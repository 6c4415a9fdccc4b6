-- `attributes::legal` meets its contract: the word is the sum of the bits that a file may have. Assumes nothing.
use Rattle.std.proofs.Common.{not, sym, ap, ◌∙◌}
use Rattle.std.proofs.lemmas.Bool.{eq-eqb}
use Rattle.attributes.proofs.AttributeLaws.{own_bits}
use Rattle.attributes.proofs.legal.Goals as goal
use Rattle.attributes.proofs.legal.Goals.{then-entry_only, else-entry_only}

pub returns-after-entry_only : goal.returns-after-entry_only
returns-after-entry_only c =
    let a = c.args.a in
    rw (eq-eqb a _ (sym c.if-a.true ∙ own_bits a)) (elim c.if-entry_only.branch [
      | then-entry_only w ↦ rw (sym c.entry_only.ensures ∙ w.if-entry_only.true, w.result-is) (ap not w.bit.ensures)
      | else-entry_only w ↦ rw (sym c.entry_only.ensures ∙ w.if-entry_only.false, w.result-is, w.if-entry_only.false)
    ])
