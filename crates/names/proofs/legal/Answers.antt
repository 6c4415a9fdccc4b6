-- `names::legal` meets its contract: the tests are those of the six characters. Assumes nothing.
use Rattle.std.proofs.Common.{[], ◌∷◌, ◌/◌, ◌%◌, sym, ◌∙◌, refl, arith}
use Rattle.names.proofs.LegalLaws.{by_characters, passed_over}
use Rattle.names.proofs.legal.Goals as goal
use Rattle.names.proofs.legal.Goals.{then-is_letter, else-is_letter}

pub returns-then-rest_legal : goal.returns-then-rest_legal
returns-then-rest_legal c =
    let n = c.args.name in
    rw (by_characters n.0 n.1 n.2 (omega arith) (omega arith)) (elim c.if-is_letter.branch [
      | then-is_letter w ↦ rw (sym c.is_letter.ensures ∙ w.if-is_letter.true, sym (w.rest_legal.ensures ∙ passed_over (n.0 % 256 ∷ n.1 / 256 ∷ n.1 % 256 ∷ n.2 / 256 ∷ [])) ∙ sym w.value-is ∙ c.if-rest_legal.true) refl
      | else-is_letter w ↦ cc
    ])

pub returns-else-rest_legal : goal.returns-else-rest_legal
returns-else-rest_legal c =
    let n = c.args.name in
    rw (c.if-rest_legal.false, by_characters n.0 n.1 n.2 (omega arith) (omega arith)) (elim c.if-is_letter.branch [
      | then-is_letter w ↦ rw (sym c.is_letter.ensures ∙ w.if-is_letter.true, sym (w.rest_legal.ensures ∙ passed_over (n.0 % 256 ∷ n.1 / 256 ∷ n.1 % 256 ∷ n.2 / 256 ∷ [])) ∙ sym w.value-is ∙ c.if-rest_legal.false) refl
      | else-is_letter w ↦ rw (sym c.is_letter.ensures ∙ w.if-is_letter.false) refl
    ])
