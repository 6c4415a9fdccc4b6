-- `create::is_legal` meets its contract: by each test, the rest is asked or the answer is no.
use mathlib.Core.Path.{◌≡◌, refl, ap}
use mathlib.Core.Bool.{not, ◌&&◌}
use Rattle.disc.specs.Numbers.{negative}
use Rattle.disc.specs.Names.{packed, legal_name}
use Rattle.disc.specs.Attributes.{legal_attributes}
use Rattle.create.proofs.LegalLaws.{and_then, and_else, legal_by}
use Rattle.create.proofs.is_legal.Goals as goal
use Rattle.create.proofs.is_legal.Goals.{then-legal, else-legal, then-not-negative, else-not-negative, Joined-not-negative}

-- the first three tests
three : (c : Joined-not-negative) → let f = c.args.file in c.if-not-negative.value ≡ (legal_name (packed f.name) && not (negative f.size)) && legal_attributes f.attributes
three c =
    let f = c.args.file in
    let two : c.if-legal.value ≡ legal_name (packed f.name) && not (negative f.size) =
    elim c.if-legal.branch [
      | then-legal w ↦ and_then c.legal.ensures w.if-legal.true w.value-is (ap not w.negative.ensures)
      | else-legal w ↦ and_else _ c.legal.ensures w.if-legal.false w.value-is
    ] in
    elim c.if-not-negative.branch [
      | then-not-negative w ↦ and_then two w.if-not-negative.true w.value-is w.legal-then-not-negative.ensures
      | else-not-negative w ↦ and_else _ two w.if-not-negative.false w.value-is
    ]

pub returns-then-legal-2 : goal.returns-then-legal-2
returns-then-legal-2 c = let f = c.args.file in legal_by _ f.size f.attributes (and_then (three (goal.at.returns-then-legal-2 c).Joined-not-negative) c.if-legal-2.true refl (ap not c.gives_entry_only.ensures))

pub returns-else-legal-2 : goal.returns-else-legal-2
returns-else-legal-2 c = let f = c.args.file in legal_by _ f.size f.attributes (and_else _ (three (goal.at.returns-else-legal-2 c).Joined-not-negative) c.if-legal-2.false refl)
