-- `catalog::find` meets its contract: the slots sought are those with the name. Assumes nothing.
use mathlib.Core.Path.{ap, ◌∙◌}
use borrow.Author.Rules.{rules}
use Prim.Native.Nat.{ℕ}
use Rattle.disc.specs.Names.{packed}
use Rattle.catalog.specs.Catalog.{key_sector, slot_named, place_from}
use Rattle.catalog.proofs.AnswerLaws.{name_place}
use Rattle.catalog.proofs.find.Goals as goal

pub returns : goal.returns
returns c =
    let a = c.args in
    let test = slot_named a.image.now (packed a.name) in
    name_place (c.first_place.ensures test (λ q r p. search rules)
    ∙ ap (λ (k : ℕ). place_from test (key_sector a.image.now a.c k) a.c.layers 0) c.key-key.ensures)
