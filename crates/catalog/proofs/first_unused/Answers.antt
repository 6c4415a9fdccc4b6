-- `catalog::first_unused` meets its contract: the slots sought are those that are unused. Assumes nothing.
use borrow.Author.Rules.{rules}
use Rattle.catalog.specs.Catalog.{slot_unused}
use Rattle.catalog.proofs.AnswerLaws.{unused_place}
use Rattle.catalog.proofs.first_unused.Goals as goal

pub returns : goal.returns
returns c = unused_place (c.first_place.ensures (slot_unused c.args.image.now) (λ q r p. search rules))
