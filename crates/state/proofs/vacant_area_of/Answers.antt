-- `state::vacant_area_of` meets its contract: std's search finds what the definition's finds. Assumes nothing.
use Rattle.std.proofs.Common.{rules}
use borrow.Author.Tests.{tests}
use Rattle.std.proofs.lemmas.Iterator.{YieldsList-from_slice}
use Rattle.std.proofs.lemmas.Iterator.Search.{position_from_yields_List}
use Rattle.state.specs.Areas.{is_vacant}
use Rattle.state.proofs.AnswerLaws.{first_position, vacant_found}
use Rattle.state.proofs.vacant_area_of.Goals as goal

pub returns : goal.returns
returns c =
    let place = position_from_yields_List is_vacant _ _ c.position.result c.position.ensures.ran (YieldsList-from_slice c.args.state.areas cc) (λ x b q k. search (rules, tests)) in
    vacant_found (first_position _ _ place)
