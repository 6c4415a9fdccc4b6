-- `state::find_area` meets its contract: std's search finds what the definition's finds. Assumes nothing.
use Rattle.std.proofs.Common.{rules}
use borrow.Author.Tests.{tests}
use Rattle.std.proofs.lemmas.Iterator.{YieldsList-from_slice}
use Rattle.std.proofs.lemmas.Iterator.Search.{position_from_yields_List}
use Rattle.disc.specs.Names.{packed}
use Rattle.state.specs.Areas.{is_named}
use Rattle.state.proofs.AnswerLaws.{first_position, area_found}
use Rattle.state.proofs.find_area.Goals as goal

pub returns : goal.returns
returns c =
    let place = position_from_yields_List (is_named (packed c.args.name)) _ _ c.position.result c.position.ensures.ran (YieldsList-from_slice c.args.state.areas cc) (λ x b q k. search (rules, tests)) in
    area_found (first_position _ _ place)
