-- `state::find_user` meets its contract: std's search finds what the definition's finds. Assumes nothing.
use Rattle.std.proofs.Common.{rules}
use borrow.Author.Tests.{tests}
use Rattle.std.proofs.lemmas.Iterator.{YieldsList-from_slice}
use Rattle.std.proofs.lemmas.Iterator.Search.{position_from_yields_List}
use Rattle.state.specs.Areas.{has_id}
use Rattle.state.proofs.AnswerLaws.{first_position, user_found}
use Rattle.state.proofs.find_user.Goals as goal

pub returns : goal.returns
returns c =
    let place = position_from_yields_List (has_id c.args.sender) _ _ c.position.result c.position.ensures.ran (YieldsList-from_slice c.args.area.users cc) (λ x b q k. search (rules, tests)) in
    user_found (first_position _ _ place)
