-- `state::any_other` meets its contract. Assumes nothing.
use Rattle.std.proofs.Common.{◌∙◌, rules}
use borrow.Author.Tests.{tests}
use Rattle.std.proofs.lemmas.Iterator.{YieldsList-from_slice}
use Rattle.std.proofs.lemmas.Iterator.Search.{any_from_yields_List}
use Rattle.state.specs.Areas.{is_other}
use Rattle.state.proofs.AnswerLaws.{any_by}
use Rattle.state.proofs.any_other.Goals as goal

pub returns : goal.returns
returns c =
    any_from_yields_List (is_other c.args.kind c.args.sender) _ _ _ c.any.ensures.ran (YieldsList-from_slice c.args.area.users cc) (λ x b q k. search (rules, tests))
    ∙ any_by _ _
