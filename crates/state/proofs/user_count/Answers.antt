-- `state::user_count` meets its contract. Assumes nothing.
use Rattle.std.proofs.Common.{◌≡◌, sym, ◌∙◌, count_by, rules}
use Rattle.state.specs.Areas.{is_taken}
use Rattle.state.proofs.AnswerLaws.{count_is}
use Rattle.state.proofs.user_count.Goals as goal

pub returns : goal.returns
returns c =
    let counted : c.count.result ≡ count_by is_taken c.args.area.users = search rules in
    counted ∙ sym (count_is _ _)
