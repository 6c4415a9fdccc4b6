-- `output::room_word` meets its contract. Assumes nothing.
use mathlib.Core.Path.{sym, ap, ◌∙◌}
use Rattle.std.proofs.lemmas.Result.{err_from_is_err_and}
use Rattle.types.specs.Words.{result_word}
use Rattle.slices.specs.Take.{next_word}
use Rattle.output.proofs.FileLaws.{room_by_none, room_by}
use Rattle.output.proofs.room_word.Goals as goal

pub returns-in_err-next_slice : goal.returns-in_err-next_slice
returns-in_err-next_slice c =
    let p = err_from_is_err_and c.from_residual.result c.from_residual.ensures.1 in
    room_by c.if-more-ne0.true c.next_slice.ensures (ap result_word p.1 ∙ p.2 ∙ sym (ap next_word c.in_err-next_slice.was))

pub returns-in_ok-next_slice : goal.returns-in_ok-next_slice
returns-in_ok-next_slice c = room_by c.if-more-ne0.true c.next_slice.ensures (sym (ap next_word c.in_ok-next_slice.was))

pub returns-else-more-ne0 : goal.returns-else-more-ne0
returns-else-more-ne0 c = room_by_none c.if-more-ne0.false
