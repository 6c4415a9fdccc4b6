-- `map::choose_slice` meets its contract. Assumes nothing.
use mathlib.Core.Path.{sym, ◌∙◌}
use Rattle.map.proofs.MarkLaws.{free_test, used_test}
use Rattle.map.proofs.ChoiceLaws.{answer_next, answer_used, answer_end}
use Rattle.map.proofs.AnswerLaws.{chosen_answers}
use Rattle.map.proofs.choose_slice.Goals as goal
use Rattle.map.proofs.choose_slice.Goals.{else-last-slices-via-then-last-slices+else-is_free, else-last-slices-via-else-last-slices}

pub returns-then-is_free : goal.returns-then-is_free
returns-then-is_free c =
    chosen_answers c.args.image.now c.args.slices c.args.last.0 c.requires.0
    (answer_next _ _ _ c.if-last-slices.true (free_test _ _ (sym c.is_free.ensures ∙ c.if-is_free.true)))

pub returns : goal.returns
returns c =
    chosen_answers c.args.image.now c.args.slices c.args.last.0 c.requires.0
    (c.lowest_free.ensures.slice
    ∙ elim c.else-last-slices.branch [
      | else-last-slices-via-then-last-slices+else-is_free w ↦ answer_used _ _ _ (used_test _ _ (sym w.is_free.ensures ∙ w.if-is_free.false))
      | else-last-slices-via-else-last-slices w ↦ answer_end _ _ _ w.if-last-slices.false
    ])
