-- `change::judged` meets its contract. Assumes nothing.
use mathlib.Core.Path.{sym, ◌∙◌}
use Rattle.change.proofs.JudgeLaws.{judge_illegal, judge_entered, judge_room, can_ask}
use Rattle.change.proofs.judged.Goals as goal

pub returns-then-not-allowed : goal.returns-then-not-allowed
returns-then-not-allowed c = record { all = λ p n m f asked lent. judge_illegal asked lent (sym c.allowed.ensures ∙ c.if-not-allowed.true) }

pub returns-then-is_taken : goal.returns-then-is_taken
returns-then-is_taken c =
    record {
      all = λ p n m f asked lent. judge_entered asked (sym c.allowed.ensures ∙ c.if-not-allowed.false) lent c.is_taken.ensures c.if-is_taken.true;
    }

pub room-requires : goal.room-requires
room-requires c = can_ask c.requires.asked

pub returns : goal.returns
returns c =
    record {
      all = λ p n m f asked lent.
          judge_room asked (sym c.allowed.ensures ∙ c.if-not-allowed.false) lent c.is_taken.ensures c.if-is_taken.false c.saturating_sub.ensures c.room.ensures;
    }
