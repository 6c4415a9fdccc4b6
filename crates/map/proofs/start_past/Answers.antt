-- `map::start_past` meets its contract: a law for each way a word is passed. Assumes nothing.
use native.Mathlib.Nat.{lt_of_le_of_lt, le_trans, le_refl, add-le-add}
use native.Mathlib.Omega.{arith}
use lib.Count.{leading_le, trailing_le}
use Rattle.map.proofs.BeginningLaws.{none_begins}
use Rattle.map.proofs.StretchLaws.{past_ones, past_zeros, past_enough, past_begin, past_last}
use Rattle.map.proofs.start_past.Goals as goal
use Rattle.map.proofs.start_past.Goals.{then-n-lt15+else-b-lt16, else-n-lt15}

pub returns-then-word : goal.returns-then-word
returns-then-word c =
    past_ones _ _ _ (c.type_inv.image _).fits _ c.requires.3 c.requires.4 c.if-word.true

pub returns-then-word-eq0 : goal.returns-then-word-eq0
returns-then-word-eq0 c =
    past_zeros _ _ _ (c.type_inv.image _).fits _ c.requires.3 c.requires.4 c.if-word-eq0.true

pub overflow_cast-first : goal.overflow_cast-first
overflow_cast-first c = record { fits = lt_of_le_of_lt (leading_le 16 _) (omega arith) }

pub overflow_add-w : goal.overflow_add-w
overflow_add-w c = record { fits = lt_of_le_of_lt (add-le-add (le_refl _) (leading_le 16 _)) (omega arith) }

pub returns-then-start-n : goal.returns-then-start-n
returns-then-start-n c =
    past_enough _ _ _ (c.type_inv.image _).fits _ c.requires.3 c.requires.4 c.if-start-n.true

pub overflow_cast-b : goal.overflow_cast-b
overflow_cast-b c = record { fits = lt_of_le_of_lt (leading_le 16 _) (omega arith) }

pub returns-then-b-lt16 : goal.returns-then-b-lt16
returns-then-b-lt16 c =
    past_begin _ _ _ (c.type_inv.image _).fits _ c.requires.3 c.requires.4
    c.if-word.false (omega arith) _ (omega (arith, c.beginnings.type_inv)) c.beginnings.ensures c.if-b-lt16.true

pub overflow_cast-result : goal.overflow_cast-result
overflow_cast-result c = record { fits = lt_of_le_of_lt (trailing_le 16 _) (omega arith) }

pub overflow_sub-result : goal.overflow_sub-result
overflow_sub-result c = le_trans (trailing_le 16 _) (omega arith)

pub returns : goal.returns
returns c =
    past_last _ _ _ (c.type_inv.image _).fits _ c.requires.3 c.requires.4
    c.if-word.false (omega arith) (λ l b o. elim c.if-n-lt15.branch [
      | then-n-lt15+else-b-lt16 g ↦ none_begins _ _ _ b (omega (arith, g.beginnings.type_inv)) (omega arith) g.beginnings.ensures (omega (arith, g.if-b-lt16.false, o.high)) o
      | else-n-lt15 g ↦ absurd (omega (arith, g.if-n-lt15.false))
    ])
