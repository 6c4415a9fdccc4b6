-- `reports::note_slot` meets its contract. Assumes nothing.
use native.Mathlib.Omega.{arith}
use Rattle.reports.proofs.TurnLaws.{slot_none, slot-length, slot_noted, noted_none}
use Rattle.reports.proofs.note_slot.Goals as goal

pub returns-then-image-first-eq0 : goal.returns-then-image-first-eq0
returns-then-image-first-eq0 c =
    let a = c.args in
    rw (slot_none a.image.now a.q.0 a.slot c.if-image-first-eq0.true) (noted_none _ _)

-- a used slot's record has room
pub copy_words-requires : goal.copy_words-requires
copy_words-requires c =
    let a = c.args in
    (omega arith, omega (arith, slot-length a.image.now a.q.0 a.slot c.if-image-first-eq0.false, c.requires.2))

pub returns : goal.returns
returns c =
    let a = c.args in
    slot_noted a.image.now a.q.0 a.slot c.if-image-first-eq0.false _ a.at c.copy_words.ensures
