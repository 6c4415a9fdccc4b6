-- `area_messages::user_step` meets its contract. Assumes nothing.
use Rattle.area_messages.proofs.MessageLaws.{step_release_lem, step_position_lem, step_sense, step_transput_lem, step_other}
use Rattle.area_messages.proofs.user_step.Goals as goal

pub returns-in-Reserve : goal.returns-in-Reserve
returns-in-Reserve c = rw c.in-Reserve.is (step_release_lem c.release.ensures)

pub returns-in-Position : goal.returns-in-Position
returns-in-Position c = rw c.in-Position.is (step_position_lem c.position.ensures)

pub returns-in-Sense : goal.returns-in-Sense
returns-in-Sense c = rw c.in-Sense.is (step_sense c.answered.ensures)

pub returns-in-Transput : goal.returns-in-Transput
returns-in-Transput c =
    rw c.in-Transput.is (step_transput_lem c.transput.ensures)

pub returns-in-Other : goal.returns-in-Other
returns-in-Other c = rw c.in-Other.is (step_other c.refused.ensures)
