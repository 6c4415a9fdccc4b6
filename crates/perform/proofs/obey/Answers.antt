-- `perform::obey` meets its contract: each message's own contract gives what the one call promises. Assumes nothing.
use mathlib.Core.Path.{refl, ◌∙◌}
use Rattle.std.proofs.Common.{rules}
use Rattle.disc.specs.Words.{Words}
use Rattle.perform.proofs.ObeyLaws.{can_mean, can_mean_on, answer_obeys, init_obeyed, set_obeyed, create_obeyed, look_up_obeyed, change_obeyed, remove_obeyed, create_area_obeyed, remove_area_obeyed, area_message_obeyed, describe_obeyed, list_obeyed}
use Rattle.perform.proofs.obey.Goals as goal

pub set-requires : goal.set-requires
set-requires c =
    can_mean_on c.requires c.in-Set.is

pub create-requires : goal.create-requires
create-requires c =
    can_mean_on c.requires c.in-Create.is

pub look_up-requires : goal.look_up-requires
look_up-requires c =
    can_mean_on c.requires c.in-LookUp.is

pub change-requires : goal.change-requires
change-requires c =
    can_mean c.requires c.in-Change.is

pub remove-requires : goal.remove-requires
remove-requires c =
    can_mean c.requires c.in-Remove.is

pub create_area-requires : goal.create_area-requires
create_area-requires c =
    can_mean c.requires c.in-CreateArea.is

pub remove_area-requires : goal.remove_area-requires
remove_area-requires c =
    can_mean c.requires c.in-RemoveArea.is

pub area_message-requires : goal.area_message-requires
area_message-requires c =
    can_mean c.requires c.in-AreaMessage.is

pub describe-requires : goal.describe-requires
describe-requires c =
    can_mean_on c.requires c.in-UnitDescription.is

pub list-requires : goal.list-requires
list-requires c =
    record { number = _; meant = can_mean_on c.requires c.in-Listing.is }

pub returns-in-Init : goal.returns-in-Init
returns-in-Init c =
    answer_obeys c.in-Init.is c.requires.known
    (c.word_alone.ensures.0, c.word_alone.ensures.1 ∙ c.with_initialized.ensures) (λ k p g r n. init_obeyed g r k)

pub returns-in-Set : goal.returns-in-Set
returns-in-Set c =
    -- the lent words are words
    let words : let a = c.args in Words a.lent.now = record { each = λ k. (search rules) } in
    answer_obeys c.in-Set.is c.requires.known c.word_alone-in-Set.ensures
    (λ k p g r n. set_obeyed g r words n k c.set.ensures)

pub returns-in-Create : goal.returns-in-Create
returns-in-Create c =
    answer_obeys c.in-Create.is c.requires.known c.word_alone-in-Create.ensures
    (λ k p g r n. create_obeyed g r n k c.create.ensures)

pub returns-in-LookUp : goal.returns-in-LookUp
returns-in-LookUp c =
    answer_obeys c.in-LookUp.is c.requires.known c.word_alone-in-LookUp.ensures
    (λ k p g r n. look_up_obeyed g r n k c.look_up.ensures)

pub returns-in-Change : goal.returns-in-Change
returns-in-Change c =
    let words : let a = c.args in Words a.lent.now = record { each = λ k. (search rules) } in
    answer_obeys c.in-Change.is c.requires.known c.word_alone-in-Change.ensures
    (λ k p g r n. change_obeyed g r words n k c.change.ensures)

pub returns-in-Remove : goal.returns-in-Remove
returns-in-Remove c =
    answer_obeys c.in-Remove.is c.requires.known c.word_alone-in-Remove.ensures
    (λ k p g r n. remove_obeyed g r n k c.remove.ensures)

pub returns-in-CreateArea : goal.returns-in-CreateArea
returns-in-CreateArea c =
    answer_obeys c.in-CreateArea.is c.requires.known c.area_done.ensures
    (λ k p g r n. create_area_obeyed g r n k c.create_area.ensures)

pub returns-in-RemoveArea : goal.returns-in-RemoveArea
returns-in-RemoveArea c =
    answer_obeys c.in-RemoveArea.is c.requires.known c.area_done-in-RemoveArea.ensures
    (λ k p g r n. remove_area_obeyed g r n k c.remove_area.ensures)

pub returns-in-AreaMessage : goal.returns-in-AreaMessage
returns-in-AreaMessage c =
    answer_obeys c.in-AreaMessage.is c.requires.known (refl, refl)
    (λ k p g r n. area_message_obeyed g r n k c.area_message.ensures)

pub returns-in-UnitDescription : goal.returns-in-UnitDescription
returns-in-UnitDescription c =
    answer_obeys c.in-UnitDescription.is c.requires.known c.described.ensures
    (λ k p g r n. describe_obeyed g r n k c.describe.ensures)

pub returns-in-Listing : goal.returns-in-Listing
returns-in-Listing c =
    answer_obeys c.in-Listing.is c.requires.known c.listed.ensures
    (λ k p g r n. list_obeyed g r n k c.list.ensures)
