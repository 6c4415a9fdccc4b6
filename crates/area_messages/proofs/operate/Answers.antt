-- `area_messages::operate` meets its contract. Assumes nothing.
use mathlib.Core.Path.{refl, sym}
use Rattle.area_messages.proofs.MessageLaws.{operate_low, operate_reserve, operate_stranger, operate_seated, operate_user}
use Rattle.area_messages.proofs.operate.Goals as goal

pub reserve-requires : goal.reserve-requires
reserve-requires c =
    let a = c.args in
    operate_low a.image.now a.state a.unit a.j a.sender a.operation c.requires

pub returns-in-Some : goal.returns-in-Some
returns-in-Some c =
    let a = c.args in
    operate_reserve a.image.now a.state a.unit a.j a.sender a.operation c.in-Some.ensures.0 c.in-Some.ensures.1 c.reserve.ensures

pub area_at-requires : goal.area_at-requires
area_at-requires c =
    let a = c.args in
    operate_low a.image.now a.state a.unit a.j a.sender a.operation c.requires

pub returns-in_default-find_user : goal.returns-in_default-find_user
returns-in_default-find_user c =
    let a = c.args in
    operate_stranger a.image.now a.state a.unit a.j a.sender a.operation (sym c.in_default.ensures) refl
    c.area_at.ensures c.find_user.ensures.first c.in_default-find_user.is c.refused.ensures

pub invariant_of-at : goal.invariant_of-at
invariant_of-at c =
    let a = c.args in
    record { inside = operate_low a.image.now a.state a.unit a.j a.sender a.operation c.requires }

pub user_step-requires : goal.user_step-requires
user_step-requires c =
    let a = c.args in
    operate_seated a.image.now a.state a.unit a.j a.sender a.operation (sym c.in_default.ensures) refl
    c.area_at.ensures c.find_user.ensures.first c.in-Some-find_user.is c.requires

pub returns : goal.returns
returns c =
    let a = c.args in
    operate_user a.image.now a.state a.unit a.j a.sender a.operation (sym c.in_default.ensures) refl
    c.area_at.ensures c.find_user.ensures.first c.in-Some-find_user.is c.user_step.ensures
