-- `transput::transput` meets its contract. Assumes nothing.
use mathlib.Core.Path.{◌≡◌, refl, sym, ◌∙◌}
use mathlib.Core.Bool.{true}
use Rattle.types.proofs.RefusalLaws.{refusal_nonzero}
use Rattle.plain.specs.Transput.{is_random}
use Rattle.transput.proofs.TransputLaws.{own_is, transputs_refused, some_own, transputs_own, transputs_past, some_first, transputs_first}
use Rattle.transput.proofs.transput.Goals as goal

pub returns-in-Err : goal.returns-in-Err
returns-in-Err c =
    let a = c.args in
    transputs_refused a.block a.lent.now c.area-area.ensures c.in-Err.ensures (refusal_nonzero c.in-Err.no)
    (own_is a.at.state a.at.area a.at.user c.area-area.ensures c.user_at.ensures) c.refused.ensures

pub transput_at-requires : goal.transput_at-requires
transput_at-requires c =
    let a = c.args in
    some_own a.block a.lent.now c.area-area.ensures c.in_default.ensures refl c.requires
    (own_is a.at.state a.at.area a.at.user c.area-area.ensures c.user_at.ensures)

pub returns-then-not-is_random : goal.returns-then-not-is_random
returns-then-not-is_random c =
    let a = c.args in
    transputs_own a.block a.lent.now c.area-area.ensures c.in_default.ensures refl
    (sym c.is_random.ensures ∙ c.if-not-is_random.true) (own_is a.at.state a.at.area a.at.user c.area-area.ensures c.user_at.ensures) c.transput_at.ensures

pub returns-in-Err-position_word : goal.returns-in-Err-position_word
returns-in-Err-position_word c =
    let random : is_random c.args.operation ≡ true = sym c.is_random.ensures ∙ c.if-not-is_random.false in
    let a = c.args in
    transputs_past a.block a.lent.now c.area-area.ensures c.in_default.ensures refl random
    c.in-Err-position_word.ensures c.position_reached-reached.ensures (refusal_nonzero c.in-Err-position_word.no)
    c.refused-in-Err-position_word.ensures

pub transput_at-requires-2 : goal.transput_at-requires-2
transput_at-requires-2 c =
    let random : is_random c.args.operation ≡ true = sym c.is_random.ensures ∙ c.if-not-is_random.false in
    let a = c.args in
    some_first a.block a.lent.now c.area-area.ensures c.in_default.ensures refl random
    c.in_default-position_word.ensures refl c.requires

pub returns : goal.returns
returns c =
    let random : is_random c.args.operation ≡ true = sym c.is_random.ensures ∙ c.if-not-is_random.false in
    let a = c.args in
    transputs_first a.block a.lent.now c.area-area.ensures c.in_default.ensures refl random
    c.in_default-position_word.ensures refl c.transput_at-2.ensures
