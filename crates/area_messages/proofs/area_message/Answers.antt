-- `area_messages::area_message` meets its contract. Assumes nothing.
use mathlib.Core.Path.{◌≡◌, sym, ◌∙◌}
use mathlib.Core.Bool.{false}
use Rattle.state.specs.declared.Kind.TheVariants.{Exclusive}
use Rattle.disc.specs.Names.{packed}
use Rattle.state.specs.Areas.{any_other}
use Rattle.preservation.proofs.AreaMessages.{area_low}
use Rattle.area_messages.proofs.MessageLaws.{message_shut, message_reserved, message_nobody, message_strange, message_can, message_asked}
use Rattle.area_messages.proofs.area_message.Goals as goal

pub returns-in_default : goal.returns-in_default
returns-in_default c =
    message_shut c.args.name c.requires c.args.sender c.args.operation c.stored.ensures.packed c.find_area.ensures.first c.in_default.is c.refused.ensures

pub area_at-requires : goal.area_at-requires
area_at-requires c =
    area_low c.requires.standing.represents.areas (packed c.stored.result) c.in-Some.j
    (sym c.find_area.ensures.first ∙ c.in-Some.is)

pub returns-then-any_other : goal.returns-then-any_other
returns-then-any_other c =
    message_reserved c.args.name c.requires c.args.sender c.args.operation c.stored.ensures.packed
    c.find_area.ensures.first c.in-Some.is c.area_at.ensures
    (sym c.any_other.ensures ∙ c.if-any_other.true) c.refused-then-any_other.ensures

pub returns-then-sender-eq0 : goal.returns-then-sender-eq0
returns-then-sender-eq0 c =
    -- no other user is exclusive
    let alone : any_other Exclusive c.args.sender c.area_at.result ≡ false = sym c.any_other.ensures ∙ c.if-any_other.false in
    message_nobody c.args.name c.requires c.args.sender c.args.operation c.stored.ensures.packed c.find_area.ensures.first c.in-Some.is c.area_at.ensures alone c.if-sender-eq0.true
    c.refused-then-sender-eq0.ensures

pub returns-then-not-is_known : goal.returns-then-not-is_known
returns-then-not-is_known c =
    let alone : any_other Exclusive c.args.sender c.area_at.result ≡ false = sym c.any_other.ensures ∙ c.if-any_other.false in
    message_strange c.args.name c.requires c.args.sender c.args.operation c.stored.ensures.packed
    c.find_area.ensures.first c.in-Some.is c.area_at.ensures alone c.if-sender-eq0.false
    (sym c.is_known.ensures ∙ c.if-not-is_known.true) c.refused-then-not-is_known.ensures

pub operate-requires : goal.operate-requires
operate-requires c =
    let alone : any_other Exclusive c.args.sender c.area_at.result ≡ false = sym c.any_other.ensures ∙ c.if-any_other.false in
    message_can c.args.name c.requires c.args.sender c.args.operation c.stored.ensures.packed
    c.find_area.ensures.first c.in-Some.is c.area_at.ensures alone c.if-sender-eq0.false

pub returns : goal.returns
returns c =
    let alone : any_other Exclusive c.args.sender c.area_at.result ≡ false = sym c.any_other.ensures ∙ c.if-any_other.false in
    message_asked c.args.name c.requires c.args.sender c.args.operation c.stored.ensures.packed
    c.find_area.ensures.first c.in-Some.is c.area_at.ensures alone c.if-sender-eq0.false
    (sym c.is_known.ensures ∙ c.if-not-is_known.false) c.operate.ensures
