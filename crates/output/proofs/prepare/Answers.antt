-- `output::prepare` meets its contract. Assumes nothing.
use mathlib.Core.Path.{◌≡◌, refl, sym, ◌∙◌}
use mathlib.Core.Bool.{true}
use native.Mathlib.Omega.{arith}
use Rattle.std.proofs.lemmas.Result.{err_from_is_err_and}
use Rattle.types.proofs.RefusalLaws.{refusal_nonzero}
use Rattle.disc.specs.Attributes.{extendable}
use Rattle.area_users.specs.Seat.{area_users}
use Rattle.output.proofs.OutputLaws.{room_asks, position_asks, more_asks, prepares_below, prepares_fixed, prepares_full, can_extend, prepares_extended}
use Rattle.output.proofs.prepare.Goals as goal

pub returns-then-k-area-clause-prepared : goal.returns-then-k-area-clause-prepared
returns-then-k-area-clause-prepared c =
    rw c.transferred.ensures (prepares_below c.area-area.ensures c.if-k-area.true refl)

pub returns-then-not-bit-clause-prepared : goal.returns-then-not-bit-clause-prepared
returns-then-not-bit-clause-prepared c =
    prepares_fixed c.area-area.ensures c.if-k-area.false c.attributes_of.ensures (sym c.bit.ensures ∙ c.if-not-bit.true)

pub more_slices-more-requires : goal.more_slices-more-requires
more_slices-more-requires c =
    more_asks c.area-area.ensures c.requires c.file_block-block.ensures.file

pub room_word-requires : goal.room_word-requires
room_word-requires c =
    room_asks c.area-area.ensures c.requires c.file_block-block.ensures.file

pub returns-in_err-room_word-clause-prepared : goal.returns-in_err-room_word-clause-prepared
returns-in_err-room_word-clause-prepared c =
    -- the file is extendable
    let extends : extendable c.attributes_of.result ≡ true = sym c.bit.ensures ∙ c.if-not-bit.false in
    let p = err_from_is_err_and c.from_residual.result c.from_residual.ensures.1 in
    rw (p.1, p.2) (prepares_full c.area-area.ensures c.if-k-area.false c.attributes_of.ensures extends
    c.file_block-block.ensures.file c.more_slices-more.ensures c.in_err-room_word.ensures (refusal_nonzero _))

pub extend-index-requires : goal.extend-index-requires
extend-index-requires c =
    let extends : extendable c.attributes_of.result ≡ true = sym c.bit.ensures ∙ c.if-not-bit.false in
    record {
      p = c.requires.p;
      n = c.requires.n;
      users = area_users c.args.at.state c.args.at.area;
      f = c.requires.f;
      can = can_extend c.area-area.ensures c.if-k-area.false c.attributes_of.ensures extends
          c.file_block-block.ensures.file c.more_slices-more.ensures c.in_ok-room_word.ensures refl c.requires.placed;
    }

pub overflow_add-k : goal.overflow_add-k
overflow_add-k c =
    record { fits = omega (arith, position_asks c.requires) }

pub overflow_add-area : goal.overflow_add-area
overflow_add-area c =
    record { fits = omega (arith, (more_asks c.area-area.ensures c.requires c.file_block-block.ensures.file).2) }

pub returns-clause-prepared : goal.returns-clause-prepared
returns-clause-prepared c =
    let extends : extendable c.attributes_of.result ≡ true = sym c.bit.ensures ∙ c.if-not-bit.false in
    rw c.reply.ensures (prepares_extended c.area-area.ensures c.if-k-area.false c.attributes_of.ensures extends
    c.file_block-block.ensures.file c.more_slices-more.ensures c.in_ok-room_word.ensures refl c.extend-index.ensures
    c.with_position-moved.ensures c.with_live-next.ensures c.with_area.ensures)
