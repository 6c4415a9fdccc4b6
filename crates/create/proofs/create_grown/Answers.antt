-- `create::create_grown` meets its contract. Assumes nothing.
use mathlib.Core.Path.{refl}
use native.Mathlib.Omega.{arith}
use Rattle.types.proofs.RefusalLaws.{refusal_nonzero}
use Rattle.create.proofs.PlaceLaws.{word_kept, asked_of, layers_fit, grow_refused, can_grow, grown_search, never_full, grown_write, grown_done}
use Rattle.create.proofs.create_grown.Goals as goal

pub overflow_add-unit : goal.overflow_add-unit
overflow_add-unit c = omega (arith, layers_fit c.requires.can)

pub room-requires : goal.room-requires
room-requires c =
    record { unit = _; own = _; slices = _; asked = asked_of c.requires.can.asked c.empty_block-none.ensures }

pub returns-in_err-room : goal.returns-in_err-room
returns-in_err-room c =
    record {
      all = λ p can.
          rw (word_kept _ c.from_residual.result c.from_residual.ensures.1)
          (grow_refused can c.empty_block-none.ensures c.need-count.ensures c.in_err-room.ensures (refusal_nonzero _));
    }

pub grow-grown-requires : goal.grow-grown-requires
grow-grown-requires c =
    record { unit = _; can = can_grow c.requires.can c.empty_block-none.ensures c.need-count.ensures c.in_ok-room.ensures refl }

pub find_unused-requires : goal.find_unused-requires
find_unused-requires c =
    grown_search c.requires.can c.empty_block-none.ensures c.need-count.ensures c.in_ok-room.ensures refl c.grow-grown.ensures c.key-key.ensures

-- the new layer has unused places
pub returns-in_default : goal.returns-in_default
returns-in_default c =
    absurd (never_full c.requires.can c.empty_block-none.ensures c.need-count.ensures c.in_ok-room.ensures refl c.grow-grown.ensures c.key-key.ensures
    c.find_unused.ensures.found c.in_default.is)

pub write_file-requires : goal.write_file-requires
write_file-requires c =
    record {
      unit = _;
      can = grown_write c.requires.can c.empty_block-none.ensures c.need-count.ensures c.in_ok-room.ensures refl c.grow-grown.ensures c.key-key.ensures
          c.find_unused.ensures.found c.in-Some.is;
    }

pub returns-in-Some : goal.returns-in-Some
returns-in-Some c =
    record {
      all = λ p can.
          grown_done can c.empty_block-none.ensures c.need-count.ensures c.in_ok-room.ensures refl c.grow-grown.ensures c.key-key.ensures
          c.find_unused.ensures.found c.in-Some.is c.write_file.ensures;
    }
