-- `create::create_in` meets its contract. Assumes nothing.
use mathlib.Core.Path.{refl}
use Rattle.types.proofs.RefusalLaws.{refusal_nonzero}
use Rattle.create.proofs.PlaceLaws.{asked_of, place_refused, place_write, place_done, word_kept}
use Rattle.create.proofs.create_in.Goals as goal

pub room-requires : goal.room-requires
room-requires c =
    record { unit = _; own = _; slices = _; asked = asked_of c.requires.can.asked c.empty_block-none.ensures }

pub returns-in_err-room : goal.returns-in_err-room
returns-in_err-room c =
    record {
      all = λ p can.
          rw (word_kept _ c.from_residual.result c.from_residual.ensures.1)
          (place_refused can c.empty_block-none.ensures c.need-count.ensures c.in_err-room.ensures (refusal_nonzero _));
    }

pub write_file-requires : goal.write_file-requires
write_file-requires c =
    record { unit = _; can = place_write c.requires.can c.empty_block-none.ensures c.need-count.ensures c.in_ok-room.ensures refl }

pub returns : goal.returns
returns c =
    record { all = λ p can. place_done can c.empty_block-none.ensures c.need-count.ensures c.in_ok-room.ensures refl c.write_file.ensures }
