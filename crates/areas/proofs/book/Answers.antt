-- `areas::book` meets its contract. Assumes nothing.
use native.Mathlib.Omega.{arith}
use Rattle.areas.proofs.BookLaws.{book_room, entry_length, slices_fit, reserved_fits, booked}
use Rattle.areas.proofs.book.Goals as goal

pub slice_total-total-requires : goal.slice_total-total-requires
slice_total-total-requires c = slices_fit c.requires.can c.file_block.ensures.file

pub read_entry-requires : goal.read_entry-requires
read_entry-requires c = (omega arith, book_room c.requires.can)

pub overflow_mul-entry : goal.overflow_mul-entry
overflow_mul-entry c =
    record { fits = reserved_fits c.requires.can c.file_block.ensures.file c.slice_total-total.ensures }

pub write_entry-requires : goal.write_entry-requires
write_entry-requires c =
    (entry_length c.requires.can _ _ _ c.read_entry.ensures, book_room c.requires.can)

pub returns : goal.returns
returns c =
    record {
      all = λ p n f can. booked can c.file_block.ensures.file c.slice_total-total.ensures c.read_entry.ensures c.write_entry.ensures;
    }
