-- `remove::drop_file` meets its contract. Assumes nothing.
use Rattle.lookup.proofs.FileLaws.{closed_fits}
use Rattle.remove.proofs.DropLaws.{drop_room, can_give_all, can_count, dropped}
use Rattle.remove.proofs.drop_file.Goals as goal

pub slice_total-total-requires : goal.slice_total-total-requires
slice_total-total-requires c =
    closed_fits c.requires.can c.entry_word.ensures c.file_block-block.ensures.file

pub clear_place-requires : goal.clear_place-requires
clear_place-requires c = drop_room c.requires.can

pub free_slices-requires : goal.free_slices-requires
free_slices-requires c =
    can_give_all c.requires.can c.entry_word.ensures c.file_block-block.ensures.file c.clear_place.ensures
    c.slice_total-total.ensures

pub count_free-requires : goal.count_free-requires
count_free-requires c =
    can_count c.requires.can c.entry_word.ensures c.file_block-block.ensures.file c.clear_place.ensures
    c.slice_total-total.ensures c.free_slices.ensures

pub returns : goal.returns
returns c =
    record {
      all = λ p n f can.
          dropped can c.entry_word.ensures c.file_block-block.ensures.file c.clear_place.ensures c.slice_total-total.ensures c.free_slices.ensures c.count_free.ensures;
    }
