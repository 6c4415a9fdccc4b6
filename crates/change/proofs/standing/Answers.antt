-- `change::standing` meets its contract. Assumes nothing.
use mathlib.Core.Path.{refl}
use Rattle.lookup.proofs.FileLaws.{closed_fits}
use Rattle.change.proofs.StandLaws.{stands_as}
use Rattle.change.proofs.standing.Goals as goal

pub slice_total-requires : goal.slice_total-requires
slice_total-requires c = closed_fits c.requires.can c.entry_word.ensures c.file_block-block.ensures.file

pub returns : goal.returns
returns c =
    record {
      all = λ p n f can.
          stands_as can c.entry_word.ensures c.file_block-block.ensures.file _ refl c.entry_word-2.ensures c.entry_word-3.ensures
          c.slice_total.ensures refl;
    }
