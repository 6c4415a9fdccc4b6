-- `slices::fits` meets its contract: the copy's map is the image's, and after the catalog's turn that of the slices held with its new ones.
use mathlib.Core.Path.{sym, ◌∙◌}
use native.Mathlib.Omega.{arith}
use Rattle.slices.proofs.FitLaws.{map_copied, can_first, first_full, can_second, second_fits}
use Rattle.slices.proofs.fits.Goals as goal

pub take_slices-requires : goal.take_slices-requires
take_slices-requires c =
    can_first (map_copied c.args.image.now _ c.requires.can.first.long (omega arith) c.copy_words.ensures) c.requires

pub returns-else-is_ok : goal.returns-else-is_ok
returns-else-is_ok c =
    rw c.if-is_ok.false
    (first_full (map_copied c.args.image.now _ c.requires.can.first.long (omega arith) c.copy_words.ensures) c.take_slices.ensures (sym c.is_ok.ensures.value ∙ c.if-is_ok.false))

pub take_for_file-requires : goal.take_for_file-requires
take_for_file-requires c =
    can_second (map_copied c.args.image.now _ c.requires.can.first.long (omega arith) c.copy_words.ensures) c.take_slices.ensures
    (sym c.is_ok.ensures.value ∙ c.if-is_ok.true) c.requires

pub returns-then-is_ok : goal.returns-then-is_ok
returns-then-is_ok c =
    rw c.is_ok-then-is_ok.ensures.value
    (second_fits (map_copied c.args.image.now _ c.requires.can.first.long (omega arith) c.copy_words.ensures) c.take_slices.ensures
    (sym c.is_ok.ensures.value ∙ c.if-is_ok.true) c.take_for_file.ensures)
