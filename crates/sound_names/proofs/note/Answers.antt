-- `sound_names::note` meets its contract. Assumes nothing.
use Rattle.sound_names.proofs.FilterLaws.{noted}
use Rattle.sound_names.proofs.note.Goals as goal

pub returns : goal.returns
returns c =
    noted c.args.filter.now c.requires c.mix-x.result _ c.mix-x.ensures c.mask.ensures
