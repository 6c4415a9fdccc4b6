-- `catalog::read_entry` meets its contract. Assumes nothing.
use Rattle.catalog.proofs.WalkLaws.{entry_front}
use Rattle.catalog.proofs.read_entry.Goals as goal

pub returns : goal.returns
returns c =
    entry_front c.args.image.now c.args.place c.args.lent.now _ c.requires.1 c.requires.0
    c.read_words.ensures
