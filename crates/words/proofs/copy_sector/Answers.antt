-- `words::copy_sector` meets its contract. Assumes nothing.
use Rattle.words.proofs.StoreLaws.{sector_words_front}
use Rattle.words.proofs.copy_sector.Goals as goal

pub returns : goal.returns
returns c =
    sector_words_front c.args.image.now c.args.q.0 c.args.lent.now _ c.requires.1 c.requires.0
    c.copy_words.ensures
