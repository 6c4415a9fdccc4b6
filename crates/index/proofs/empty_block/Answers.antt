-- `index::empty_block` meets its contract: its words are 256 zeros. Assumes nothing.
use mathlib.Core.Path.{refl}
use Rattle.words.specs.Store.{zero_words}
use Rattle.index.proofs.empty_block.Goals as goal

pub returns : goal.returns
unfolding zero_words
returns c = refl
