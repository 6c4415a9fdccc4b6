-- `create::enter` meets its contract. Assumes nothing.
use Rattle.catalog.proofs.EntryLaws.{entry_whole}
use Rattle.create.proofs.enter.Goals as goal

pub returns : goal.returns
returns c =
    let a = c.args in
    let f = a.file in
    rw (c.entry_words-entry.ensures, entry_whole a.words.now c.requires.0 _ f.attributes f.size a.index.0 a.reserved) at c.write_entry.ensures
