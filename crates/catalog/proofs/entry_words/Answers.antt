-- `catalog::entry_words` meets its contract. Assumes nothing.
use native.Mathlib.Omega.{arith}
use Rattle.catalog.proofs.EntryLaws.{entry_told}
use Rattle.catalog.proofs.entry_words.Goals as goal

pub returns : goal.returns
returns c =
    let a = c.args in
    entry_told a.words.now c.requires a.name.0 a.name.1 a.name.2 a.attributes a.size a.index.0 a.reserved (omega arith) (omega arith)
