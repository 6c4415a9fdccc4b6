-- A closed file as its entry and its index block have it.
use mathlib.Core.Path.{◌≡◌, ◌∙◌}
use mathlib.Core.List.{List}
use Prim.Native.Nat.{ℕ}
use Rattle.index.specs.Block.{slice_total}
use Rattle.catalog.specs.declared.Place.{Place}
use Rattle.catalog.specs.declared.Unit.{Unit}
use Rattle.catalog.specs.Catalog.{entry_word}
use Rattle.plain.specs.Unit.{Plain, File}
use Rattle.lookup.specs.Files.{ClosedFile, BlockOf}
use Rattle.lookup.proofs.FileLaws.{file_words, closed_block, closed_total}
use Rattle.change.specs.declared.rewrite.Standing.{Standing}
use Rattle.change.specs.Rewrite.{StandsAs}

module _ {image : List ℕ} {o : Unit} {place : Place} {p : Plain} {n : ℕ} {f : File} (can : ClosedFile image o place p n f)
    {index : ℕ} {block : List ℕ} (e : index ≡ entry_word image place 8) (of : BlockOf image index block) where
  pub stands_as : (r : Standing) → r.place ≡ place → r.attributes ≡ entry_word image place 6 → r.size ≡ entry_word image place 7 → r.slices ≡ slice_total o.slice block 0 → r.block.words ≡ block
      → StandsAs image o r p n f
  stands_as r at attributes size slices words =
      let w = file_words can.on.good can.at f can.file in
      record {
        on = can.on;
        numbers = can.numbers;
        file = can.file;
        closed = can.closed;
        at = rw at can.at;
        attributes = attributes ∙ w.attributes;
        size = size ∙ w.size;
        slices = slices ∙ closed_total can e of;
        words = words ∙ closed_block can e of;
      }
