-- What is read of a file, and its data blocks: each is said of every file on the image that has the name or the index sector given.
use Rattle.std.specs.Prelude.{◌≡◌, List, ◌++◌, ℕ, ◌<◌, length, get_or, take, drop}
use Rattle.std.proofs.Math.Option.{Option, none, some}
use Rattle.disc.specs.Stretches.{block_sector, file_from}
use Rattle.disc.specs.Entries.{index_sector}
use Rattle.words.specs.Store.{sector_words}
use Rattle.catalog.specs.declared.Unit.{Unit}
use Rattle.plain.specs.Table.{table_find}
use Rattle.plain.specs.Unit.{Plain, File, entry}
use Rattle.refine.specs.OnDisc.{OnDisc}
use Rattle.refine.specs.Writes.{replaced_image}
use Rattle.lookup.specs.Unit.{NumbersOf, CatalogOn}

-- "6 attributes": the word of an entry, 0 if there is none.
abbrev pub entry_attributes : Option (List ℕ) → ℕ
entry_attributes none = 0
entry_attributes (some words) = get_or words 6 0

-- The attributes in the entry of name n, of every unit whose catalog is on the image.
pub record AttributesOf (image : List ℕ) (o : Unit) (n r : ℕ) : Type 0 where
  pub all : (p : Plain) → CatalogOn image p → NumbersOf o p → r ≡ entry_attributes (entry p n)

-- Block k of file f with this index sector, of a unit on the image.
pub record BlockFrom (image : List ℕ) (index k : ℕ) (p : Plain) (n : ℕ) (f : File) : Type 0 where
  pub on : OnDisc image p
  pub file : table_find n p.files ≡ some f
  pub first : index ≡ index_sector p.F p.s (length f.slices) f.slices
  pub below : k < length f.sectors

pub record SomeBlock (image : List ℕ) (index k : ℕ) : Type 0 where
  pub p : Plain
  pub n : ℕ
  pub f : File
  pub from : BlockFrom image index k p n f

-- "Block b is sector b + 1 of the joined stretches": its sector.
pub record BlockSectorOf (image : List ℕ) (index k r : ℕ) : Type 0 where
  pub all : (p : Plain) (n : ℕ) (f : File) → BlockFrom image index k p n f → r ≡ block_sector p.F p.s f.slices file_from k

-- "Input hands out the sector there": the first 256 lent words are those of block k, the rest stay.
pub record BlockRead (image : List ℕ) (index k : ℕ) (lent after : List ℕ) : Type 0 where
  pub all : (p : Plain) (n : ℕ) (f : File) → BlockFrom image index k p n f
      → after ≡ sector_words image (block_sector p.F p.s f.slices file_from k) ++ drop 256 lent

-- "Output replaces it": the image with the first 256 lent words as block k.
pub record BlockReplaced (image : List ℕ) (index k : ℕ) (lent after : List ℕ) : Type 0 where
  pub all : (p : Plain) (n : ℕ) (f : File) → BlockFrom image index k p n f → after ≡ replaced_image p image f k (take 256 lent)
