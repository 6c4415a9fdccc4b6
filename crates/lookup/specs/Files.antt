-- A file with no area process and its place, a file's index block, and whether a name has an area process.
use Rattle.std.specs.Prelude.{◌≡◌, Bool, true, false, List, ℕ, zero, suc, length, Option, Some, None}
use Rattle.std.proofs.Math.Option.{none, some}
use Rattle.types.specs.declared.State.{State}
use Rattle.disc.specs.Entries.{index_sector}
use Rattle.words.specs.Store.{zero_words}
use Rattle.index.specs.Block.{whole_index, block_at}
use Rattle.catalog.specs.declared.Place.{Place}
use Rattle.catalog.specs.declared.Unit.{Unit}
use Rattle.state.specs.Areas.{area_named}
use Rattle.plain.specs.Table.{table_find}
use Rattle.plain.specs.Unit.{Plain, File}
use Rattle.refine.specs.OnDisc.{OnDisc}
use Rattle.lookup.specs.Unit.{NumbersOf}
use Rattle.lookup.specs.Find.{NameAt}

-- The entry of file f under name n, which has no area process, stands in the place.
pub record ClosedFile (image : List ℕ) (o : Unit) (place : Place) (p : Plain) (n : ℕ) (f : File) : Type 0 where
  pub on : OnDisc image p
  pub numbers : NumbersOf o p
  pub file : table_find n p.files ≡ some f
  pub closed : table_find n p.areas ≡ none
  pub at : NameAt image p n place

pub record SomeClosedFile (image : List ℕ) (o : Unit) (place : Place) : Type 0 where
  pub unit : Plain
  pub name : ℕ
  pub file : File
  pub can : ClosedFile image o place unit name file

-- "8 index sector (0 if none)": the block of a file with this index sector, its words up to the count and zeros past it; all are 0 if
-- the file has no slice.
unfoldable pub own_block : List ℕ → ℕ → List ℕ
own_block image zero = zero_words 256
own_block image (suc q) = block_at image (suc q)

-- The words are the index block of every file, of every unit on the image, that has this index sector.
pub record BlockOf (image : List ℕ) (index : ℕ) (words : List ℕ) : Type 0 where
  pub all : (p : Plain) → OnDisc image p → (n : ℕ) (f : File) → table_find n p.files ≡ some f
      → index ≡ index_sector p.F p.s (length f.slices) f.slices → words ≡ whole_index p.F p.s f.slices

-- "No area process": whether a search of the state found one, and whether name n has one.
abbrev pub is_found : Option ℕ → Bool
is_found (Some j) = true
is_found None = false

abbrev pub name_open : ℕ → State → Bool
name_open n state = is_found (area_named n state)
