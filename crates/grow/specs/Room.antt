-- "7. Enough free slices for SYS and file together? 1100h. 8. At most 127 stretches in each? 1008h."
use Rattle.std.specs.Prelude.{◌≡◌, List, ◌++◌, ℕ, ◌≤◌}
use Rattle.disc.specs.Slices.{occurrences}
use Rattle.disc.specs.Stretches.{stretch_count}
use Rattle.disc.specs.Catalog.{Catalog}
use Rattle.index.specs.Block.{whole_index}
use Rattle.catalog.specs.declared.Unit.{Unit}
use Rattle.plain.specs.Table.{Table}
use Rattle.plain.specs.Unit.{Plain, File, held}
use Rattle.plain.specs.Taking.{Taking, taking, enough}
use Rattle.grow.specs.Catalog.{CatalogIn}

-- The questions are asked of a catalog of a unit and of a file, whose index block is given; a new file has no slices.
pub record AskedOf (image : List ℕ) (o : Unit) (block : List ℕ) (p : Plain) (c : Catalog) (slices : List ℕ) : Type 0 where
  pub catalog : CatalogIn image o p c
  pub words : block ≡ whole_index p.F p.s slices
  pub few : stretch_count slices ≤ 127
  pub part : (k : ℕ) → occurrences k slices ≤ occurrences k (held p)

pub record CanAsk (image : List ℕ) (o : Unit) (block : List ℕ) : Type 0 where
  pub unit : Plain
  pub own : Catalog
  pub slices : List ℕ
  pub asked : AskedOf image o block unit own slices

-- The answer is the plain unit's, with so many layers and `for_file` slices for the file: 0, or the word of the first no.
pub record RoomFor (image : List ℕ) (o : Unit) (layers : ℕ) (block : List ℕ) (for_file r : ℕ) : Type 0 where
  pub all : (p : Plain) (c : Catalog) (slices : List ℕ) → AskedOf image o block p c slices → (lent : List ℕ) (files : Table File)
      → let t : Taking = taking p c layers slices for_file in r ≡ (enough p c t (slices ++ t.file_new) lent files).answer.result
