-- What is promised of marking the slices that an index block describes.
use Rattle.std.specs.Prelude.{◌≡◌, Bool, true, false, List, [], ℕ, ◌+◌, ◌-◌, ◌/◌, ◌%◌, ◌≤◌, ◌<◌, length, Option, is_some, IfSome, IsNone}
use Rattle.disc.specs.Numbers.{slice_start}
use Rattle.disc.specs.Words.{word}
use Rattle.disc.specs.Pairs.{pair_length, pair_start}
use Rattle.disc.specs.Slices.{InRangeOnce, first_of}
use Rattle.disc.specs.Stretches.{span, slices_at}
use Rattle.disc.specs.Kit.{sys_index_sector}
use Rattle.sound.specs.Places.{IndexBlock}
use Rattle.sound.specs.Parts.{MarksOf, Marking}
use Rattle.kit.specs.declared.Geometry.{Geometry}
use Rattle.marks.specs.declared.Indexed.{Indexed}
use Rattle.marks.specs.Marked.{Marked, Free, run_marks}

-- "Pairs, length in sectors and first sector": the pair describes some whole slices, of s sectors each, the first of which is the
-- first slice, in sector F, or a later one.
pub record WholeSlices (F s sectors start : ℕ) : Type 0 where
  pub some : 1 ≤ sectors
  pub whole : sectors % s ≡ 0
  pub low : F ≤ start
  pub aligned : (start - F) % s ≡ 0

-- The answer is the number of slices that the pair describes, or none where they are no whole slices of the unit or one of them is
-- marked already.
pub record PairMarking (g : Geometry) (sectors start : ℕ) (before after : List ℕ) (answer : Option ℕ) : Type 0 where
  pub marking : (held : List ℕ) → Marked g.slices before held
      → Marking (is_some answer) (WholeSlices g.first.0 g.slice sectors start) g.slices after held
      (span ((start - g.first.0) / g.slice + 1) (sectors / g.slice))
  pub slices : IfSome answer (λ n. (1 ≤ n) × (n ≡ sectors / g.slice))
  pub high : IfSome answer (λ _. start + sectors ≤ g.sectors)

-- "Sectors 0 to 5 are never read or written. Sector 6 is the index block of SYS": a sector that is read as an index block is that
-- one or a data sector.
pub data IndexSector (g : Geometry) (q : ℕ) : Type 0 where
  of_sys : q ≡ sys_index_sector → IndexSector g q
  of_file : g.first.0 ≤ q → q < g.sectors → IndexSector g q

-- The index block in sector q is legal, and its slices beside those marked before are the unit's and stand once; then they are
-- marked, and the answer has their number and the first sector of the first.
pub record PairsMarking (image : List ℕ) (g : Geometry) (q : ℕ) (before after : List ℕ) (answer : Option Indexed) : Type 0 where
  pub marking : (held : List ℕ) → MarksOf before held → InRangeOnce g.slices held
      → Marking (is_some answer) (IndexBlock image g.first.0 g.slice q) g.slices after held
      (slices_at image g.first.0 g.slice q)
  pub slices : IfSome answer (λ found. found.slices ≡ length (slices_at image g.first.0 g.slice q))
  pub start : IfSome answer (λ found. found.start.0 ≡ slice_start g.first.0 g.slice (first_of (slices_at image g.first.0 g.slice q)))

-- The same, and if the block is refused no slice is marked.
pub record IndexMarking (image : List ℕ) (g : Geometry) (q : ℕ) (before after : List ℕ) (answer : Option Indexed) : Type 0 where
  pub pairs : PairsMarking image g q before after answer
  pub refused : IsNone answer → MarksOf after []

-- The index block in sector q has one pair, of so many sectors from sector q on.
pub record OnePair (image : List ℕ) (q sectors : ℕ) : Type 0 where
  pub count : word image q 0 ≡ 1
  pub length : pair_length image q 0 ≡ sectors
  pub start : pair_start image q 0 ≡ q

-- A file of so many sectors in one stretch of whole slices of the unit, with its index block in their first sector: "An ordinary file's
-- index block is the first sector of its first slice". None of the slices is marked.
pub record SingleFile (image : List ℕ) (g : Geometry) (q sectors : ℕ) (marks : List ℕ) : Type 0 where
  pub slices : WholeSlices g.first.0 g.slice sectors q
  pub high : q + sectors ≤ g.sectors
  pub pair : OnePair image q sectors
  pub free : Free marks ((q - g.first.0) / g.slice) (sectors / g.slice)

-- The answer true says that it is such a file, and that its slices are marked now; false that it is none, and nothing was changed.
pub record SingleMarking (image : List ℕ) (g : Geometry) (q sectors : ℕ) (before after : List ℕ) (answer : Bool) : Type 0 where
  pub yes : answer ≡ true
      → SingleFile image g q sectors before × (after ≡ run_marks before ((q - g.first.0) / g.slice) (sectors / g.slice))
  pub not : answer ≡ false → (SingleFile image g q sectors before → ⊥) × (after ≡ before)
