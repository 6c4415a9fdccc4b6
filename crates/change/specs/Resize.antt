-- A file's slices and blocks cut or lengthened: what is asked of the unit, and what is left on the image.
use Rattle.std.specs.Prelude.{◌≡◌, List, ◌++◌, ℕ, ◌-◌, ◌≤◌, length, take, drop}
use Rattle.std.proofs.Math.Option.{some}
use Rattle.disc.specs.Numbers.{need}
use Rattle.disc.specs.OneStretch.{taken_for_file}
use Rattle.disc.specs.Stretches.{stretch_count, sector_in}
use Rattle.index.specs.Block.{whole_index}
use Rattle.catalog.specs.declared.Unit.{Unit}
use Rattle.plain.specs.Table.{table_find}
use Rattle.plain.specs.Unit.{Plain, File, M, held, free_slices}
use Rattle.refine.specs.OnDisc.{OnDisc}
use Rattle.refine.specs.Writes.{taken_image, cut_image, resized_image}
use Rattle.change.specs.declared.resize.Extent.{Extent}
use Rattle.lookup.specs.Unit.{NumbersOf}

-- "Gives back from the end or takes until need is met": the slices of a file that is to have `count` of them.
abbrev pub slices_then : Plain → File → ℕ → List ℕ
slices_then p f count = take count f.slices ++ taken_for_file (M p) (held p) f.slices (count - length f.slices)

-- ---- the slices

-- File f of a unit on the image, with its index block and the number of its slices; those that it lacks are free, and at most 127
-- stretches come of it.
pub record CanResliceFrom (image : List ℕ) (o : Unit) (block : List ℕ) (had has : ℕ) (p : Plain) (n : ℕ) (f : File) : Type 0 where
  pub on : OnDisc image p
  pub numbers : NumbersOf o p
  pub file : table_find n p.files ≡ some f
  pub words : block ≡ whole_index p.F p.s f.slices
  pub count : had ≡ length f.slices
  pub room : has - length f.slices ≤ free_slices p
  pub few : stretch_count (slices_then p f has) ≤ 127

pub record CanReslice (image : List ℕ) (o : Unit) (block : List ℕ) (had has : ℕ) : Type 0 where
  pub unit : Plain
  pub name : ℕ
  pub file : File
  pub can : CanResliceFrom image o block had has unit name file

-- "An index block is written whole when its file's slices change": slices l of a file become l', which begins as l does.
abbrev pub sliced_image : Plain → List ℕ → List ℕ → List ℕ → List ℕ
sliced_image p image l l' =
    let q : ℕ = sector_in p.F p.s l' 0 in
    taken_image (cut_image image q p.F p.s l (length l')) q p.F p.s l (drop (length l) l')

pub record Resliced (image : List ℕ) (o : Unit) (block : List ℕ) (had has : ℕ) (after new : List ℕ) : Type 0 where
  pub all : (p : Plain) (n : ℕ) (f : File) → CanResliceFrom image o block had has p n f
      → (after ≡ sliced_image p image f.slices (slices_then p f has)) × (new ≡ whole_index p.F p.s (slices_then p f has))

-- ---- the slices and the blocks

pub record CanResizeFrom (image : List ℕ) (o : Unit) (block : List ℕ) (had has : Extent) (p : Plain) (n : ℕ) (f : File) : Type 0 where
  pub slices : CanResliceFrom image o block had.slices has.slices p n f
  pub size : had.size ≡ length f.sectors
  pub needed : need p.s has.size ≤ has.slices

pub record CanResize (image : List ℕ) (o : Unit) (block : List ℕ) (had has : Extent) : Type 0 where
  pub unit : Plain
  pub name : ℕ
  pub file : File
  pub can : CanResizeFrom image o block had has unit name file

-- Image and index block are those of every file f' that f may become, with so many slices and sectors: "sectors that join are zero".
pub record Resized (image : List ℕ) (o : Unit) (block : List ℕ) (had has : Extent) (after new : List ℕ) : Type 0 where
  pub all : (p : Plain) (n : ℕ) (f : File) → CanResizeFrom image o block had has p n f → (f' : File)
      → f'.slices ≡ slices_then p f has.slices → length f'.sectors ≡ has.size
      → (after ≡ resized_image p image f f') × (new ≡ whole_index p.F p.s f'.slices)
