-- Create and Set: "need(size) slices, size zero sectors, all booked".
use Rattle.std.specs.Prelude.{◌≡◌, Bool, not, ◌&&◌, List, ℕ, ◌*◌, ◌≤◌, T, length, replicate}
use Rattle.std.proofs.Math.Option.{none}
use Rattle.types.specs.declared.Name.{Name}
use Rattle.disc.specs.Numbers.{need, negative}
use Rattle.disc.specs.Words.{Words}
use Rattle.disc.specs.Names.{legal_name, key_of, named, unit_in}
use Rattle.disc.specs.Attributes.{legal_attributes, gives_entry_only}
use Rattle.disc.specs.Stretches.{stretch_count}
use Rattle.catalog.specs.declared.Place.{Place}
use Rattle.catalog.specs.declared.Unit.{Unit}
use Rattle.plain.specs.Table.{table_put}
use Rattle.plain.specs.Unit.{Plain, File, sys_of, free_slices, entry, with_files}
use Rattle.plain.specs.Taking.{places_taken}
use Rattle.plain.specs.Catalog.{optional_in, attributes_in, size_in, tail_in, new_file, step_create, step_set}
use Rattle.refine.specs.OnDisc.{OnDisc}
use Rattle.refine.specs.Writes.{created_image}
use Rattle.refine.specs.Leaves.{Replies}
use Rattle.lookup.specs.Unit.{NumbersOf}
use Rattle.lookup.specs.Find.{FirstUnused, UnusedAt}
use Rattle.preservation.specs.Units.{grown_unit, new_file_of}
use Rattle.grow.specs.Grow.{GrownFrom}

-- "4. .. name, size, attributes legal? 1200h", and no bit 13 (R-9).
unfoldable pub legal_new : ℕ → ℕ → ℕ → Bool
legal_new n size attributes = legal_name n && (not (negative size) && (legal_attributes attributes && not (gives_entry_only attributes)))

-- The unit with the new file under name n.
abbrev pub unit_with : Plain → ℕ → ℕ → ℕ → List ℕ → List ℕ → Plain
unit_with p n size attributes optional tail = with_files p (table_put n (new_file_of p size attributes optional tail) p.files)

-- ---- what is written

-- The file f is entered under name n: "an entry takes the first unused place" of its key.
pub record CreatedOn (p : Plain) (image : List ℕ) (n : ℕ) (f : File) (after : List ℕ) : Type 0 where
  pub place : ℕ
  pub first : FirstUnused image p (sys_of p) (key_of p.H n) place
  pub written : after ≡ created_image p (sys_of p) image place n f

-- "With all 16 times L places taken by other names, SYS first grows": then the file is that of the grown unit.
pub record CreatedGrown (p : Plain) (image : List ℕ) (n size attributes : ℕ) (optional tail after : List ℕ) : Type 0 where
  pub full : 16 * p.layers ≤ places_taken p.H (key_of p.H n) (sys_of p) p.files
  pub grown : List ℕ
  pub grows : GrownFrom image p grown
  pub created : CreatedOn (grown_unit p) grown n (new_file_of (grown_unit p) size attributes optional tail) after

-- Every word that is written, and the unit q then.
pub data Created (p : Plain) (image : List ℕ) (n size attributes : ℕ) (optional tail after : List ℕ) (q : Plain) : Type 0 where
  stays : CreatedOn p image n (new_file_of p size attributes optional tail) after → q ≡ unit_with p n size attributes optional tail
      → Created p image n size attributes optional tail after q
  grows : CreatedGrown p image n size attributes optional tail after → q ≡ unit_with (grown_unit p) n size attributes optional tail
      → Created p image n size attributes optional tail after q

-- The plain unit's answer to the questions from question 4 on, and what it leaves, with whatever words are lent.
pub record NewFileStep (p : Plain) (image : List ℕ) (n size attributes : ℕ) (optional tail after : List ℕ) (result : ℕ) : Type 0 where
  pub step : (lent : List ℕ) → Replies p (new_file p n size attributes optional tail lent) lent result (after ≡ image)
      (Created p image n size attributes optional tail after)

pub record NewFileMade (image : List ℕ) (o : Unit) (n size attributes : ℕ) (words after : List ℕ) (result : ℕ) : Type 0 where
  pub all : (p : Plain) → OnDisc image p → NumbersOf o p
      → NewFileStep p image n size attributes (optional_in words) (tail_in words) after result

-- "Create's optional and tail are zero."
pub record CreateStep (p : Plain) (image : List ℕ) (name : Name) (size attributes : ℕ) (after : List ℕ) (result : ℕ) : Type 0 where
  pub step : (lent : List ℕ) → Replies p (step_create p name size attributes lent) lent result (after ≡ image)
      (Created p image (named name) size attributes (replicate 3 0) (replicate 6 0) after)

-- The same of every unit on the image that has the number in the name.
pub record Creates (image : List ℕ) (o : Unit) (name : Name) (size attributes : ℕ) (after : List ℕ) (result : ℕ) : Type 0 where
  pub all : (p : Plain) → OnDisc image p → NumbersOf o p → p.unit ≡ unit_in name → CreateStep p image name size attributes after result

-- "Set takes size from entry word 9, name from the message, optional, attributes and tail from the entry."
pub record SetStep (p : Plain) (image : List ℕ) (name : Name) (lent after : List ℕ) (result : ℕ) : Type 0 where
  pub step : Replies p (step_set p name lent) lent result (after ≡ image)
      (Created p image (named name) (size_in lent) (attributes_in lent) (optional_in lent) (tail_in lent) after)

pub record Sets (image : List ℕ) (o : Unit) (name : Name) (lent after : List ℕ) (result : ℕ) : Type 0 where
  pub all : (p : Plain) → OnDisc image p → NumbersOf o p → p.unit ≡ unit_in name → SetStep p image name lent after result

-- ---- what the steps in between start from

-- Questions 4 and 6 are answered yes; the words are those of an entry.
pub record AskedFrom (image : List ℕ) (o : Unit) (n size attributes : ℕ) (words : List ℕ) (p : Plain) : Type 0 where
  pub on : OnDisc image p
  pub numbers : NumbersOf o p
  pub legal : T (legal_new n size attributes)
  pub fresh : entry p n ≡ none
  pub long : 16 ≤ length words
  pub lent : Words words

-- The key has an unused place, or none.
pub record CanPlaceFrom (image : List ℕ) (o : Unit) (place : Place) (n size attributes : ℕ) (words : List ℕ) (p : Plain) : Type 0 where
  pub asked : AskedFrom image o n size attributes words p
  pub at : UnusedAt image p (sys_of p) p.files (key_of p.H n) place

pub record CanGrowForFrom (image : List ℕ) (o : Unit) (n size attributes : ℕ) (words : List ℕ) (p : Plain) : Type 0 where
  pub asked : AskedFrom image o n size attributes words p
  pub full : 16 * p.layers ≤ places_taken p.H (key_of p.H n) (sys_of p) p.files

-- Questions 7 and 8 too are answered yes, and the key has an unused place.
pub record CanWriteFrom (image : List ℕ) (o : Unit) (place : Place) (n size attributes : ℕ) (words : List ℕ) (p : Plain) : Type 0 where
  pub place_for : CanPlaceFrom image o place n size attributes words p
  pub room : need p.s size ≤ free_slices p
  pub few : stretch_count (new_file_of p size attributes (optional_in words) (tail_in words)).slices ≤ 127

-- Some unit on the image is such.
pub record CanWrite (image : List ℕ) (o : Unit) (place : Place) (n size attributes : ℕ) (words : List ℕ) : Type 0 where
  pub unit : Plain
  pub can : CanWriteFrom image o place n size attributes words unit

pub record CanPlace (image : List ℕ) (o : Unit) (place : Place) (n size attributes : ℕ) (words : List ℕ) : Type 0 where
  pub unit : Plain
  pub can : CanPlaceFrom image o place n size attributes words unit

pub record CanGrowFor (image : List ℕ) (o : Unit) (n size attributes : ℕ) (words : List ℕ) : Type 0 where
  pub unit : Plain
  pub can : CanGrowForFrom image o n size attributes words unit

-- What they leave, for every such unit.
pub record FileWritten (image : List ℕ) (o : Unit) (place : Place) (n size attributes : ℕ) (words after : List ℕ) : Type 0 where
  pub all : (p : Plain) → CanWriteFrom image o place n size attributes words p
      → CreatedOn p image n (new_file_of p size attributes (optional_in words) (tail_in words)) after

pub record Placed (image : List ℕ) (o : Unit) (place : Place) (n size attributes : ℕ) (words after : List ℕ) (result : ℕ) : Type 0 where
  pub all : (p : Plain) → CanPlaceFrom image o place n size attributes words p
      → NewFileStep p image n size attributes (optional_in words) (tail_in words) after result

pub record PlacedGrown (image : List ℕ) (o : Unit) (n size attributes : ℕ) (words after : List ℕ) (result : ℕ) : Type 0 where
  pub all : (p : Plain) → CanGrowForFrom image o n size attributes words p
      → NewFileStep p image n size attributes (optional_in words) (tail_in words) after result
