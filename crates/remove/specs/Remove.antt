-- Remove: what it writes.
use Rattle.std.specs.Prelude.{◌≡◌, List, ℕ, ◌<◌}
use Rattle.std.proofs.Math.Option.{none, some}
use Rattle.types.specs.declared.Name.{Name}
use Rattle.types.specs.declared.State.{State}
use Rattle.disc.specs.Names.{named}
use Rattle.disc.specs.Entries.{place_count, name_at}
use Rattle.catalog.specs.declared.Place.{Place}
use Rattle.catalog.specs.declared.Unit.{Unit}
use Rattle.plain.specs.Table.{table_find, table_remove}
use Rattle.plain.specs.Unit.{Plain, File, sys_of, with_files}
use Rattle.plain.specs.Good.{Good}
use Rattle.plain.specs.Catalog.{step_remove}
use Rattle.refine.specs.Represents.{Represents}
use Rattle.refine.specs.Writes.{removed_image}
use Rattle.refine.specs.Leaves.{Replies}
use Rattle.lookup.specs.Unit.{NumbersOf, unit_places}
use Rattle.lookup.specs.Files.{ClosedFile}

-- ---- the writes

-- The place of the name is emptied, its slices are given back, and the free sectors are counted.
pub record Dropped (image : List ℕ) (o : Unit) (place : Place) (after : List ℕ) : Type 0 where
  pub all : (p : Plain) (n : ℕ) (f : File) (can : ClosedFile image o place p n f)
      → after ≡ removed_image p (sys_of p) image can.at.number f

-- ---- the message

-- "Remove drops the name": the file f under name n, which has no area process, is gone from its place t.
pub record Removed (p : Plain) (image : List ℕ) (n : ℕ) (after : List ℕ) (q : Plain) : Type 0 where
  pub f : File
  pub file : table_find n p.files ≡ some f
  pub closed : table_find n p.areas ≡ none
  pub t : ℕ
  pub inside : t < place_count p.H p.layers
  pub stands : name_at (unit_places image p) t ≡ n
  pub unit : q ≡ with_files p (table_remove n p.files)
  pub written : after ≡ removed_image p (sys_of p) image t f

-- Remove on the unit p, whatever words are lent.
pub record RemoveStep (p : Plain) (image : List ℕ) (name : Name) (after : List ℕ) (result : ℕ) : Type 0 where
  pub step : (lent : List ℕ) → Replies p (step_remove p name lent) lent result (after ≡ image) (Removed p image (named name) after)

-- The same of every unit that image and state represent.
pub record Removes (image : List ℕ) (o : Unit) (state : State) (name : Name) (after : List ℕ) (result : ℕ) : Type 0 where
  pub all : (p : Plain) → Good p → Represents image state p → NumbersOf o p → RemoveStep p image name after result
