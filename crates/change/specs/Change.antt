-- Change: what it writes.
use Rattle.std.specs.Prelude.{◌≡◌, cond, List, ℕ, suc, ◌≤◌, ◌<◌, eqb, length}
use Rattle.std.proofs.Math.Option.{none, some}
use Rattle.types.specs.declared.Name.{Name}
use Rattle.types.specs.declared.State.{State}
use Rattle.disc.specs.Names.{named}
use Rattle.disc.specs.Entries.{place_count, name_at}
use Rattle.catalog.specs.declared.Place.{Place}
use Rattle.catalog.specs.declared.Unit.{Unit}
use Rattle.plain.specs.Table.{table_find, table_put, table_remove}
use Rattle.plain.specs.Unit.{Plain, File, with_files, sys_of}
use Rattle.plain.specs.Good.{Good}
use Rattle.plain.specs.Taking.{layers_for}
use Rattle.plain.specs.Catalog.{new_name, kept_or, attributes_in, size_in, slices_after, changed, change_file, step_change}
use Rattle.refine.specs.Represents.{Represents}
use Rattle.refine.specs.Leaves.{Replies}
use Rattle.lookup.specs.Unit.{NumbersOf, unit_places}
use Rattle.lookup.specs.Files.{ClosedFile}
use Rattle.preservation.specs.Units.{grown_unit}
use Rattle.grow.specs.Grow.{GrownFrom}
use Rattle.change.specs.Resize.{slices_then}
use Rattle.change.specs.Rewrite.{Rewrites}

-- ---- the unit afterwards

-- "Attributes or length (word 9) [kept] if negative."
abbrev pub size_then : File → List ℕ → ℕ
size_then f lent = kept_or (size_in lent) f.booked

abbrev pub attributes_then : File → List ℕ → ℕ
attributes_then f lent = kept_or (attributes_in lent) f.attributes

-- The file after a Change on the unit p, with the slices that it keeps or takes there.
abbrev pub file_after : Plain → File → List ℕ → File
file_after p f lent =
    let count : ℕ = slices_after p.s (size_then f lent) f in
    changed f (attributes_then f lent) (size_then f lent) count (slices_then p f count) lent

-- The unit p with file f of name n changed.
abbrev pub unit_after : Plain → ℕ → File → List ℕ → Plain
unit_after p n f lent = with_files p (table_put (new_name n lent) (file_after p f lent) (table_remove n p.files))

-- SYS's layers after the message: "the own name is none of the others".
abbrev pub layers_then : Plain → ℕ → List ℕ → ℕ
layers_then p n lent = cond (eqb (new_name n lent) n) p.layers (layers_for p.H (sys_of p) (new_name n lent) (table_remove n p.files))

-- ---- what is written

-- The file's entry stood in place t; slices, blocks and entry are those of the file after the message.
pub record ChangedOn (p : Plain) (image : List ℕ) (n : ℕ) (f : File) (lent after : List ℕ) : Type 0 where
  pub t : ℕ
  pub inside : t < place_count p.H p.layers
  pub stands : name_at (unit_places image p) t ≡ n
  pub rewrites : Rewrites image p t n (new_name n lent) f (file_after p f lent) after

-- Every word that is written, and the unit q then: with SYS as it was, or grown by a layer before the file is changed.
pub data Changed (p : Plain) (image : List ℕ) (n : ℕ) (f : File) (lent after : List ℕ) (q : Plain) : Type 0 where
  stays : layers_then p n lent ≡ p.layers → ChangedOn p image n f lent after → q ≡ unit_after p n f lent → Changed p image n f lent after q
  grows : layers_then p n lent ≡ suc p.layers → (grown : List ℕ) → GrownFrom image p grown → ChangedOn (grown_unit p) grown n f lent after
      → q ≡ unit_after (grown_unit p) n f lent → Changed p image n f lent after q

-- ---- the questions from question 4 on, for a closed file

pub record CanChange (image : List ℕ) (o : Unit) (n : ℕ) (place : Place) (lent : List ℕ) : Type 0 where
  pub unit : Plain
  pub file : File
  pub can : ClosedFile image o place unit n file
  pub size : 16 ≤ length lent

pub record FileChanges (image : List ℕ) (o : Unit) (n : ℕ) (place : Place) (lent after : List ℕ) (result : ℕ) : Type 0 where
  pub all : (p : Plain) (f : File) → ClosedFile image o place p n f
      → Replies p (change_file p n f (new_name n lent) (size_then f lent) (attributes_then f lent) lent) lent result (after ≡ image)
      (Changed p image n f lent after)

-- ---- the message

-- File f under name n, which has no area process, is changed.
pub record ChangeDone (p : Plain) (image : List ℕ) (n : ℕ) (lent after : List ℕ) (q : Plain) : Type 0 where
  pub f : File
  pub file : table_find n p.files ≡ some f
  pub closed : table_find n p.areas ≡ none
  pub changed : Changed p image n f lent after q

pub record ChangeStep (p : Plain) (image : List ℕ) (name : Name) (lent after : List ℕ) (result : ℕ) : Type 0 where
  pub step : Replies p (step_change p name lent) lent result (after ≡ image) (ChangeDone p image (named name) lent after)

-- The same of every unit that image and state represent.
pub record Changes (image : List ℕ) (o : Unit) (state : State) (name : Name) (lent after : List ℕ) (result : ℕ) : Type 0 where
  pub all : (p : Plain) → Good p → Represents image state p → NumbersOf o p → ChangeStep p image name lent after result
