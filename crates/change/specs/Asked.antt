-- What Change asks of a file and of the lent entry, before anything is written.
use Rattle.std.specs.Prelude.{◌≡◌, Bool, not, ◌&&◌, ◌||◌, cond, List, ℕ, eqb}
use Rattle.std.proofs.Math.Option.{some}
use Rattle.disc.specs.Numbers.{need}
use Rattle.disc.specs.Names.{packed, legal_name}
use Rattle.disc.specs.Attributes.{legal_attributes, legal_with, permanent}
use Rattle.names.specs.NameIs.{NameIs}
use Rattle.catalog.specs.declared.Place.{Place}
use Rattle.catalog.specs.declared.Unit.{Unit}
use Rattle.plain.specs.Table.{table_find, table_remove, is_some}
use Rattle.plain.specs.Unit.{Plain, File, entry, sys_of}
use Rattle.plain.specs.Taking.{layers_for}
use Rattle.plain.specs.Catalog.{new_name, kept_or, attributes_in, size_in, slices_after, change_file}
use Rattle.refine.specs.OnDisc.{OnDisc}
use Rattle.lookup.specs.Unit.{NumbersOf}
use Rattle.lookup.specs.Files.{ClosedFile}
use Rattle.change.specs.declared.rewrite.Standing.{Standing}
use Rattle.change.specs.declared.rewrite.Wanted.{Wanted}
use Rattle.change.specs.Rewrite.{StandsAs}

-- ---- the file as it stands

-- Of every file with no area process whose entry stands in the place.
pub record Stands (image : List ℕ) (o : Unit) (place : Place) (r : Standing) : Type 0 where
  pub all : (p : Plain) (n : ℕ) (f : File) → ClosedFile image o place p n f → StandsAs image o r p n f

-- ---- the file as it is to be

-- "Name kept if entry word 0 is 0, attributes or length (word 9) if negative; equal is no change."
pub record WantedOf (s n : ℕ) (f : Standing) (lent : List ℕ) (r : Wanted) : Type 0 where
  pub name : NameIs r.name (new_name n lent)
  pub moves : r.moves ≡ not (eqb (new_name n lent) n)
  pub attributes : r.attributes ≡ kept_or (attributes_in lent) f.attributes
  pub size : r.size ≡ kept_or (size_in lent) f.size
  pub slices : r.slices ≡ cond (eqb r.size f.size) f.slices (need s r.size)

-- ---- the questions

-- "4. .. name, size, attributes legal? 5. .. not permanent (Change: name and length kept)? 1200h"
unfoldable pub allowed_by : Standing → Wanted → Bool
allowed_by f w =
    legal_name (packed w.name)
    && (legal_attributes w.attributes
    && (legal_with w.attributes w.slices && (not (permanent f.attributes) || (not w.moves && eqb w.size f.size))))

-- "With all 16 times L places taken by other names, SYS first grows": the layers after the message, of every unit on the image that
-- has the file.
pub record LayersFor (image : List ℕ) (o : Unit) (n : ℕ) (w : Wanted) (r : ℕ) : Type 0 where
  pub all : (p : Plain) (f : File) → OnDisc image p → NumbersOf o p → table_find n p.files ≡ some f
      → r ≡ cond w.moves (layers_for p.H (sys_of p) (packed w.name) (table_remove n p.files)) p.layers

-- "6. New name unused? 1010h"
pub record TakenBy (image : List ℕ) (o : Unit) (w : Wanted) (r : Bool) : Type 0 where
  pub all : (p : Plain) → OnDisc image p → NumbersOf o p → r ≡ w.moves && is_some (entry p (packed w.name))

-- The file as it stands, as it is to be under name m, and SYS's layers then.
pub record AskedAs (image : List ℕ) (o : Unit) (now : Standing) (w : Wanted) (layers : ℕ) (p : Plain) (n m : ℕ) (f : File) : Type 0 where
  pub stands : StandsAs image o now p n f
  pub name : NameIs w.name m
  pub moves : w.moves ≡ not (eqb m n)
  pub slices : w.slices ≡ slices_after p.s w.size f
  pub layered : layers ≡ cond (eqb m n) p.layers (layers_for p.H (sys_of p) m (table_remove n p.files))

pub record CanJudge (image : List ℕ) (o : Unit) (now : Standing) (w : Wanted) (layers : ℕ) : Type 0 where
  pub unit : Plain
  pub old : ℕ
  pub new : ℕ
  pub file : File
  pub asked : AskedAs image o now w layers unit old new file

-- The answer is the plain unit's, with whatever words are lent.
pub record Judges (image : List ℕ) (o : Unit) (now : Standing) (w : Wanted) (layers r : ℕ) : Type 0 where
  pub all : (p : Plain) (n m : ℕ) (f : File) → AskedAs image o now w layers p n m f → (lent : List ℕ)
      → r ≡ (change_file p n f m w.size w.attributes lent).answer.result
