-- The writes of Change on a unit whose SYS has the layers that the new name needs.
use Rattle.std.specs.Prelude.{◌≡◌, true, false, List, ◌≢◌, ℕ, ◌-◌, ◌*◌, ◌≤◌, ◌<◌, length, T}
use Rattle.std.proofs.Math.Option.{none, some}
use Rattle.disc.specs.Numbers.{need}
use Rattle.disc.specs.Words.{Words}
use Rattle.disc.specs.Names.{legal_name, key_of}
use Rattle.disc.specs.Attributes.{legal_attributes, legal_with}
use Rattle.disc.specs.Stretches.{stretch_count}
use Rattle.index.specs.Block.{whole_index}
use Rattle.names.specs.NameIs.{NameIs}
use Rattle.catalog.specs.declared.Unit.{Unit}
use Rattle.plain.specs.Table.{table_find, table_remove}
use Rattle.plain.specs.Unit.{Plain, File, sys_of, free_slices, entry}
use Rattle.plain.specs.Taking.{places_taken}
use Rattle.plain.specs.Catalog.{changed}
use Rattle.refine.specs.OnDisc.{OnDisc}
use Rattle.refine.specs.Writes.{empty_place, resized_image, changed_image, renamed_image}
use Rattle.lookup.specs.Unit.{NumbersOf}
use Rattle.lookup.specs.Find.{NameAt, FirstUnused}
use Rattle.change.specs.Resize.{slices_then}
use Rattle.change.specs.declared.rewrite.Standing.{Standing}
use Rattle.change.specs.declared.rewrite.Wanted.{Wanted}

-- File f under name n, which has no area process, as it stands on the image.
pub record StandsAs (image : List ℕ) (o : Unit) (now : Standing) (p : Plain) (n : ℕ) (f : File) : Type 0 where
  pub on : OnDisc image p
  pub numbers : NumbersOf o p
  pub file : table_find n p.files ≡ some f
  pub closed : table_find n p.areas ≡ none
  pub at : NameAt image p n now.place
  pub attributes : now.attributes ≡ f.attributes
  pub size : now.size ≡ f.booked
  pub slices : now.slices ≡ length f.slices
  pub words : now.block.words ≡ whole_index p.F p.s f.slices

-- The file as it is to be: "optional and tail are replaced. .. For a permanent file optional and tail stay too."
abbrev pub file_then : Plain → File → Wanted → List ℕ → File
file_then p f w lent = changed f w.attributes w.size w.slices (slices_then p f w.slices) lent

-- What the questions of a Change to name m have made sure of.
pub record CanRewriteFrom (image : List ℕ) (o : Unit) (now : Standing) (w : Wanted) (lent : List ℕ)
    (p : Plain) (n m : ℕ) (f : File) : Type 0 where
  pub stands : StandsAs image o now p n f
  pub lent_size : 16 ≤ length lent
  pub lent_words : Words lent
  pub name : NameIs w.name m
  pub kept : w.moves ≡ false → m ≡ n
  pub moved : w.moves ≡ true → m ≢ n
  pub legal : T (legal_name m)
  pub allowed : T (legal_attributes w.attributes)
  pub only : T (legal_with w.attributes w.slices)
  pub needed : need p.s w.size ≤ w.slices
  pub room : w.slices - length f.slices ≤ free_slices p
  pub few : stretch_count (slices_then p f w.slices) ≤ 127
  pub vacant : m ≢ n → entry p m ≡ none
  pub fits : m ≢ n → places_taken p.H (key_of p.H m) (sys_of p) (table_remove n p.files) < 16 * p.layers

pub record CanRewrite (image : List ℕ) (o : Unit) (now : Standing) (w : Wanted) (lent : List ℕ) : Type 0 where
  pub unit : Plain
  pub name : ℕ
  pub new_name : ℕ
  pub file : File
  pub can : CanRewriteFrom image o now w lent unit name new_name file

-- The image with the entry of f, which stood in place t, as that of f': under its own name, or under m in the first place of the
-- new key that is unused once place t is empty.
pub data Rewrites (image : List ℕ) (p : Plain) (t n m : ℕ) (f f' : File) (after : List ℕ) : Type 0 where
  stayed : m ≡ n → after ≡ changed_image p (sys_of p) image t n f f' → Rewrites image p t n m f f' after
  moved : m ≢ n → (u : ℕ) → FirstUnused (empty_place p (sys_of p) (resized_image p image f f') t) p (sys_of p) (key_of p.H m) u
      → after ≡ renamed_image p (sys_of p) image t u m f f' → Rewrites image p t n m f f' after

pub record Rewritten (image : List ℕ) (o : Unit) (now : Standing) (w : Wanted) (lent after : List ℕ) : Type 0 where
  pub all : (p : Plain) (n m : ℕ) (f : File) (can : CanRewriteFrom image o now w lent p n m f)
      → Rewrites image p can.stands.at.number n m f (file_then p f w lent) after
