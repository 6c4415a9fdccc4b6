-- Area create and remove: the state that they leave, and what is booked.
use Rattle.std.specs.Prelude.{◌≡◌, List, [], ℕ, ◌<◌, length, Result, Some, None}
use Rattle.std.proofs.Math.Option.{some}
use Rattle.types.specs.declared.Name.{Name}
use Rattle.types.specs.declared.Refusal.{Refusal}
use Rattle.types.specs.declared.State.{State}
use Rattle.types.specs.Words.{result_word, left_of}
use Rattle.disc.specs.Names.{named}
use Rattle.disc.specs.Entries.{place_count, name_at, index_sector}
use Rattle.names.specs.NameIs.{NameIs}
use Rattle.catalog.specs.declared.Place.{Place}
use Rattle.catalog.specs.declared.Unit.{Unit}
use Rattle.state.specs.Areas.{area_named, vacant_area_of, area_opened, area_closed}
use Rattle.plain.specs.Table.{table_find, table_put, table_remove}
use Rattle.plain.specs.Unit.{Plain, File, sys_of, with_tables, with_areas}
use Rattle.plain.specs.Good.{Good}
use Rattle.plain.specs.Areas.{book_live, step_create_area, step_remove_area}
use Rattle.refine.specs.Represents.{Represents}
use Rattle.refine.specs.OnDisc.{OnDisc}
use Rattle.refine.specs.Writes.{booked_image}
use Rattle.refine.specs.Leaves.{Replies}
use Rattle.lookup.specs.Unit.{NumbersOf, unit_places}
use Rattle.lookup.specs.Find.{NameAt}

-- A message's result word, and the state after it.
pub record AreaDone : Type 0 where
  pub result : ℕ
  pub state : State

abbrev pub area_done : State → Result State Refusal → AreaDone
area_done state done = record { result = result_word done; state = left_of state done }

-- ---- Create area

-- The file f under name n, which is not open, has an area process in the lowest vacant descriptor j, with no user: "index sector
-- and length are the process's".
pub record AreaMade (p : Plain) (state : State) (n : ℕ) (next : State) (q : Plain) : Type 0 where
  pub f : File
  pub file : table_find n p.files ≡ some f
  pub absent : area_named n state ≡ None
  pub j : ℕ
  pub vacant : vacant_area_of state ≡ Some j
  pub name : Name
  pub is : NameIs name n
  pub unit : q ≡ with_areas p (table_put n [] p.areas)
  pub left : next
      ≡ area_opened state j name (record { 0 = index_sector p.F p.s (length f.slices) f.slices }) (length f.sectors)

-- "Create area: dummy if open."
pub data AreaCreated (p : Plain) (state : State) (n : ℕ) (next : State) (q : Plain) : Type 0 where
  dummy_create : q ≡ p → next ≡ state → AreaCreated p state n next q
  made : AreaMade p state n next q → AreaCreated p state n next q

-- Create area on the unit p, whatever words are lent.
pub record CreateAreaStep (p : Plain) (state : State) (name : Name) (r : AreaDone) : Type 0 where
  pub step : (lent : List ℕ)
      → Replies p (step_create_area p name lent) lent r.result (r.state ≡ state) (AreaCreated p state (named name) r.state)

-- The same of every unit that image and state represent.
pub record CreatesArea (image : List ℕ) (o : Unit) (state : State) (name : Name) (r : AreaDone) : Type 0 where
  pub all : (p : Plain) → Good p → Represents image state p → NumbersOf o p → CreateAreaStep p state name r

-- ---- booking

-- The entry of file f under name n stands in the place; sector and size are its index sector and length.
pub record CanBookFrom (image : List ℕ) (o : Unit) (place : Place) (sector size : ℕ) (p : Plain) (n : ℕ) (f : File) : Type 0 where
  pub on : OnDisc image p
  pub numbers : NumbersOf o p
  pub file : table_find n p.files ≡ some f
  pub at : NameAt image p n place
  pub index : sector ≡ index_sector p.F p.s (length f.slices) f.slices
  pub live : size ≡ length f.sectors

pub record CanBook (image : List ℕ) (o : Unit) (place : Place) (sector size : ℕ) : Type 0 where
  pub unit : Plain
  pub name : ℕ
  pub file : File
  pub can : CanBookFrom image o place sector size unit name file

-- "Length and slices are booked."
pub record Booked (image : List ℕ) (o : Unit) (place : Place) (sector size : ℕ) (after : List ℕ) : Type 0 where
  pub all : (p : Plain) (n : ℕ) (f : File) (can : CanBookFrom image o place sector size p n f)
      → after ≡ booked_image p (sys_of p) image can.at.number n f

-- ---- Remove area

-- The area of name n, in descriptor j, has no user: its file f is booked in its place t, and the descriptor is vacant again.
pub record AreaBooked (p : Plain) (image : List ℕ) (state : State) (n : ℕ) (after : List ℕ) (next : State) (q : Plain) : Type 0 where
  pub f : File
  pub file : table_find n p.files ≡ some f
  pub alone : table_find n p.areas ≡ some []
  pub t : ℕ
  pub inside : t < place_count p.H p.layers
  pub stands : name_at (unit_places image p) t ≡ n
  pub j : ℕ
  pub found : area_named n state ≡ Some j
  pub unit : q ≡ with_tables p p.layers p.sys (table_put n (book_live f) p.files) (table_remove n p.areas)
  pub left : next ≡ area_closed state j
  pub written : after ≡ booked_image p (sys_of p) image t n f

-- "Remove area: dummy if none or if it has users; else length and slices are booked."
pub data AreaRemoved (p : Plain) (image : List ℕ) (state : State) (n : ℕ) (after : List ℕ) (next : State) (q : Plain) : Type 0 where
  dummy_remove : q ≡ p → after ≡ image → next ≡ state → AreaRemoved p image state n after next q
  books : AreaBooked p image state n after next q → AreaRemoved p image state n after next q

-- Remove area on the unit p, whatever words are lent.
pub record RemoveAreaStep (p : Plain) (image : List ℕ) (state : State) (name : Name) (after : List ℕ) (r : AreaDone) : Type 0 where
  pub step : (lent : List ℕ)
      → Replies p (step_remove_area p name lent) lent r.result ((after ≡ image) × (r.state ≡ state))
      (AreaRemoved p image state (named name) after r.state)

-- The same of every unit that image and state represent.
pub record RemovesArea (image : List ℕ) (o : Unit) (state : State) (name : Name) (after : List ℕ) (r : AreaDone) : Type 0 where
  pub all : (p : Plain) → Good p → Represents image state p → NumbersOf o p → RemoveAreaStep p image state name after r
