-- `Good`: what every plain unit that is read from a sound image keeps, in the order of section 'A sound unit'. What is said of SYS and its
-- files is said of any catalog.
use Rattle.std.specs.Prelude.{◌≡◌, not, List, [], ℕ, ◌*◌, ◌≤◌, ◌<◌, length, get_or, T}
use Rattle.std.proofs.Math.Option.{none, some}
use Rattle.disc.specs.Numbers.{need}
use Rattle.disc.specs.Words.{Words}
use Rattle.disc.specs.Names.{legal_name}
use Rattle.disc.specs.Attributes.{legal_attributes, legal_with}
use Rattle.disc.specs.Slices.{InRangeOnce, first_of}
use Rattle.disc.specs.Stretches.{stretch_count}
use Rattle.disc.specs.Kit.{Limits}
use Rattle.disc.specs.Catalog.{Catalog, is_reserved, slices_needed}
use Rattle.plain.specs.Table.{Table, table_find, SortedFrom, Every}
use Rattle.plain.specs.Unit.{Plain, File, AreaUser, sys_of, M, held}
use Rattle.plain.specs.Taking.{places_taken}
use Rattle.plain.specs.Areas.{users_of, is_writer, is_exclusive}

-- n words.
pub record WordsOf (n : ℕ) (l : List ℕ) : Type 0 where
  pub count : length l ≡ n
  pub words : Words l

-- "Every other file has legal attributes, length at most 32,767 [see the laws], at least need(length) slices, an index";
-- where an area process is open, "the entry keeps the booked length and slices, neither above the live ones, the slices
-- at least need of the length".
pub record GoodFile (c : Catalog) (s : ℕ) (areas : Table (Table AreaUser)) (n : ℕ) (f : File) : Type 0 where
  pub name : T (legal_name n)
  pub ordinary : T (not (is_reserved c n))
  pub attributes : T (legal_attributes f.attributes)
  pub entry_only : T (legal_with f.attributes (length f.slices))
  pub optional : WordsOf 3 f.optional
  pub tail : WordsOf 6 f.tail
  pub sectors : (b : ℕ) → b < length f.sectors → WordsOf 256 (get_or f.sectors b [])
  pub covered : need s (length f.sectors) ≤ length f.slices
  pub few : stretch_count f.slices ≤ 127
  pub booked_low : f.booked ≤ length f.sectors
  pub booked_slices_low : f.booked_slices ≤ length f.slices
  pub booked_covered : need s f.booked ≤ f.booked_slices
  pub closed : table_find n areas ≡ none → (f.booked ≡ length f.sectors) × (f.booked_slices ≡ length f.slices)

-- "An exclusive user is the only user, and at most one is exclusive writer."
pub record GoodRoles (users : Table AreaUser) : Type 0 where
  pub one_writer : users_of is_writer users ≤ 1
  pub alone : 1 ≤ users_of is_exclusive users → length users ≤ 1

-- "Open counts 1 to 65,535, positions 0 to the live length."
pub record GoodUser (len : ℕ) (u : AreaUser) : Type 0 where
  pub opens_low : 1 ≤ u.opens
  pub opens_high : u.opens ≤ 65535
  pub inside : u.position ≤ len

-- "The state's area names are distinct and entered, no SYS or MAP, users distinct and not 0", three at most.
pub record GoodArea (files : Table File) (n : ℕ) (users : Table AreaUser) : Type 0 where
  pub file : File
  pub entered : table_find n files ≡ some file
  pub sorted : SortedFrom 0 users
  pub three : length users ≤ 3
  pub roles : GoodRoles users
  pub each : Every (λ sender u. GoodUser (length file.sectors) u) users

-- A catalog and the table of its files: "SYS has length H times L and H times L / s slices, rounded up"; names are distinct; of one key no
-- more than there are places.
pub record GoodCatalog (H s : ℕ) (c : Catalog) (areas : Table (Table AreaUser)) (table : Table File) : Type 0 where
  pub layered : 1 ≤ c.layers
  pub count : length c.slices ≡ slices_needed H s c c.layers
  pub few : stretch_count c.slices ≤ 127
  pub names : SortedFrom 0 table
  pub chains : (k : ℕ) → places_taken H k c table ≤ 16 * c.layers
  pub files : Every (GoodFile c s areas) table

pub record Good (p : Plain) : Type 0 where
  pub limits : Limits p.H p.s p.F p.N
  pub catalog : GoodCatalog p.H p.s (sys_of p) p.areas p.files
  -- "slice 1 first"
  pub sys_first : first_of p.sys ≡ 1
  -- "No slice is in two files or twice in one."
  pub once : InRangeOnce (M p) (held p)
  pub area_names : SortedFrom 0 p.areas
  pub eight : length p.areas ≤ 8
  pub areas : Every (GoodArea p.files) p.areas
