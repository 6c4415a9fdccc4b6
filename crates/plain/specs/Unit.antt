-- The plain unit's fields: "It holds the unit number, H, s, F, N, L, SYS's slices, and for each name: attributes,
-- optional, tail, booked length, booked slice count, slice list, list of sectors. It holds the open areas and their users."
use Rattle.std.specs.Prelude.{List, [], ◌∷◌, ◌++◌, ℕ, ◌*◌}
use Rattle.std.proofs.Math.Option.{Option}
use Rattle.types.specs.declared.Role.{Role}
use Rattle.disc.specs.Numbers.{slice_count}
use Rattle.disc.specs.Names.{SYS, MAP}
use Rattle.disc.specs.Slices.{free_count}
use Rattle.disc.specs.Entries.{entry_words, index_sector, sys_entry, map_entry}
use Rattle.disc.specs.Catalog.{Catalog, sys_catalog}
use Rattle.plain.specs.Table.{Table, table_find, table_put, table_map}

pub record File : Type 0 where
  pub attributes : ℕ
  pub optional : List ℕ
  pub tail : List ℕ
  pub booked : ℕ
  pub booked_slices : ℕ
  pub slices : List ℕ
  pub sectors : List (List ℕ)

-- A user of an open area: its role, open count and position.
pub record AreaUser : Type 0 where
  pub role : Role
  pub opens : ℕ
  pub position : ℕ

-- Files and areas by name, the users of an area by sender. SYS and MAP are no files.
pub record Plain : Type 0 where
  pub unit : ℕ
  pub H : ℕ
  pub s : ℕ
  pub F : ℕ
  pub N : ℕ
  pub layers : ℕ
  pub sys : List ℕ
  pub files : Table File
  pub areas : Table (Table AreaUser)

-- The unit with other layers, SYS slices, files and areas.
abbrev pub with_tables : Plain → ℕ → List ℕ → Table File → Table (Table AreaUser) → Plain
with_tables p layers sys files areas =
    record { unit = p.unit; H = p.H; s = p.s; F = p.F; N = p.N; layers = layers; sys = sys; files = files; areas = areas }

abbrev pub with_files : Plain → Table File → Plain
with_files p files = with_tables p p.layers p.sys files p.areas

abbrev pub with_areas : Plain → Table (Table AreaUser) → Plain
with_areas p areas = with_tables p p.layers p.sys p.files areas

-- SYS, the catalog of the unit's files.
abbrev pub sys_of : Plain → Catalog
sys_of p = sys_catalog p.layers p.sys

-- The slices of all files.
abbrev pub slices_of : Table File → List ℕ
slices_of [] = []
slices_of (r ∷ t) = r.val.slices ++ slices_of t

-- The slices that all names hold, SYS among them; "MAP holds no slice".
abbrev pub held : Plain → List ℕ
held p = p.sys ++ slices_of p.files

-- "M", the unit's number of slices.
abbrev pub M : Plain → ℕ
M p = slice_count p.s p.F p.N

-- "Free means in no list."
abbrev pub free_slices : Plain → ℕ
free_slices p = free_count (M p) (held p)

-- "Free is s times the free slices."
abbrev pub free_sectors : Plain → ℕ
free_sectors p = p.s * free_slices p

-- A file's booked entry; with no booked slice its index sector is 0.
abbrev pub file_entry : ℕ → ℕ → ℕ → File → List ℕ
file_entry F s n f =
    entry_words n f.optional f.attributes f.booked (index_sector F s f.booked_slices f.slices) (s * f.booked_slices) f.tail

-- All booked entries by name. MAP's "booked entry, like SYS's index sector, is as in a sound unit".
abbrev pub entries : Plain → Table (List ℕ)
entries p =
    table_put SYS (sys_entry p.H p.s p.layers p.sys)
    (table_put MAP map_entry (table_map (file_entry p.F p.s) p.files))

-- The booked entry of a name.
unfoldable pub entry : Plain → ℕ → Option (List ℕ)
entry p n = table_find n (entries p)
