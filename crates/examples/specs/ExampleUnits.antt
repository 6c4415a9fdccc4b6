-- Small plain units for the examples, their names and lent words.
use Rattle.std.specs.Prelude.{List, [], ◌∷◌, ◌++◌, ℕ, zero, suc, ◌-◌, replicate}
use Rattle.types.specs.declared.Name.{Name}
use Rattle.types.specs.declared.Role.{Role}
use Rattle.types.specs.declared.Role.TheVariants.{Sharing, ExclusiveWriter, ExclusiveUser}
use Rattle.disc.specs.Names.{named, pack}
use Rattle.plain.specs.Table.{Row, Table}
use Rattle.plain.specs.Unit.{Plain, File, AreaUser}
use Rattle.plain.specs.Taking.{zero_sectors}
use Rattle.examples.specs.Paper.{char, file_with, sector_of}

-- ---- names: of a single character, 'A' of unit 1, the names of the system, and one of four characters

abbrev pub a_name : Name
a_name = char 0x41

abbrev pub b_name : Name
b_name = char 0x42

abbrev pub c_name : Name
c_name = char 0x43

abbrev pub d_name : Name
d_name = char 0x44

abbrev pub z_name : Name
z_name = char 0x5A

-- 'a', which is another name than 'A', and '1' and '[', which are illegal.
abbrev pub small_a : Name
small_a = char 0x61

abbrev pub one_name : Name
one_name = char 0x31

abbrev pub bracket_name : Name
bracket_name = char 0x5B

abbrev pub elsewhere : Name
elsewhere = record { 0 = 0x4100; 1 = 0; 2 = 1 }

abbrev pub sys_name : Name
sys_name = record { 0 = 0x5359; 1 = 0x5300; 2 = 0 }

abbrev pub map_name : Name
map_name = record { 0 = 0x4D41; 1 = 0x5000; 2 = 0 }

-- 'sys' and 'Map', which are ordinary names.
abbrev pub small_sys : Name
small_sys = record { 0 = 0x7379; 1 = 0x7300; 2 = 0 }

abbrev pub mixed_map : Name
mixed_map = record { 0 = 0x4D61; 1 = 0x7000; 2 = 0 }

-- 'CAXZ', whose words have the sum of the crowd's names below.
abbrev pub crowd_name : Name
crowd_name = record { 0 = 0x4341; 1 = 0x585A; 2 = 0 }

-- ---- lent words

-- A lent entry with this name, attributes and size; optional words 3 to 5, tail 10 to 15, and FFFFh in words 7 and 8.
abbrev pub lent_entry : Name → ℕ → ℕ → List ℕ
lent_entry name attributes size =
    name.0 ∷ name.1 ∷ name.2 ∷ 3 ∷ 4 ∷ 5 ∷ attributes ∷ 0xFFFF ∷ 0xFFFF ∷ size ∷ 10 ∷ 11 ∷ 12 ∷ 13 ∷ 14 ∷ 15 ∷ []

-- For Set, which ignores the entry's name; for Change, with the name kept (word 0 is 0).
abbrev pub set_entry : ℕ → ℕ → List ℕ
set_entry attributes size = lent_entry (record { 0 = 0xFFFF; 1 = 0xFFFF; 2 = 0xFFFF }) attributes size

abbrev pub kept_name : ℕ → ℕ → List ℕ
kept_name attributes size = lent_entry (record { 0 = 0; 1 = 0xFFFF; 2 = 0xFFFF }) attributes size

-- A negative word: attributes or length kept.
abbrev pub keep : ℕ
keep = 0xFFFF

-- n lent words FFFFh.
abbrev pub blank : ℕ → List ℕ
blank n = replicate n 0xFFFF

-- ---- files, users, tables

abbrev pub file_row : Name → File → Row File
file_row name f = record { key = named name; val = f }

abbrev pub area_row : Name → Table AreaUser → Row (Table AreaUser)
area_row name users = record { key = named name; val = users }

-- The user with an identification, role, open count and position.
abbrev pub user_row : ℕ → Role → ℕ → ℕ → Row AreaUser
user_row sender role opens position = record { key = sender; val = record { role = role; opens = opens; position = position } }

-- n files without sectors, named by single characters from c on.
abbrev pub empty_files : ℕ → ℕ → Table File
empty_files c zero = []
empty_files c (suc n) = file_row (char c) (file_with 1 [] []) ∷ empty_files (suc c) n

-- n files without sectors; the first two words of their names are a, b and then a + 1, b - 1 and so on: one sum.
abbrev pub crowd : ℕ → ℕ → ℕ → Table File
crowd a b zero = []
crowd a b (suc n) = record { key = pack a b 0; val = file_with 0 [] [] } ∷ crowd (suc a) (b - 1) n

-- Every other slice, n of them from x on: n stretches.
abbrev pub alternate : ℕ → ℕ → List ℕ
alternate x zero = []
alternate x (suc n) = x ∷ alternate (suc (suc x)) n

-- ---- units with s = 2, F = 10 and five slices, as on paper; H = 1 but for two

abbrev pub small_unit : ℕ → ℕ → Table File → Table (Table AreaUser) → Plain
small_unit unit layers files areas = record {
  unit = unit;
  H = 1;
  s = 2;
  F = 10;
  N = 20;
  layers = layers;
  sys = 1 ∷ [];
  files = files;
  areas = areas;
}

-- Nine files and no area; fourteen files, which with SYS and MAP take every place of one layer; thirty, of two layers.
abbrev pub nine_files : Plain
nine_files = small_unit 0 1 (empty_files 0x41 9) []

abbrev pub full_layer : Plain
full_layer = small_unit 0 1 (empty_files 0x41 14) []

abbrev pub two_layers : Plain
two_layers = small_unit 0 2 (crowd 0x4141 0x5A5A 15 ++ crowd 0x4241 0x595A 15) []

-- Of before R-9: 'C' is entry only, 'D' entry only and permanent.
abbrev pub old_unit : Plain
old_unit = small_unit 0 1 (file_row c_name (file_with 4 [] []) ∷ file_row d_name (file_with 0x0014 [] []) ∷ []) []

-- H = 2: SYS, MAP and fourteen files take all places of key 1. 'A', of key 0, has all slices but SYS's.
abbrev pub held_unit : Plain
held_unit = record {
  unit = 0;
  H = 2;
  s = 2;
  F = 10;
  N = 20;
  layers = 1;
  sys = 1 ∷ [];
  files = file_row a_name (file_with 1 (2 ∷ 3 ∷ 4 ∷ 5 ∷ []) (zero_sectors 7)) ∷ crowd 0x4141 0x5A5A 14;
  areas = [];
}

-- H = 3: SYS and MAP are of key 0, and sixteen files take all places of key 1. Slices 3, 4 and 5 are free.
abbrev pub key_full : Plain
key_full = record {
  unit = 0;
  H = 3;
  s = 2;
  F = 10;
  N = 20;
  layers = 1;
  sys = 1 ∷ 2 ∷ [];
  files = crowd 0x4141 0x5A5A 16;
  areas = [];
}

-- 'A' has two blocks, A0h and A1h, in slices 2 and 3.
abbrev pub two_blocks : File
two_blocks = file_with 1 (2 ∷ 3 ∷ []) (sector_of 0xA0 ∷ sector_of 0xA1 ∷ [])

-- Areas 'A', with one user, and 'B', with an exclusive user; 'C' is not open.
abbrev pub open_unit : Plain
open_unit = small_unit 0 1
    (file_row a_name two_blocks ∷ file_row b_name (file_with 1 [] []) ∷ file_row c_name (file_with 1 [] []) ∷ [])
    (area_row a_name (user_row 7 Sharing 1 0 ∷ []) ∷ area_row b_name (user_row 5 ExclusiveUser 1 0 ∷ []) ∷ [])

-- Area 'A' with a user whose open count is 65,535.
abbrev pub counted_unit : Plain
counted_unit = small_unit 0 1 (file_row a_name two_blocks ∷ []) (area_row a_name (user_row 7 Sharing 65535 0 ∷ []) ∷ [])

-- For output by user 7: 'A' may be extended; 'B' is write protected; 'C' has one block and may not be extended; 'D' has
-- the exclusive writer 8. Slice 5 is free.
abbrev pub output_unit : Plain
output_unit = small_unit 0 1
    (file_row a_name two_blocks
    ∷ file_row b_name (file_with 9 [] [])
    ∷ file_row c_name (file_with 0 (4 ∷ []) (sector_of 0xC0 ∷ []))
    ∷ file_row d_name (file_with 1 [] [])
    ∷ [])
    (area_row a_name (user_row 7 Sharing 1 2 ∷ [])
    ∷ area_row b_name (user_row 7 Sharing 1 0 ∷ [])
    ∷ area_row c_name (user_row 7 Sharing 1 1 ∷ [])
    ∷ area_row d_name (user_row 7 Sharing 1 0 ∷ user_row 8 ExclusiveWriter 1 0 ∷ [])
    ∷ [])

-- ---- units with many stretches

-- SYS has slice 1, 'A' 3, 5, .., 255 (127 stretches, all full), 'B' 256 and 258. Free are 2, 4, .., 254, 257 and all from 259 on.
abbrev pub scattered_in : ℕ → Table (Table AreaUser) → Plain
scattered_in N areas = record {
  unit = 0;
  H = 1;
  s = 2;
  F = 10;
  N = N;
  layers = 1;
  sys = 1 ∷ [];
  files = file_row a_name (file_with 1 (alternate 3 127) (zero_sectors 253)) ∷ file_row b_name (file_with 1 (256 ∷ 258 ∷ []) (zero_sectors 3)) ∷ [];
  areas = areas;
}

-- SYS has slice 1, 'A' 3, 5, .., 255 (127 stretches, all full), 'B' those given. Free are 2, 4, .., 254 and those past 255 that 'B' has not.
abbrev pub alternating : ℕ → List ℕ → Table (Table AreaUser) → Plain
alternating N slices areas = record {
  unit = 0;
  H = 1;
  s = 2;
  F = 10;
  N = N;
  layers = 1;
  sys = 1 ∷ [];
  files = file_row a_name (file_with 1 (alternate 3 127) (zero_sectors 253)) ∷ file_row b_name (file_with 1 slices (zero_sectors 3)) ∷ [];
  areas = areas;
}

-- 259 slices: of the free ones no two are neighbours.
abbrev pub scattered : Table (Table AreaUser) → Plain
scattered areas = scattered_in 528 areas

-- 389 slices: the last 131 are one stretch.
abbrev pub ends_free : Plain
ends_free = scattered_in 788 []

-- 258 slices: 2, 4, .., 254 and 257 are free, 128 stretches; and the same with 257 held, too: 127 stretches.
abbrev pub free128 : Plain
free128 = scattered_in 526 []

abbrev pub free127 : Plain
free127 = alternating 526 (256 ∷ 257 ∷ 258 ∷ []) []

-- 255 slices, H = 64: SYS has three layers in slices 1, 67, 69, .., 255 (96 stretches), and 48 files take all places of
-- key 27. 'Z' has slices 3, 5, .., 65; the even ones are free. One layer more takes 32 slices.
abbrev pub crowded : Plain
crowded = record {
  unit = 0;
  H = 64;
  s = 2;
  F = 10;
  N = 520;
  layers = 3;
  sys = 1 ∷ alternate 67 95;
  files = crowd 0x4141 0x5A5A 24 ++ (crowd 0x4241 0x595A 24 ++ (file_row z_name (file_with 1 (alternate 3 32) (zero_sectors 63)) ∷ []));
  areas = [];
}
