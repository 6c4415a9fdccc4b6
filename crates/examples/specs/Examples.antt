-- Small examples in which every result word of every call occurs, but 9000h and 8800h, which never come in the plain
-- unit. The words are worked out by hand from section 'The questions' and document 02; a comment names the question that gives each.
use Rattle.std.specs.Prelude.{◌≡◌, List, [], ◌∷◌, ◌++◌, ℕ, ◌+◌, take, drop, replicate}
use Rattle.std.proofs.Math.Option.{Option, some}
use Rattle.types.specs.declared.Name.{Name}
use Rattle.types.specs.declared.Role.TheVariants.{Sharing, ExclusiveWriter}
use Rattle.types.specs.declared.Operation.{Operation}
use Rattle.types.specs.declared.Operation.TheVariants.{Reserve, Position, Sense, Transput, Other}
use Rattle.types.specs.declared.Message.TheVariants.{Init, Set, Create, LookUp, Change, Remove, CreateArea, RemoveArea, AreaMessage}
use Rattle.types.specs.declared.Message.TheVariants.{UnitDescription, Listing}
use Rattle.disc.specs.Names.{named}
use Rattle.disc.specs.Stretches.{span}
use Rattle.plain.specs.Table.{Table, table_find}
use Rattle.plain.specs.Unit.{Plain, File, AreaUser, free_sectors}
use Rattle.plain.specs.Step.{after}
use Rattle.examples.specs.Cases.{Case, gives, gives_at, gives_counts, calls_of, Shows, words_after}
use Rattle.examples.specs.Paper.{paper_unit, char, pass, mixed_pass, small_pass, sector_of, slices_in}
use Rattle.examples.specs.ExampleUnits.{a_name, b_name, c_name, d_name, z_name, small_a, one_name, bracket_name, elsewhere, sys_name}
use Rattle.examples.specs.ExampleUnits.{map_name, small_sys, mixed_map, crowd_name, lent_entry, set_entry, kept_name, keep, blank}
use Rattle.examples.specs.ExampleUnits.{user_row, area_row, small_unit, nine_files, old_unit, full_layer, two_layers, held_unit, key_full}
use Rattle.examples.specs.ExampleUnits.{open_unit, counted_unit, output_unit, scattered, ends_free, crowded}

-- The unit after the calls of some cases; a file of it, its slices, and the users of an area.
abbrev pub after_cases : Plain → List Case → Plain
after_cases p cases = after p (calls_of cases)

abbrev pub file_in : Name → Plain → Option File
file_in name p = table_find (named name) p.files

abbrev pub users_in : Name → Plain → Option (Table AreaUser)
users_in name p = table_find (named name) p.areas

-- ---- catalog messages

abbrev pub init_cases : List Case
init_cases =
    gives (Init 1) [] 0x1200  -- 1: unit not known
    ∷ gives (Init 0x0100) [] 0x1200  -- 1: a whole word
    ∷ gives (Init 0) [] 0
    ∷ gives (Create a_name 0 1) [] 0
    ∷ gives (CreateArea a_name) [] 0
    ∷ gives (Init 0) [] 0x1200  -- 1: an area process
    ∷ gives (RemoveArea a_name) [] 0
    ∷ gives (Init 0) [] 0
    ∷ []

abbrev pub set_cases : List Case
set_cases =
    gives (Set elsewhere) (set_entry 1 2) 0x1200  -- 1: unit
    ∷ gives (Set a_name) (take 15 (set_entry 1 2)) 0x1200  -- 4: lent record
    ∷ gives (Set one_name) (set_entry 1 2) 0x1200  -- 4: name
    ∷ gives (Set bracket_name) (set_entry 1 2) 0x1200  -- 4: name
    ∷ gives (Set a_name) (set_entry 1 0x8000) 0x1200  -- 4: size
    ∷ gives (Set a_name) (set_entry 2 2) 0x1200  -- 4: attributes, bit 14
    ∷ gives (Set a_name) (set_entry 0x8010 2) 0x1200  -- 4: attributes, bit 0
    ∷ gives (Set a_name) (set_entry 5 0) 0x1200  -- 4: bits 13 and 15
    ∷ gives (Set a_name) (set_entry 4 1) 0x1200  -- 4: bit 13
    ∷ gives (Set a_name) (set_entry 4 0) 0x1200  -- 4: bit 13
    ∷ gives (Set sys_name) (set_entry 4 0) 0x1200  -- 4: bit 13, before 6
    ∷ gives (Set sys_name) (set_entry 1 2) 0x1010  -- 6
    ∷ gives (Set a_name) (set_entry 1 8) 0x1100  -- 7: five slices of four
    ∷ gives (Set a_name) (set_entry 0x4019 3) 0
    ∷ gives (Set a_name) (set_entry 1 0) 0x1010  -- 6
    ∷ gives (Set small_a) (set_entry 1 0) 0  -- 'a' is another name
    ∷ gives (Set b_name) (set_entry 0x4008 0) 0
    ∷ gives (Set c_name) (set_entry 0 4) 0x1100  -- 7: three slices of two
    ∷ []

abbrev pub create_cases : List Case
create_cases =
    gives (Create elsewhere 2 1) [] 0x1200  -- 1: unit
    ∷ gives (Create one_name 2 1) [] 0x1200  -- 4: name
    ∷ gives (Create a_name 0x8000 1) [] 0x1200  -- 4: size
    ∷ gives (Create a_name 2 2) [] 0x1200  -- 4: attributes, bit 14
    ∷ gives (Create a_name 0 5) [] 0x1200  -- 4: bits 13 and 15
    ∷ gives (Create a_name 1 4) [] 0x1200  -- 4: bit 13
    ∷ gives (Create a_name 0 4) [] 0x1200  -- 4: bit 13
    ∷ gives (Create a_name 0 0x401C) [] 0x1200  -- 4: bit 13 beside 1, 11 and 12
    ∷ gives (Create map_name 0 4) [] 0x1200  -- 4: bit 13, before 6
    ∷ gives (Create map_name 2 1) [] 0x1010  -- 6
    ∷ gives (Create a_name 8 1) [] 0x1100  -- 7
    ∷ gives (Create a_name 2 1) [] 0
    ∷ gives (Create a_name 0 1) [] 0x1010  -- 6
    ∷ gives (Create small_a 0 1) [] 0  -- 'a' is another name
    ∷ gives (Create b_name 0 0x4018) [] 0
    ∷ gives (Create c_name 4 0) [] 0x1100  -- 7
    ∷ []

-- The letters' and digits' ends and the characters next to them, as first and as second character of a name.
abbrev pub characters : List ℕ
characters = 0x30 ∷ 0x39 ∷ 0x41 ∷ 0x5A ∷ 0x61 ∷ 0x7A ∷ []

abbrev pub next_characters : List ℕ
next_characters = 0x2F ∷ 0x3A ∷ 0x40 ∷ 0x5B ∷ 0x60 ∷ 0x7B ∷ []

abbrev pub after_a : ℕ → Name
after_a c = record { 0 = 0x4100 + c; 1 = 0; 2 = 0 }

abbrev pub create_each : (ℕ → Name) → List ℕ → ℕ → List Case
create_each name [] result = []
create_each name (c ∷ rest) result = gives (Create (name c) 0 0) [] result ∷ create_each name rest result

abbrev pub character_cases : List Case
character_cases =
    create_each char next_characters 0x1200  -- 4: name
    ++ (create_each after_a next_characters 0x1200  -- 4: name
    ++ (create_each char (take 2 characters) 0x1200  -- 4: a digit
    ++ (create_each char (drop 2 characters) 0
    ++ create_each after_a characters 0)))

-- 'sys' and 'Map' beside SYS and MAP.
abbrev pub system_cases : List Case
system_cases =
    gives (Create small_sys 0 0) [] 0
    ∷ gives (Set mixed_map) (set_entry 0 0) 0
    ∷ gives (Create sys_name 0 0) [] 0x1010  -- 6
    ∷ gives (Set map_name) (set_entry 0 0) 0x1010  -- 6
    ∷ gives (CreateArea small_sys) [] 0
    ∷ gives (CreateArea sys_name) [] 0x0A00  -- not SYS or MAP?
    ∷ gives (RemoveArea small_sys) [] 0
    ∷ gives (RemoveArea map_name) [] 0x0A00  -- not SYS or MAP?
    ∷ gives (Change mixed_map) (lent_entry map_name keep keep) 0x1010  -- 6
    ∷ gives (Change map_name) (lent_entry small_pass keep keep) 0x1200  -- 5: MAP
    ∷ gives (Change mixed_map) (lent_entry small_pass keep keep) 0
    ∷ gives (Remove sys_name) [] 0x1200  -- 5: SYS
    ∷ gives (Remove small_sys) [] 0
    ∷ gives (Remove small_pass) [] 0
    ∷ []

-- Of 'Pass', 'PASS' and 'pass' the last alone is of key 1, for which SYS takes a slice more. A rename by case is a rename.
abbrev pub keyed_cases : List Case
keyed_cases =
    gives (Create small_pass 5 1) [] 0x1100  -- 7: three slices and one of SYS, of three
    ∷ gives (Create pass 5 1) [] 0
    ∷ gives (Change pass) (lent_entry small_pass keep keep) 0x1100  -- 7: one of SYS, of none
    ∷ gives (Change pass) (lent_entry mixed_pass keep keep) 0
    ∷ gives (Change mixed_pass) (lent_entry mixed_pass keep 3) 0  -- "equal is no change"
    ∷ gives (Change mixed_pass) (lent_entry small_pass 0x0011 keep) 0
    ∷ gives (Change small_pass) (lent_entry pass keep keep) 0x1200  -- 5: permanent, name
    ∷ []

-- SYS grows in its slice or takes one, and "for SYS and file together" counts both.
abbrev pub grow_cases : List Case
grow_cases =
    gives (Create z_name 7 0) [] 0x1100  -- 7: four slices and one of SYS, of four
    ∷ gives (Create z_name 5 0) [] 0
    ∷ []

abbrev pub slack_cases : List Case
slack_cases = gives (Create z_name 7 0) [] 0 ∷ []

abbrev pub look_up_cases : List Case
look_up_cases =
    gives (Create a_name 2 1) [] 0
    ∷ gives (LookUp elsewhere) (blank 16) 0x1200  -- 1: unit
    ∷ gives (LookUp b_name) (blank 16) 0x5000  -- 3
    ∷ gives (LookUp one_name) (blank 16) 0x5000  -- 3: an illegal name stands nowhere
    ∷ gives (LookUp b_name) (blank 15) 0x5000  -- 3, before 4
    ∷ gives (LookUp a_name) (blank 15) 0x1200  -- 4: lent record
    ∷ gives (LookUp small_a) (blank 16) 0x5000  -- 3: 'a' is another name
    ∷ gives (LookUp a_name) (blank 16) 0
    ∷ gives (LookUp sys_name) (blank 16) 0
    ∷ gives (LookUp map_name) (blank 16) 0
    ∷ []

-- 'A' has slices 2 and 3, and 'B', which is permanent, slice 4.
abbrev pub refused_changes : List Case
refused_changes =
    gives (Create a_name 2 1) [] 0
    ∷ gives (Create b_name 1 0x0010) [] 0
    ∷ gives (Change elsewhere) (kept_name keep keep) 0x1200  -- 1: unit
    ∷ gives (Change c_name) (kept_name keep keep) 0x5000  -- 3
    ∷ gives (Change one_name) (kept_name keep keep) 0x5000  -- 3
    ∷ gives (Change a_name) (take 15 (kept_name keep keep)) 0x1200  -- 4: lent record
    ∷ gives (Change a_name) (lent_entry one_name keep keep) 0x1200  -- 4: name
    ∷ gives (Change a_name) (lent_entry (record { 0 = 0x0041; 1 = 0; 2 = 0 }) keep keep) 0x1200  -- 4: name
    ∷ gives (Change a_name) (kept_name 2 keep) 0x1200  -- 4: attributes, bit 14
    ∷ gives (Change a_name) (kept_name 5 0) 0x1200  -- 4: bits 13 and 15
    ∷ gives (Change a_name) (kept_name 4 keep) 0x1200  -- 4: bit 13
    ∷ gives (Change a_name) (kept_name 4 0) 0x1200  -- 4: bit 13
    ∷ gives (Change c_name) (kept_name 4 0) 0x5000  -- 3, before 4
    ∷ gives (Change sys_name) (kept_name keep keep) 0x1200  -- 5: SYS
    ∷ gives (Change map_name) (kept_name keep keep) 0x1200  -- 5: MAP
    ∷ gives (Change b_name) (kept_name keep 2) 0x1200  -- 5: permanent, length
    ∷ gives (Change b_name) (lent_entry c_name keep keep) 0x1200  -- 5: permanent, name
    ∷ gives (CreateArea a_name) [] 0
    ∷ gives (Change a_name) (kept_name keep keep) 0x1200  -- 5: area process
    ∷ gives (RemoveArea a_name) [] 0
    ∷ gives (Change a_name) (lent_entry b_name keep keep) 0x1010  -- 6
    ∷ gives (Change a_name) (lent_entry sys_name keep keep) 0x1010  -- 6
    ∷ gives (Change a_name) (kept_name keep 6) 0x1100  -- 7: two slices of one
    ∷ []

-- The length of 'A' changes to 4; the permanent 'B' loses its bit 11.
abbrev pub changes : List Case
changes =
    gives (Change a_name) (kept_name keep 4) 0
    ∷ gives (Change b_name) (lent_entry b_name keep 1) 0  -- "equal is no change"
    ∷ gives (Change b_name) (kept_name 0 keep) 0
    ∷ []

abbrev pub further_changes : List Case
further_changes =
    gives (Change a_name) (lent_entry c_name keep keep) 0
    ∷ gives (LookUp a_name) (blank 16) 0x5000  -- 3
    ∷ gives (Change c_name) (kept_name 0 0) 0
    ∷ gives (Change c_name) (kept_name 4 keep) 0x1200  -- 4: bit 13
    ∷ gives (Change b_name) (kept_name keep 0) 0
    ∷ []

abbrev pub change_cases : List Case
change_cases = refused_changes ++ (changes ++ further_changes)

-- On a unit of before R-9: 'C' is entry only, and 'D' entry only and permanent. What the lent entry gives is refused, what it keeps is
-- judged "as the entry would stand after the message".
abbrev pub refused_old : List Case
refused_old =
    gives (Change c_name) (kept_name 4 keep) 0x1200  -- 4: bit 13, which the entry has
    ∷ gives (Change c_name) (kept_name 4 0) 0x1200  -- 4: bit 13
    ∷ gives (Change d_name) (kept_name 0x0014 keep) 0x1200  -- 4: bit 13
    ∷ gives (Change c_name) (lent_entry d_name 4 keep) 0x1200  -- 4: bit 13, before 6
    ∷ gives (Change c_name) (lent_entry d_name keep keep) 0x1010  -- 6
    ∷ gives (Change c_name) (kept_name keep 1) 0x1200  -- 4: bit 13 kept, with a slice
    ∷ gives (Change d_name) (kept_name 0x0010 1) 0x1200  -- 5: permanent, length
    ∷ gives (Change c_name) (kept_name 0 8) 0x1100  -- 7: five slices of four
    ∷ gives (CreateArea c_name) [] 0
    ∷ gives (Change c_name) (kept_name 0 keep) 0x1200  -- 5: area process
    ∷ gives (AreaMessage c_name 7 (Reserve 3)) [] 0
    ∷ gives (AreaMessage c_name 7 (Transput 3 512 0)) (sector_of 1) 0x0A00  -- appending: extendable?
    ∷ gives (AreaMessage c_name 7 (Reserve 0)) [] 0
    ∷ gives (RemoveArea c_name) [] 0
    ∷ []

-- 'C' keeps its attributes by any negative word, becomes 'Z', then an extendable file of two blocks; 'D' becomes an ordinary permanent
-- file.
abbrev pub changed_old : List Case
changed_old =
    gives (Change c_name) (kept_name 0x8004 keep) 0
    ∷ gives (Change c_name) (kept_name keep 0) 0
    ∷ gives (Change c_name) (lent_entry z_name keep keep) 0
    ∷ gives (Change z_name) (kept_name 1 2) 0
    ∷ gives (Change z_name) (kept_name 4 0) 0x1200  -- 4: bit 13
    ∷ gives (Change d_name) (kept_name keep keep) 0
    ∷ gives (Change d_name) (kept_name 0x0010 keep) 0
    ∷ []

abbrev pub old_cases : List Case
old_cases = refused_old ++ changed_old

abbrev pub shorter : List Case
shorter = gives (Create a_name 4 1) [] 0 ∷ gives (Change a_name) (kept_name keep 1) 0 ∷ []

-- "Slices given back by the same message don't serve SYS", which needs one for the new name.
abbrev pub served_cases : List Case
served_cases =
    gives (Change a_name) (lent_entry crowd_name keep 0) 0x1100  -- 7
    ∷ gives (Change a_name) (kept_name keep 0) 0
    ∷ gives (Change a_name) (lent_entry crowd_name keep keep) 0
    ∷ []

abbrev pub remove_cases : List Case
remove_cases =
    gives (Create a_name 2 1) [] 0
    ∷ gives (Create b_name 0 0x0010) [] 0
    ∷ gives (Remove elsewhere) [] 0x1200  -- 1: unit
    ∷ gives (Remove c_name) [] 0x5000  -- 3
    ∷ gives (Remove one_name) [] 0x5000  -- 3
    ∷ gives (Remove sys_name) [] 0x1200  -- 5: SYS
    ∷ gives (Remove map_name) [] 0x1200  -- 5: MAP
    ∷ gives (Remove b_name) [] 0x1200  -- 5: permanent
    ∷ gives (CreateArea a_name) [] 0
    ∷ gives (Remove a_name) [] 0x1200  -- 5: area process
    ∷ gives (RemoveArea a_name) [] 0
    ∷ gives (Remove small_a) [] 0x5000  -- 3: 'a' is another name
    ∷ gives (Remove a_name) [] 0
    ∷ gives (Remove a_name) [] 0x5000  -- 3
    ∷ []

-- Question 8, for the file: on the scattered unit.
abbrev pub stretch_cases : List Case
stretch_cases =
    gives (Create c_name 255 0) [] 0x1008  -- 8: 128 slices, no two neighbours
    ∷ gives (Change a_name) (kept_name keep 254) 0x1008  -- 8: a 128th stretch
    ∷ gives (Create c_name 253 0) [] 0
    ∷ []

-- Question 8 "by the slices so chosen" (R-6), on the scattered unit with a long stretch at its end.
abbrev pub end_cases : List Case
end_cases =
    gives (Change a_name) (kept_name keep 254) 0x1008  -- 8: 'A' has slices, and 2 would be a 128th stretch
    ∷ gives (Create c_name 255 0) [] 0  -- 128 slices, of which 01's choice would be 128 stretches
    ∷ []

-- Question 8, for SYS, and question 7 on the crowded unit.
abbrev pub crowd_cases : List Case
crowd_cases =
    gives (Set crowd_name) (set_entry 0 0) 0x1008  -- 8: SYS in 128 stretches
    ∷ gives (Create crowd_name 0 0) [] 0x1008  -- 8
    ∷ gives (Change z_name) (lent_entry crowd_name keep keep) 0x1008  -- 8
    ∷ gives (Set d_name) (set_entry 0 0) 0  -- another key
    ∷ gives (Change (record { 0 = 0x4141; 1 = 0x5A5A; 2 = 0 })) (lent_entry crowd_name keep keep) 0  -- its own place serves
    ∷ []

-- ---- area create and remove

abbrev pub create_area_cases : List Case
create_area_cases =
    gives (CreateArea elsewhere) [] 0x0A00  -- known?
    ∷ gives (CreateArea z_name) [] 0x4800  -- entered?
    ∷ gives (CreateArea one_name) [] 0x4800  -- entered?
    ∷ gives (CreateArea sys_name) [] 0x0A00  -- not SYS or MAP?
    ∷ gives (CreateArea map_name) [] 0x0A00  -- not SYS or MAP?
    ∷ gives (CreateArea a_name) [] 0
    ∷ gives (CreateArea b_name) [] 0
    ∷ gives (CreateArea c_name) [] 0
    ∷ gives (CreateArea d_name) [] 0
    ∷ gives (CreateArea (char 0x45)) [] 0
    ∷ gives (CreateArea (char 0x46)) [] 0
    ∷ gives (CreateArea (char 0x47)) [] 0
    ∷ gives (CreateArea (char 0x48)) [] 0
    ∷ gives (CreateArea (char 0x49)) [] 0x0900  -- one of eight vacant?
    ∷ gives (CreateArea a_name) [] 0  -- "dummy if open"
    ∷ gives (RemoveArea a_name) [] 0
    ∷ gives (CreateArea (char 0x49)) [] 0
    ∷ []

abbrev pub remove_area_cases : List Case
remove_area_cases =
    gives (RemoveArea elsewhere) [] 0x0A00  -- known?
    ∷ gives (RemoveArea sys_name) [] 0x0A00  -- not SYS or MAP?
    ∷ gives (RemoveArea map_name) [] 0x0A00  -- not SYS or MAP?
    ∷ gives (RemoveArea z_name) [] 0  -- "dummy if none", whatever the name
    ∷ gives (RemoveArea one_name) [] 0
    ∷ gives (RemoveArea c_name) [] 0
    ∷ gives (RemoveArea a_name) [] 0  -- dummy "if it has users"
    ∷ gives (AreaMessage a_name 7 Sense) [] 0
    ∷ gives (AreaMessage a_name 7 (Reserve 0)) [] 0
    ∷ gives (RemoveArea a_name) [] 0
    ∷ gives (AreaMessage a_name 7 Sense) [] 0x4800  -- open?
    ∷ []

-- ---- area messages: the questions that come before the operation's own

abbrev pub of_each : (Operation → List Case) → List Operation → List Case
of_each cases [] = []
of_each cases (operation ∷ rest) = cases operation ++ of_each cases rest

-- Operations that ask whether the sender is a user; those with Reserve; and unknown ones.
abbrev pub user_operations : List Operation
user_operations =
    Reserve 0 ∷ Position 0x8000 ∷ Sense ∷ Transput 1 0 0 ∷ Transput 5 0 0 ∷ Transput 3 0 0 ∷ Transput 7 0 0 ∷ Transput 19 0 0 ∷ []

abbrev pub known_operations : List Operation
known_operations = user_operations ++ (Reserve 2 ∷ Reserve 3 ∷ Reserve 4 ∷ [])

abbrev pub unknown_operations : List Operation
unknown_operations = Other 6 ∷ Reserve 1 ∷ Reserve 5 ∷ Transput 2 512 0 ∷ Transput 0x0103 512 0 ∷ []

abbrev pub before : Operation → List Case
before operation =
    gives (AreaMessage elsewhere 7 operation) [] 0x0A00  -- known?
    ∷ gives (AreaMessage c_name 7 operation) [] 0x4800  -- open?
    ∷ gives (AreaMessage sys_name 7 operation) [] 0x4800  -- open?
    ∷ gives (AreaMessage b_name 7 operation) [] 0x0200  -- no other exclusive user?
    ∷ gives (AreaMessage b_name 0 operation) [] 0x0200  -- the same, before the next
    ∷ gives (AreaMessage a_name 0 operation) [] 0x0810  -- sender not 0?
    ∷ []

-- Of a user and of another sender: known operation?
abbrev pub is_unknown : Operation → List Case
is_unknown operation =
    gives (AreaMessage a_name 7 operation) [] 0x0A00 ∷ gives (AreaMessage a_name 8 operation) [] 0x0A00 ∷ []

-- Sender a user?
abbrev pub is_stranger : Operation → List Case
is_stranger operation = gives (AreaMessage a_name 8 operation) [] 0x0810 ∷ []

-- ---- Reserve, Position, Sense

abbrev pub to_a : ℕ → Operation → ℕ → Case
to_a sender operation result = gives (AreaMessage a_name sender operation) [] result

-- 7 is a user of 'A' and becomes exclusive writer; 8 and 9 join.
abbrev pub three_users : List Case
three_users =
    to_a 7 (Reserve 2) 0
    ∷ to_a 8 (Reserve 2) 0x0A00  -- 2: no other exclusive writer?
    ∷ to_a 8 (Reserve 3) 0
    ∷ to_a 7 (Reserve 4) 0x0A00  -- 4: no other user?
    ∷ to_a 9 (Reserve 4) 0x0A00  -- 4: no other user?
    ∷ to_a 9 (Reserve 3) 0
    ∷ to_a 10 (Reserve 3) 0x0808  -- entry vacant or own?
    ∷ to_a 10 (Reserve 2) 0x0A00  -- 2: no other exclusive writer? comes before
    ∷ to_a 7 (Reserve 3) 0
    ∷ []

abbrev pub reserve_cases : List Case
reserve_cases =
    three_users
    ++ (to_a 7 (Reserve 0) 0
    ∷ to_a 7 (Reserve 0) 0
    ∷ to_a 7 (Reserve 0) 0
    ∷ to_a 7 (Reserve 0) 0x0810  -- sender a user? "at zero the user and role go"
    ∷ to_a 7 (Reserve 3) 0
    ∷ to_a 10 (Reserve 2) 0x0808  -- entry vacant or own?
    ∷ to_a 7 (Reserve 0) 0
    ∷ to_a 8 (Reserve 0) 0
    ∷ to_a 9 (Reserve 4) 0
    ∷ to_a 7 (Reserve 3) 0x0200  -- no other exclusive user?
    ∷ to_a 9 (Reserve 0) 0
    ∷ to_a 7 (Reserve 0) 0x0200  -- the role stays while a count is left
    ∷ to_a 9 (Reserve 0) 0
    ∷ to_a 7 (Reserve 0) 0x0810  -- sender a user?
    ∷ [])

-- Count below 65,535? It is the sender's own.
abbrev pub count_cases : List Case
count_cases =
    to_a 7 (Reserve 2) 0x0808
    ∷ to_a 7 (Reserve 3) 0x0808
    ∷ to_a 7 (Reserve 4) 0x0808
    ∷ to_a 8 (Reserve 3) 0
    ∷ to_a 8 (Reserve 0) 0
    ∷ to_a 7 (Reserve 0) 0
    ∷ to_a 7 (Reserve 4) 0
    ∷ to_a 7 (Reserve 4) 0x0808
    ∷ []

-- Input by user 7 of 'A', from its position.
abbrev pub reads : ℕ → ℕ → ℕ → Case
reads result bytes block = gives_at (AreaMessage a_name 7 (Transput 1 512 0)) (blank 256) result bytes block

-- 'A' has two blocks. The input after a refused Position shows where the position went.
abbrev pub position_cases : List Case
position_cases =
    to_a 7 (Position 1) 0
    ∷ reads 0 512 1
    ∷ to_a 7 (Position 0x8000) 0x0A00  -- not negative?
    ∷ reads 0 512 0  -- "becomes 0"
    ∷ to_a 7 (Position 3) 0x0810  -- not past the length?
    ∷ reads 0x0810 0 2  -- "becomes the length"
    ∷ to_a 7 (Position 2) 0
    ∷ to_a 7 (Position 0) 0
    ∷ to_a 7 Sense 0
    ∷ []

-- ---- transput: result word, byte count and block

abbrev pub input_cases : List Case
input_cases =
    gives_at (AreaMessage a_name 7 (Transput 1 511 0)) (blank 256) 0x0880 0 0  -- 512 bytes?
    ∷ gives_at (AreaMessage a_name 7 (Transput 1 512 0)) (blank 255) 0x0880 0 0  -- 256 words lent?
    ∷ reads 0 512 0
    ∷ gives_at (AreaMessage a_name 7 (Transput 1 512 9)) (blank 256) 0 512 1  -- 1 reads no block number
    ∷ reads 0x0810 0 2  -- extendable: below the length?
    ∷ gives_at (AreaMessage a_name 7 (Transput 1 510 0)) (blank 256) 0x0880 0 2  -- 512 bytes?
    ∷ []

abbrev pub reads_at : ℕ → ℕ → ℕ → ℕ → Case
reads_at at result bytes block = gives_at (AreaMessage a_name 7 (Transput 5 512 at)) (blank 256) result bytes block

abbrev pub random_input_cases : List Case
random_input_cases =
    reads_at 3 0x0810 0 2  -- Position: not past the length? "becomes the length"
    ∷ reads 0x0810 0 2
    ∷ gives_at (AreaMessage a_name 7 (Transput 5 511 1)) (blank 256) 0x0880 0 2  -- asked before Position
    ∷ reads_at 0x8000 0x0A00 0 0  -- Position: not negative? "becomes 0"
    ∷ reads 0 512 0
    ∷ reads_at 2 0x0810 0 2  -- extendable: below the length?
    ∷ reads_at 1 0 512 1
    ∷ []

-- Files without a block, by 1 and by 5: 'A' is extendable, 'B' fixed, 'C', of before R-9, entry only.
abbrev pub ends_at : Name → ℕ → List Case
ends_at name word =
    gives (CreateArea name) [] 0
    ∷ gives (AreaMessage name 7 (Reserve 3)) [] 0
    ∷ gives_at (AreaMessage name 7 (Transput 1 512 0)) (blank 256) word 0 0  -- below the length?
    ∷ gives_at (AreaMessage name 7 (Transput 5 512 0)) (blank 256) word 0 0  -- below the length?
    ∷ gives_at (AreaMessage name 7 (Transput 5 512 1)) (blank 256) 0x0810 0 0  -- Position: not past the length?
    ∷ []

abbrev pub empty_input_cases : List Case
empty_input_cases =
    gives (Create a_name 0 1) [] 0
    ∷ gives (Create b_name 0 0) [] 0
    ∷ ends_at a_name 0x0810 ++ (ends_at b_name 0x0A00 ++ ends_at c_name 0x0A00)

-- Output by user 7 or 8: by 3, 7 and 19 alike, as the block is always the user's position.
abbrev pub writes : ℕ → Name → ℕ → ℕ → ℕ → ℕ → ℕ → Case
writes operation name sender at word result bytes =
    gives_at (AreaMessage name sender (Transput operation 512 at)) (sector_of word) result bytes at

abbrev pub output_cases : ℕ → List Case
output_cases operation =
    gives_at (AreaMessage a_name 7 (Transput operation 511 2)) (blank 256) 0x0880 0 2  -- 512 bytes?
    ∷ gives_at (AreaMessage a_name 7 (Transput operation 512 2)) (blank 255) 0x0880 0 2  -- 256 words lent?
    ∷ writes operation d_name 7 0 1 0x0A00 0  -- no other exclusive writer?
    ∷ writes operation b_name 7 0 1 0x0C00 0  -- not write protected?
    ∷ writes operation c_name 7 1 1 0x0A00 0  -- appending: extendable?
    ∷ writes operation a_name 7 2 0xA2 0 512
    ∷ writes operation a_name 7 3 0xA3 0 512  -- takes slice 5
    ∷ writes operation a_name 7 4 0xA4 0 512
    ∷ writes operation a_name 7 5 0xA5 0x0900 0  -- one free?
    ∷ writes operation d_name 8 0 1 0x0900 0  -- one free?
    ∷ gives (AreaMessage c_name 7 (Position 0)) [] 0
    ∷ writes operation c_name 7 0 0xC1 0 512  -- replaces
    ∷ []

-- At most 127 stretches with it?
abbrev pub long_output_cases : ℕ → List Case
long_output_cases operation = writes operation a_name 7 253 1 0x0808 0 ∷ []

abbrev pub random_output_cases : List Case
random_output_cases =
    gives_at (AreaMessage a_name 7 (Transput 7 512 0x8000)) (sector_of 1) 0x0A00 0 0  -- Position: not negative?
    ∷ writes 3 a_name 7 0 1 0 512  -- it became 0
    ∷ gives_at (AreaMessage a_name 7 (Transput 7 512 3)) (sector_of 1) 0x0810 0 2  -- Position: not past the length?
    ∷ writes 3 a_name 7 2 1 0 512  -- it became the length
    ∷ writes 7 a_name 7 1 1 0 512
    ∷ gives (AreaMessage c_name 7 (Position 0)) [] 0
    ∷ writes 7 c_name 7 1 1 0x0A00 0  -- appending: extendable?
    ∷ gives_at (AreaMessage c_name 7 (Transput 1 512 0)) (blank 256) 0x0A00 0 1  -- moved, "whatever follows"; fixed: below the length?
    ∷ gives_at (AreaMessage b_name 7 (Transput 7 512 5)) (sector_of 1) 0x0C00 0 0  -- asked before Position
    ∷ []

-- A file without a booked slice gets its first block.
abbrev pub first_block : List Case
first_block =
    gives (Create a_name 0 1) [] 0
    ∷ gives (CreateArea a_name) [] 0
    ∷ to_a 7 (Reserve 3) 0
    ∷ writes 3 a_name 7 0 1 0 512
    ∷ []

abbrev pub first_booked : List Case
first_booked = first_block ++ (to_a 7 (Reserve 0) 0 ∷ gives (RemoveArea a_name) [] 0 ∷ [])

-- 'A' is removed, and 'B' takes its slice.
abbrev pub reuse : List Case
reuse =
    first_booked
    ++ (gives (Remove a_name) [] 0
    ∷ gives (Create b_name 1 1) [] 0
    ∷ gives (CreateArea b_name) [] 0
    ∷ gives (AreaMessage b_name 7 (Reserve 3)) [] 0
    ∷ [])

-- ---- reports

abbrev pub description_cases : List Case
description_cases =
    gives (UnitDescription 1 32) (blank 16) 0x1200  -- 1: unit
    ∷ gives (UnitDescription 0x0100 32) (blank 16) 0x1200  -- 1: a whole word
    ∷ gives (UnitDescription 0 31) (blank 16) 0x1200  -- byte count below 32
    ∷ gives (UnitDescription 0 32) (blank 15) 0x1200  -- fewer words lent
    ∷ gives_counts (UnitDescription 0 32) (blank 16) 32 0
    ∷ gives_counts (UnitDescription 0 0xFFFF) (blank 17) 32 0
    ∷ []

abbrev pub listing_cases : List Case
listing_cases =
    gives (Listing 1) (blank 80) 0x1200  -- 1: unit
    ∷ gives (Listing 0) (blank 79) 0x1200  -- fewer than 16 times the entries
    ∷ gives_counts (Listing 0) (blank 80) 0 5
    ∷ gives_counts (Listing 0) (blank 99) 0 5
    ∷ []

-- Six zeros, a tail.
abbrev pub no_tail : List ℕ
no_tail = replicate 6 0

pub record Examples : Type 0 where
  pub init : Shows paper_unit init_cases
  -- "The state's, 0 to 3": a state with the unit number 4 knows none
  pub init_none : Shows (small_unit 4 1 [] []) (gives (Init 4) [] 0x1200 ∷ [])
  pub set : Shows paper_unit set_cases
  pub set_words : words_after (after_cases paper_unit set_cases) (LookUp a_name) (blank 17)
      ≡ 0x4100 ∷ 0 ∷ 0 ∷ 3 ∷ 4 ∷ 5 ∷ 0x4019 ∷ 3 ∷ 12 ∷ 4 ∷ 10 ∷ 11 ∷ 12 ∷ 13 ∷ 14 ∷ 15 ∷ 0xFFFF ∷ []
  pub create : Shows paper_unit create_cases
  pub create_words : words_after (after_cases paper_unit create_cases) (LookUp b_name) (blank 16)
      ≡ 0x4200 ∷ 0 ∷ 0 ∷ 0 ∷ 0 ∷ 0 ∷ 0x4018 ∷ 0 ∷ 0 ∷ 0 ∷ no_tail
  pub character : Shows paper_unit character_cases
  pub system : Shows paper_unit system_cases
  pub keyed : Shows key_full keyed_cases
  -- 'PASS' had slices 3, 4 and 5; SYS took slice 5 when 'Pass', shortened to two slices, became 'pass'
  pub keyed_sys : ((after_cases key_full keyed_cases).sys ≡ 1 ∷ 2 ∷ 5 ∷ [])
      × (slices_in (file_in small_pass (after_cases key_full keyed_cases)) ≡ 3 ∷ 4 ∷ [])
  pub grow : Shows two_layers grow_cases
  pub grown_sys : ((after_cases two_layers grow_cases).sys ≡ 1 ∷ 2 ∷ []) × ((after_cases two_layers grow_cases).layers ≡ 3)
  pub grown_file : slices_in (file_in z_name (after_cases two_layers grow_cases)) ≡ 3 ∷ 4 ∷ 5 ∷ []
  pub grow_in_slack : Shows full_layer slack_cases
  pub slack_sys : ((after_cases full_layer slack_cases).sys ≡ 1 ∷ []) × ((after_cases full_layer slack_cases).layers ≡ 2)
  pub look_up : Shows paper_unit look_up_cases
  pub look_up_sys : words_after paper_unit (LookUp sys_name) (blank 16) ≡ 0x5359 ∷ 0x5300 ∷ 0 ∷ 0 ∷ 0 ∷ 0 ∷ 0x8010 ∷ 1 ∷ 6 ∷ 2 ∷ no_tail
  pub look_up_map : words_after paper_unit (LookUp map_name) (blank 16) ≡ 0x4D41 ∷ 0x5000 ∷ 0 ∷ 0 ∷ 0 ∷ 0 ∷ 0x8010 ∷ 1 ∷ 7 ∷ 1 ∷ no_tail
  pub change : Shows paper_unit change_cases
  -- slices 2, 3 and 5: "the next number after the file's last if free, else the lowest free"
  pub changed_slices : slices_in (file_in a_name (after_cases paper_unit (refused_changes ++ changes))) ≡ 2 ∷ 3 ∷ 5 ∷ []
  pub changed_words : words_after (after_cases paper_unit (refused_changes ++ changes)) (LookUp a_name) (blank 16)
      ≡ 0x4100 ∷ 0 ∷ 0 ∷ 3 ∷ 4 ∷ 5 ∷ 1 ∷ 4 ∷ 12 ∷ 6 ∷ 10 ∷ 11 ∷ 12 ∷ 13 ∷ 14 ∷ 15 ∷ []
  -- "For a permanent file optional and tail stay too."
  pub permanent_words : words_after (after_cases paper_unit (refused_changes ++ changes)) (LookUp b_name) (blank 16)
      ≡ 0x4200 ∷ 0 ∷ 0 ∷ 0 ∷ 0 ∷ 0 ∷ 0 ∷ 1 ∷ 16 ∷ 2 ∷ no_tail
  pub old : Shows old_unit old_cases
  -- "Change that gives attributes without bit 13 makes it an ordinary file"; a permanent one's optional and tail stay
  pub old_slices : slices_in (file_in z_name (after_cases old_unit old_cases)) ≡ 2 ∷ 3 ∷ []
  pub old_words : words_after (after_cases old_unit old_cases) (LookUp z_name) (blank 16)
      ≡ 0x5A00 ∷ 0 ∷ 0 ∷ 3 ∷ 4 ∷ 5 ∷ 1 ∷ 2 ∷ 12 ∷ 4 ∷ 10 ∷ 11 ∷ 12 ∷ 13 ∷ 14 ∷ 15 ∷ []
  pub old_permanent : words_after (after_cases old_unit old_cases) (LookUp d_name) (blank 16)
      ≡ 0x4400 ∷ 0 ∷ 0 ∷ 0 ∷ 0 ∷ 0 ∷ 0x0010 ∷ 0 ∷ 0 ∷ 0 ∷ no_tail
  pub given_back : (slices_in (file_in a_name (after_cases paper_unit shorter)) ≡ 2 ∷ []) × (free_sectors (after_cases paper_unit shorter) ≡ 6)
  pub served : Shows held_unit served_cases
  pub served_sys : (after_cases held_unit served_cases).sys ≡ 1 ∷ 2 ∷ []
  pub remove : Shows paper_unit remove_cases
  pub removed : free_sectors (after_cases paper_unit remove_cases) ≡ 8
  pub stretched : Shows (scattered []) stretch_cases
  pub one_stretch : Shows ends_free end_cases × (slices_in (file_in c_name (after_cases ends_free end_cases)) ≡ span 259 128)
  pub crowded_sys : Shows crowded crowd_cases
  pub create_area : Shows nine_files create_area_cases
  pub remove_area : Shows open_unit remove_area_cases
  pub before_known : Shows open_unit (of_each before known_operations)
  pub before_unknown : Shows open_unit (of_each before unknown_operations)
  pub unknown : Shows open_unit (of_each is_unknown unknown_operations)
  pub strangers : Shows open_unit (of_each is_stranger user_operations)
  pub reserve : Shows open_unit reserve_cases
  -- "Each user's role .. only rises."
  pub roles : users_in a_name (after_cases open_unit three_users)
      ≡ some (user_row 7 ExclusiveWriter 3 0 ∷ user_row 8 Sharing 1 0 ∷ user_row 9 Sharing 1 0 ∷ [])
  pub count : Shows counted_unit count_cases
  pub position : Shows open_unit position_cases
  pub input : Shows open_unit input_cases
  pub input_words : words_after open_unit (AreaMessage a_name 7 (Transput 1 512 0)) (blank 257) ≡ sector_of 0xA0 ++ blank 1
  pub random_input : Shows open_unit random_input_cases
  pub empty_input : Shows old_unit empty_input_cases
  pub output3 : Shows output_unit (output_cases 3)
  pub output7 : Shows output_unit (output_cases 7)
  pub output19 : Shows output_unit (output_cases 19)
  -- appended blocks join; the booked length and slices stay
  pub appended : file_in a_name (after_cases output_unit (output_cases 3))
      ≡ some (record {
        attributes = 1;
        optional = replicate 3 0;
        tail = no_tail;
        booked = 2;
        booked_slices = 2;
        slices = 2 ∷ 3 ∷ 5 ∷ [];
        sectors = sector_of 0xA0 ∷ sector_of 0xA1 ∷ sector_of 0xA2 ∷ sector_of 0xA3 ∷ sector_of 0xA4 ∷ [];
      })
  -- "with none, word 8 is 0", until "length and slices are booked"
  pub unbooked : words_after (after_cases paper_unit first_block) (LookUp a_name) (blank 16)
      ≡ 0x4100 ∷ 0 ∷ 0 ∷ 0 ∷ 0 ∷ 0 ∷ 1 ∷ 0 ∷ 0 ∷ 0 ∷ no_tail
  pub booked : words_after (after_cases paper_unit first_booked) (LookUp a_name) (blank 16)
      ≡ 0x4100 ∷ 0 ∷ 0 ∷ 0 ∷ 0 ∷ 0 ∷ 1 ∷ 1 ∷ 12 ∷ 2 ∷ no_tail
  pub reused : Shows paper_unit reuse
  -- not "leaving an old file's words in a new file"
  pub cleared : words_after (after_cases paper_unit reuse) (AreaMessage b_name 7 (Transput 1 512 0)) (blank 256) ≡ sector_of 0
  pub random_output : Shows output_unit random_output_cases
  pub long_output3 : Shows (scattered (area_row a_name (user_row 7 Sharing 1 253 ∷ []) ∷ [])) (long_output_cases 3)
  pub long_output7 : Shows (scattered (area_row a_name (user_row 7 Sharing 1 253 ∷ []) ∷ [])) (long_output_cases 7)
  pub long_output19 : Shows (scattered (area_row a_name (user_row 7 Sharing 1 253 ∷ []) ∷ [])) (long_output_cases 19)
  pub description : Shows paper_unit description_cases
  pub description_words : words_after (small_unit 2 1 [] []) (UnitDescription 2 32) (blank 17)
      ≡ 0 ∷ 2 ∷ 0 ∷ 20 ∷ 0x554E ∷ 0x4954 ∷ 0x0200 ∷ 0 ∷ 0 ∷ 0 ∷ 0 ∷ 0 ∷ 1 ∷ 2 ∷ 20 ∷ 8 ∷ 0xFFFF ∷ []
  pub listing : Shows open_unit listing_cases
  -- the plain unit lists by name
  pub listing_words : words_after paper_unit (Listing 0) (blank 33)
      ≡ 0x4D41 ∷ 0x5000 ∷ 0 ∷ 0 ∷ 0 ∷ 0 ∷ 0x8010 ∷ 1 ∷ 7 ∷ 1
      ∷ no_tail ++ (0x5359 ∷ 0x5300 ∷ 0 ∷ 0 ∷ 0 ∷ 0 ∷ 0x8010 ∷ 1 ∷ 6 ∷ 2 ∷ no_tail ++ (0xFFFF ∷ []))
