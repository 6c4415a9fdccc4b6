-- Section 'Worked on paper': P1 to P8 and the cases not marked, as rows of one stated fact; and of document 02 the end of a file (R-4),
-- new files in one stretch (R-6), names that differ in small letters (R-8) and a disc of before that holds an entry-only file (R-9).
use Rattle.std.specs.Prelude.{◌≡◌, List, [], ◌∷◌, ◌++◌, ℕ, zero, suc, ◌*◌, ◌-◌, length, get_or, take, drop, replicate}
use Rattle.std.proofs.Math.Option.{Option, none, some}
use Rattle.types.specs.declared.Name.{Name}
use Rattle.types.specs.declared.Operation.{Operation}
use Rattle.types.specs.declared.Operation.TheVariants.{Reserve, Position, Transput}
use Rattle.types.specs.declared.Message.TheVariants.{Set, Create, LookUp, Change, Remove, CreateArea, RemoveArea, AreaMessage, Listing}
use Rattle.disc.specs.Numbers.{need}
use Rattle.disc.specs.Names.{named, key_of, SYS, MAP}
use Rattle.disc.specs.Stretches.{index_words}
use Rattle.disc.specs.Map.{map_word}
use Rattle.plain.specs.Table.{table_find, table_put}
use Rattle.plain.specs.Unit.{Plain, File, M, held, free_sectors, with_files}
use Rattle.plain.specs.Fresh.{fresh_unit}
use Rattle.plain.specs.Step.{after}
use Rattle.examples.specs.Cases.{Case, gives, gives_at, gives_counts, calls_of, Shows, words_after}

-- "H = 1, s = 2, N = 20, F = 10", fresh: unit 0 as Format makes it.
abbrev pub paper_unit : Plain
paper_unit = fresh_unit 0 1 2 10 20

-- 'PASS' of unit 0, and 'ZZZZZ'.
abbrev pub pass : Name
pass = record { 0 = 0x5041; 1 = 0x5353; 2 = 0 }

abbrev pub zzzzz : Name
zzzzz = record { 0 = 0x5A5A; 1 = 0x5A5A; 2 = 0x5A00 }

-- 'Pass' and 'pass'.
abbrev pub mixed_pass : Name
mixed_pass = record { 0 = 0x5061; 1 = 0x7373; 2 = 0 }

abbrev pub small_pass : Name
small_pass = record { 0 = 0x7061; 1 = 0x7373; 2 = 0 }

-- A name of a single character, of unit 0.
abbrev pub char : ℕ → Name
char c = record { 0 = c * 256; 1 = 0; 2 = 0 }

-- "Sums to": a key before it is taken modulo H, which 65,536 leaves as it is.
abbrev pub sum_of : ℕ → ℕ
sum_of n = key_of 65536 n

-- The slices of a file that there may be.
abbrev pub slices_in : Option File → List ℕ
slices_in none = []
slices_in (some f) = f.slices

-- The slices of 'PASS', the words of its index block, and the first word of the unit's map.
abbrev pub pass_slices : Plain → List ℕ
pass_slices p = slices_in (table_find (named pass) p.files)

abbrev pub pass_index : Plain → List ℕ
pass_index p = index_words p.F p.s (pass_slices p)

abbrev pub map_start : Plain → ℕ
map_start p = map_word (M p) (held p) 0

-- Word w of the entry that Look-up of 'PASS' hands out over lent words FFFFh: 7 is the length, 9 the reserved sectors.
abbrev pub looked_up : Plain → ℕ → ℕ
looked_up p w = get_or (words_after p (LookUp pass) (replicate 16 0xFFFF)) w 0

-- A sector of output, and a message of a sender to the area 'PASS'.
abbrev pub sector_of : ℕ → List ℕ
sector_of w = replicate 256 w

abbrev pub pass_area : ℕ → Operation → List ℕ → ℕ → Case
pass_area sender operation lent result = gives (AreaMessage pass sender operation) lent result

-- P6's call; P7's after it; P8's after those.
abbrev pub six_calls : List Case
six_calls = gives (Create pass 2 1) [] 0 ∷ []

abbrev pub seven_calls : List Case
seven_calls =
    six_calls
    ++ (gives (CreateArea pass) [] 0
    ∷ pass_area 9 (Reserve 3) [] 0
    ∷ gives_at (AreaMessage pass 9 (Transput 7 512 2)) (sector_of 1) 0 512 2
    ∷ gives_at (AreaMessage pass 9 (Transput 3 512 0)) (sector_of 2) 0 512 3
    ∷ [])

abbrev pub eight_calls : List Case
eight_calls = seven_calls ++ (pass_area 9 (Reserve 0) [] 0 ∷ gives (RemoveArea pass) [] 0 ∷ [])

-- Input by operation 1 or 5 from the area 'PASS': result word, byte count and block.
abbrev pub pass_input : ℕ → ℕ → ℕ → ℕ → ℕ → Case
pass_input operation block result bytes at = gives_at (AreaMessage pass 9 (Transput operation 512 block)) (sector_of 9) result bytes at

-- 'PASS' with two blocks and these attributes is read to its end, at which input has the result word given: by 1 from block 0 on; by 5
-- at block 2, which is the length; and by 1 where a 5 and a Position to block 3, past the length, have left the position, which was 0.
abbrev pub end_calls : ℕ → ℕ → List Case
end_calls attributes word =
    gives (Create pass 2 attributes) [] 0
    ∷ gives (CreateArea pass) [] 0
    ∷ pass_area 9 (Reserve 3) [] 0
    ∷ pass_input 1 0 0 512 0
    ∷ pass_input 1 0 0 512 1
    ∷ pass_input 1 0 word 0 2
    ∷ pass_input 5 0 0 512 0
    ∷ pass_input 5 2 word 0 2
    ∷ pass_area 9 (Position 0) [] 0
    ∷ pass_input 5 3 0x0810 0 2  -- Position: not past the length?
    ∷ pass_input 1 0 word 0 2
    ∷ pass_area 9 (Position 0) [] 0
    ∷ pass_area 9 (Position 3) [] 0x0810  -- the same
    ∷ pass_input 1 0 word 0 2
    ∷ []

-- H = 3, s = 2, N = 20, F = 10, fresh: SYS has slices 1 and 2.
abbrev pub three_keys : Plain
three_keys = fresh_unit 0 3 2 10 20

-- The record for a Change of the name alone: attributes and length are kept.
abbrev pub rename_to : Name → List ℕ
rename_to name = name.0 ∷ name.1 ∷ name.2 ∷ replicate 3 0 ++ (0xFFFF ∷ 0 ∷ 0 ∷ 0xFFFF ∷ replicate 6 0)

-- 'PASS' and 'Pass' beside each other, each with an area process of its own: user 9 writes one block of 'PASS' and two of 'Pass'.
abbrev pub beside_calls : List Case
beside_calls =
    gives (Create pass 1 1) [] 0
    ∷ gives (Create mixed_pass 1 1) [] 0
    ∷ gives (Create mixed_pass 1 1) [] 0x1010  -- 6
    ∷ gives (LookUp small_pass) (replicate 16 0xFFFF) 0x5000  -- 3
    ∷ gives (CreateArea pass) [] 0
    ∷ gives (CreateArea mixed_pass) [] 0
    ∷ gives (CreateArea small_pass) [] 0x4800  -- entered?
    ∷ pass_area 9 (Reserve 3) [] 0
    ∷ gives (AreaMessage mixed_pass 9 (Reserve 3)) [] 0
    ∷ gives_at (AreaMessage pass 9 (Transput 3 512 0)) (sector_of 1) 0 512 0
    ∷ gives_at (AreaMessage mixed_pass 9 (Transput 3 512 0)) (sector_of 2) 0 512 0
    ∷ gives_at (AreaMessage mixed_pass 9 (Transput 3 512 0)) (sector_of 3) 0 512 1
    ∷ []

-- The area of 'Pass' is removed, and 'Pass' becomes 'pass' while that of 'PASS' is open.
abbrev pub rename_calls : List Case
rename_calls =
    beside_calls
    ++ (gives (Change mixed_pass) (rename_to small_pass) 0x1200  -- 5: area process
    ∷ gives (AreaMessage mixed_pass 9 (Reserve 0)) [] 0
    ∷ gives (RemoveArea mixed_pass) [] 0
    ∷ gives (Change mixed_pass) (rename_to pass) 0x1010  -- 6
    ∷ gives (Change mixed_pass) (rename_to small_pass) 0
    ∷ gives (LookUp mixed_pass) (replicate 16 0xFFFF) 0x5000  -- 3
    ∷ gives (Change pass) (rename_to mixed_pass) 0x1200  -- 5: area process
    ∷ [])

-- The entry of a name with attributes 0001h and these length, index sector and reserved sectors, over lent words 9.
abbrev pub pass_entry : ℕ → ℕ → ℕ → ℕ → ℕ → List ℕ
pass_entry first second size index reserved =
    first ∷ second ∷ 0 ∷ 0 ∷ 0 ∷ 0 ∷ 1 ∷ size ∷ index ∷ reserved ∷ 0 ∷ 0 ∷ 0 ∷ 0 ∷ 0 ∷ 0 ∷ replicate 240 9

-- The paper unit as a disc of before R-9 has it: one file, 'PASS', which is entry only.
abbrev pub entry_only_unit : Plain
entry_only_unit = with_files paper_unit (record {
  key = named pass;
  val = record {
    attributes = 4;
    optional = 1 ∷ 2 ∷ 3 ∷ [];
    tail = 10 ∷ 11 ∷ 12 ∷ 13 ∷ 14 ∷ 15 ∷ [];
    booked = 0;
    booked_slices = 0;
    slices = [];
    sectors = [];
  };
} ∷ [])

-- The words of its entry.
abbrev pub entry_only_words : List ℕ
entry_only_words = 0x5041 ∷ 0x5353 ∷ 0 ∷ 1 ∷ 2 ∷ 3 ∷ 4 ∷ 0 ∷ 0 ∷ 0 ∷ 10 ∷ 11 ∷ 12 ∷ 13 ∷ 14 ∷ 15 ∷ []

-- The record for a Set or Change with these first two words of a name, attributes and length; and the words of an entry after it, with
-- these length, index sector and reserved sectors.
abbrev pub record_of : ℕ → ℕ → ℕ → ℕ → List ℕ
record_of first second attributes size =
    first ∷ second ∷ 0 ∷ 4 ∷ 5 ∷ 6 ∷ attributes ∷ 0 ∷ 0 ∷ size ∷ 20 ∷ 21 ∷ 22 ∷ 23 ∷ 24 ∷ 25 ∷ []

abbrev pub recorded : ℕ → ℕ → ℕ → ℕ → ℕ → ℕ → List ℕ
recorded first second attributes size index reserved =
    first ∷ second ∷ 0 ∷ 4 ∷ 5 ∷ 6 ∷ attributes ∷ size ∷ index ∷ reserved ∷ 20 ∷ 21 ∷ 22 ∷ 23 ∷ 24 ∷ 25 ∷ []

-- A Change of 'PASS' that keeps the name, with these attributes and length, and its result word.
abbrev pub changes_pass : ℕ → ℕ → ℕ → Case
changes_pass attributes size result = gives (Change pass) (record_of 0 0 attributes size) result

-- Look-up's words for a name after some calls on the disc of before.
abbrev pub entry_after : Name → List Case → List ℕ
entry_after name cases = words_after (after entry_only_unit (calls_of cases)) (LookUp name) (replicate 16 0xFFFF)

-- Bit 13 is given; or it is kept, and the file would have a slice.
abbrev pub refused_calls : List Case
refused_calls =
    gives (Create zzzzz 0 4) [] 0x1200  -- 4
    ∷ gives (Set zzzzz) (record_of 0 0 4 0) 0x1200  -- 4
    ∷ changes_pass 4 0xFFFF 0x1200  -- 4, though the entry has bit 13
    ∷ changes_pass 4 0 0x1200  -- 4
    ∷ changes_pass 0xFFFF 1 0x1200  -- 4: "13 only with no slices"
    ∷ []

-- 'PASS' keeps its attributes; becomes 'Pass'; is removed; becomes an ordinary file of no block, or of two.
abbrev pub kept_calls : List Case
kept_calls = changes_pass 0xFFFF 0xFFFF 0 ∷ []

abbrev pub to_mixed : List Case
to_mixed = gives (Change pass) (record_of 0x5061 0x7373 0xFFFF 0xFFFF) 0 ∷ gives (LookUp pass) (replicate 16 0xFFFF) 0x5000 ∷ []  -- 3

abbrev pub remove_calls : List Case
remove_calls = gives (Remove pass) [] 0 ∷ []

abbrev pub ordinary_calls : List Case
ordinary_calls = changes_pass 1 0xFFFF 0 ∷ []

abbrev pub longer_calls : List Case
longer_calls = changes_pass 1 2 0 ∷ []

-- The area of the entry-only file: a fixed file of no block.
abbrev pub area_calls : List Case
area_calls =
    gives (CreateArea pass) [] 0
    ∷ pass_area 9 (Reserve 3) [] 0
    ∷ pass_input 1 0 0x0A00 0 0  -- below the length?
    ∷ pass_area 9 (Transput 3 512 0) (sector_of 1) 0x0A00  -- appending: extendable?
    ∷ []

-- H = 2, s = 2, N = 30, F = 10, fresh: ten slices, of which SYS has slice 1.
abbrev pub ten_slices : Plain
ten_slices = fresh_unit 0 2 2 10 30

abbrev pub creates_letter : ℕ → ℕ → Case
creates_letter c size = gives (Create (char c) size 1) [] 0

-- 'A', 'D', 'B', 'E' and 'C' of 1, 3, 1, 1 and 1 blocks get slices 2, 3 with 4, 5, 6 and 7, and 'D' and 'E' are removed: free are stretches
-- of two, one and three slices, 3 and 4, 6, and 8 to 10.
abbrev pub gap_calls : List Case
gap_calls =
    creates_letter 0x41 1
    ∷ creates_letter 0x44 3
    ∷ creates_letter 0x42 1
    ∷ creates_letter 0x45 1
    ∷ creates_letter 0x43 1
    ∷ gives (Remove (char 0x44)) [] 0
    ∷ gives (Remove (char 0x45)) [] 0
    ∷ []

abbrev pub gaps : Plain
gaps = after ten_slices (calls_of gap_calls)

-- A name gets its first slices, for this size: by Create; by Set; by a Change of 'PASS', which has none and gets the name.
abbrev pub by_create : Name → ℕ → ℕ → List Case
by_create name size word = gives (Create name size 1) [] word ∷ []

abbrev pub by_set : Name → ℕ → ℕ → List Case
by_set name size word = gives (Set name) (record_of 0 0 1 size) word ∷ []

abbrev pub by_change : Name → ℕ → ℕ → List Case
by_change name size word = gives (Create pass 0 1) [] 0 ∷ gives (Change pass) (record_of name.0 name.1 1 size) word ∷ []

-- The calls are answered so on a unit, and then the name has these slices, its index block these words and the map this first word.
abbrev pub Takes : Plain → List Case → Name → List ℕ → List ℕ → ℕ → Type 0
Takes p cases name slices index map =
    let q : Plain = after p (calls_of cases) in
    let new : List ℕ = slices_in (table_find (named name) q.files) in
    Shows p cases × (new ≡ slices) × (index_words q.F q.s new ≡ index) × (map_start q ≡ map)

-- The same of each of the three ways.
abbrev pub NewTakes : Plain → Name → ℕ → List ℕ → List ℕ → ℕ → Type 0
NewTakes p name size slices index map =
    Takes p (by_create name size 0) name slices index map
    × Takes p (by_set name size 0) name slices index map
    × Takes p (by_change name size 0) name slices index map

-- Each of them is refused with this word.
abbrev pub NewRefused : Plain → Name → ℕ → ℕ → Type 0
NewRefused p name size word =
    Shows p (by_create name size word) × Shows p (by_set name size word) × Shows p (by_change name size word)

-- An area is opened, and user 9 writes n blocks from block k on; one at the length is appended.
abbrev pub outputs : Name → ℕ → ℕ → List Case
outputs name k zero = []
outputs name k (suc n) = gives_at (AreaMessage name 9 (Transput 7 512 k)) (sector_of k) 0 512 k ∷ outputs name (suc k) n

abbrev pub writing : Name → ℕ → ℕ → List Case
writing name k n = gives (CreateArea name) [] 0 ∷ gives (AreaMessage name 9 (Reserve 3)) [] 0 ∷ outputs name k n

-- A closed file with attributes, slices and sectors, no optional words and no tail.
abbrev pub file_with : ℕ → List ℕ → List (List ℕ) → File
file_with attributes slices sectors = record {
  attributes = attributes;
  optional = replicate 3 0;
  tail = replicate 6 0;
  booked = length sectors;
  booked_slices = length slices;
  slices = slices;
  sectors = sectors;
}

-- The same from an old disc, on which 'C' has slice 7 and no block: "at least need(length) slices".
abbrev pub surplus : Plain
surplus = with_files gaps (table_put (named (char 0x43)) (file_with 1 (7 ∷ []) []) gaps.files)

-- n empty files, whose names' first two words are a, b and then a + 1, b - 1 and so on: one sum.
abbrev pub same_sum : ℕ → ℕ → ℕ → List Case
same_sum a b zero = []
same_sum a b (suc n) = gives (Create (record { 0 = a; 1 = b; 2 = 0 }) 0 0) [] 0 ∷ same_sum (suc a) (b - 1) n

-- 'AAZZ' to 'ANZM' sum to 9B9Bh, 'SYS' to A659h and 'MAP' to 9D41h: for H = 2 they take the 16 places of key 1.
abbrev pub full_key_calls : List Case
full_key_calls = same_sum 0x4141 0x5A5A 14

abbrev pub full_key : Plain
full_key = after gaps (calls_of full_key_calls)

-- 'AOZL', the next of that sum.
abbrev pub aozl : Name
aozl = record { 0 = 0x414F; 1 = 0x5A4C; 2 = 0 }

-- After some calls on that unit SYS has two layers, 4 sectors, in slices 1 and 3; and the words of its index block.
abbrev pub SysGrown : List Case → Type 0
SysGrown cases =
    let q : Plain = after full_key (calls_of cases) in
    (q.layers ≡ 2) × (q.sys ≡ 1 ∷ 3 ∷ []) × (index_words q.F q.s q.sys ≡ 2 ∷ 2 ∷ 10 ∷ 2 ∷ 14 ∷ [])

-- The fresh unit after the calls of P6, P7 and P8.
abbrev pub sixth : Plain
sixth = after paper_unit (calls_of six_calls)

abbrev pub seventh : Plain
seventh = after paper_unit (calls_of seven_calls)

abbrev pub eighth : Plain
eighth = after paper_unit (calls_of eight_calls)

-- The unit of three keys after the calls on 'PASS' and 'Pass', and after the rename.
abbrev pub beside : Plain
beside = after three_keys (calls_of beside_calls)

abbrev pub renamed : Plain
renamed = after three_keys (calls_of rename_calls)

pub record Paper : Type 0 where
  -- "(P1) need with s = 2: 1 gives 1, 2 gives 2, 3 gives 2, 4 gives 3."
  pub p1 : (need 2 1 ≡ 1) × (need 2 2 ≡ 2) × (need 2 3 ≡ 2) × (need 2 4 ≡ 3)
  -- "(P2) H = 3: 'PASS' sums to A394h, key 2"
  pub p2 : (sum_of (named pass) ≡ 0xA394) × (key_of 3 (named pass) ≡ 2)
  -- "(P3) 'ZZZZZ' to 0EB4h, key 2"
  pub p3 : (sum_of (named zzzzz) ≡ 0x0EB4) × (key_of 3 (named zzzzz) ≡ 2)
  -- "(P4) 'SYS' and 'MAP' key 0."
  pub p4 : (key_of 3 SYS ≡ 0) × (key_of 3 MAP ≡ 0)
  -- "(P5) fresh map word 0 is 7800h, free 8"
  pub p5 : (map_start paper_unit ≡ 0x7800) × (free_sectors paper_unit ≡ 8)
  -- "(P6) Create 'PASS' size 2, attributes 0001h: slices 2, 3, index 1, 4, 12, map 1800h, free 4"
  pub p6 : (pass_slices sixth ≡ 2 ∷ 3 ∷ []) × (pass_index sixth ≡ 1 ∷ 4 ∷ 12 ∷ []) × (map_start sixth ≡ 0x1800) × (free_sectors sixth ≡ 4)
  -- "(P7) outputs at 2 and 3: index 1, 6, 12, free 2, Look-up still 2 and 4"
  pub p7 : (pass_index seventh ≡ 1 ∷ 6 ∷ 12 ∷ []) × (free_sectors seventh ≡ 2) × (looked_up seventh 7 ≡ 2) × (looked_up seventh 9 ≡ 4)
  -- "(P8) area removed: 4 and 6."
  pub p8 : (looked_up eighth 7 ≡ 4) × (looked_up eighth 9 ≡ 6)
  -- none of these calls is refused
  pub accepted : Shows paper_unit eight_calls
  -- "Not marked: size 8 on the fresh unit, 1100h"
  pub size8 : Shows paper_unit (gives (Create pass 8 1) [] 0x1100 ∷ [])
  -- "size 7, accepted"
  pub size7 : Shows paper_unit (gives (Create pass 7 1) [] 0 ∷ [])
  -- "a fourth user, 0808h."
  pub fourth : Shows sixth (gives (CreateArea pass) [] 0
      ∷ pass_area 6 (Reserve 3) [] 0
      ∷ pass_area 7 (Reserve 3) [] 0
      ∷ pass_area 8 (Reserve 3) [] 0
      ∷ pass_area 9 (Reserve 3) [] 0x0808
      ∷ [])
  -- "Input at the length of a file without bit 15 shall answer 0A00h."
  pub fixed_end : Shows paper_unit (end_calls 0 0x0A00)
  -- "An extendable file still gives 0810h there."
  pub extendable_end : Shows paper_unit (end_calls 1 0x0810)
  -- the unit for R-6: free are 3, 4, 6, 8, 9 and 10, in the map 2000h, 1000h, 400h, 100h, 80h and 40h; slice k starts at sector
  -- 10 + 2 (k - 1), so that 3, 4, 5, 6, 7 and 8 start at 14, 16, 18, 20, 22 and 24
  pub gaps_left : Shows ten_slices gap_calls × (map_start gaps ≡ 0x35C0) × (free_sectors gaps ≡ 12)
  -- "The lowest stretch of as many neighbouring free slices as it needs": (1 + 1) / 2 = 1, (3 + 1) / 2 = 2, (5 + 1) / 2 = 3
  pub one_slice : NewTakes gaps pass 1 (3 ∷ []) (1 ∷ 2 ∷ 14 ∷ []) 0x15C0
  pub two_slices : NewTakes gaps pass 3 (3 ∷ 4 ∷ []) (1 ∷ 4 ∷ 14 ∷ []) 0x05C0
  pub three_slices : NewTakes gaps pass 5 (8 ∷ 9 ∷ 10 ∷ []) (1 ∷ 6 ∷ 24 ∷ []) 0x3400
  -- "01's old choice otherwise": (7 + 1) / 2 = 4, and (11 + 1) / 2 = 6, all that are free
  pub four_slices : NewTakes gaps pass 7 (3 ∷ 4 ∷ 6 ∷ 8 ∷ []) (3 ∷ 4 ∷ 14 ∷ 2 ∷ 20 ∷ 2 ∷ 24 ∷ []) 0x00C0
  pub six_slices : NewTakes gaps pass 11 (3 ∷ 4 ∷ 6 ∷ 8 ∷ 9 ∷ 10 ∷ []) (3 ∷ 4 ∷ 14 ∷ 2 ∷ 20 ∷ 6 ∷ 24 ∷ []) 0
  -- question 7: (13 + 1) / 2 = 7 of six
  pub seven_slices : NewRefused gaps pass 13 0x1100
  -- with slice 3 in use, two of the three neighbours, and not 4 and 6
  pub part_of_three : Takes gaps (by_create pass 1 0 ++ by_create zzzzz 3 0) zzzzz (8 ∷ 9 ∷ []) (1 ∷ 4 ∷ 24 ∷ []) 0x1440
  -- "a file that has none": the first slice of an output that appends; with it the file has one, and the next are 4 and, past 5, 6
  pub first_output : Takes gaps (by_create pass 0 0 ++ writing pass 0 1) pass (3 ∷ []) (1 ∷ 2 ∷ 14 ∷ []) 0x15C0
  pub four_outputs : Takes gaps (by_create pass 0 0 ++ writing pass 0 4) pass (3 ∷ 4 ∷ 6 ∷ []) (2 ∷ 4 ∷ 14 ∷ 2 ∷ 20 ∷ []) 0x01C0
  -- live slices count, booked or not: PASS has slice 3 and takes 4, the next, though 2, which 'A' left, is lower
  pub live_output : Takes gaps (by_create pass 0 0 ++ writing pass 0 1 ++ (gives (Remove (char 0x41)) [] 0 ∷ outputs pass 1 1)) pass
      (3 ∷ 4 ∷ []) (1 ∷ 4 ∷ 14 ∷ []) 0x45C0
  -- 'C' gives slice 7 back and has none: of 3, 4 and 6 to 10 it takes 6, 7 and 8
  pub cut_and_longer : Takes gaps (gives (Change (char 0x43)) (record_of 0 0 1 0) 0 ∷ gives (Change (char 0x43)) (record_of 0 0 1 5) 0 ∷ [])
      (char 0x43) (6 ∷ 7 ∷ 8 ∷ []) (1 ∷ 6 ∷ 20 ∷ []) 0x30C0
  -- a file that has slices takes by 01's choice: 'B' two more than slice 5, the next and the lowest free, though 3 and 4 are neighbours
  pub letter_longer : Takes gaps (gives (Change (char 0x42)) (record_of 0 0 1 5) 0 ∷ []) (char 0x42)
      (5 ∷ 6 ∷ 3 ∷ []) (2 ∷ 4 ∷ 18 ∷ 2 ∷ 14 ∷ []) 0x11C0
  -- the same: an output to 'C' at its length 1 takes the slice next to 7, and not the lowest
  pub letter_output : Takes gaps (writing (char 0x43) 1 1) (char 0x43) (7 ∷ 8 ∷ []) (1 ∷ 4 ∷ 22 ∷ []) 0x34C0
  -- the same at length 0: (4 + 1) / 2 rounded up is 3, two more than slice 7; the first block needs none more, the second one
  pub surplus_longer : Takes surplus (gives (Change (char 0x43)) (record_of 0 0 1 4) 0 ∷ []) (char 0x43)
      (7 ∷ 8 ∷ 9 ∷ []) (1 ∷ 6 ∷ 22 ∷ []) 0x3440
  pub surplus_output : Takes surplus (writing (char 0x43) 0 1) (char 0x43) (7 ∷ []) (1 ∷ 2 ∷ 22 ∷ []) 0x35C0
  pub surplus_outputs : Takes surplus (writing (char 0x43) 0 2) (char 0x43) (7 ∷ 8 ∷ []) (1 ∷ 4 ∷ 22 ∷ []) 0x34C0
  -- a name of another key leaves SYS as it is
  pub other_key : Shows gaps full_key_calls × NewTakes full_key pass 3 (3 ∷ 4 ∷ []) (1 ∷ 4 ∷ 14 ∷ []) 0x05C0
  -- "SYS still takes first": for the 17th name of key 1 it grows by H = 2 sectors, to 4, and as 2 is in use takes 3, the lowest free; of 4,
  -- 6, 8, 9 and 10 the file takes 8 and 9
  pub sys_first : NewTakes full_key aozl 3 (8 ∷ 9 ∷ []) (1 ∷ 4 ∷ 24 ∷ []) 0x1440
  pub sys_taken : SysGrown (by_create aozl 3 0) × SysGrown (by_set aozl 3 0) × SysGrown (by_change aozl 3 0)
  -- five slices and one of SYS, of six; six and one, of six
  pub sys_and_five : NewTakes full_key aozl 9 (4 ∷ 6 ∷ 8 ∷ 9 ∷ 10 ∷ []) (3 ∷ 2 ∷ 16 ∷ 2 ∷ 20 ∷ 6 ∷ 24 ∷ []) 0
  pub sys_and_six : NewRefused full_key aozl 11 0x1100
  -- "Small letters .. enter the key as given": for H = 3 'Pass' has the key of 'PASS' and 'pass' another
  pub mixed_key : (sum_of (named mixed_pass) ≡ 0xC3D4) × (key_of 3 (named mixed_pass) ≡ 2)
  pub small_key : (sum_of (named small_pass) ≡ 0xE3D4) × (key_of 3 (named small_pass) ≡ 1)
  -- "'Pass' and 'PASS' as separate files": slice 3, and slices 4 and 5
  pub beside_answers : Shows three_keys beside_calls
  pub beside_slices : (pass_slices beside ≡ 3 ∷ []) × (slices_in (table_find (named mixed_pass) beside.files) ≡ 4 ∷ 5 ∷ [])
  pub beside_words : (words_after beside (AreaMessage pass 9 (Transput 5 512 0)) (sector_of 9) ≡ sector_of 1)
      × (words_after beside (AreaMessage mixed_pass 9 (Transput 5 512 0)) (sector_of 9) ≡ sector_of 2)
  -- "Names are equal only when all five characters are": 'Pass' cannot become 'PASS', and can become 'pass'
  pub rename_answers : Shows three_keys rename_calls
  -- "stored as given": name, attributes 0001h, length, index sector and reserved sectors; of 'PASS' as booked
  pub renamed_words : (words_after renamed (LookUp small_pass) (sector_of 9) ≡ pass_entry 0x7061 0x7373 2 16 4)
      × (words_after renamed (LookUp pass) (sector_of 9) ≡ pass_entry 0x5041 0x5353 1 14 2)
  -- "An entry that still has it .. may be used as before": Look-up, a Change that keeps the attributes, a rename
  pub entry_only_looked : entry_after pass [] ≡ entry_only_words
  pub entry_only_kept : Shows entry_only_unit kept_calls × (entry_after pass kept_calls ≡ recorded 0x5041 0x5353 4 0 0 0)
  pub entry_only_renamed : Shows entry_only_unit to_mixed × (entry_after mixed_pass to_mixed ≡ recorded 0x5061 0x7373 4 0 0 0)
  -- the same: area create, and the listing, between MAP and SYS
  pub entry_only_area : Shows entry_only_unit area_calls × (entry_after pass area_calls ≡ entry_only_words)
  pub entry_only_listed : Shows entry_only_unit (gives_counts (Listing 0) (replicate 48 9) 0 3 ∷ [])
      × (take 16 (drop 16 (words_after entry_only_unit (Listing 0) (replicate 48 9))) ≡ entry_only_words)
  -- the same: Remove, after which the disc is the fresh one
  pub entry_only_removed : Shows entry_only_unit remove_calls × (after entry_only_unit (calls_of remove_calls) ≡ paper_unit)
  -- "Change that gives attributes without bit 13 makes it an ordinary file": of no block, and of two in slices 2 and 3
  pub entry_only_ordinary : Shows entry_only_unit ordinary_calls × (entry_after pass ordinary_calls ≡ recorded 0x5041 0x5353 1 0 0 0)
  pub entry_only_longer : Shows entry_only_unit longer_calls × (entry_after pass longer_calls ≡ recorded 0x5041 0x5353 1 2 12 4)
  pub entry_only_slices : pass_slices (after entry_only_unit (calls_of longer_calls)) ≡ 2 ∷ 3 ∷ []
  -- "Refused: 1200h at question 4, where Set, Create or Change gives attributes that aren't negative and contain bit 13"
  pub entry_only_refused : Shows entry_only_unit refused_calls × (after entry_only_unit (calls_of refused_calls) ≡ entry_only_unit)
