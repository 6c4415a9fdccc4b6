-- Entries and their places: "Entry, 16 words: 0-2 name, 3-5 optional, 6 attributes, 7 length, 8 index sector (0 if
-- none), 9 reserved = s times slices, 10-15 tail."
use Rattle.std.specs.Prelude.{List, ◌∷◌, ◌++◌, ℕ, zero, suc, ◌+◌, ◌*◌, ◌/◌, ◌%◌, length, take, drop, replicate}
use Rattle.disc.specs.Numbers.{slice_start}
use Rattle.disc.specs.Words.{word}
use Rattle.disc.specs.Names.{name_words, SYS, MAP, pack}
use Rattle.disc.specs.Slices.{first_of}
use Rattle.disc.specs.Stretches.{block_sector}
use Rattle.disc.specs.Kit.{sys_index_sector, map_index_sector}

abbrev pub entry_words : ℕ → List ℕ → ℕ → ℕ → ℕ → ℕ → List ℕ → List ℕ
entry_words name optional attributes size index reserved tail =
    name_words name ++ (optional ++ (attributes ∷ size ∷ index ∷ reserved ∷ tail))

-- The name, the optional words and the tail that stand in the words of an entry.
abbrev pub name_by : (ℕ → ℕ) → ℕ
name_by w = pack (w 0) (w 1) (w 2)

abbrev pub optional_in : List ℕ → List ℕ
optional_in words = take 3 (drop 3 words)

abbrev pub tail_in : List ℕ → List ℕ
tail_in words = take 6 (drop 10 words)

-- The entry that has its optional words and its tail from other words.
abbrev pub entry_from : ℕ → ℕ → ℕ → ℕ → ℕ → List ℕ → List ℕ
entry_from name attributes size index reserved words = entry_words name (optional_in words) attributes size index reserved (tail_in words)

-- The index sector of an ordinary file with n slices, of which the first is that of the list: 0 if there are none.
abbrev pub index_sector : ℕ → ℕ → ℕ → List ℕ → ℕ
index_sector F s zero slices = 0
index_sector F s (suc n) slices = slice_start F s (first_of slices)

-- "SYS and MAP are entered with attributes 8010h, zero optional and tail, index 6 and 7."
abbrev pub system_entry : ℕ → ℕ → ℕ → ℕ → List ℕ
system_entry name size index reserved = entry_words name (replicate 3 0) 0x8010 size index reserved (replicate 6 0)

-- "SYS has length H times L", and its slices.
abbrev pub sys_entry : ℕ → ℕ → ℕ → List ℕ → List ℕ
sys_entry H s L sys = system_entry SYS (H * L) sys_index_sector (s * length sys)

-- "MAP has length and reserved 1".
abbrev pub map_entry : List ℕ
map_entry = system_entry MAP 1 map_index_sector 1

-- The places of a catalog of H times L sectors, sixteen to a sector.
abbrev pub place_count : ℕ → ℕ → ℕ
place_count H L = 16 * (H * L)

-- Word w of place t of a catalog with these slices, whose first block is joined sector `from`.
abbrev pub place_word : List ℕ → ℕ → ℕ → List ℕ → ℕ → ℕ → ℕ → ℕ
place_word image F s slices from t w = word image (block_sector F s slices from (t / 16)) (t % 16 * 16 + w)

-- The name that stands in place t of an array of places.
abbrev pub name_at : (ℕ → ℕ → ℕ) → ℕ → ℕ
name_at P t = name_by (P t)
