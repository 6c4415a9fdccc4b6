-- A sound unit: the section of document 01 with that name, over the words of the image and the state, in its order.
use Rattle.std.specs.Prelude.{◌≡◌, cond, List, [], ◌∷◌, ◌++◌, ◌↔◌, ℕ, zero, suc, ◌*◌, ◌≤◌, ◌<◌, length, T}
use Rattle.std.proofs.Math.Option.{none, some}
use Rattle.types.specs.declared.Area.{Area}
use Rattle.types.specs.declared.State.{State}
use Rattle.types.specs.State.{area_at, IsOpen}
use Rattle.disc.specs.Numbers.{slice_count}
use Rattle.disc.specs.Words.{word, Words, Holds}
use Rattle.disc.specs.Slices.{InRangeOnce, occurrences, first_of}
use Rattle.disc.specs.Stretches.{slices_at}
use Rattle.disc.specs.Kit.{Kit, Limits, sys_index_sector, map_index_sector, kit_sector}
use Rattle.disc.specs.Map.{map_bit, ones_in_map}
use Rattle.disc.specs.Entries.{name_at, sys_entry, map_entry}
use Rattle.disc.specs.Catalog.{Catalog, sys_catalog, is_one_of, is_reserved, places_of, places_in, slices_needed}
use Rattle.sound.specs.Places.{Used, Entered, LegalPlace, IndexBlock, slices_from, Booked, LegalFile}
use Rattle.sound.specs.State.{Shaped, open_area, live_index, live_length, area_name, LegalUsers, DistinctAreas}

-- The live index sector, length and slices of the file in place t of an array of places.
abbrev pub index_of : State → (ℕ → ℕ → ℕ) → ℕ → ℕ
index_of state P t = live_index (open_area state (name_at P t)) (P t 8)

abbrev pub length_of : State → (ℕ → ℕ → ℕ) → ℕ → ℕ
length_of state P t = live_length (open_area state (name_at P t)) (P t 7)

abbrev pub slices_of : List ℕ → State → ℕ → ℕ → (ℕ → ℕ → ℕ) → ℕ → List ℕ
slices_of image state F s P t = slices_from image F s (index_of state P t)

-- The slices that a name holds; none where no name stands, and none for the reserved names, SYS and MAP, whose slices no place holds.
abbrev pub held_by : List ℕ → ℕ → List ℕ → List ℕ
held_by reserved zero slices = []
held_by reserved (suc n) slices = cond (is_one_of reserved (suc n)) [] slices

-- The slices that the file in place t of a catalog holds, and those of the files in its first n places.
abbrev pub held_at : List ℕ → State → ℕ → ℕ → Catalog → ℕ → List ℕ
held_at image state F s c t = held_by c.reserved (name_at (places_in image F s c) t) (slices_of image state F s (places_in image F s c) t)

abbrev pub slices_below : List ℕ → State → ℕ → ℕ → Catalog → ℕ → List ℕ
slices_below image state F s c zero = []
slices_below image state F s c (suc t) = slices_below image state F s c t ++ held_at image state F s c t

-- The ordinary file in place t, closed or open.
pub record SoundFile (image : List ℕ) (state : State) (F s : ℕ) (P : ℕ → ℕ → ℕ) (t : ℕ) : Type 0 where
  pub legal : LegalFile image F s (P t 6) (length_of state P t) (index_of state P t)
  -- "9 reserved = s times slices"
  pub closed : open_area state (name_at P t) ≡ none → P t 9 ≡ s * length (slices_of image state F s P t)
  pub booked : (a : Area) → open_area state (name_at P t) ≡ some a
      → Booked s (P t 7) (P t 8) (P t 9) (length_of state P t) (index_of state P t) (length (slices_of image state F s P t))

-- The open area processes: "names are distinct and entered, no SYS or MAP", in the catalog.
pub record SoundAreas (image : List ℕ) (state : State) (H s F : ℕ) (c : Catalog) : Type 0 where
  pub distinct : DistinctAreas state
  pub entered : (j : ℕ) → j < 8 → IsOpen state j
      → (t : ℕ) × (t < places_of H c) × Used (places_in image F s c) t × (name_at (places_in image F s c) t ≡ area_name (area_at state j))
  pub ordinary : (j : ℕ) → j < 8 → IsOpen state j → T (is_reserved c (area_name (area_at state j))) → ⊥
  pub users : (j : ℕ) → j < 8 → IsOpen state j → LegalUsers (area_at state j)

-- The ordinary files of a catalog: "Every other file has legal attributes, length at most 32,767, at least need(length) slices, an
-- index as above"; "Where an area process is open, index sector and length are the process's".
abbrev pub SoundFiles : List ℕ → State → ℕ → ℕ → ℕ → Catalog → Type 0
SoundFiles image state H s F c =
    (t : ℕ) → t < places_of H c → Used (places_in image F s c) t → (T (is_reserved c (name_at (places_in image F s c) t)) → ⊥)
    → SoundFile image state F s (places_in image F s c) t

-- The entries of a catalog: "Every used entry has a legal name .., alone of that name, in a sector of its key" (no longer "in
-- capitals": document 02, R-8). "Every other file has .."
pub record SoundEntries (image : List ℕ) (state : State) (H s F : ℕ) (c : Catalog) : Type 0 where
  pub legal : (t : ℕ) → t < places_of H c → Used (places_in image F s c) t → LegalPlace (places_in image F s c) H t
  pub alone : (t u : ℕ) → t < places_of H c → u < places_of H c → Used (places_in image F s c) t → Used (places_in image F s c) u
      → name_at (places_in image F s c) t ≡ name_at (places_in image F s c) u → t ≡ u
  pub files : SoundFiles image state H s F c

-- A catalog, whichever it is: its slices as its index block describes them, and its entries.
pub record SoundCatalog (image : List ℕ) (state : State) (H s F : ℕ) (c : Catalog) : Type 0 where
  -- "L >= 1 layers"
  pub layered : 1 ≤ c.layers
  -- "laid out as above": an index block, which describes the slices
  pub described : c.slices ≡ slices_at image F s c.index
  pub index : IndexBlock image F s c.index
  -- "H times L / s slices, rounded up"
  pub count : length c.slices ≡ slices_needed H s c c.layers
  -- "Every used entry has .. Every other file has .. Where an area process is open .."
  pub entries : SoundEntries image state H s F c

-- The map, beside the slices that all files have: "a slice is marked used exactly when a file has it", "bits past M are 0".
pub record SoundMap (image : List ℕ) (m : ℕ) (slices : List ℕ) : Type 0 where
  pub marked : (k : ℕ) → 1 ≤ k → k ≤ m → (map_bit image k ≡ 0) ↔ (1 ≤ occurrences k slices)
  pub past : (k : ℕ) → m < k → k ≤ 4096 → map_bit image k ≡ 0

-- All slices that files have, those of the catalog first.
abbrev pub all_slices : List ℕ → State → ℕ → ℕ → ℕ → Catalog → List ℕ
all_slices image state H s F c = c.slices ++ slices_below image state F s c (places_of H c)

-- The rules, for the kit's H, s, F and N and the catalog SYS.
pub record SoundWith (image : List ℕ) (state : State) (H s F N : ℕ) (c : Catalog) : Type 0 where
  -- image and state are what they are declared to be: 16-bit words, eight descriptors with three user entries each
  pub words : Words image
  pub shaped : Shaped state
  -- "The image has 256 times N words, laid out as above; the kit is within limits; free sectors equals s times the ones in
  -- the map"
  pub size : length image ≡ 256 * N
  pub kit : Kit image H s N (s * ones_in_map image) F
  pub limits : Limits H s F N
  -- "SYS and MAP are entered with attributes 8010h, zero optional and tail, index 6 and 7"; "SYS has length H times L"
  pub sys_entered : Entered (places_in image F s c) (places_of H c) (sys_entry H s c.layers c.slices)
  pub map_entered : Entered (places_in image F s c) (places_of H c) map_entry
  -- "MAP has length and reserved 1 and the index 1, 1, 9."
  pub map_index : Holds image map_index_sector (1 ∷ 1 ∷ 9 ∷ [])
  -- "SYS has .. H times L / s slices, rounded up, slice 1 first. Every used entry has .."
  pub catalog : SoundCatalog image state H s F c
  pub sys_first : first_of c.slices ≡ 1
  -- "No slice is in two files or twice in one", and each is one of the unit's
  pub once : InRangeOnce (slice_count s F N) (all_slices image state H s F c)
  -- "a slice is marked used exactly when a file has it"; "Bits past M are 0."
  pub map : SoundMap image (slice_count s F N) (all_slices image state H s F c)
  -- "The state's area names are distinct and entered, no SYS or MAP, users .."
  pub areas : SoundAreas image state H s F c

-- A sound unit: the rules with H, s, F and N as they stand in the kit, and SYS's slices as its index block in sector 6
-- describes them; L is read from SYS's entry.
pub record SoundUnit (image : List ℕ) (state : State) : Type 0 where
  pub layers : ℕ
  pub rules : SoundWith image state (word image kit_sector 0) (word image kit_sector 1) (word image kit_sector 4) (word image kit_sector 2)
      (sys_catalog layers (slices_at image (word image kit_sector 4) (word image kit_sector 1) sys_index_sector))
