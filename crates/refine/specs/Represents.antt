-- `Represents image state plain`: the words of the image and the state are those of the plain unit.
use Rattle.std.specs.Prelude.{◌≡◌, List, [], ◌∷◌, ◌⊎◌, ℕ, zero, suc, ◌*◌, ◌/◌, ◌%◌, ◌<◌, length, get_or}
use Rattle.std.proofs.Math.Option.{Option, none, some}
use Rattle.types.specs.declared.User.{User}
use Rattle.types.specs.declared.Area.{Area}
use Rattle.types.specs.declared.State.{State}
use Rattle.types.specs.State.{area_at, user_at, IsOpen}
use Rattle.disc.specs.Words.{Words, Holds}
use Rattle.disc.specs.Names.{key_of}
use Rattle.disc.specs.Stretches.{index_words, sector_in, block_sector, file_from}
use Rattle.disc.specs.Kit.{Kit, map_index_sector}
use Rattle.disc.specs.Map.{MapOf}
use Rattle.disc.specs.Entries.{name_at, index_sector}
use Rattle.disc.specs.Catalog.{Catalog, places_of, places_in}
use Rattle.plain.specs.Table.{Table, table_find, table_put, Every}
use Rattle.plain.specs.Unit.{Plain, File, AreaUser, sys_of, M, held, free_sectors, entry}
use Rattle.sound.specs.Places.{Unused}
use Rattle.sound.specs.State.{Shaped, open_area, IsTaken, DistinctAreas}

-- A file on the image: "Each file's index .. gives its slice list in order. Each list of sectors is what its file's
-- blocks below the live length hold."
pub record FileOnImage (image : List ℕ) (F s : ℕ) (f : File) : Type 0 where
  pub index : 0 < length f.slices → Holds image (sector_in F s f.slices 0) (index_words F s f.slices)
  pub blocks : (b : ℕ) → b < length f.sectors → Holds image (block_sector F s f.slices file_from b) (get_or f.sectors b [])

-- Place t holds the entry of the name that stands in it, in a sector of the name's key.
pub record PlaceOf (P : ℕ → ℕ → ℕ) (H : ℕ) (E : ℕ → Option (List ℕ)) (t : ℕ) : Type 0 where
  pub words : List ℕ
  pub entered : E (name_at P t) ≡ some words
  pub holds : (w : ℕ) → w < 16 → P t w ≡ get_or words w 0
  pub key : t / 16 % H ≡ key_of H (name_at P t)

-- "The used entries in the image are the plain unit's booked entries": the places hold the entries E, each once.
pub record CatalogOf (P : ℕ → ℕ → ℕ) (count H : ℕ) (E : ℕ → Option (List ℕ)) : Type 0 where
  pub each : (t : ℕ) → t < count → Unused P t ⊎ PlaceOf P H E t
  pub there : (n : ℕ) (e : List ℕ) → E n ≡ some e → (t : ℕ) × (t < count) × (name_at P t ≡ n)
  pub alone : (t u : ℕ) → t < count → u < count → name_at P t ≡ name_at P u → (name_at P t ≡ 0 → ⊥) → t ≡ u

-- A catalog on the image: its index block describes its slices, and its places hold the entries E.
pub record CatalogOnImage (image : List ℕ) (H s F : ℕ) (c : Catalog) (E : ℕ → Option (List ℕ)) : Type 0 where
  pub index : Holds image c.index (index_words F s c.slices)
  pub places : CatalogOf (places_in image F s c) (places_of H c) H E

-- An image with the lists of p, where three parts are left open: the kit's free word, the slices marked used, and the
-- entries. A message's writes change one part after the other.
pub record Layout (image : List ℕ) (p : Plain) (free : ℕ) (used : List ℕ) (E : ℕ → Option (List ℕ)) : Type 0 where
  pub size : length image ≡ 256 * p.N
  pub kit : Kit image p.H p.s p.N free p.F
  pub map : MapOf image (M p) used
  pub map_index : Holds image map_index_sector (1 ∷ 1 ∷ 9 ∷ [])
  pub files : Every (λ n f. FileOnImage image p.F p.s f) p.files
  pub sys : CatalogOnImage image p.H p.s p.F (sys_of p) E

-- An open area as the state and as the plain unit have it: index sector, live length, users by sender.
pub record LiveArea : Type 0 where
  pub index : ℕ
  pub size : ℕ
  pub users : Table AreaUser

-- The users of a descriptor; an entry with identification 0 is vacant.
abbrev pub with_user : ℕ → User → Table AreaUser → Table AreaUser
with_user zero u t = t
with_user (suc k) u t = table_put (suc k) (record { role = u.role; opens = u.opens; position = u.position.0 }) t

abbrev pub users_in : List User → Table AreaUser
users_in [] = []
users_in (u ∷ l) = with_user u.id u (users_in l)

abbrev pub area_of_state : Option Area → Option LiveArea
area_of_state none = none
area_of_state (some a) = some (record { index = a.index.0; size = a.length; users = users_in a.users })

abbrev pub area_of_unit : ℕ → ℕ → Option (Table AreaUser) → Option File → Option LiveArea
area_of_unit F s none f = none
area_of_unit F s (some users) none = some (record { index = 0; size = 0; users = users })
area_of_unit F s (some users) (some f) =
    some (record { index = index_sector F s (length f.slices) f.slices; size = length f.sectors; users = users })

-- "Open areas, with live lengths, users, roles, open counts and positions, are the same."
pub record SameAreas (state : State) (p : Plain) : Type 0 where
  pub shaped : Shaped state
  pub number : state.unit ≡ p.unit
  pub distinct : DistinctAreas state
  pub distinct_users : (j u v : ℕ) → j < 8 → IsOpen state j → u < 3 → v < 3 → IsTaken (area_at state j) u
      → (user_at (area_at state j) u).id ≡ (user_at (area_at state j) v).id → u ≡ v
  pub each : (n : ℕ) → area_of_state (open_area state n) ≡ area_of_unit p.F p.s (table_find n p.areas) (table_find n p.files)

pub record Represents (image : List ℕ) (state : State) (p : Plain) : Type 0 where
  pub words : Words image
  pub layout : Layout image p (free_sectors p) (held p) (entry p)
  pub areas : SameAreas state p
