-- A legal place, by its words: of a sector, of a run of sectors, of all of SYS.
use Rattle.std.specs.Prelude.{◌≡◌, ℕ, ◌*◌, ◌/◌, ◌%◌, ◌<◌, ◌≤◌, T, List, slice_index}
use Rattle.types.specs.declared.Name.{Name}
use Rattle.disc.specs.Names.{legal_name, key_of, SYS, MAP}
use Rattle.disc.specs.Entries.{name_at, system_entry, map_entry}
use Rattle.sound.specs.Places.{Used}
use Rattle.kit.specs.declared.Geometry.{Geometry}
use Rattle.sound_entries.specs.declared.Expected.{Expected}
use Rattle.sound_entries.specs.Sys.{SysIn}

-- A place alone, whatever its number, by its words: "Entry, 16 words".
abbrev pub place_of : List ℕ → ℕ → ℕ → ℕ
place_of words t w = slice_index words w

-- A name of the code is the one in place t.
pub record NameIn (P : ℕ → ℕ → ℕ) (t : ℕ) (name : Name) : Type 0 where
  pub first : name.0 ≡ P t 0
  pub second : name.1 ≡ P t 1
  pub third : name.2 ≡ P t 2
  pub first_word : name.0 < 65536
  pub second_word : name.1 < 65536
  pub third_word : name.2 < 65536

-- Place t holds the words of an entry.
pub record HoldsEntry (P : ℕ → ℕ → ℕ) (t : ℕ) (entry : List ℕ) : Type 0 where
  pub at : (w : ℕ) → w < 16 → P t w ≡ slice_index entry w

-- SYS's own entry: "SYS has length H times L", its index sector, and its reserved sectors.
unfoldable pub own_entry : Expected → List ℕ
own_entry e = system_entry SYS e.size e.catalog.index.0 e.reserved

-- "SYS and MAP are entered with attributes 8010h, zero optional and tail, index 6 and 7": a place with one of the two names
-- holds its entry.
pub record SystemLegal (P : ℕ → ℕ → ℕ) (sys : List ℕ) (t : ℕ) : Type 0 where
  pub sys_words : name_at P t ≡ SYS → HoldsEntry P t sys
  pub map_words : name_at P t ≡ MAP → HoldsEntry P t map_entry

-- Place t, in a sector of key k: "Every used entry has a legal name .. in a sector of its key".
pub record PlaceLegal (P : ℕ → ℕ → ℕ) (H k : ℕ) (sys : List ℕ) (t : ℕ) : Type 0 where
  pub name : Used P t → T (legal_name (name_at P t))
  pub key : Used P t → k ≡ key_of H (name_at P t)
  pub system : SystemLegal P sys t

-- The first `count` places of SYS.
pub record PlacesLegal (P : ℕ → ℕ → ℕ) (H : ℕ) (sys : List ℕ) (count : ℕ) : Type 0 where
  pub each : (t : ℕ) → t < count → PlaceLegal P H (t / 16 % H) sys t

-- What is known of the first `size` sectors of SYS while they are judged, and of what they are judged by: "SYS has length H times L".
pub record Judging (image : List ℕ) (g : Geometry) (e : Expected) (size : ℕ) : Type 0 where
  pub catalog : SysIn image g e.catalog
  pub whole : e.size ≡ g.keys * e.catalog.layers
  pub room : size ≤ e.size
