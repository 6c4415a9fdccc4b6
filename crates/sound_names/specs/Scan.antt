-- The scan of SYS's places for names that are not legal, and for one that stands twice.
use Rattle.std.specs.Prelude.{◌≡◌, Bool, true, false, List, ℕ, ◌+◌, ◌*◌, ◌/◌, ◌%◌, ◌<◌, length}
use Rattle.disc.specs.Names.{key_of}
use Rattle.disc.specs.Stretches.{sector_in}
use Rattle.disc.specs.Entries.{place_count, name_at}
use Rattle.sound.specs.Places.{Used, LegalPlace}
use Rattle.kit.specs.declared.Geometry.{Geometry}
use Rattle.catalog.specs.declared.Catalog.{Catalog}
use Rattle.sound_entries.specs.Sys.{sys_slices, places_in, SysIn}
use Rattle.sound_entries.specs.Legal.{PlacesLegal}
use Rattle.sound_entries.specs.Names.{NamesAlone}
use Rattle.sound_names.specs.Filter.{Has}

-- What is known of SYS after the scan: the used places have legal names, in sectors of their keys.
pub record LegalSys (image : List ℕ) (g : Geometry) (c : Catalog) : Type 0 where
  pub catalog : SysIn image g c
  pub legal : (t : ℕ) → t < place_count g.keys c.layers → Used (places_in image g) t → LegalPlace (places_in image g) g.keys t

-- Place i of block b, which is sector q and one of the L layers, has the name n and is in a sector of its key: "key k lives in sectors k,
-- k + H, k + 2H and so on".
pub record Standing (image : List ℕ) (g : Geometry) (L n q b i : ℕ) : Type 0 where
  pub sector : q ≡ sector_in g.first.0 g.slice (sys_slices image g) b
  pub inside : b < g.keys * L
  pub place : i < 16
  pub key : b % g.keys ≡ key_of g.keys n
  pub named : name_at (places_in image g) (16 * b + i) ≡ n

-- No place before place t has the name n and is in a sector of its key.
pub record NoneBefore (P : ℕ → ℕ → ℕ) (H n t : ℕ) : Type 0 where
  pub none : (u : ℕ) → u < t → u / 16 % H ≡ key_of H n → name_at P u ≡ n → ⊥

-- The places before place t are legal, the names in them are alone among themselves, and all in the filter.
pub record Passed (P : ℕ → ℕ → ℕ) (H : ℕ) (sys : List ℕ) (filter : List ℕ) (t : ℕ) : Type 0 where
  pub legal : PlacesLegal P H sys t
  pub alone : NamesAlone P t
  pub size : length filter ≡ 4096
  pub has : (u : ℕ) → u < t → Used P u → Has filter (name_at P u)

-- The answer is true exactly if the places before place t are legal and the names in them alone; then the filter has them.
pub record Scanned (answer : Bool) (P : ℕ → ℕ → ℕ) (H : ℕ) (sys : List ℕ) (filter : List ℕ) (t : ℕ) : Type 0 where
  pub yes : answer ≡ true → Passed P H sys filter t
  pub not : answer ≡ false → PlacesLegal P H sys t → NamesAlone P t → ⊥
