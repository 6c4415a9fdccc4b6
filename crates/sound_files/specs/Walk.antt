-- The places of SYS as they are judged one after the other: the rules of each, and the slices that they hold.
use Rattle.std.specs.Prelude.{◌≡◌, Bool, true, false, List, [], ◌∷◌, ◌++◌, ℕ, zero, suc, ◌+◌, ◌*◌, ◌≤◌, ◌<◌, length, T, Option, None}
use Rattle.types.specs.declared.State.{State}
use Rattle.disc.specs.Names.{legal_name, is_system, SYS, MAP}
use Rattle.disc.specs.Kit.{sys_index_sector}
use Rattle.disc.specs.Entries.{name_at, name_by}
use Rattle.disc.specs.Catalog.{places_of}
use Rattle.sound.specs.Places.{Used, IndexBlock}
use Rattle.sound.specs.Sound.{held_by, slices_below, SoundFiles}
use Rattle.sound.specs.Parts.{Marking}
use Rattle.catalog.specs.declared.Catalog.{Catalog}
use Rattle.catalog.specs.Catalog.{sys_value}
use Rattle.kit.specs.declared.Geometry.{Geometry}
use Rattle.kit.specs.Geometry.{UnitOf}
use Rattle.marks.specs.Marked.{Marked}
use Rattle.sound_entries.specs.Sys.{sys_slices, places_in, sys_with}
use Rattle.sound_files.specs.declared.files.Live.{Live}
use Rattle.sound_files.specs.declared.files.OpenFiles.{OpenFiles}
use Rattle.sound_files.specs.Live.{Unopened}
use Rattle.sound_files.specs.Rules.{entry_of, words_at, file_slices, FileRules}

-- The slices that the place with these words holds; the area processes are known by name.
unfoldable pub place_slices : List ℕ → Geometry → (ℕ → Option Live) → (ℕ → ℕ) → List ℕ
place_slices image g lives w = held_by (SYS ∷ MAP ∷ []) (name_by w) (file_slices image g.first.0 g.slice (entry_of w) (lives (name_by w)))

-- "Every other file has legal attributes, ..": neither an unused place nor SYS or MAP has more rules.
pub record PlaceRules (image : List ℕ) (g : Geometry) (lives : ℕ → Option Live) (w : ℕ → ℕ) : Type 0 where
  pub file : (name_by w ≡ 0 → ⊥) → (T (is_system (name_by w)) → ⊥) → FileRules image g.first.0 g.slice (entry_of w) (lives (name_by w))

-- The first n of a sequence of lists, joined.
unfoldable pub joined : (ℕ → List ℕ) → ℕ → List ℕ
joined f zero = []
joined f (suc n) = joined f n ++ f n

-- One place is judged and its slices marked, and the first n places of a sequence.
pub record PlaceMarking (image : List ℕ) (g : Geometry) (lives : ℕ → Option Live) (w : ℕ → ℕ) (before after : List ℕ) (answer : Bool)
    : Type 0 where
  pub marking : (held : List ℕ) → Marked g.slices before held
      → Marking answer (PlaceRules image g lives w) g.slices after held (place_slices image g lives w)

pub record PlacesMarking (image : List ℕ) (g : Geometry) (lives : ℕ → Option Live) (P : ℕ → ℕ → ℕ) (n : ℕ) (before after : List ℕ) (answer : Bool)
    : Type 0 where
  pub marking : (held : List ℕ) → Marked g.slices before held
      → Marking answer ((t : ℕ) → t < n → PlaceRules image g lives (P t)) g.slices after held
      (joined (λ t. place_slices image g lives (P t)) n)

-- The places that stand one after the other from an index of the image on: "Entry, 16 words".
abbrev pub places_from : List ℕ → ℕ → ℕ → ℕ → ℕ
places_from image at i = words_at image (at + 16 * i)

-- What is known of SYS by then: its index block is legal, its slices are marked, and its slices have room for the blocks.
pub record SysKnown (image : List ℕ) (g : Geometry) (marks : List ℕ) (blocks : ℕ) : Type 0 where
  pub unit : UnitOf image g
  pub index : IndexBlock image g.first.0 g.slice sys_index_sector
  pub marked : Marked g.slices marks (sys_slices image g)
  pub room : blocks ≤ g.slice * length (sys_slices image g)

-- The same of all layers of the code's catalog, which is SYS.
pub record SysMarked (image : List ℕ) (g : Geometry) (marks : List ℕ) (c : Catalog) : Type 0 where
  pub known : SysKnown image g marks (g.keys * c.layers)
  pub is : c ≡ sys_value g.keys c.layers

-- "Every used entry has a legal name"; "SYS and MAP are entered with .. index 6 and 7", before the data sectors.
pub record NamesKnown (image : List ℕ) (g : Geometry) (count : ℕ) : Type 0 where
  pub legal : (t : ℕ) → t < count → Used (places_in image g) t → T (legal_name (name_at (places_in image g) t))
  pub system : (t : ℕ) → t < count → is_system (name_at (places_in image g) t) ≡ true → places_in image g t 8 < 10

-- A place whose index sector is a data sector is that of an ordinary file, and so is each of the first n places of a sequence.
pub record OrdinaryPlace (w : ℕ → ℕ) : Type 0 where
  pub named : 10 ≤ w 8 → name_by w ≡ 0 → ⊥
  pub ordinary : 10 ≤ w 8 → is_system (name_by w) ≡ false

abbrev pub OrdinaryPlaces : (ℕ → ℕ → ℕ) → ℕ → Type 0
OrdinaryPlaces P n = (t : ℕ) → t < n → OrdinaryPlace (P t)

-- The answer true says that the place is legal if no area process of its name is open, and that its slices are marked now; false
-- says only that nothing was changed.
pub record PlainMarking (image : List ℕ) (g : Geometry) (w : ℕ → ℕ) (before after : List ℕ) (answer : Bool) : Type 0 where
  pub yes : answer ≡ true → (lives : ℕ → Option Live) → lives (name_by w) ≡ None → PlaceMarking image g lives w before after true
  pub not : answer ≡ false → after ≡ before

-- So many of the first `count` places of a sequence are legal, if no area process of an unopened name is open, and their slices
-- marked.
pub record PlainPlaces (image : List ℕ) (g : Geometry) (P : ℕ → ℕ → ℕ) (count : ℕ) (files : OpenFiles) (before after : List ℕ)
    (answer : ℕ) : Type 0 where
  pub high : answer ≤ count
  pub marking : (lives : ℕ → Option Live) → ((n : ℕ) → Unopened files n → lives n ≡ None)
      → PlacesMarking image g lives P answer before after true

-- The ordinary files in SYS with so many layers, and the slices that they hold.
abbrev pub SysFiles : List ℕ → State → Geometry → ℕ → Type 0
SysFiles image state g layers = SoundFiles image state g.keys g.slice g.first.0 (sys_with image g layers)

abbrev pub sys_held : List ℕ → State → Geometry → ℕ → List ℕ
sys_held image state g layers =
    slices_below image state g.first.0 g.slice (sys_with image g layers) (places_of g.keys (sys_with image g layers))
