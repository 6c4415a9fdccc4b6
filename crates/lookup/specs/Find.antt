-- What a search of a catalog finds, said of the plain unit.
use Rattle.std.specs.Prelude.{◌≡◌, List, ℕ, ◌*◌, ◌/◌, ◌%◌, ◌≤◌, ◌<◌, get_or, Option, Some, None}
use Rattle.std.proofs.Math.Option.{none, some}
use Rattle.disc.specs.Entries.{name_at}
use Rattle.disc.specs.Catalog.{Catalog, places_of, places_in, place_sector}
use Rattle.catalog.specs.declared.Place.{Place}
use Rattle.catalog.specs.Catalog.{entry_word, name_word, area_name_word}
use Rattle.plain.specs.Table.{Table, is_some}
use Rattle.plain.specs.Unit.{Plain, File, sys_of, entry}
use Rattle.plain.specs.Questions.{asks, replies, done}
use Rattle.plain.specs.Taking.{places_taken}
use Rattle.sound.specs.Places.{Unused}
use Rattle.catalog.specs.declared.Unit.{Unit}
use Rattle.lookup.specs.Unit.{NumbersOf, CatalogOn, unit_places}

-- A place of the code is place t of a catalog of the unit.
pub record PlaceIs (p : Plain) (c : Catalog) (t : ℕ) (place : Place) : Type 0 where
  pub inside : t < places_of p.H c
  pub sector : place.sector.0 ≡ place_sector p.F p.s c t
  pub slot : place.slot ≡ t % 16

-- The name n is entered, and its entry stands in the place.
pub record NameAt (image : List ℕ) (p : Plain) (n : ℕ) (place : Place) : Type 0 where
  pub number : ℕ
  pub is : PlaceIs p (sys_of p) number place
  pub named : name_at (unit_places image p) number ≡ n
  pub words : List ℕ
  pub entered : entry p n ≡ some words
  pub holds : (w : ℕ) → w < 16 → entry_word image place w ≡ get_or words w 0

-- The word of the plain unit's question whether name n is entered; `refusal` is that of the answer no.
abbrev pub entered_word : Plain → ℕ → ℕ → List ℕ → ℕ
entered_word p n refusal lent = (asks (is_some (entry p n)) (replies p refusal lent) (done p lent)).answer.result

-- The place of the name's entry, or that there is none; and the words of question 3, and of area create's question, for each of the
-- answer's cases are the plain unit's.
pub record NameFound (image : List ℕ) (p : Plain) (n : ℕ) (r : Option Place) : Type 0 where
  pub at : (place : Place) → r ≡ Some place → NameAt image p n place
  pub nothing : r ≡ None → entry p n ≡ none
  pub word : (lent : List ℕ) → name_word r ≡ entered_word p n 0x5000 lent
  pub area_word : (lent : List ℕ) → area_name_word r ≡ entered_word p n 0x4800 lent

-- The same of every unit whose catalog is on the image.
pub record FindsName (image : List ℕ) (o : Unit) (n : ℕ) (r : Option Place) : Type 0 where
  pub all : (p : Plain) → CatalogOn image p → NumbersOf o p → NameFound image p n r

-- "An entry takes the first unused place": place u of the catalog, of those of key k.
pub record FirstUnused (image : List ℕ) (p : Plain) (c : Catalog) (k u : ℕ) : Type 0 where
  pub inside : u < places_of p.H c
  pub key : u / 16 % p.H ≡ k
  pub unused : Unused (places_in image p.F p.s c) u
  pub earlier : (t : ℕ) → t < u → t / 16 % p.H ≡ k → Unused (places_in image p.F p.s c) t → ⊥

-- The place of the code is the first unused one of key k: the names of the key, those of the files given and the reserved ones, take
-- fewer places than it has.
pub record UnusedAt (image : List ℕ) (p : Plain) (c : Catalog) (files : Table File) (k : ℕ) (place : Place) : Type 0 where
  pub number : ℕ
  pub is : PlaceIs p c number place
  pub first : FirstUnused image p c k number
  pub room : places_taken p.H k c files < 16 * c.layers

-- "An entry takes the first unused place"; "with all 16 times L places taken by other names, SYS first grows".
pub record UnusedFound (image : List ℕ) (p : Plain) (c : Catalog) (files : Table File) (k : ℕ) (r : Option Place) : Type 0 where
  pub at : (place : Place) → r ≡ Some place → UnusedAt image p c files k place
  pub nothing : r ≡ None → 16 * c.layers ≤ places_taken p.H k c files

pub record FindsUnused (image : List ℕ) (o : Unit) (k : ℕ) (r : Option Place) : Type 0 where
  pub all : (p : Plain) → CatalogOn image p → NumbersOf o p → UnusedFound image p (sys_of p) p.files k r
