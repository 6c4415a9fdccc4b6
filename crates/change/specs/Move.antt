-- "A rename empties the entry's place, then takes one by the new key."
use Rattle.std.specs.Prelude.{◌≡◌, List, ℕ, ◌*◌, ◌<◌, length}
use Rattle.catalog.specs.declared.Place.{Place}
use Rattle.catalog.specs.declared.Unit.{Unit}
use Rattle.plain.specs.Unit.{Plain, sys_of}
use Rattle.plain.specs.Taking.{places_taken}
use Rattle.refine.specs.Writes.{store_place, empty_place}
use Rattle.lookup.specs.Unit.{NumbersOf, CatalogOn}
use Rattle.lookup.specs.Find.{PlaceIs, FirstUnused}

-- With place t empty the image has the catalog of unit p, whose names of key k leave a place.
pub record CanMoveFrom (image : List ℕ) (o : Unit) (place : Place) (k : ℕ) (p : Plain) (t : ℕ) : Type 0 where
  pub numbers : NumbersOf o p
  pub is : PlaceIs p (sys_of p) t place
  pub emptied : CatalogOn (empty_place p (sys_of p) image t) p
  pub low : k < p.H
  pub fits : places_taken p.H k (sys_of p) p.files < 16 * p.layers

pub record CanMove (image : List ℕ) (o : Unit) (place : Place) (k : ℕ) (words : List ℕ) : Type 0 where
  pub unit : Plain
  pub number : ℕ
  pub can : CanMoveFrom image o place k unit number
  pub size : length words ≡ 16

-- The words stand in the first place u that is unused then.
pub record MovedFrom (image : List ℕ) (p : Plain) (t k : ℕ) (words after : List ℕ) : Type 0 where
  pub u : ℕ
  pub first : FirstUnused (empty_place p (sys_of p) image t) p (sys_of p) k u
  pub written : after ≡ store_place p (sys_of p) (empty_place p (sys_of p) image t) u words

pub record Moved (image : List ℕ) (o : Unit) (place : Place) (k : ℕ) (words after : List ℕ) : Type 0 where
  pub all : (p : Plain) (t : ℕ) → CanMoveFrom image o place k p t → MovedFrom image p t k words after
