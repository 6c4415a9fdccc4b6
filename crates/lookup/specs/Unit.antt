-- A unit as a message finds it: its numbers, and what a search of its catalog reads of the image.
use Rattle.std.specs.Prelude.{◌≡◌, List, ℕ, ◌*◌, T, length}
use Rattle.types.specs.declared.State.{State}
use Rattle.disc.specs.Catalog.{Catalog, places_in}
use Rattle.catalog.specs.declared.Unit.{Unit}
use Rattle.catalog.specs.Value.{CatalogIs}
use Rattle.plain.specs.Unit.{Plain, sys_of, M, entry}
use Rattle.plain.specs.Good.{Good}
use Rattle.plain.specs.Questions.{known}
use Rattle.refine.specs.Represents.{CatalogOnImage, Represents}
use Rattle.refine.specs.OnDisc.{OnDisc}

-- "It holds .. H, s, F, N, L": the unit's numbers, with M for N; H and L are those of a catalog of it.
pub record NumbersWith (o : Unit) (p : Plain) (c : Catalog) : Type 0 where
  pub slice : o.slice ≡ p.s
  pub first : o.first.0 ≡ p.F
  pub slices : o.slices ≡ M p
  pub catalog : CatalogIs o.catalog p.H c

-- The same, with its catalog SYS.
abbrev pub NumbersOf : Unit → Plain → Type 0
NumbersOf o p = NumbersWith o p (sys_of p)

-- What every message starts from: a good unit on the image, and its numbers.
pub record UnitOn (image : List ℕ) (o : Unit) : Type 0 where
  pub unit : Plain
  pub on : OnDisc image unit
  pub numbers : NumbersOf o unit

-- The same with the state: what every message that asks about open areas starts from.
pub record Represented (image : List ℕ) (state : State) (o : Unit) : Type 0 where
  pub unit : Plain
  pub good : Good unit
  pub represents : Represents image state unit
  pub numbers : NumbersOf o unit

-- "1. Unit known (the state's, 0 to 3)": what a message to the unit `number` starts from, once that question is answered yes. The unit
-- is one of those that a promise speaks of: it is on the image, the numbers are its own, and its number is the message's.
pub record MeantOn (image : List ℕ) (o : Unit) (number : ℕ) : Type 0 where
  pub standing : UnitOn image o
  pub meant : T (known standing.unit number)

-- The same with the state.
pub record Meant (image : List ℕ) (state : State) (o : Unit) (number : ℕ) : Type 0 where
  pub standing : Represented image state o
  pub meant : T (known standing.unit number)

-- The places of a unit's SYS.
abbrev pub unit_places : List ℕ → Plain → ℕ → ℕ → ℕ
unit_places image p = places_in image p.F p.s (sys_of p)

-- The part of a unit that a search reads: SYS's index block, and the entries. It also stands half way through a message, where
-- map, free word and files are not yet those of the unit.
pub record CatalogOn (image : List ℕ) (p : Plain) : Type 0 where
  pub good : Good p
  pub size : length image ≡ 256 * p.N
  pub sys : CatalogOnImage image p.H p.s p.F (sys_of p) (entry p)

-- What every search starts from.
pub record Searchable (image : List ℕ) (o : Unit) : Type 0 where
  pub unit : Plain
  pub on : CatalogOn image unit
  pub numbers : NumbersOf o unit
