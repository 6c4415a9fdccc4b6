-- Look-up on the image and on the plain unit.
use Rattle.std.specs.Prelude.{◌≡◌, List, ℕ}
use Rattle.types.specs.declared.Name.{Name}
use Rattle.disc.specs.Names.{unit_in}
use Rattle.catalog.specs.declared.Unit.{Unit}
use Rattle.plain.specs.Unit.{Plain}
use Rattle.plain.specs.Questions.{replies}
use Rattle.plain.specs.Catalog.{step_look_up}
use Rattle.refine.specs.OnDisc.{OnDisc}
use Rattle.lookup.specs.Unit.{NumbersOf}

-- Result word and lent words after are the plain unit's, of every unit on the image that has the number in the name: "Look-up gives
-- the booked entry", and the unit stays.
pub record LooksUp (image : List ℕ) (o : Unit) (name : Name) (lent : List ℕ) (result : ℕ) (after : List ℕ) : Type 0 where
  pub all : (p : Plain) → OnDisc image p → NumbersOf o p → p.unit ≡ unit_in name → step_look_up p name lent ≡ replies p result after
