-- A good plain unit on an image, from `Represents` and back.
use mathlib.Core.Path.{◌≡◌}
use mathlib.Core.List.{List}
use Prim.Native.Nat.{ℕ}
use Rattle.types.specs.declared.State.{State}
use Rattle.plain.specs.Unit.{Plain}
use Rattle.plain.specs.Good.{Good}
use Rattle.refine.specs.Represents.{Represents, SameAreas}
use Rattle.refine.specs.OnDisc.{OnDisc}
use Rattle.refine.specs.Leaves.{StandFor}

pub on_disc : {image : List ℕ} {state : State} {p : Plain} → Good p → Represents image state p → OnDisc image p
on_disc g r = record { good = g; words = r.words; layout = r.layout }

pub represents : {image : List ℕ} {state : State} {p : Plain} → OnDisc image p → SameAreas state p → Represents image state p
represents o a = record { words = o.words; layout = o.layout; areas = a }

pub stand_for_lem : {image : List ℕ} {state : State} {p : Plain} → OnDisc image p → SameAreas state p → StandFor image state p
stand_for_lem o a = record { good = o.good; represents = represents o a }

-- image and state as they were
pub still : {image after : List ℕ} {state next : State} {p q : Plain} → Good p → Represents image state p → q ≡ p → after ≡ image → next ≡ state → StandFor after next q
still g r u i s = rw (u, i, s) (record { good = g; represents = r })
