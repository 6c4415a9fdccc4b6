-- What joins the rules of a sound unit with the plain unit.
use Rattle.std.specs.Prelude.{◌≡◌, List, ℕ}
use Rattle.types.specs.declared.State.{State}
use Rattle.plain.specs.Unit.{Plain}
use Rattle.plain.specs.Good.{Good}
use Rattle.sound.specs.Sound.{SoundUnit}
use Rattle.refine.specs.Represents.{Represents}

-- A unit is sound if and only if some good plain unit is represented, and that one is unique.
pub record SoundRepresents : Type 0 where
  pub reads : (image : List ℕ) (state : State) → SoundUnit image state → (p : Plain) × Good p × Represents image state p
  pub sound : (image : List ℕ) (state : State) (p : Plain) → Good p → Represents image state p → SoundUnit image state
  pub unique : (image : List ℕ) (state : State) (p q : Plain) → Good p → Good q → Represents image state p
      → Represents image state q → q ≡ p
