-- The names of open area processes among the places of SYS: "The state's area names are .. entered, no SYS or MAP".
use Rattle.std.specs.Prelude.{◌≡◌, ℕ, ◌<◌, T}
use Rattle.types.specs.declared.State.{State}
use Rattle.types.specs.State.{area_at, IsOpen}
use Rattle.disc.specs.Names.{is_system}
use Rattle.disc.specs.Entries.{name_at}
use Rattle.sound.specs.Places.{Used}
use Rattle.sound.specs.State.{area_name}

-- The name n is entered in one of the first `count` places, and is not SYS or MAP.
pub record OrdinaryEntered (P : ℕ → ℕ → ℕ) (count n : ℕ) : Type 0 where
  pub entered : (t : ℕ) × (t < count) × Used P t × (name_at P t ≡ n)
  pub ordinary : T (is_system n) → ⊥

pub record AreasEntered (state : State) (P : ℕ → ℕ → ℕ) (count : ℕ) : Type 0 where
  pub each : (j : ℕ) → j < 8 → IsOpen state j → OrdinaryEntered P count (area_name (area_at state j))
