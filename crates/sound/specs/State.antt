-- The open area processes of a state, by name.
use Rattle.std.specs.Prelude.{◌≡◌, ◌&&◌, cond, List, [], ◌∷◌, ℕ, ◌≤◌, ◌<◌, length, eqb}
use Rattle.std.proofs.Math.Option.{Option, none, some}
use Rattle.types.specs.declared.Role.TheVariants.{ExclusiveWriter, ExclusiveUser}
use Rattle.types.specs.declared.Area.{Area}
use Rattle.types.specs.declared.State.{State}
use Rattle.types.specs.State.{area_at, user_at, is_open, IsOpen}
use Rattle.disc.specs.Names.{packed}

-- "Eight area processes, three users on each".
pub record Shaped (state : State) : Type 0 where
  pub eight : length state.areas ≡ 8
  pub three : (j : ℕ) → j < 8 → length (area_at state j).users ≡ 3

-- The three words of a descriptor's name as one number, as they stand.
abbrev pub area_name : Area → ℕ
area_name a = packed a.name

-- The first open descriptor of a name.
abbrev pub first_open : ℕ → List Area → Option Area
first_open n [] = none
first_open n (a ∷ l) = cond (is_open a && eqb (area_name a) n) (some a) (first_open n l)

abbrev pub open_area : State → ℕ → Option Area
open_area state n = first_open n state.areas

-- "Where an area process is open, index sector and length are the process's", else the entry's.
abbrev pub live_index : Option Area → ℕ → ℕ
live_index none booked = booked
live_index (some a) booked = a.index.0

abbrev pub live_length : Option Area → ℕ → ℕ
live_length none booked = booked
live_length (some a) booked = a.length

-- User entry u of a descriptor is taken.
abbrev pub IsTaken : Area → ℕ → Type 0
IsTaken a u = (user_at a u).id ≡ 0 → ⊥

-- "Users distinct and not 0, open counts 1 to 65,535, positions 0 to the live length; an exclusive user is the only
-- user, and at most one is exclusive writer." An entry with identification 0 is vacant and has no rule.
pub record LegalUsers (a : Area) : Type 0 where
  pub distinct : (u v : ℕ) → u < 3 → v < 3 → IsTaken a u → (user_at a u).id ≡ (user_at a v).id → u ≡ v
  pub opens_low : (u : ℕ) → u < 3 → IsTaken a u → 1 ≤ (user_at a u).opens
  pub opens_high : (u : ℕ) → u < 3 → IsTaken a u → (user_at a u).opens ≤ 65535
  pub inside : (u : ℕ) → u < 3 → IsTaken a u → (user_at a u).position.0 ≤ a.length
  pub alone : (u v : ℕ) → u < 3 → v < 3 → IsTaken a u → IsTaken a v → (user_at a u).role ≡ ExclusiveUser → u ≡ v
  pub one_writer : (u v : ℕ) → u < 3 → v < 3 → IsTaken a u → IsTaken a v → (user_at a u).role ≡ ExclusiveWriter
      → (user_at a v).role ≡ ExclusiveWriter → u ≡ v

-- "The state's area names are distinct".
abbrev pub DistinctAreas : State → Type 0
DistinctAreas state =
    (j k : ℕ) → j < 8 → k < 8 → IsOpen state j → IsOpen state k → area_name (area_at state j) ≡ area_name (area_at state k) → j ≡ k
