-- Values of the declared types: vacant entries and the state of a unit that was not initialized yet; which descriptors are open, and
-- which unit is known.
use Rattle.std.specs.Prelude.{◌≡◌, Bool, true, false, [], ℕ, ◌≤◌, ◌<◌, get_or, replicate}
use Rattle.types.specs.declared.Role.TheVariants.{Sharing}
use Rattle.types.specs.declared.User.{User}
use Rattle.types.specs.declared.Area.{Area}
use Rattle.types.specs.declared.State.{State}

-- A vacant user entry is all zero, its role sharing.
abbrev pub vacant_user : User
vacant_user = record { id = 0; role = Sharing; opens = 0; position = record { 0 = 0 } }

-- A vacant area descriptor is all zero.
abbrev pub vacant_area : Area
vacant_area = record {
  live = false;
  name = record { 0 = 0; 1 = 0; 2 = 0 };
  index = record { 0 = 0 };
  length = 0;
  users = replicate 3 vacant_user;
}

-- "Eight area processes, three users on each", none open, the unit not initialized.
abbrev pub fresh_state : ℕ → State
fresh_state unit = record { unit = unit; initialized = false; areas = replicate 8 vacant_area }

-- What the language reads past the end of the descriptors: a vacant one without user entries.
abbrev pub past_area : Area
past_area = record { live = false; name = record { 0 = 0; 1 = 0; 2 = 0 }; index = record { 0 = 0 }; length = 0; users = [] }

-- Area descriptor j of the state, and user entry u of a descriptor.
abbrev pub area_at : State → ℕ → Area
area_at state j = get_or state.areas j past_area

abbrev pub user_at : Area → ℕ → User
user_at area u = get_or area.users u vacant_user

-- An area process is open in a descriptor; in descriptor j of the state.
abbrev pub is_open : Area → Bool
is_open area = area.live

abbrev pub IsOpen : State → ℕ → Type 0
IsOpen state j = is_open (area_at state j) ≡ true

-- "No area process".
abbrev pub NoneOpen : State → Type 0
NoneOpen state = (j : ℕ) → j < 8 → IsOpen state j → ⊥

-- "Unit known (the state's, 0 to 3)".
pub record UnitKnown (state : State) (unit : ℕ) : Type 0 where
  pub number : unit ≡ state.unit
  pub low : state.unit ≤ 3
