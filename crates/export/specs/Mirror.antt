-- The state that a mirror stands for (the numbers of a C program as the values of the declared types), and the mirror that a call leaves.
use Rattle.std.specs.Prelude.{◌≡◌, Bool, true, false, not, cond, [], ◌∷◌, ℕ, ◌<◌, length, get_or, set, eqb, ltb}
use Rattle.types.specs.declared.Role.{Role}
use Rattle.types.specs.declared.Role.TheVariants.{Sharing, ExclusiveWriter, ExclusiveUser}
use Rattle.types.specs.declared.User.{User}
use Rattle.types.specs.declared.Area.{Area}
use Rattle.types.specs.declared.State.{State}
use Rattle.types.specs.State.{area_at, user_at}
use Rattle.sound.specs.State.{Shaped}
use Rattle.area_users.specs.AreaUsers.{at_position}
use Rattle.export.specs.declared.UserState.{UserState}
use Rattle.export.specs.declared.AreaState.{AreaState}
use Rattle.export.specs.declared.UnitState.{UnitState}

-- A word as a yes or no: 0 is no.
abbrev pub is_set : ℕ → Bool
is_set word = not (eqb word 0)

-- The role of a number: 0 sharing, 1 exclusive writer, 2 and any other exclusive user.
abbrev pub role_of : ℕ → Role
role_of number = cond (eqb number 0) Sharing (cond (eqb number 1) ExclusiveWriter ExclusiveUser)

abbrev pub user_of : UserState → User
user_of u = record { id = u.id; role = role_of u.role; opens = u.opens; position = record { 0 = u.position } }

-- User entry u and descriptor j of a mirror; the declared arrays have three and eight, so nothing is read past their ends.
abbrev pub mirror_user : AreaState → ℕ → UserState
mirror_user a u = get_or a.users u (record { id = 0; role = 0; opens = 0; position = 0 })

abbrev pub area_of : AreaState → Area
area_of a = record {
  live = is_set a.live;
  name = record { 0 = get_or a.name 0 0; 1 = get_or a.name 1 0; 2 = get_or a.name 2 0 };
  index = record { 0 = a.index };
  length = a.length;
  users = user_of (mirror_user a 0) ∷ user_of (mirror_user a 1) ∷ user_of (mirror_user a 2) ∷ [];
}

abbrev pub mirror_area : UnitState → ℕ → AreaState
mirror_area m j = get_or m.areas j (record { live = 0; name = []; index = 0; length = 0; users = [] })

abbrev pub state_of : UnitState → State
state_of m = record {
  unit = m.unit;
  initialized = is_set m.initialized;
  areas = area_of (mirror_area m 0) ∷ area_of (mirror_area m 1) ∷ area_of (mirror_area m 2) ∷ area_of (mirror_area m 3)
      ∷ area_of (mirror_area m 4) ∷ area_of (mirror_area m 5) ∷ area_of (mirror_area m 6) ∷ area_of (mirror_area m 7) ∷ [];
}

-- ---- the mirror that is left: a word that stands for the new value stays, any other becomes the lowest that stands for it

-- Any word but 0 stands for yes.
abbrev pub set_word : ℕ → Bool → ℕ
set_word word true = cond (eqb word 0) 1 word
set_word word false = 0

-- Any number from 2 on stands for an exclusive user.
abbrev pub lowest_number : Role → ℕ
lowest_number Sharing = 0
lowest_number ExclusiveWriter = 1
lowest_number ExclusiveUser = 2

abbrev pub role_number : ℕ → Role → ℕ
role_number number role = cond (ltb (lowest_number role) 2) (lowest_number role) (cond (ltb number 2) 2 number)

-- The mirror that is left of the one before and the new state: its user entries, its descriptors, all of it.
abbrev pub remirrored_user : UserState → User → UserState
remirrored_user before u = record { id = u.id; role = role_number before.role u.role; opens = u.opens; position = u.position.0 }

abbrev pub remirrored_area : AreaState → Area → AreaState
remirrored_area before a = record {
  live = set_word before.live a.live;
  name = a.name.0 ∷ a.name.1 ∷ a.name.2 ∷ [];
  index = a.index.0;
  length = a.length;
  users = remirrored_user (mirror_user before 0) (user_at a 0) ∷ remirrored_user (mirror_user before 1) (user_at a 1)
      ∷ remirrored_user (mirror_user before 2) (user_at a 2) ∷ [];
}

abbrev pub remirrored : UnitState → State → UnitState
remirrored before s = record {
  unit = s.unit;
  initialized = set_word before.initialized s.initialized;
  areas = remirrored_area (mirror_area before 0) (area_at s 0) ∷ remirrored_area (mirror_area before 1) (area_at s 1)
      ∷ remirrored_area (mirror_area before 2) (area_at s 2) ∷ remirrored_area (mirror_area before 3) (area_at s 3)
      ∷ remirrored_area (mirror_area before 4) (area_at s 4) ∷ remirrored_area (mirror_area before 5) (area_at s 5)
      ∷ remirrored_area (mirror_area before 6) (area_at s 6) ∷ remirrored_area (mirror_area before 7) (area_at s 7) ∷ [];
}

-- The mirror with another position word, that of user entry u of descriptor j.
abbrev pub positioned_user : UserState → ℕ → UserState
positioned_user user k = record { id = user.id; role = user.role; opens = user.opens; position = k }

abbrev pub positioned_area : AreaState → ℕ → ℕ → AreaState
positioned_area area u k = record {
  live = area.live;
  name = area.name;
  index = area.index;
  length = area.length;
  users = set area.users u (positioned_user (mirror_user area u) k);
}

abbrev pub positioned : UnitState → ℕ → ℕ → ℕ → UnitState
positioned m j u k = record { unit = m.unit; initialized = m.initialized; areas = set m.areas j (positioned_area (mirror_area m j) u k) }

-- The arrays that a mirror's types declare: eight descriptors, each with three words of a name and three user entries.
pub record Arrays (m : UnitState) : Type 0 where
  pub eight : length m.areas ≡ 8
  pub name : (j : ℕ) → j < 8 → length (mirror_area m j).name ≡ 3
  pub users : (j : ℕ) → j < 8 → length (mirror_area m j).users ≡ 3

-- What is claimed of the mirror that is left: it stands for the new state, and where the state stays, or but for a position, so do its
-- words.
pub record MirrorClaims : Type 0 where
  pub stands : (m : UnitState) (s : State) → Shaped s → state_of (remirrored m s) ≡ s
  pub kept : (m : UnitState) → Arrays m → remirrored m (state_of m) ≡ m
  pub moved : (m : UnitState) → Arrays m → (j u k : ℕ) → j < 8 → u < 3 → remirrored m (at_position (state_of m) j u k) ≡ positioned m j u k
