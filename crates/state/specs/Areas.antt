-- Operations on the state by value: area descriptors and user entries, searches among them, Reserve, Release and positions.
use Rattle.std.specs.Prelude.{◌≡◌, Bool, true, false, not, ◌&&◌, ◌||◌, cond, List, [], ◌∷◌, ℕ, suc, ◌+◌, ◌-◌, ◌≤◌, set, replicate, leb, ltb, eqb, Option, Some, None, Result}
use Rattle.types.specs.declared.Sector.{Sector}
use Rattle.types.specs.declared.Block.{Block}
use Rattle.types.specs.declared.Name.{Name}
use Rattle.types.specs.declared.Role.{Role}
use Rattle.types.specs.declared.Role.TheVariants.{Sharing, ExclusiveWriter, ExclusiveUser}
use Rattle.types.specs.declared.User.{User}
use Rattle.types.specs.declared.Area.{Area}
use Rattle.types.specs.declared.State.{State}
use Rattle.types.specs.declared.Refusal.{Refusal}
use Rattle.types.specs.Words.{result_word, left_of}
use Rattle.types.specs.State.{vacant_user, vacant_area, user_at, is_open}
use Rattle.disc.specs.Names.{packed}
use Rattle.state.specs.declared.Kind.{Kind}
use Rattle.state.specs.declared.Kind.TheVariants.{AnyUser, Writer, Exclusive}

module _ {A : Type 0} where
  -- The place, counted from i, of the first element that passes the test.
  unfoldable pub first_from : (A → Bool) → ℕ → List A → Option ℕ
  first_from test i [] = None
  first_from test i (x ∷ l) = cond (test x) (Some i) (first_from test (suc i) l)

  -- Does an element pass the test?
  unfoldable pub any_of : (A → Bool) → List A → Bool
  any_of test [] = false
  any_of test (x ∷ l) = test x || any_of test l

  -- The number of elements that pass the test.
  unfoldable pub count_of : (A → Bool) → List A → ℕ
  count_of test [] = 0
  count_of test (x ∷ l) = cond (test x) 1 0 + count_of test l

-- The result word for each case of a search's answer, where `refusal` is the word of the question's no.
abbrev pub word_of : ℕ → Option ℕ → ℕ
word_of refusal (Some j) = 0
word_of refusal None = refusal

-- ---- area descriptors: "eight area processes"

-- The state with another descriptor j, the area with another user entry u; unchanged past the end.
abbrev pub set_area : State → ℕ → Area → State
set_area state j area = record { unit = state.unit; initialized = state.initialized; areas = set state.areas j area }

abbrev pub set_user : Area → ℕ → User → Area
set_user area u user =
    record { live = area.live; name = area.name; index = area.index; length = area.length; users = set area.users u user }

-- Is the descriptor vacant, is it open under name n?
abbrev pub is_vacant : Area → Bool
is_vacant area = not area.live

abbrev pub is_named : ℕ → Area → Bool
is_named n area = is_open area && eqb (packed area.name) n

-- "Area messages .. : open? 4800h": the first open descriptor of name n.
abbrev pub area_named : ℕ → State → Option ℕ
area_named n state = first_from (is_named n) 0 state.areas

abbrev pub open_word : Option ℕ → ℕ
open_word r = word_of 0x4800 r

pub record AreaFound (n : ℕ) (state : State) (r : Option ℕ) : Type 0 where
  pub first : r ≡ area_named n state
  pub word : open_word r ≡ cond (any_of (is_named n) state.areas) 0 0x4800

-- "Already open, or one of eight vacant? 0900h": the lowest vacant descriptor.
abbrev pub vacant_area_of : State → Option ℕ
vacant_area_of state = first_from is_vacant 0 state.areas

abbrev pub vacant_word : Option ℕ → ℕ
vacant_word r = word_of 0x0900 r

pub record VacantFound (state : State) (r : Option ℕ) : Type 0 where
  pub first : r ≡ vacant_area_of state
  pub word : vacant_word r ≡ cond (any_of is_vacant state.areas) 0 0x0900

-- The state of a unit that is initialized, or that is not; nothing else changes.
abbrev pub with_initialized : State → Bool → State
with_initialized state initialized = record { unit = state.unit; initialized = initialized; areas = state.areas }

-- "Init leaves everything standing": the state of a unit that it accepted.
abbrev pub initialized : State → State
initialized state = with_initialized state true

-- A created area: "index sector and length are the process's", and it has no user.
abbrev pub created_area : Name → Sector → ℕ → Area
created_area name index size = record { live = true; name = name; index = index; length = size; users = replicate 3 vacant_user }

-- "Create area", "Remove area": descriptor j is taken, and is vacant again.
abbrev pub area_opened : State → ℕ → Name → Sector → ℕ → State
area_opened state j name index size = set_area state j (created_area name index size)

abbrev pub area_closed : State → ℕ → State
area_closed state j = set_area state j vacant_area

-- An area after an output: another index sector and live length.
abbrev pub with_live : Area → Sector → ℕ → Area
with_live area index size = record { live = area.live; name = area.name; index = index; length = size; users = area.users }

-- ---- users: "three users on each"

-- A user entry with this identification; with 0 it is vacant.
abbrev pub has_id : ℕ → User → Bool
has_id id user = eqb user.id id

-- "Sender a user?": the sender's entry. The lowest vacant entry is that of 0.
abbrev pub entry_of : ℕ → Area → Option ℕ
entry_of id area = first_from (has_id id) 0 area.users

-- "Sender a user? 0810h", and of Reserve "entry vacant or own ..? 0808h".
abbrev pub user_word : Option ℕ → ℕ
user_word r = word_of 0x0810 r

abbrev pub entry_word : Option ℕ → ℕ
entry_word r = word_of 0x0808 r

pub record UserFound (id : ℕ) (area : Area) (r : Option ℕ) : Type 0 where
  pub first : r ≡ entry_of id area
  pub user : user_word r ≡ cond (any_of (has_id id) area.users) 0 0x0810
  pub entry : entry_word r ≡ cond (any_of (has_id id) area.users) 0 0x0808

abbrev pub is_taken : User → Bool
is_taken user = not (has_id 0 user)

-- The number of users.
abbrev pub user_count : Area → ℕ
user_count area = count_of is_taken area.users

-- "Each user's role is sharing, exclusive writer or exclusive user": is a role of the kind asked about?
abbrev pub is_kind : Kind → Role → Bool
is_kind AnyUser role = true
is_kind Writer Sharing = false
is_kind Writer ExclusiveWriter = true
is_kind Writer ExclusiveUser = false
is_kind Exclusive Sharing = false
is_kind Exclusive ExclusiveWriter = false
is_kind Exclusive ExclusiveUser = true

-- "No other exclusive user? 0200h", "no other exclusive writer, .. no other user? 0A00h": a user of the kind who is not
-- the sender.
abbrev pub is_other : Kind → ℕ → User → Bool
is_other kind sender user = is_taken user && (not (has_id sender user) && is_kind kind user.role)

abbrev pub any_other : Kind → ℕ → Area → Bool
any_other kind sender area = any_of (is_other kind sender) area.users

-- ---- Reserve: "2, 3, 4 (exclusive writer, user, exclusive user)"

-- "Each user's role .. only rises."
abbrev pub raised : ℕ → Role → Role
raised count Sharing = cond (eqb count 4) ExclusiveUser (cond (eqb count 2) ExclusiveWriter Sharing)
raised count ExclusiveWriter = cond (eqb count 4) ExclusiveUser ExclusiveWriter
raised count ExclusiveUser = ExclusiveUser

-- "Reserve 2, 3, 4 (exclusive writer, user, exclusive user)": the number that asks for a role.
abbrev pub role_number : Role → ℕ
role_number ExclusiveWriter = 2
role_number Sharing = 3
role_number ExclusiveUser = 4

-- "Sharing, exclusive writer or exclusive user": the order in which a role rises.
abbrev pub role_rank : Role → ℕ
role_rank Sharing = 0
role_rank ExclusiveWriter = 1
role_rank ExclusiveUser = 2

-- The role after Reserve with a count: a sharing user has the role that the count asks for, and no role falls.
pub record RoleRaised (count : ℕ) (role r : Role) : Type 0 where
  pub is : r ≡ raised count role
  pub asked : role ≡ Sharing → 2 ≤ count → count ≤ 4 → role_number r ≡ count
  pub rises : role_rank role ≤ role_rank r

-- "Inserts the sender at position 0 or adds 1 to its open count."
abbrev pub inserted : ℕ → ℕ → User
inserted sender count = record { id = sender; role = raised count Sharing; opens = 1; position = record { 0 = 0 } }

abbrev pub opened_again : ℕ → User → User
opened_again count user = record { id = user.id; role = raised count user.role; opens = user.opens + 1; position = user.position }

-- The answer of Reserve: the result word, and the area after it.
pub record Reserved : Type 0 where
  pub word : ℕ
  pub area : Area

abbrev pub answered : ℕ → Area → Reserved
answered word area = record { word = word; area = area }

-- A Reserve that is refused leaves the area as it was.
abbrev pub reserve_of : Area → Result Area Refusal → Reserved
reserve_of area r = answered (result_word r) (left_of area r)

-- "Entry vacant or own, count below 65,535? 0808h": by where the sender's entry and a vacant one stand.
abbrev pub placed_at : Area → ℕ → ℕ → Option ℕ → Option ℕ → Reserved
placed_at area sender count (Some u) vacant =
    cond (ltb (user_at area u).opens 65535) (answered 0 (set_user area u (opened_again count (user_at area u)))) (answered 0x0808 area)
placed_at area sender count None (Some v) = answered 0 (set_user area v (inserted sender count))
placed_at area sender count None None = answered 0x0808 area

abbrev pub placed : Area → ℕ → ℕ → Reserved
placed area sender count = placed_at area sender count (entry_of sender area) (entry_of 0 area)

-- "2: no other exclusive writer, 4: no other user? 0A00h"
abbrev pub shut_out : Area → ℕ → ℕ → Bool
shut_out area sender count = cond (eqb count 2) (any_other Writer sender area) (cond (eqb count 4) (any_other AnyUser sender area) false)

abbrev pub reserved : Area → ℕ → ℕ → Reserved
reserved area sender count = cond (shut_out area sender count) (answered 0x0A00 area) (placed area sender count)

-- ---- Release and positions

-- "Release (0) takes 1; at zero the user and role go."
abbrev pub one_less : User → User
one_less user = record { id = user.id; role = user.role; opens = user.opens - 1; position = user.position }

abbrev pub released_user : User → User
released_user user = cond (leb user.opens 1) vacant_user (one_less user)

abbrev pub released : Area → ℕ → Area
released area u = set_user area u (released_user (user_at area u))

-- "Position sets the sender's position."
abbrev pub moved_user : User → Block → User
moved_user user position = record { id = user.id; role = user.role; opens = user.opens; position = position }

abbrev pub moved : Area → ℕ → Block → Area
moved area u position = set_user area u (moved_user (user_at area u) position)
