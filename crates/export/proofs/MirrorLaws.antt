-- The mirror that is left stands for the state, and is the mirror before where the state is: nothing is lost between two calls, and no word is
-- rewritten for nothing.
use mathlib.Core.Path.{◌≡◌, refl, ap, sym, ◌∙◌}
use mathlib.Core.Bool.{Bool, true, false}
use mathlib.Core.List.{List, [], ◌∷◌}
use Prim.Native.Nat.{ℕ, zero, suc, ◌<◌}
use native.Mathlib.Omega.{arith}
use lib.ListN.{length, get_or, length-set}
use lib.Seq.{ext_get_or, get_or-set_same, get_or-set_other}
use borrow.Author.Tests.{ne_eqb, le-ltb}
use Rattle.types.specs.declared.Role.{Role}
use Rattle.types.specs.declared.Role.TheVariants.{Sharing, ExclusiveWriter, ExclusiveUser}
use Rattle.types.specs.declared.User.{User}
use Rattle.types.specs.declared.Area.{Area}
use Rattle.types.specs.declared.State.{State}
use Rattle.types.specs.State.{vacant_user, past_area, area_at, user_at}
use Rattle.disc.proofs.Compare.{same_or}
use Rattle.sound.specs.State.{Shaped}
use Rattle.state.specs.Areas.{moved_user, moved}
use Rattle.area_users.specs.AreaUsers.{at_position}
use Rattle.export.specs.declared.UserState.{UserState}
use Rattle.export.specs.declared.AreaState.{AreaState}
use Rattle.export.specs.declared.UnitState.{UnitState}
use Rattle.export.specs.Mirror.{is_set, role_of, user_of, mirror_user, area_of, mirror_area, state_of, set_word, role_number, remirrored_user, remirrored_area, remirrored, positioned_user, positioned_area, positioned, Arrays, MirrorClaims}

-- ---- words

set_back : (word : ℕ) (b : Bool) → is_set (set_word word b) ≡ b
set_back zero true = refl
set_back (suc k) true = simp (ne_eqb (suc k) 0 (λ e. omega arith))
set_back word false = refl

set_kept : (word : ℕ) → set_word word (is_set word) ≡ word
set_kept zero = refl
set_kept (suc k) = simp (ne_eqb (suc k) 0 (λ e. omega arith))

role_back : (number : ℕ) (r : Role) → role_of (role_number number r) ≡ r
role_back number Sharing = refl
role_back number ExclusiveWriter = refl
role_back zero ExclusiveUser = refl
role_back (suc zero) ExclusiveUser = refl
role_back (suc (suc k)) ExclusiveUser = simp (le-ltb (suc (suc k)) 2 (omega arith), ne_eqb (suc (suc k)) 0 (λ e. omega arith), ne_eqb (suc (suc k)) 1 (λ e. omega arith))

role_kept : (number : ℕ) → role_number number (role_of number) ≡ number
role_kept zero = refl
role_kept (suc zero) = refl
role_kept (suc (suc k)) = simp (ne_eqb (suc (suc k)) 0 (λ e. omega arith), ne_eqb (suc (suc k)) 1 (λ e. omega arith), le-ltb (suc (suc k)) 2 (omega arith))

user_back : (before : UserState) (u : User) → user_of (remirrored_user before u) ≡ u
user_back before u = ap (λ (r : Role). record { id = u.id; role = r; opens = u.opens; position = u.position }) (role_back before.role u.role)

user_kept : (before : UserState) → remirrored_user before (user_of before) ≡ before
user_kept before = ap (λ (r : ℕ). record { id = before.id; role = r; opens = before.opens; position = before.position }) (role_kept before.role)

-- ---- a list of three, of eight, element by element

three_at : {A : Type 0} (h : ℕ → A) (d : A) (i : ℕ) → i < 3 → get_or (h 0 ∷ h 1 ∷ h 2 ∷ []) i d ≡ h i
three_at h d zero b = refl
three_at h d (suc zero) b = refl
three_at h d (suc (suc zero)) b = refl
three_at h d (suc (suc (suc i))) b = absurd (omega arith)

same_three : {A : Type 0} (d : A) (l : List A) (h : ℕ → A) → length l ≡ 3 → ((i : ℕ) → i < 3 → h i ≡ get_or l i d) → h 0 ∷ h 1 ∷ h 2 ∷ [] ≡ l
same_three d l h e same = ext_get_or d _ l (sym e) (λ i b. three_at h d i b ∙ same i b)

eight_at : {A : Type 0} (h : ℕ → A) (d : A) (i : ℕ) → i < 8 → get_or (h 0 ∷ h 1 ∷ h 2 ∷ h 3 ∷ h 4 ∷ h 5 ∷ h 6 ∷ h 7 ∷ []) i d ≡ h i
eight_at h d zero b = refl
eight_at h d (suc zero) b = refl
eight_at h d (suc (suc zero)) b = refl
eight_at h d (suc (suc (suc zero))) b = refl
eight_at h d (suc (suc (suc (suc zero)))) b = refl
eight_at h d (suc (suc (suc (suc (suc i))))) b = three_at (λ (k : ℕ). h (suc (suc (suc (suc (suc k)))))) d i (omega arith)

same_eight : {A : Type 0} (d : A) (l : List A) (h : ℕ → A) → length l ≡ 8 → ((i : ℕ) → i < 8 → h i ≡ get_or l i d)
    → h 0 ∷ h 1 ∷ h 2 ∷ h 3 ∷ h 4 ∷ h 5 ∷ h 6 ∷ h 7 ∷ [] ≡ l
same_eight d l h e same = ext_get_or d _ l (sym e) (λ i b. eight_at h d i b ∙ same i b)

pub eight_are : {A : Type 0} (d : A) (l : List A) → length l ≡ 8
    → l ≡ get_or l 0 d ∷ get_or l 1 d ∷ get_or l 2 d ∷ get_or l 3 d ∷ get_or l 4 d ∷ get_or l 5 d ∷ get_or l 6 d ∷ get_or l 7 d ∷ []
eight_are d l e = sym (same_eight d l (λ (i : ℕ). get_or l i d) e (λ i b. refl))

-- ---- the mirror left stands for the state

area_back : (before : AreaState) (a : Area) → length a.users ≡ 3 → area_of (remirrored_area before a) ≡ a
area_back before a e = λ i. record {
  live = set_back before.live a.live i;
  name = a.name;
  index = a.index;
  length = a.length;
  users = same_three vacant_user a.users (λ (u : ℕ). user_of (remirrored_user (mirror_user before u) (user_at a u))) e (λ u b. user_back (mirror_user before u) (user_at a u)) i;
}

pub state_back : (before : UnitState) (s : State) → Shaped s → state_of (remirrored before s) ≡ s
state_back before s e = λ i. record {
  unit = s.unit;
  initialized = set_back before.initialized s.initialized i;
  areas = same_eight past_area s.areas (λ (j : ℕ). area_of (remirrored_area (mirror_area before j) (area_at s j))) e.eight (λ j b. area_back (mirror_area before j) (area_at s j) (e.three j b)) i;
}

-- so it is the one that stays by the state that it stands for
pub mirrored : (before m : UnitState) (s : State) → Shaped s → m ≡ remirrored before s → (state_of m ≡ s) × (m ≡ remirrored before (state_of m))
mirrored before m s e same = let back : state_of m ≡ s = ap state_of same ∙ state_back before s e in (back, same ∙ ap (remirrored before) (sym back))

-- ---- where the state is the one before, so is the mirror

abbrev pub past_mirror : AreaState
past_mirror = record { live = 0; name = []; index = 0; length = 0; users = [] }

abbrev no_user : UserState
no_user = record { id = 0; role = 0; opens = 0; position = 0 }

same_name : (l : List ℕ) → length l ≡ 3 → get_or l 0 0 ∷ get_or l 1 0 ∷ get_or l 2 0 ∷ [] ≡ l
same_name l e = same_three 0 l (λ (k : ℕ). get_or l k 0) e (λ k b. refl)

area_kept : (before : AreaState) → length before.name ≡ 3 → length before.users ≡ 3 → remirrored_area before (area_of before) ≡ before
area_kept before n e = λ i. record {
  live = set_kept before.live i;
  name = same_name before.name n i;
  index = before.index;
  length = before.length;
  users = same_three no_user before.users (λ (u : ℕ). remirrored_user (mirror_user before u) (user_of (mirror_user before u))) e (λ u b. user_kept (mirror_user before u)) i;
}

-- ---- where only a position is another, so is that word alone

module _ (a : AreaState) (three : length a.users ≡ 3) (u k : ℕ) (inside : u < 3) where
  users_positioned : (v : ℕ) → v < 3 → remirrored_user (mirror_user a v) (user_at (moved (area_of a) u (record { 0 = k })) v) ≡ get_or (positioned_area a u k).users v no_user
  users_positioned v b = same_or v u
      (λ e. rw e (ap (remirrored_user (mirror_user a u)) (get_or-set_same (area_of a).users u _ vacant_user inside ∙ ap (λ (x : User). moved_user x (record { 0 = k })) (three_at (λ (w : ℕ). user_of (mirror_user a w)) vacant_user u inside))
      ∙ user_positioned (mirror_user a u) ∙ sym (get_or-set_same a.users u _ no_user (omega (arith, three)))))
      (λ ne. ap (remirrored_user (mirror_user a v)) (get_or-set_other (area_of a).users u v _ vacant_user ne ∙ three_at (λ (w : ℕ). user_of (mirror_user a w)) vacant_user v b)
      ∙ user_kept (mirror_user a v) ∙ sym (get_or-set_other a.users u v _ no_user ne))
    where
      user_positioned : (before : UserState) → remirrored_user before (moved_user (user_of before) (record { 0 = k })) ≡ positioned_user before k
      user_positioned before = ap (λ (r : ℕ). record { id = before.id; role = r; opens = before.opens; position = k }) (role_kept before.role)

  area_positioned : length a.name ≡ 3 → remirrored_area a (moved (area_of a) u (record { 0 = k })) ≡ positioned_area a u k
  area_positioned n = λ i. record {
    live = set_kept a.live i;
    name = same_name a.name n i;
    index = a.index;
    length = a.length;
    users = same_three no_user (positioned_area a u k).users (λ (v : ℕ). remirrored_user (mirror_user a v) (user_at (moved (area_of a) u (record { 0 = k })) v)) (length-set a.users u _ ∙ three) users_positioned i;
  }

module _ (m : UnitState) where
  descriptor_at : (j : ℕ) → j < 8 → area_at (state_of m) j ≡ area_of (mirror_area m j)
  descriptor_at = eight_at (λ (j : ℕ). area_of (mirror_area m j)) past_area

  -- every mirror stands for a state of the right shape
  pub state_shaped : Shaped (state_of m)
  state_shaped = record { eight = refl; three = λ j b. ap (λ (a : Area). length a.users) (descriptor_at j b) }

  module _ (shape : Arrays m) where
    descriptor_kept : (j : ℕ) → j < 8 → remirrored_area (mirror_area m j) (area_of (mirror_area m j)) ≡ mirror_area m j
    descriptor_kept j b = area_kept (mirror_area m j) (shape.name j b) (shape.users j b)

    pub mirror_kept : remirrored m (state_of m) ≡ m
    mirror_kept = λ i. record {
      unit = m.unit;
      initialized = set_kept m.initialized i;
      areas = same_eight past_mirror m.areas (λ (j : ℕ). remirrored_area (mirror_area m j) (area_of (mirror_area m j))) shape.eight descriptor_kept i;
    }

    pub same_state_lem : (next : UnitState) → next ≡ remirrored m (state_of next) → state_of next ≡ state_of m → next ≡ m
    same_state_lem next same e = same ∙ ap (remirrored m) e ∙ mirror_kept

    module _ (j u k : ℕ) (open-inside : j < 8) (inside : u < 3) where
      area_left : (i : ℕ) → i < 8 → remirrored_area (mirror_area m i) (area_at (at_position (state_of m) j u k) i) ≡ get_or (positioned m j u k).areas i past_mirror
      area_left i b = same_or i j
          (λ e. rw e (ap (remirrored_area (mirror_area m j)) (get_or-set_same (state_of m).areas j _ past_area open-inside ∙ ap (λ (a : Area). moved a u (record { 0 = k })) (descriptor_at j open-inside))
          ∙ area_positioned (mirror_area m j) (shape.users j open-inside) u k inside (shape.name j open-inside)
          ∙ sym (get_or-set_same m.areas j _ past_mirror (omega (arith, shape.eight)))))
          (λ ne. ap (remirrored_area (mirror_area m i)) (get_or-set_other (state_of m).areas j i _ past_area ne ∙ descriptor_at i b)
          ∙ descriptor_kept i b ∙ sym (get_or-set_other m.areas j i _ past_mirror ne))

      pub mirror_positioned : remirrored m (at_position (state_of m) j u k) ≡ positioned m j u k
      mirror_positioned = λ i. record {
        unit = m.unit;
        initialized = set_kept m.initialized i;
        areas = same_eight past_mirror (positioned m j u k).areas (λ (n : ℕ). remirrored_area (mirror_area m n) (area_at (at_position (state_of m) j u k) n)) (length-set m.areas j _ ∙ shape.eight) area_left i;
      }

pub mirror_claims : MirrorClaims
mirror_claims = record { stands = state_back; kept = mirror_kept; moved = mirror_positioned }
