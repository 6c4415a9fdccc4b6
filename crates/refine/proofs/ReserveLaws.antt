-- Reserve, Release and positions on an area descriptor are those of the plain unit on its users.
use Rattle.std.specs.Prelude.{Some, None, Option as Maybe}
use mathlib.Core.Path.{◌≡◌, refl, sym, ◌∙◌}
use mathlib.Core.List.{List}
use mathlib.Core.Bool.{Bool, true, false, not, cond, ◌&&◌, ◌||◌}
use mathlib.Core.Logic.{◌≢◌}
use mathlib.Core.Option.{Option, none, some}
use Prim.Native.Nat.{ℕ, zero, suc, ◌-◌, ◌<◌}
use native.Mathlib.Numerals.{add-one}
use native.Mathlib.Omega.{arith}
use lib.ListN.{length}
use lib.Dec.{eqb, ltb, leb}
use borrow.Author.Tests.{ne_eqb, eqb-true, lt-ltb, le-ltb, le-leb, lt-leb}
use Rattle.types.specs.declared.Block.{Block}
use Rattle.types.specs.declared.Role.{Role}
use Rattle.types.specs.declared.Role.TheVariants.{Sharing, ExclusiveWriter, ExclusiveUser}
use Rattle.types.specs.declared.User.{User}
use Rattle.types.specs.declared.Area.{Area}
use Rattle.types.specs.State.{vacant_user, user_at}
use Rattle.plain.specs.Table.{Table, table_find, table_put, is_some}
use Rattle.plain.specs.Unit.{Plain, AreaUser, with_areas}
use Rattle.plain.specs.Questions.{Outcome, asks, replies, done}
use Rattle.plain.specs.Areas as plain
use Rattle.plain.proofs.QuestionLaws.{cond_law}
use Rattle.state.specs.declared.Kind.TheVariants.{AnyUser, Writer}
use Rattle.state.specs.Areas.{Reserved, entry_of, any_other, raised, opened_again, inserted, answered, placed_at, placed, shut_out, reserved, one_less, released, moved_user, moved, set_user}
use Rattle.refine.specs.Represents.{users_in}
use Rattle.refine.proofs.UserLaws.{plain_user, DistinctUsers, entry_inside, entry_id, user_found, user_absent, put_own, put_vacant, remove_own, users_room, users_full, other_law, distinct_own, distinct_new, distinct_vacant}

pub raised_law : (count : ℕ) (role : Role) → raised count role ≡ plain.raised count role
raised_law count Sharing = refl
raised_law count ExclusiveWriter = refl
raised_law count ExclusiveUser = refl

-- The plain unit's outcome by what the descriptor's Reserve answers: the area's users where the word is 0.
abbrev pub outcome_of : Plain → ℕ → Reserved → List ℕ → Outcome
outcome_of p n r lent = replies (cond (eqb r.word 0) (with_areas p (table_put n (users_in r.area.users) p.areas)) p) r.word lent

-- two questions are one
one_question : (refusal next : Outcome) (two four x y : Bool) → (two ≡ true → four ≡ false)
    → asks (not (two && x)) refusal (asks (not (four && y)) refusal next) ≡ asks (not (cond two x (cond four y false))) refusal next
unfolding asks
one_question refusal next true true x y h = absurd (let e : true ≡ false = h refl in let z : ◌≡◌ {A = ℕ} 0 1 = cc in omega arith)
one_question refusal next true false true y h = refl
one_question refusal next true false false y h = refl
one_question refusal next false true x true h = refl
one_question refusal next false true x false h = refl
one_question refusal next false false x y h = refl

module _ (p : Plain) (n : ℕ) (a : Area) (sender count : ℕ) (lent : List ℕ) (o : DistinctUsers a) (h : sender ≢ 0) where
  abbrev users : Table AreaUser
  users = users_in a.users

  abbrev found : Option AreaUser
  found = table_find sender users

  abbrev full : Outcome
  full = replies p 0x0808 lent

  abbrev put : Outcome
  put = done (with_areas p (table_put n (table_put sender (plain.opened count found) users) p.areas)) lent

  -- the questions that are left when no other user shuts the sender out
  abbrev room : Outcome
  room = asks (is_some found || ltb (length users) 3) full (asks (ltb (plain.opens_of found) 65535) full put)

  -- the area's users after an insertion, as the outcome has them
  settled : (t : Table AreaUser) (x y : AreaUser) → x ≡ y → t ≡ table_put sender x users
      → done (with_areas p (table_put n (table_put sender y users) p.areas)) lent ≡ done (with_areas p (table_put n t p.areas)) lent
  settled t x y e q = rw (← e, q)

  own_room : (u : ℕ) → entry_of sender a ≡ Some u → (v : Maybe ℕ) → room ≡ outcome_of p n (placed_at a sender count (Some u) v) lent
  unfolding asks
  own_room u e v = rw (user_found a sender u h e) (go (ltb (user_at a u).opens 65535))
    where
      same : plain_user (opened_again count (user_at a u)) ≡ plain.opened count (some (plain_user (user_at a u)))
      same = λ i. record { role = raised_law count (user_at a u).role i; opens = add-one (user_at a u).opens i; position = (user_at a u).position.0 }

      go : (b : Bool) → asks b full (done (with_areas p (table_put n (table_put sender (plain.opened count (some (plain_user (user_at a u)))) users) p.areas)) lent)
          ≡ outcome_of p n (cond b (answered 0 (set_user a u (opened_again count (user_at a u)))) (answered 0x0808 a)) lent
      go true =
          let new = opened_again count (user_at a u) in
          settled (users_in (set_user a u new).users) (plain_user new) (plain.opened count (some (plain_user (user_at a u)))) same (put_own a sender u h new e (entry_id a sender u e))
      go false = refl

  new_room : (v : ℕ) → entry_of sender a ≡ None → entry_of 0 a ≡ Some v → room ≡ outcome_of p n (placed_at a sender count None (Some v)) lent
  unfolding asks
  new_room v e z =
      rw (user_absent a sender h e, lt-ltb (length users) 3 (users_room a o v z))
      (settled (users_in (set_user a v (inserted sender count)).users) (plain_user (inserted sender count)) (plain.opened count none) refl (put_vacant a sender v h (inserted sender count) e z refl))

  no_room : entry_of sender a ≡ None → entry_of 0 a ≡ None → room ≡ outcome_of p n (placed_at a sender count None None) lent
  unfolding asks
  no_room e z = rw (user_absent a sender h e, le-ltb (length users) 3 (omega (arith, users_full a o z)))

  placed_law : (own vacant : Maybe ℕ) → entry_of sender a ≡ own → entry_of 0 a ≡ vacant → room ≡ outcome_of p n (placed_at a sender count own vacant) lent
  placed_law (Some u) vacant e z = own_room u e vacant
  placed_law None (Some v) e z = new_room v e z
  placed_law None None e z = no_room e z

  abbrev shut : Outcome
  shut = replies p 0x0A00 lent

  -- "2: no other exclusive writer, 4: no other user?"
  asked : asks (not (eqb count 2 && plain.other plain.is_writer sender users)) shut (asks (not (eqb count 4 && plain.other plain.is_user sender users)) shut room)
      ≡ asks (not (eqb count 2 && any_other Writer sender a)) shut (asks (not (eqb count 4 && any_other AnyUser sender a)) shut room)
  asked = λ i. asks (not (eqb count 2 && sym (other_law Writer sender a o) i)) shut (asks (not (eqb count 4 && sym (other_law AnyUser sender a o) i)) shut room)

  answered_law : (b : Bool) → asks (not b) shut room ≡ outcome_of p n (cond b (answered 0x0A00 a) (placed a sender count)) lent
  unfolding asks
  answered_law true = refl
  answered_law false = placed_law (entry_of sender a) (entry_of 0 a) refl refl

  pub reserve_law : plain.step_reserve p n sender (users_in a.users) count lent ≡ outcome_of p n (reserved a sender count) lent
  unfolding plain.step_reserve
  reserve_law =
      asked
      ∙ one_question shut room (eqb count 2) (eqb count 4) (any_other Writer sender a) (any_other AnyUser sender a) (λ e. ne_eqb count 4 (λ q. let two = eqb-true count 2 e in omega arith))
      ∙ answered_law (shut_out a sender count)

-- ---- what else Reserve keeps

-- The area b is a with other users.
pub record OnlyUsers (a b : Area) : Type 0 where
  pub live : b.live ≡ a.live
  pub name : b.name ≡ a.name
  pub index : b.index ≡ a.index
  pub size : b.length ≡ a.length

pub only_users : (a : Area) (u : ℕ) (new : User) → OnlyUsers a (set_user a u new)
only_users a u new = record { live = refl; name = refl; index = refl; size = refl }

-- what holds of the area, and of it with the sender's entry set, holds after Reserve
module _ (a : Area) (sender count : ℕ) (P : Area → Type 0) (as_is : P a)
    (again : (u : ℕ) → entry_of sender a ≡ Some u → P (set_user a u (opened_again count (user_at a u))))
    (new : (v : ℕ) → entry_of sender a ≡ None → P (set_user a v (inserted sender count))) where
  one_of : (b : Bool) (x y : Reserved) → P x.area → P y.area → P (cond b x y).area
  one_of = cond_law (λ (x : Reserved). P x.area)

  placed_keeps : (own vacant : Maybe ℕ) → entry_of sender a ≡ own → P (placed_at a sender count own vacant).area
  placed_keeps (Some u) vacant e = one_of (ltb (user_at a u).opens 65535) (answered 0 (set_user a u (opened_again count (user_at a u)))) (answered 0x0808 a) (again u e) as_is
  placed_keeps None (Some v) e = new v e
  placed_keeps None None e = as_is

  reserve_keeps : P (reserved a sender count).area
  reserve_keeps = one_of (shut_out a sender count) (answered 0x0A00 a) (placed a sender count) as_is (placed_keeps (entry_of sender a) (entry_of 0 a) refl)

pub reserve_users : (a : Area) (sender count : ℕ) → OnlyUsers a (reserved a sender count).area
reserve_users a sender count =
    reserve_keeps
    a
    sender
    count
    (OnlyUsers a)
    (record { live = refl; name = refl; index = refl; size = refl })
    (λ u e. only_users a u (opened_again count (user_at a u)))
    (λ v e. only_users a v (inserted sender count))

pub reserve_distinct : (a : Area) (sender count : ℕ) → DistinctUsers a → DistinctUsers (reserved a sender count).area
reserve_distinct a sender count o =
    reserve_keeps
    a
    sender
    count
    DistinctUsers
    o
    (λ u e. distinct_own a u o (opened_again count (user_at a u)) (omega (arith, entry_inside a sender u e, o.three)) refl)
    (λ v e. distinct_new a v o (inserted sender count) e)

-- ---- Release and positions

module _ (a : Area) (sender u : ℕ) (h : sender ≢ 0) (e : entry_of sender a ≡ Some u) where
  pub move_law : (position : Block) → users_in (moved a u position).users ≡ table_put sender (plain.at_position (plain_user (user_at a u)) position.0) (users_in a.users)
  move_law position = put_own a sender u h (moved_user (user_at a u) position) e (entry_id a sender u e)

  pub release_law : DistinctUsers a → users_in (released a u).users ≡ plain.released sender (user_at a u).opens (plain_user (user_at a u)) (users_in a.users)
  release_law o = go (user_at a u).opens refl
    where
      go : (k : ℕ) → (user_at a u).opens ≡ k → users_in (released a u).users ≡ plain.released sender k (plain_user (user_at a u)) (users_in a.users)
      go zero q = rw (le-leb (user_at a u).opens 1 (omega arith)) (remove_own a sender u h o e)
      go (suc zero) q = rw (le-leb (user_at a u).opens 1 (omega arith)) (remove_own a sender u h o e)
      go (suc (suc k)) q =
          let left : (user_at a u).opens - 1 ≡ suc k = omega arith in
          rw (lt-leb (user_at a u).opens 1 (omega arith)) (put_own a sender u h (one_less (user_at a u)) e (entry_id a sender u e) ∙ rw left)

module _ (a : Area) (u : ℕ) (o : DistinctUsers a) (h : u < 3) where
  pub move_distinct : (position : Block) → DistinctUsers (moved a u position)
  move_distinct position = distinct_own a u o (moved_user (user_at a u) position) h refl

  pub release_distinct : DistinctUsers (released a u)
  release_distinct = go (leb (user_at a u).opens 1)
    where
      go : (b : Bool) → DistinctUsers (set_user a u (cond b vacant_user (one_less (user_at a u))))
      go true = distinct_vacant a u o
      go false = distinct_own a u o (one_less (user_at a u)) h refl
