-- The users of an area descriptor and the plain unit's table of users: searches, insertion, removal, numbers and roles.
use Rattle.std.specs.Prelude.{Some, None}
use mathlib.Core.Path.{◌≡◌, refl, sym, ap, ◌∙◌}
use mathlib.Core.List.{List, [], ◌∷◌}
use mathlib.Core.Bool.{Bool, true, false, not, cond, not-and_self}
use mathlib.Core.Logic.{◌≢◌}
use mathlib.Core.Option.{Option, none, some}
use Prim.Native.Nat.{ℕ, zero, suc, ◌+◌, ◌<◌}
use native.Mathlib.Omega.{arith}
use lib.ListN.{length, get_or, set, length-set, get_or-replicate}
use lib.Dec.{eqb, ltb}
use borrow.Author.Tests.{eq-eqb, ne_eqb, eqb-true, eqb-false, not-true}
use Rattle.types.specs.declared.Sector.{Sector}
use Rattle.types.specs.declared.Name.{Name}
use Rattle.types.specs.declared.Role.{Role}
use Rattle.types.specs.declared.Role.TheVariants.{Sharing, ExclusiveWriter, ExclusiveUser}
use Rattle.types.specs.declared.User.{User}
use Rattle.types.specs.declared.Area.{Area}
use Rattle.types.specs.State.{vacant_user, user_at}
use Rattle.disc.proofs.Compare.{same_or}
use Rattle.plain.specs.Table.{Row, Table, table_find, table_put, table_remove, SortedFrom, total, is_some}
use Rattle.plain.specs.Unit.{AreaUser}
use Rattle.plain.specs.Areas as plain
use Rattle.plain.proofs.TableLaws.{find_below, find_put, find_put_other, find_remove, find_remove_other, sorted_put, sorted_remove, find_ext, weight_at, total_put, total_remove}
use Rattle.plain.proofs.UnitLaws.{map_some}
use Rattle.state.specs.declared.Kind.{Kind}
use Rattle.state.specs.declared.Kind.TheVariants.{AnyUser, Writer, Exclusive}
use Rattle.state.specs.Areas.{count_of, has_id, entry_of, is_taken, user_count, is_kind, is_other, any_other, set_user, created_area, with_live}
use Rattle.state.proofs.SearchLaws.{FirstAt, first_at, at_first, first_nowhere, first_that, that_at, that_nowhere, that_set, that_set_other, that_set_none, any_count, count_full, count_room}
use Rattle.state.proofs.DistinctLaws.{keyed, Distinct, distinct_tail, distinct_head, distinct-set}
use Rattle.sound.specs.State.{IsTaken}
use Rattle.refine.specs.Represents.{with_user, users_in}
use Rattle.refine.proofs.TableCount.{table_count}

-- A user entry as the plain unit has it.
abbrev pub plain_user : User → AreaUser
plain_user u = record { role = u.role; opens = u.opens; position = u.position.0 }

-- ---- what is found

with_find : (k i : ℕ) (u : User) (t : Table AreaUser) → k ≢ 0 → table_find k (with_user i u t) ≡ cond (eqb i k) (some (plain_user u)) (table_find k t)
with_find k zero u t h = rw (ne_eqb 0 k (λ e. h (sym e)))
with_find k (suc i) u t h =
    same_or k (suc i) (λ e. rw (e, eq-eqb (suc i) (suc i) refl) (find_put (suc i) (plain_user u) t)) (λ d. rw (ne_eqb (suc i) k (λ e. d (sym e))) (find_put_other k (suc i) (plain_user u) t d))

with_sorted : (i : ℕ) (u : User) (t : Table AreaUser) → SortedFrom 0 t → SortedFrom 0 (with_user i u t)
with_sorted zero u t ok = ok
with_sorted (suc i) u t ok = sorted_put 0 (suc i) (plain_user u) t (omega arith) ok

pub users_sorted : (l : List User) → SortedFrom 0 (users_in l)
users_sorted [] = tt
users_sorted (u ∷ l) = with_sorted u.id u (users_in l) (users_sorted l)

users_zero : (l : List User) → table_find 0 (users_in l) ≡ none
users_zero l = find_below 0 0 (users_in l) (users_sorted l) (omega arith)

-- the table finds the first entry with an identification
pub users_find : (k : ℕ) (l : List User) → k ≢ 0 → table_find k (users_in l) ≡ map_some plain_user (first_that (has_id k) l)
unfolding first_that
users_find k [] h = refl
users_find k (u ∷ l) h = with_find k u.id u (users_in l) h ∙ go (eqb u.id k) (users_find k l h)
  where
    go : (b : Bool) → table_find k (users_in l) ≡ map_some plain_user (first_that (has_id k) l) → cond b (some (plain_user u)) (table_find k (users_in l)) ≡ map_some plain_user (cond b (some u) (first_that (has_id k) l))
    go true ih = refl
    go false ih = ih

-- what `find_user` finds is an entry with the identification
pub entry_inside : (a : Area) (id u : ℕ) → entry_of id a ≡ Some u → u < length a.users
entry_inside a id u e = (first_at (has_id id) vacant_user a.users u e).inside

pub entry_id : (a : Area) (id u : ℕ) → entry_of id a ≡ Some u → (user_at a u).id ≡ id
entry_id a id u e = eqb-true (user_at a u).id id (first_at (has_id id) vacant_user a.users u e).passes

-- the sender's entry, by where `find_user` finds it
pub user_found : (a : Area) (sender u : ℕ) → sender ≢ 0 → entry_of sender a ≡ Some u → table_find sender (users_in a.users) ≡ some (plain_user (user_at a u))
user_found a sender u h e = users_find sender a.users h ∙ ap (map_some plain_user) (that_at (has_id sender) vacant_user a.users u (first_at (has_id sender) vacant_user a.users u e))

pub user_absent : (a : Area) (sender : ℕ) → sender ≢ 0 → entry_of sender a ≡ None → table_find sender (users_in a.users) ≡ none
user_absent a sender h e = users_find sender a.users h ∙ ap (map_some plain_user) (that_nowhere (has_id sender) vacant_user a.users (first_nowhere (has_id sender) vacant_user 0 a.users e))

-- ---- three entries with distinct users

pub record DistinctUsers (a : Area) : Type 0 where
  pub three : length a.users ≡ 3
  pub only : (u v : ℕ) → u < 3 → v < 3 → IsTaken a u → (user_at a u).id ≡ (user_at a v).id → u ≡ v

abbrev id_of : User → ℕ
id_of u = u.id

taken_id : (u : User) → is_taken u ≡ true → u.id ≢ 0
taken_id u t = eqb-false u.id 0 (not-true (has_id 0 u) t)

id_taken : (u : User) → u.id ≢ 0 → is_taken u ≡ true
id_taken u h = ap not (ne_eqb u.id 0 h)

by_keys : (a : Area) → DistinctUsers a → Distinct is_taken id_of vacant_user a.users
by_keys a o = record { only = λ u v hu hv tu tv e. o.only u v (omega (arith, o.three)) (omega (arith, o.three)) (taken_id (user_at a u) tu) e }

from_keys : (a : Area) → length a.users ≡ 3 → Distinct is_taken id_of vacant_user a.users → DistinctUsers a
from_keys a n o = record {
  three = n;
  only = λ u v hu hv tu e. o.only u v (omega arith) (omega arith) (id_taken (user_at a u) tu) (id_taken (user_at a v) (λ z. tu (e ∙ z))) e;
}

-- a taken entry is the one that is found
pub own_entry_lem : (a : Area) (u : ℕ) → DistinctUsers a → u < 3 → IsTaken a u → entry_of (user_at a u).id a ≡ Some u
own_entry_lem a u o h t =
    let first : FirstAt (has_id (user_at a u).id) vacant_user a.users u = record {
      inside = omega (arith, o.three);
      passes = eq-eqb (user_at a u).id (user_at a u).id refl;
      before = λ v k. ne_eqb (user_at a v).id (user_at a u).id (λ e. omega (arith, o.only u v h (omega arith) t (sym e)));
    } in
    let e : 0 + u ≡ u = omega arith in
    at_first (has_id (user_at a u).id) vacant_user 0 a.users u first ∙ ap Some e

-- a created area, one after an output, and one with legal users
pub created_users : (name : Name) (index : Sector) (size : ℕ) → DistinctUsers (created_area name index size)
created_users name index size = record { three = refl; only = λ u v hu hv t e. absurd (t (ap id_of (get_or-replicate 3 u vacant_user vacant_user hu))) }

pub live_users : (a : Area) (index : Sector) (size : ℕ) → DistinctUsers a → DistinctUsers (with_live a index size)
live_users a index size o = record { three = o.three; only = o.only }

-- ---- an entry set

-- a sorted table that has what the entries have of k and of every other user
users_are : (l : List User) (t : Table AreaUser) (k : ℕ) → SortedFrom 0 t → table_find k (users_in l) ≡ table_find k t
    → ((m : ℕ) → m ≢ 0 → m ≢ k → table_find m (users_in l) ≡ table_find m t) → users_in l ≡ t
users_are l t k ok own past = find_ext 0 (users_in l) t (users_sorted l) ok (λ m. same_or m 0
    (λ z. rw z (users_zero l ∙ sym (find_below 0 0 t ok (omega arith))))
    (λ z. same_or m k (λ q. rw q own) (past m z)))

module _ (l : List User) (u : ℕ) (new : User) (k : ℕ) (h : k ≢ 0) where
  -- the new entry is the first of its user, the old one was of the same user or vacant
  put_law : new.id ≡ k → u < length l → ((v : ℕ) → v < u → has_id k (get_or l v vacant_user) ≡ false) → ((m : ℕ) → m ≢ 0 → m ≢ k → has_id m (get_or l u vacant_user) ≡ false)
      → users_in (set l u new) ≡ table_put k (plain_user new) (users_in l)
  put_law e inside before old =
      users_are (set l u new) (table_put k (plain_user new) (users_in l)) k (sorted_put 0 k (plain_user new) (users_in l) (omega arith) (users_sorted l))
      (users_find k (set l u new) h ∙ ap (map_some plain_user) (that_set (has_id k) vacant_user l u new inside before (eq-eqb new.id k e)) ∙ sym (find_put k (plain_user new) (users_in l)))
      (λ m z d.
      users_find m (set l u new) z
      ∙ ap (map_some plain_user) (that_set_other (has_id m) vacant_user l u new (old m z d) (ne_eqb new.id m (λ q. d (sym q ∙ e))))
      ∙ sym (users_find m l z)
      ∙ sym (find_put_other m k (plain_user new) (users_in l) d))

  -- the entry of the only one of that user is vacated
  remove_law : new.id ≡ 0 → (get_or l u vacant_user).id ≡ k → ((v : ℕ) → v < length l → v ≢ u → has_id k (get_or l v vacant_user) ≡ false) → users_in (set l u new) ≡ table_remove k (users_in l)
  remove_law e own rest =
      users_are (set l u new) (table_remove k (users_in l)) k (sorted_remove 0 k (users_in l) (users_sorted l))
      (users_find k (set l u new) h ∙ ap (map_some plain_user) (that_set_none (has_id k) vacant_user l u new rest (ne_eqb new.id k (λ q. h (sym q ∙ e)))) ∙ sym (find_remove k 0 (users_in l) (users_sorted l)))
      (λ m z d.
      users_find m (set l u new) z
      ∙ ap (map_some plain_user) (that_set_other (has_id m) vacant_user l u new (ne_eqb (get_or l u vacant_user).id m (λ q. d (sym q ∙ own))) (ne_eqb new.id m (λ q. z (sym q ∙ e))))
      ∙ sym (users_find m l z)
      ∙ sym (find_remove_other m k 0 (users_in l) (users_sorted l) d))

module _ (a : Area) (sender u : ℕ) (h : sender ≢ 0) where
  pub put_own : (new : User) → entry_of sender a ≡ Some u → new.id ≡ sender → users_in (set a.users u new) ≡ table_put sender (plain_user new) (users_in a.users)
  put_own new e i =
      let before = (first_at (has_id sender) vacant_user a.users u e).before in
      put_law a.users u new sender h i (entry_inside a sender u e) before (λ m z d. ne_eqb (user_at a u).id m (λ q. d (sym q ∙ entry_id a sender u e)))

  pub put_vacant : (new : User) → entry_of sender a ≡ None → entry_of 0 a ≡ Some u → new.id ≡ sender → users_in (set a.users u new) ≡ table_put sender (plain_user new) (users_in a.users)
  put_vacant new e v i =
      let inside = entry_inside a 0 u v in
      let nowhere = first_nowhere (has_id sender) vacant_user 0 a.users e in
      put_law a.users u new sender h i inside (λ w k. nowhere.fails w (omega arith)) (λ m z d. ne_eqb (user_at a u).id m (λ q. z (sym q ∙ entry_id a 0 u v)))

  pub remove_own : DistinctUsers a → entry_of sender a ≡ Some u → users_in (set a.users u vacant_user) ≡ table_remove sender (users_in a.users)
  remove_own o e =
      let own = entry_id a sender u e in
      let inside : u < 3 = omega (arith, entry_inside a sender u e, o.three) in
      remove_law a.users u vacant_user sender h refl own (λ v k d. ne_eqb (user_at a v).id sender (λ q. d (o.only v u (omega (arith, o.three)) inside (λ z. h (sym q ∙ z)) (q ∙ sym own))))

-- ---- numbers of users

-- a taken entry under an identification, and none under 0
keyed_id : (n : ℕ) → n ≢ 0 → (u : User) → keyed is_taken id_of n u ≡ has_id n u
keyed_id n h u = same_or u.id 0 (λ e. let z : u.id ≢ n = λ q. h (sym q ∙ e) in rw (eq-eqb u.id 0 e, ne_eqb u.id n z)) (λ d. rw (ne_eqb u.id 0 d))

first_keyed : (n : ℕ) → n ≢ 0 → (l : List User) → first_that (has_id n) l ≡ first_that (keyed is_taken id_of n) l
first_keyed n h l = sym (λ i. first_that (λ u. keyed_id n h u i) l)

keyed_zero : (u : User) → keyed is_taken id_of 0 u ≡ false
keyed_zero u = not-and_self (has_id 0 u)

same_keys : (l : List User) (n : ℕ) → is_some (table_find n (users_in l)) ≡ is_some (first_that (keyed is_taken id_of n) l)
same_keys l n = same_or n 0 (λ e. rw (e, users_zero l, that_nowhere (keyed is_taken id_of 0) vacant_user l (record { fails = λ v k. keyed_zero (get_or l v vacant_user) }))) other
  where
    mapped : (o : Option User) → is_some (map_some plain_user o) ≡ is_some o
    mapped none = refl
    mapped (some u) = refl

    other : n ≢ 0 → is_some (table_find n (users_in l)) ≡ is_some (first_that (keyed is_taken id_of n) l)
    other h = ap is_some (users_find n l h) ∙ mapped (first_that (has_id n) l) ∙ ap is_some (first_keyed n h l)

module _ (a : Area) (o : DistinctUsers a) where
  pub users_count : length (users_in a.users) ≡ user_count a
  users_count = table_count is_taken id_of vacant_user a.users 0 (users_in a.users) (users_sorted a.users) (by_keys a o) (same_keys a.users)

  -- fewer than three exactly if an entry is vacant
  pub users_room : (v : ℕ) → entry_of 0 a ≡ Some v → length (users_in a.users) < 3
  users_room v e = omega (arith, users_count, count_room is_taken (has_id 0) (λ u. refl) 0 a.users v e, o.three)

  pub users_full : entry_of 0 a ≡ None → length (users_in a.users) ≡ 3
  users_full e = omega (arith, users_count, count_full is_taken (has_id 0) (λ u. refl) 0 a.users e, o.three)

-- ---- other users

-- the plain unit's number for a kind of user
abbrev pub weight_of : Kind → Role → ℕ
weight_of AnyUser = plain.is_user
weight_of Writer = plain.is_writer
weight_of Exclusive = plain.is_exclusive

kind_weight : (kind : Kind) (role : Role) → cond (is_kind kind role) 1 0 ≡ weight_of kind role
kind_weight AnyUser role = refl
kind_weight Writer Sharing = refl
kind_weight Writer ExclusiveWriter = refl
kind_weight Writer ExclusiveUser = refl
kind_weight Exclusive Sharing = refl
kind_weight Exclusive ExclusiveWriter = refl
kind_weight Exclusive ExclusiveUser = refl

module _ (kind : Kind) (sender : ℕ) where
  abbrev weight : Row AreaUser → ℕ
  weight r = weight_of kind r.val.role

  -- one entry more, with identification i
  others_more : (u : User) (i n : ℕ) (t : Table AreaUser) → u.id ≡ i → (i ≢ 0 → table_find i t ≡ none) → n + weight_at weight sender (table_find sender t) ≡ total weight t
      → cond (is_other kind sender u) 1 0 + n + weight_at weight sender (table_find sender (with_user i u t)) ≡ total weight (with_user i u t)
  others_more u zero n t e new ih = rw (eq-eqb u.id 0 e) (omega arith)
  others_more u (suc i) n t e new ih =
      let taken : eqb u.id 0 ≡ false = ne_eqb u.id 0 (omega arith) in
      let sum = rw (new (omega arith)) at (total_put weight (suc i) (plain_user u) t) in
      same_or
      sender
      (suc i)
      (λ q. let own : eqb u.id sender ≡ true = eq-eqb u.id sender (e ∙ sym q) in
      let found : table_find sender (table_put (suc i) (plain_user u) t) ≡ some (plain_user u) = rw q (find_put (suc i) (plain_user u) t) in
      let gone : table_find sender t ≡ none = rw q (new (omega arith)) in
      rw (taken, own, found) (omega (arith, rw gone at ih)))
      (λ d. let other : eqb u.id sender ≡ false = ne_eqb u.id sender (λ q. d (sym q ∙ e)) in
      rw (taken, other, find_put_other sender (suc i) (plain_user u) t d) (omega (arith, kind_weight kind u.role)))

  others : (l : List User) → Distinct is_taken id_of vacant_user l → count_of (is_other kind sender) l + weight_at weight sender (table_find sender (users_in l)) ≡ total weight (users_in l)
  unfolding count_of
  others [] o = refl
  others (u ∷ l) o = others_more u u.id (count_of (is_other kind sender) l) (users_in l) refl new (others l (distinct_tail is_taken id_of vacant_user u l o))
    where
      new : u.id ≢ 0 → table_find u.id (users_in l) ≡ none
      new h = users_find u.id l h ∙ ap (map_some plain_user) (first_keyed u.id h l ∙ that_nowhere (keyed is_taken id_of u.id) vacant_user l (distinct_head is_taken id_of vacant_user u l o (id_taken u h)))

  pub other_law : (a : Area) → DistinctUsers a → any_other kind sender a ≡ plain.other (weight_of kind) sender (users_in a.users)
  other_law a o =
      let n : count_of (is_other kind sender) a.users ≡ total weight (table_remove sender (users_in a.users)) = omega (arith, others a.users (by_keys a o), total_remove weight sender (users_in a.users)) in
      any_count (is_other kind sender) a.users ∙ ap (ltb 0) n

-- ---- distinctness is kept

module _ (a : Area) (u : ℕ) (o : DistinctUsers a) where
  kept : (new : User) → (is_taken new ≡ true → (v : ℕ) → v < 3 → v ≢ u → is_taken (user_at a v) ≡ true → (user_at a v).id ≡ new.id → ⊥) → DistinctUsers (set_user a u new)
  kept new fresh =
      from_keys (set_user a u new) (length-set a.users u new ∙ o.three) (distinct-set is_taken id_of vacant_user a.users u new (by_keys a o) (λ t v h d tv e. fresh t v (omega (arith, o.three)) d tv e))

  -- the entry of the same user
  pub distinct_own : (new : User) → u < 3 → (user_at a u).id ≡ new.id → DistinctUsers (set_user a u new)
  distinct_own new h e = kept new (λ t v k d tv q. d (o.only v u k h (taken_id (user_at a v) tv) (q ∙ sym e)))

  -- an entry of a user that had none
  pub distinct_new : (new : User) → entry_of new.id a ≡ None → DistinctUsers (set_user a u new)
  distinct_new new e = kept new (λ t v k d tv q. eqb-false (user_at a v).id new.id ((first_nowhere (has_id new.id) vacant_user 0 a.users e).fails v (omega (arith, o.three))) q)

  -- a vacant entry
  pub distinct_vacant : DistinctUsers (set_user a u vacant_user)
  distinct_vacant = kept vacant_user (λ t v k d tv q. taken_id vacant_user t refl)
