-- The users of an area descriptor as a table: what it finds, and the rules of their roles.
use mathlib.Core.Path.{◌≡◌, refl, sym, ap, ◌∙◌}
use mathlib.Core.List.{List, [], ◌∷◌}
use mathlib.Core.Logic.{◌≢◌}
use mathlib.Core.Option.{some}
use Prim.Native.Nat.{ℕ, zero, suc, ◌+◌, ◌≤◌, ◌<◌}
use native.Mathlib.Omega.{arith}
use lib.ListN.{length, get_or}
use Rattle.types.specs.declared.Role.{Role}
use Rattle.types.specs.declared.Role.TheVariants.{Sharing, ExclusiveWriter, ExclusiveUser}
use Rattle.types.specs.declared.User.{User}
use Rattle.types.specs.declared.Area.{Area}
use Rattle.types.specs.State.{vacant_user, user_at}
use Rattle.disc.proofs.Compare.{same_or}
use Rattle.plain.specs.Table.{Row, table_find, table_put}
use Rattle.plain.specs.Unit.{AreaUser}
use Rattle.plain.specs.Areas.{is_exclusive, is_writer, is_user, users_of}
use Rattle.plain.specs.Good.{GoodRoles, GoodUser}
use Rattle.plain.proofs.TableLaws.{some≢none, some_inj, find_put, find_put_other, total_put}
use Rattle.plain.proofs.RoleLaws.{users-length, writer_le}
use Rattle.plain.proofs.Collect.{sum_below}
use Rattle.sound.specs.State.{LegalUsers}
use Rattle.refine.specs.Represents.{with_user, users_in}
use Rattle.refine.proofs.UserLaws.{plain_user}
use Rattle.refine.proofs.KeyPlaces.{sum_most, sum_front, sum_alone, sum_some}

-- what is found is a taken entry
pub record UserOf (l : List User) (sender : ℕ) (v : AreaUser) : Type 0 where
  pub entry : ℕ
  pub inside : entry < length l
  pub taken : (get_or l entry vacant_user).id ≢ 0
  pub is : plain_user (get_or l entry vacant_user) ≡ v

pub user_there : (l : List User) (sender : ℕ) (v : AreaUser) → table_find sender (users_in l) ≡ some v → UserOf l sender v
user_there [] sender v e = absurd (some≢none (sym e))
user_there (u ∷ l) sender v e = go u.id refl e (λ q. user_there l sender v q)
  where
    up : UserOf l sender v → UserOf (u ∷ l) sender v
    up x = record { entry = suc x.entry; inside = omega (arith, x.inside); taken = x.taken; is = x.is }

    go : (k : ℕ) → u.id ≡ k → table_find sender (with_user k u (users_in l)) ≡ some v
        → (table_find sender (users_in l) ≡ some v → UserOf l sender v) → UserOf (u ∷ l) sender v
    go zero h e ih = up (ih e)
    go (suc k) h e ih = same_or sender (suc k)
        (λ z.
        let q : plain_user u ≡ v = some_inj (sym (find_put (suc k) (plain_user u) (users_in l)) ∙ ap (λ (x : ℕ). table_find x (table_put (suc k) (plain_user u) (users_in l))) (sym z) ∙ e) in
        record { entry = 0; inside = omega arith; taken = λ y. omega arith; is = q })
        (λ d. up (ih (sym (find_put_other sender (suc k) (plain_user u) (users_in l) d) ∙ e)))

-- ---- the entries of a kind

-- what an entry with an identification counts; a vacant one nothing
abbrev counts : (Role → ℕ) → ℕ → Role → ℕ
counts kind zero role = 0
counts kind (suc k) role = kind role

abbrev count_at : (Role → ℕ) → List User → ℕ → ℕ
count_at kind l u = counts kind (get_or l u vacant_user).id (get_or l u vacant_user).role

entries_most : (kind : Role → ℕ) (l : List User) → users_of kind (users_in l) ≤ sum_below (length l) (count_at kind l)
entries_most kind [] = omega arith
entries_most kind (u ∷ l) = omega (arith, sum_front (length l) (count_at kind (u ∷ l)), go u.id (entries_most kind l))
  where
    go : (k : ℕ) → users_of kind (users_in l) ≤ sum_below (length l) (count_at kind l)
        → users_of kind (with_user k u (users_in l)) ≤ counts kind k u.role + sum_below (length l) (count_at kind l)
    go zero ih = omega arith
    go (suc k) ih = omega (arith, total_put (λ (r : Row AreaUser). kind r.val.role) (suc k) (plain_user u) (users_in l))

counts_taken : (kind : Role → ℕ) (k : ℕ) (role : Role) → 1 ≤ counts kind k role → (k ≢ 0) × (1 ≤ kind role)
counts_taken kind zero role h = absurd (omega arith)
counts_taken kind (suc k) role h = ((λ e. omega arith), h)

counts_le : (kind : Role → ℕ) → ((role : Role) → kind role ≤ 1) → (k : ℕ) (role : Role) → counts kind k role ≤ 1
counts_le kind le zero role = omega arith
counts_le kind le (suc k) role = le role

is_writer_lem : (role : Role) → 1 ≤ is_writer role → role ≡ ExclusiveWriter
is_writer_lem Sharing h = absurd (omega arith)
is_writer_lem ExclusiveWriter h = refl
is_writer_lem ExclusiveUser h = absurd (omega arith)

is_exclusive_lem : (role : Role) → 1 ≤ is_exclusive role → role ≡ ExclusiveUser
is_exclusive_lem Sharing h = absurd (omega arith)
is_exclusive_lem ExclusiveWriter h = absurd (omega arith)
is_exclusive_lem ExclusiveUser h = refl

module _ (a : Area) (three : length a.users ≡ 3) (ok : LegalUsers a) where
  most : (kind : Role → ℕ) → users_of kind (users_in a.users) ≤ sum_below 3 (count_at kind a.users)
  most kind = rw three at (entries_most kind a.users)

  taken : (kind : Role → ℕ) (u : ℕ) → 1 ≤ count_at kind a.users u → ((user_at a u).id ≢ 0) × (1 ≤ kind (user_at a u).role)
  taken kind u h = counts_taken kind (user_at a u).id (user_at a u).role h

  user_le : (t : ℕ) → count_at is_user a.users t ≤ 1
  user_le t = counts_le is_user (λ role. omega arith) (user_at a t).id (user_at a t).role

  pub three_users_lem : length (users_in a.users) ≤ 3
  three_users_lem = omega (arith, users-length (users_in a.users), most is_user, sum_most 3 1 (count_at is_user a.users) (λ t x. user_le t))

  pub good_roles : GoodRoles (users_in a.users)
  good_roles = record {
    one_writer = omega (
      arith,
      most is_writer,
      sum_alone 3 (count_at is_writer a.users) (λ t x. counts_le is_writer writer_le (user_at a t).id (user_at a t).role) (λ t u x y p q.
          let v = taken is_writer t p in
          let w = taken is_writer u q in
          ok.one_writer t u x y v.0 w.0 (is_writer_lem (user_at a t).role v.1) (is_writer_lem (user_at a u).role w.1)),
    );
    alone = λ h.
        let e = sum_some 3 (count_at is_exclusive a.users) (omega (arith, most is_exclusive)) in
        let v = taken is_exclusive e.0 e.2 in
        let only : (t : ℕ) → t < 3 → 1 ≤ count_at is_user a.users t → e.0 ≡ t =
        λ t x p. ok.alone e.0 t e.1 x v.0 (taken is_user t p).0 (is_exclusive_lem (user_at a e.0).role v.1) in
        omega (
          arith,
          users-length (users_in a.users),
          most is_user,
          sum_alone 3 (count_at is_user a.users) (λ t x. user_le t) (λ t u x y p q. sym (only t x p) ∙ only u y q),
        );
  }

  -- every user of the table has an entry's open count and position
  pub good_user : (sender : ℕ) (v : AreaUser) → table_find sender (users_in a.users) ≡ some v → GoodUser a.length v
  good_user sender v e =
      let x = user_there a.users sender v e in
      let inside : x.entry < 3 = omega (arith, x.inside) in
      rw (← x.is) (search (ok.opens_low x.entry inside, ok.opens_high x.entry inside, ok.inside x.entry inside))
