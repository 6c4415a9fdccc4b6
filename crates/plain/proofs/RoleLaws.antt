-- Laws of the users of an area: how many are of a kind once one changes, comes or goes, and that the roles stay good.
use mathlib.Core.Path.{◌≡◌, refl, ap}
use mathlib.Core.Bool.{Bool, true, false, not, ◌&&◌, cond}
use mathlib.Core.Logic.{◌⊎◌, inl, inr, ⊎_elim}
use mathlib.Core.Option.{some}
use Prim.Native.Nat.{ℕ, zero, suc, ◌+◌, ◌≤◌}
use native.Mathlib.Omega.{arith}
use lib.ListN.{length}
use lib.Dec.{T, eqb, nltb→le}
use Rattle.types.specs.declared.Role.{Role}
use Rattle.types.specs.declared.Role.TheVariants.{Sharing, ExclusiveWriter, ExclusiveUser}
use Rattle.plain.specs.Table.{Row, Table, table_find, table_put, table_remove}
use Rattle.plain.specs.Unit.{AreaUser}
use Rattle.plain.specs.Areas.{is_exclusive, is_writer, is_user, users_of, other, raised}
use Rattle.plain.specs.Good.{GoodRoles}
use Rattle.plain.proofs.TableLaws.{total_put, total_remove, total-length, weight_at, length_put_old, length_remove}
use Rattle.plain.proofs.QuestionLaws.{and_not}

-- ---- users of a kind

module _ (kind : Role → ℕ) (sender : ℕ) where
  abbrev weight : Row AreaUser → ℕ
  weight r = kind r.val.role

  pub users_put : (v : AreaUser) (users : Table AreaUser) → users_of kind (table_put sender v users) ≡ users_of kind (table_remove sender users) + kind v.role
  users_put v users = omega (arith, total_put weight sender v users, total_remove weight sender users)

  pub users_remove : (users : Table AreaUser) → users_of kind (table_remove sender users) ≤ users_of kind users
  users_remove users = omega (arith, total_remove weight sender users)

  pub users_found : (u : AreaUser) (users : Table AreaUser) → table_find sender users ≡ some u → users_of kind users ≡ users_of kind (table_remove sender users) + kind u.role
  users_found u users e = omega (arith, total_remove weight sender users, ap (weight_at weight sender) e)

pub users-length : (users : Table AreaUser) → users_of is_user users ≡ length users
users-length users = total-length users

-- ---- a user that goes, and one that keeps its role

pub roles_remove : (sender : ℕ) (users : Table AreaUser) → GoodRoles users → GoodRoles (table_remove sender users)
roles_remove sender users g = record {
  one_writer = omega (arith, g.one_writer, users_remove is_writer sender users);
  alone = λ q. omega (arith, g.alone (omega (arith, users_remove is_exclusive sender users)), length_remove sender users);
}

pub roles_same : (sender : ℕ) (u v : AreaUser) (users : Table AreaUser) → table_find sender users ≡ some u → v.role ≡ u.role → GoodRoles users → GoodRoles (table_put sender v users)
roles_same sender u v users e r g = record {
  one_writer = omega (arith, g.one_writer, users_put is_writer sender v users, users_found is_writer sender u users e, ap is_writer r);
  alone = λ q.
      let before : 1 ≤ users_of is_exclusive users = omega (arith, users_put is_exclusive sender v users, users_found is_exclusive sender u users e, ap is_exclusive r) in
      omega (arith, g.alone before, length_put_old sender v u users e);
}

-- ---- a user that reserves

-- The raised role is that of an exclusive user or writer only as asked for, or as before.
raised_exclusive : (count : ℕ) (role : Role) → 1 ≤ is_exclusive (raised count role) → (T (eqb count 4)) ⊎ (1 ≤ is_exclusive role)
raised_exclusive count ExclusiveUser h = inr h
raised_exclusive count ExclusiveWriter h = go (eqb count 4) h
  where
    go : (b : Bool) → 1 ≤ is_exclusive (cond b ExclusiveUser ExclusiveWriter) → (T b) ⊎ (1 ≤ is_exclusive ExclusiveWriter)
    go true q = inl tt
    go false q = inr q
raised_exclusive count Sharing h = go (eqb count 4) (eqb count 2) h
  where
    go : (b c : Bool) → 1 ≤ is_exclusive (cond b ExclusiveUser (cond c ExclusiveWriter Sharing)) → (T b) ⊎ (1 ≤ is_exclusive Sharing)
    go true c q = inl tt
    go false true q = inr q
    go false false q = inr q

raised_writer : (count : ℕ) (role : Role) → 1 ≤ is_writer (raised count role) → (T (eqb count 2)) ⊎ (1 ≤ is_writer role)
raised_writer count ExclusiveUser h = inr h
raised_writer count ExclusiveWriter h = inr (omega arith)
raised_writer count Sharing h = go (eqb count 4) (eqb count 2) h
  where
    go : (b c : Bool) → 1 ≤ is_writer (cond b ExclusiveUser (cond c ExclusiveWriter Sharing)) → (T c) ⊎ (1 ≤ is_writer Sharing)
    go true c q = absurd (omega arith)
    go false true q = inl tt
    go false false q = inr q

pub writer_le : (role : Role) → is_writer role ≤ 1
writer_le Sharing = omega arith
writer_le ExclusiveWriter = omega arith
writer_le ExclusiveUser = omega arith

-- no other user of a kind
pub none_other : (kind : Role → ℕ) (sender : ℕ) (users : Table AreaUser) → T (not (other kind sender users)) → users_of kind (table_remove sender users) ≡ 0
none_other kind sender users t = omega (arith, nltb→le 0 (users_of kind (table_remove sender users)) t)

-- The sender's role before was `role`; where that was an exclusive one, the others were none of that kind.
pub roles_raised : (sender count : ℕ) (users : Table AreaUser) (role : Role) (v : AreaUser) → v.role ≡ raised count role → GoodRoles users
    → T (not (other is_exclusive sender users)) → T (not (eqb count 2 && other is_writer sender users)) → T (not (eqb count 4 && other is_user sender users))
    → (1 ≤ is_writer role → users_of is_writer (table_remove sender users) ≡ 0) → (1 ≤ is_exclusive role → length (table_remove sender users) ≡ 0)
    → GoodRoles (table_put sender v users)
roles_raised sender count users role v e g a b c old_writer old_exclusive = record {
  one_writer = go (is_writer (raised count role)) refl (writer_le (raised count role));
  alone = λ q.
      let others : Table AreaUser = table_remove sender users in
      let z : users_of is_exclusive others ≡ 0 = none_other is_exclusive sender users a in
      let one : 1 ≤ is_exclusive (raised count role) = omega (arith, users_put is_exclusive sender v users, ap is_exclusive e) in
      let len : length (table_put sender v users) ≡ length others + 1 = omega (arith, users_put is_user sender v users, users-length (table_put sender v users), users-length others) in
      ⊎_elim
      (λ t. omega (arith, none_other is_user sender users (and_not (eqb count 4) _ c t), users-length others))
      (λ t. omega (arith, old_exclusive t))
      (raised_exclusive count role one);
}
  where
    go : (n : ℕ) → is_writer (raised count role) ≡ n → n ≤ 1 → users_of is_writer (table_put sender v users) ≤ 1
    go zero q l = omega (arith, users_put is_writer sender v users, ap is_writer e, users_remove is_writer sender users, g.one_writer)
    go (suc n) q l =
        ⊎_elim
        (λ t. omega (arith, users_put is_writer sender v users, ap is_writer e, none_other is_writer sender users (and_not (eqb count 2) _ b t)))
        (λ t. omega (arith, users_put is_writer sender v users, ap is_writer e, old_writer t))
        (raised_writer count role (omega arith))
