-- The rules of the three user entries and of each two of them are the rules of an area's users.
use mathlib.Core.Path.{◌≡◌, refl, sym}
use mathlib.Core.Bool.{true}
use mathlib.Core.Logic.{◌≢◌}
use Prim.Native.Nat.{ℕ, zero, suc, ◌<◌}
use native.Mathlib.Omega.{arith}
use Rattle.types.specs.declared.Role.{Role}
use Rattle.types.specs.declared.Role.TheVariants.{Sharing, ExclusiveWriter, ExclusiveUser}
use Rattle.types.specs.declared.Area.{Area}
use Rattle.types.specs.State.{user_at}
use Rattle.disc.proofs.Compare.{same_or}
use Rattle.disc.proofs.DecideLaws.{true≢false}
use Rattle.sound.specs.State.{IsTaken, LegalUsers}
use Rattle.sound_users.specs.Rules.{roles_agree, LegalUser, LegalPair}

-- ---- roles

first_not_exclusive : (x y : Role) → roles_agree x y ≡ true → x ≢ ExclusiveUser
first_not_exclusive x y e q = true≢false (sym (rw q at e))

second_not_exclusive : (x y : Role) → roles_agree x y ≡ true → y ≢ ExclusiveUser
second_not_exclusive Sharing y e q = true≢false (sym (rw q at e))
second_not_exclusive ExclusiveWriter y e q = true≢false (sym (rw q at e))
second_not_exclusive ExclusiveUser y e q = true≢false (sym e)

not_two_writers : (x y : Role) → roles_agree x y ≡ true → x ≡ ExclusiveWriter → y ≢ ExclusiveWriter
not_two_writers x y e p q = true≢false (sym (rw (p, q) at e))

roles_agree_lem : (x y : Role) → x ≢ ExclusiveUser → y ≢ ExclusiveUser → (x ≡ ExclusiveWriter → y ≢ ExclusiveWriter) → roles_agree x y ≡ true
roles_agree_lem Sharing Sharing p q w = refl
roles_agree_lem Sharing ExclusiveWriter p q w = refl
roles_agree_lem Sharing ExclusiveUser p q w = absurd (q refl)
roles_agree_lem ExclusiveWriter Sharing p q w = refl
roles_agree_lem ExclusiveWriter ExclusiveWriter p q w = absurd (w refl refl)
roles_agree_lem ExclusiveWriter ExclusiveUser p q w = absurd (q refl)
roles_agree_lem ExclusiveUser y p q w = absurd (p refl)

-- ---- the three entries, and the three pairs of them

pub three_each : (P : ℕ → Type 0) → P 0 → P 1 → P 2 → (u : ℕ) → u < 3 → P u
three_each P a b c zero h = a
three_each P a b c (suc zero) h = b
three_each P a b c (suc (suc zero)) h = c
three_each P a b c (suc (suc (suc u))) h = absurd (omega arith)

pub three_pairs : (P : ℕ → ℕ → Type 0) → P 0 1 → P 0 2 → P 1 2 → (u v : ℕ) → u < v → v < 3 → P u v
three_pairs P a b c u v h k = three_each (λ w. (x : ℕ) → x < w → P x w)
    (λ x l. absurd (omega arith))
    (λ x l. let e : x ≡ 0 = omega arith in rw e a)
    (λ x l. same_or x 0 (λ e. rw e b) (λ d. let e : x ≡ 1 = omega arith in rw e c))
    v k u h

-- ---- the rules of an area's users

apart : (u v : ℕ) → (u < v → ⊥) → (v < u → ⊥) → u ≡ v
apart u v p q = omega arith

module _ (a : Area) where
  abbrev role : ℕ → Role
  role u = (user_at a u).role

  module _ (each : (u : ℕ) → u < 3 → LegalUser a.length (user_at a u)) (pairs : (u v : ℕ) → u < v → v < 3 → LegalPair (user_at a u) (user_at a v)) where
    distinct : (u v : ℕ) → u < 3 → v < 3 → IsTaken a u → (user_at a u).id ≡ (user_at a v).id → u ≡ v
    distinct u v hu hv t e = apart u v (λ h. (pairs u v h hv).distinct t (λ z. t (omega arith)) e) (λ h. (pairs v u h hu).distinct (λ z. t (omega arith)) t (sym e))

    alone : (u v : ℕ) → u < 3 → v < 3 → IsTaken a u → IsTaken a v → (user_at a u).role ≡ ExclusiveUser → u ≡ v
    alone u v hu hv t s e = apart u v (λ h. first_not_exclusive (role u) (role v) ((pairs u v h hv).roles t s) e) (λ h. second_not_exclusive (role v) (role u) ((pairs v u h hu).roles s t) e)

    one_writer : (u v : ℕ) → u < 3 → v < 3 → IsTaken a u → IsTaken a v → (user_at a u).role ≡ ExclusiveWriter → (user_at a v).role ≡ ExclusiveWriter → u ≡ v
    one_writer u v hu hv t s e f = apart u v (λ h. not_two_writers (role u) (role v) ((pairs u v h hv).roles t s) e f) (λ h. not_two_writers (role v) (role u) ((pairs v u h hu).roles s t) f e)

    pub all_legal : LegalUsers a
    all_legal = record {
      distinct = distinct;
      opens_low = λ u h. (each u h).opens_low;
      opens_high = λ u h. (each u h).opens_high;
      inside = λ u h. (each u h).inside;
      alone = alone;
      one_writer = one_writer;
    }

  -- the rules of the three entries and of their three pairs
  pub three_legal : LegalUser a.length (user_at a 0) → LegalUser a.length (user_at a 1) → LegalUser a.length (user_at a 2)
      → LegalPair (user_at a 0) (user_at a 1) → LegalPair (user_at a 0) (user_at a 2) → LegalPair (user_at a 1) (user_at a 2) → LegalUsers a
  three_legal k l m p q r =
      all_legal (three_each (λ u. LegalUser a.length (user_at a u)) k l m) (three_pairs (λ u v. LegalPair (user_at a u) (user_at a v)) p q r)

  module _ (l : LegalUsers a) where
    pub one_legal : (u : ℕ) → u < 3 → LegalUser a.length (user_at a u)
    one_legal u h = record { opens_low = l.opens_low u h; opens_high = l.opens_high u h; inside = l.inside u h }

    pub two_legal : (u v : ℕ) → u < v → v < 3 → LegalPair (user_at a u) (user_at a v)
    two_legal u v h hv = record {
      distinct = λ t s e. omega (arith, l.distinct u v (omega arith) hv t e);
      roles = λ t s. roles_agree_lem
          (role u)
          (role v)
          (λ e. omega (arith, l.alone u v (omega arith) hv t s e))
          (λ e. omega (arith, l.alone v u hv (omega arith) s t e))
          (λ e f. omega (arith, l.one_writer u v (omega arith) hv t s e f));
    }
