-- What a step leaves, from its outcome and the unit after it.
use mathlib.Core.Path.{◌≡◌, refl, sym, subst}
use mathlib.Core.List.{List}
use Prim.Native.Nat.{ℕ}
use Rattle.types.specs.declared.Answer.{Answer}
use Rattle.types.specs.declared.State.{State}
use Rattle.plain.specs.Unit.{Plain}
use Rattle.plain.specs.Questions.{Outcome, replies, done}
use Rattle.plain.specs.Good.{Good}
use Rattle.refine.specs.Represents.{Represents}
use Rattle.refine.specs.Leaves.{Leaves, StandFor, Decided, refused, written, Replies}

module _ {o : Outcome} {a : Answer} {lent : List ℕ} {L : Plain → Type 0} where
  -- the outcome of a step that is another's
  pub leaves_as : {x : Outcome} → x ≡ o → Leaves o a lent L → Leaves x a lent L
  leaves_as e = subst (λ (y : Outcome). Leaves y a lent L) (sym e)

  -- by its parts
  pub leaves_by : {q : Plain} → o ≡ record { unit = q; answer = a; lent = lent } → L q → Leaves o a lent L
  leaves_by e l = subst (λ (y : Outcome). Leaves y a lent L) (sym e) (record { answered = refl; left = l })

  -- what is said of the unit
  pub leaves_map : {M : Plain → Type 0} → (L o.unit → M o.unit) → Leaves o a lent L → Leaves o a lent M
  leaves_map f l = record { answered = l.answered; left = f l.left }

pub leaves : {o : Outcome} {q : Plain} {a : Answer} {lent image : List ℕ} {state : State} → o ≡ record { unit = q; answer = a; lent = lent } → Good q → Represents image state q
    → Leaves o a lent (StandFor image state)
leaves e g r = leaves_by e (record { good = g; represents = r })

-- ---- a result word alone

module _ {p : Plain} {o : Outcome} {lent : List ℕ} {A : Type 0} {P : Plain → Type 0} where
  pub refuses : {result : ℕ} → (result ≡ 0 → ⊥) → o ≡ replies p result lent → A → Replies p o lent result A P
  refuses d e s = leaves_by e (refused d refl s)

  pub writes : {q : Plain} → o ≡ done q lent → P q → Replies p o lent 0 A P
  writes e w = leaves_by e (written refl w)

module _ {p q : Plain} {result : ℕ} {A : Type 0} {P : Plain → Type 0} where
  pub decided_cases : {C : Type 0} → (q ≡ p → A → C) → (P q → C) → Decided p result A P q → C
  decided_cases f g (refused d u s) = f u s
  decided_cases f g (written z w) = g w

  pub decided-map : {B : Type 0} {Q : Plain → Type 0} → (A → B) → (P q → Q q) → Decided p result A P q → Decided p result B Q q
  decided-map f g (refused d u s) = refused d u (f s)
  decided-map f g (written z w) = written z (g w)
