-- What a message's step leaves, beside the plain unit's outcome of it.
use Rattle.std.specs.Prelude.{◌≡◌, List, ℕ}
use Rattle.types.specs.declared.Answer.{Answer}
use Rattle.types.specs.declared.State.{State}
use Rattle.plain.specs.Unit.{Plain}
use Rattle.plain.specs.Questions.{Outcome, answer}
use Rattle.plain.specs.Good.{Good}
use Rattle.refine.specs.Represents.{Represents}

-- Answer and lent words are the outcome's, and `Left` holds of its unit.
pub record Leaves (o : Outcome) (answer : Answer) (lent : List ℕ) (Left : Plain → Type 0) : Type 0 where
  pub answered : o ≡ record { unit = o.unit; answer = answer; lent = lent }
  pub left : Left o.unit

-- Image and state are those of the unit q, which is good.
pub record StandFor (image : List ℕ) (state : State) (q : Plain) : Type 0 where
  pub good : Good q
  pub represents : Represents image state q

-- "The first no decides; nothing changes .." Refused: the unit is p still, and `Same` says that image and state are as they were.
-- Done: `Written q` says every word that was written, with the unit q then.
pub data Decided (p : Plain) (result : ℕ) (Same : Type 0) (Written : Plain → Type 0) (q : Plain) : Type 0 where
  refused : (result ≡ 0 → ⊥) → q ≡ p → Same → Decided p result Same Written q
  written : result ≡ 0 → Written q → Decided p result Same Written q

-- The outcome o of a message to the unit p that answers with its result word alone.
abbrev pub Replies : Plain → Outcome → List ℕ → ℕ → Type 0 → (Plain → Type 0) → Type 0
Replies p o lent result Same Written = Leaves o (answer result 0 0 0) lent (Decided p result Same Written)
