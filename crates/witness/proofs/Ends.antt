-- A message's contract has a result: by the questions of the plain unit, from the top.
use mathlib.Core.Bool.{Bool, true, false}
use mathlib.Core.List.{List}
use mathlib.Core.Logic.{◌≢◌}
use mathlib.Core.Option.{Option, none, some}
use mathlib.Core.Path.{◌≡◌, refl}
use Prim.Native.Nat.{ℕ}
use lib.Dec.{T}
use Rattle.plain.specs.Unit.{Plain}
use Rattle.plain.specs.Questions.{Outcome, asks, given, replies, done}
use Rattle.refine.specs.Leaves.{Replies}
use Rattle.refine.proofs.LeavesLaws.{refuses, writes}

-- What a message leaves: `Same` where it is refused, as `still` is, and `Written` with the plain unit then.
pub record Effect (R : Type 0) : Type 1 where
  pub Same : R → Type 0
  pub Written : R → Plain → Type 0
  pub still : R
  pub same : Same still

-- The outcomes o of a message to the unit p, one for each i with its lent words, have one result word, and leave one thing, whatever i is.
pub record Ends {I R : Type 0} (p : Plain) (words : I → List ℕ) (e : Effect R) (o : I → Outcome) : Type 0 where
  pub result : ℕ
  pub left : R
  pub step : (i : I) → Replies p (o i) (words i) result (e.Same left) (e.Written left)

module _ {I R : Type 0} {p : Plain} {words : I → List ℕ} {e : Effect R} where
  pub refuse : (word : ℕ) → word ≢ 0 → Ends p words e (λ i. replies p word (words i))
  refuse word d = record { result = word; left = e.still; step = λ i. refuses d refl e.same }

  pub finish : (q : Plain) (left : R) → e.Written left q → Ends p words e (λ i. done q (words i))
  finish q left w = record { result = 0; left = left; step = λ i. writes refl w }

  pub ask : (b : Bool) (word : ℕ) {next : I → Outcome} → word ≢ 0 → (T b → Ends p words e next) → Ends p words e (λ i. asks b (replies p word (words i)) (next i))
  unfolding asks
  ask true word d go = go tt
  ask false word d go = refuse word d

  -- a question whose no is no refusal
  pub turn : (b : Bool) {no yes : I → Outcome} → Ends p words e no → (T b → Ends p words e yes) → Ends p words e (λ i. asks b (no i) (yes i))
  unfolding asks
  turn true n go = go tt
  turn false n go = n

  pub give : {A : Type 0} (o : Option A) {no : I → Outcome} {next : A → I → Outcome} → Ends p words e no → ((a : A) → o ≡ some a → Ends p words e (next a)) → Ends p words e (λ i. given o (no i) (λ a. next a i))
  unfolding given
  give none n go = n
  give (some a) n go = go a refl
