-- "The questions, asked from the top. The first no decides; nothing changes, returned byte counts are 0."
use Rattle.std.specs.Prelude.{Bool, true, false, ◌&&◌, List, ◌++◌, ℕ, length, drop, leb, eqb}
use Rattle.std.proofs.Math.Option.{Option, none, some}
use Rattle.types.specs.declared.Answer.{Answer}
use Rattle.plain.specs.Unit.{Plain}

-- The unit after a call, its answer, and the lent words afterwards.
pub record Outcome : Type 0 where
  pub unit : Plain
  pub answer : Answer
  pub lent : List ℕ

-- An answer with a result word, a byte count, a block and a number of entries.
abbrev pub answer : ℕ → ℕ → ℕ → ℕ → Answer
answer result bytes block entries = record { result = result; bytes = bytes; block = record { 0 = block }; entries = entries }

-- A result word alone. A refusal leaves unit and lent words as they are given here.
abbrev pub replies : Plain → ℕ → List ℕ → Outcome
replies p result lent = record { unit = p; answer = answer result 0 0 0; lent = lent }

-- Result word 0 alone.
abbrev pub done : Plain → List ℕ → Outcome
done p lent = replies p 0 lent

-- One question: on no the refusal, on yes what follows.
unfoldable pub asks : Bool → Outcome → Outcome → Outcome
asks true refusal next = next
asks false refusal next = refusal

-- A question whose yes brings a value.
unfoldable pub given : {A : Type 0} → Option A → Outcome → (A → Outcome) → Outcome
given none refusal next = refusal
given (some a) refusal next = next a

-- One of two ways, which is no question.
unfoldable pub either : Bool → Outcome → Outcome → Outcome
either true x y = x
either false x y = y

-- Words that fill the start of the lent ones; "words lent beyond those filled keep theirs".
abbrev pub fill : List ℕ → List ℕ → List ℕ
fill words lent = words ++ drop (length words) lent

-- "Unit known (the state's, 0 to 3)"; the plain unit is initialized.
abbrev pub known : Plain → ℕ → Bool
known p unit = eqb unit p.unit && leb unit 3
