-- Worked cases on a plain unit: calls, each with the answer that documents 01 and 02 give it.
use Rattle.std.specs.Prelude.{◌≡◌, List, [], ◌∷◌, ℕ}
use Rattle.types.specs.declared.Answer.{Answer}
use Rattle.types.specs.declared.Message.{Message}
use Rattle.plain.specs.Unit.{Plain}
use Rattle.plain.specs.Questions.{answer}
use Rattle.plain.specs.Step.{Call, Reply, step, answers}

pub record Case : Type 0 where
  pub call : Call
  pub answer : Answer

-- A call with its lent words, answered with a result word alone.
abbrev pub gives : Message → List ℕ → ℕ → Case
gives message lent result = record { call = record { message = message; lent = lent }; answer = answer result 0 0 0 }

-- The same with a byte count and a block, and with a byte count and a number of entries.
abbrev pub gives_at : Message → List ℕ → ℕ → ℕ → ℕ → Case
gives_at message lent result bytes block = record { call = record { message = message; lent = lent }; answer = answer result bytes block 0 }

abbrev pub gives_counts : Message → List ℕ → ℕ → ℕ → Case
gives_counts message lent bytes entries = record { call = record { message = message; lent = lent }; answer = answer 0 bytes 0 entries }

abbrev pub calls_of : List Case → List Call
calls_of [] = []
calls_of (c ∷ cases) = c.call ∷ calls_of cases

abbrev pub expected : List Case → List Answer
expected [] = []
expected (c ∷ cases) = c.answer ∷ expected cases

abbrev pub answers_in : List Reply → List Answer
answers_in [] = []
answers_in (r ∷ replies) = r.answer ∷ answers_in replies

-- The calls, one after the other from the unit p, are answered as the cases say.
abbrev pub Shows : Plain → List Case → Type 0
Shows p cases = answers_in (answers p (calls_of cases)) ≡ expected cases

-- The lent words after one call.
abbrev pub words_after : Plain → Message → List ℕ → List ℕ
words_after p message lent = (step p message lent).lent
