-- Format, given by its contract.
use Rattle.std.specs.Prelude.{List, ℕ}
use Rattle.types.specs.declared.State.{State}
use Rattle.format.specs.Format.{Formatted}

-- Format, by its contract: what may come of an image, a state, a byte count and lent words, which it only reads: the image after it,
-- its result word and the state.
abbrev pub FormatContract : Type 1
FormatContract = List ℕ → State → ℕ → List ℕ → List ℕ → Formatted → Type 0
