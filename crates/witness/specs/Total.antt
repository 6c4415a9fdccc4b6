-- That the contracts of the one call and of Format have a result for what they are called with.
use Rattle.std.specs.Prelude.{List, ℕ}
use Rattle.types.specs.declared.State.{State}
use Rattle.types.specs.declared.Message.{Message}
use Rattle.disc.specs.Words.{Words}
use Rattle.plain.specs.Step.{Call, Reply}
use Rattle.plain.specs.Claims.{LentWords}
use Rattle.sound.specs.Sound.{SoundUnit}
use Rattle.refine.specs.Demands.{Performed, Contract, Run}
use Rattle.format.specs.Format.{Formatted}
use Rattle.demands.specs.FormatContract.{FormatContract}

-- A result of one call.
pub record ResultOf (C : Contract) (image : List ℕ) (state : State) (message : Message) (lent : List ℕ) : Type 0 where
  pub result : Performed
  pub given : C image state message lent result

-- A run over a list of calls.
pub record RunOf (C : Contract) (image : List ℕ) (state : State) (calls : List Call) : Type 0 where
  pub replies : List Reply
  pub end : List ℕ
  pub stop : State
  pub run : Run C image state calls replies end stop

-- A result of Format.
pub record FormatOf (F : FormatContract) (image : List ℕ) (state : State) (bytes : ℕ) (lent : List ℕ) : Type 0 where
  pub after : List ℕ
  pub result : Formatted
  pub given : F image state bytes lent after result

-- "Every call ends with a result word."
pub record Total (C : Contract) (F : FormatContract) : Type 0 where
  -- on a sound unit every call has a result, and every list of calls a run
  pub call : (image : List ℕ) (state : State) (message : Message) (lent : List ℕ) → SoundUnit image state → Words lent
      → ResultOf C image state message lent
  pub list : (image : List ℕ) (state : State) (calls : List Call) → SoundUnit image state → LentWords calls → RunOf C image state calls
  -- on any image and state, sound or not, a call is not without result (which of the two it is, is not decided here: hence the form)
  pub always : (image : List ℕ) (state : State) (message : Message) (lent : List ℕ) → Words lent → (ResultOf C image state message lent → ⊥)
      → ⊥
  -- Format has a result, whatever it is called with
  pub format : (image : List ℕ) (state : State) (bytes : ℕ) (lent : List ℕ) → FormatOf F image state bytes lent
