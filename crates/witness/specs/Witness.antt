-- The demands are claims about something: no premise of theirs is empty. From a disc, Format and Init lead to a sound unit in an accepted
-- state, and from there a list of calls runs, with the answers of document 01.
use Rattle.std.specs.Prelude.{◌≡◌, List, [], ◌∷◌, ◌++◌, ℕ, ◌*◌, length}
use Rattle.types.specs.declared.Operation.TheVariants.{Reserve, Transput}
use Rattle.types.specs.declared.Message.TheVariants.{Init, LookUp, Remove, RemoveArea, AreaMessage}
use Rattle.types.specs.State.{fresh_state}
use Rattle.disc.specs.Words.{Words}
use Rattle.words.specs.Store.{zero_words}
use Rattle.plain.specs.Claims.{LentWords}
use Rattle.examples.specs.Cases.{Case, gives, gives_at, calls_of, expected, answers_in}
use Rattle.examples.specs.Paper.{pass, zzzzz, sector_of, pass_area, seven_calls}
use Rattle.sound.specs.Sound.{SoundUnit}
use Rattle.refine.specs.Demands.{Performed, Contract, AcceptedState}
use Rattle.format.specs.Format.{Formatted}
use Rattle.demands.specs.FormatContract.{FormatContract}
use Rattle.demands.specs.Demands.{Later}
use Rattle.demands.specs.Paper.{paper_record}
use Rattle.witness.specs.Total.{ResultOf, RunOf}

-- Format of a disc by the paper's record, and Init of what it left: both answer 0, and image and state are those with which demand 3's
-- list begins.
pub record Begun (C : Contract) (F : FormatContract) (disc : List ℕ) : Type 0 where
  pub formatted : List ℕ
  pub format : Formatted
  pub formats : F disc (fresh_state 0) 18 (paper_record 0 0) formatted format
  pub format_done : format.result ≡ 0
  pub init : Performed
  pub inits : C formatted format.state (Init 0) [] init
  pub init_done : init.answer.result ≡ 0
  pub sound : SoundUnit init.image init.state
  pub accepted : AcceptedState init.state

-- P6's and P7's calls (Create of 'PASS', an area process with a user, outputs that append at 2 and 3), then an output that replaces
-- block 0, the user and the area process removed, Look-up of a name that is not entered, and Remove of 'PASS'.
abbrev pub witness_cases : List Case
witness_cases =
    seven_calls
    ++ (gives_at (AreaMessage pass 9 (Transput 7 512 0)) (sector_of 3) 0 512 0
    ∷ pass_area 9 (Reserve 0) [] 0
    ∷ gives (RemoveArea pass) [] 0
    ∷ gives (LookUp zzzzz) [] 0x5000
    ∷ gives (Remove pass) [] 0
    ∷ [])

-- A run of these calls from what Format and Init left, answered as document 01 says.
pub record Witness (C : Contract) (F : FormatContract) (disc : List ℕ) : Type 0 where
  pub begun : Begun C F disc
  pub words : LentWords (calls_of witness_cases)
  pub ran : RunOf C begun.init.image begun.init.state (calls_of witness_cases)
  pub answered : answers_in ran.replies ≡ expected witness_cases
  -- Format, Init and the calls as one list
  pub later : Later C F disc (fresh_state 0) ran.end ran.stop

pub record Met (C : Contract) (F : FormatContract) : Type 0 where
  -- every disc of 20 sectors is such a beginning, whatever stands on it; one of zeros is one
  pub discs : (disc : List ℕ) → Words disc → length disc ≡ 256 * 20 → Witness C F disc
  pub zeros : Witness C F (zero_words (256 * 20))
  -- the first two questions have the answer no, too: Init of another unit, and Init on an image of no words
  pub another : ResultOf C [] (fresh_state 0) (Init 1) []
  pub another_word : another.result.answer.result ≡ 0x1200
  pub unsound : ResultOf C [] (fresh_state 0) (Init 0) []
  pub unsound_word : unsound.result.answer.result ≡ 0x9000
