-- The letter's demands, as types over the contracts of the C entry points: for every call and for lists of calls. They speak of the state
-- that a mirror stands for, and of every word of the mirror.
use Rattle.std.specs.Prelude.{◌≡◌, List, ◌≢◌, ◌⊎◌, ◌↔◌, ℕ, ◌<◌, Option, Some, None}
use Rattle.types.specs.declared.Name.{Name}
use Rattle.types.specs.declared.Operation.{Operation}
use Rattle.types.specs.declared.Message.{Message}
use Rattle.types.specs.declared.Message.TheVariants.{Init, AreaMessage}
use Rattle.types.specs.State.{area_at}
use Rattle.disc.specs.Words.{Words}
use Rattle.disc.specs.Names.{named}
use Rattle.state.specs.Areas.{area_named, entry_of}
use Rattle.plain.specs.Step.{Call, Reply}
use Rattle.plain.specs.Claims.{Moves}
use Rattle.sound.specs.Sound.{SoundUnit}
use Rattle.refine.specs.Demands.{AcceptedState, Demand3After}
use Rattle.first_question.specs.Known.{Known}
use Rattle.format.specs.Format.{FormatAnswer}
use Rattle.demands.specs.Demands.{Answered}
use Rattle.export.specs.declared.UnitState.{UnitState}
use Rattle.export.specs.declared.UnitMessage.{UnitMessage}
use Rattle.export.specs.Mirror.{state_of, remirrored, positioned}
use Rattle.export.specs.Calls.{asked_of, UnitPerformed, performed_of, NotCalled, UnitPerforms, UnitFormatted, formatted_of, UnitFormats}
use Rattle.export.specs.Runs.{UnitContract, UnitFormatContract, UnitCall, UnitReply, UnitRun, UnitLater, UnitLentWords, StandFor}

-- ---- demand 1

-- Which words of the mirror a refused call changes: none, "save the sender's position where document 01 says so".
pub data MirrorLeft (state next : UnitState) : Option Message → Type 0 where
  everything : {a : Option Message} → next ≡ state → MirrorLeft state next a
  but_position : {name : Name} {sender : ℕ} {operation : Operation} → Moves operation → (j u k : ℕ)
      → area_named (named name) (state_of state) ≡ Some j → entry_of sender (area_at (state_of state) j) ≡ Some u → next ≡ positioned state j u k
      → MirrorLeft state next (Some (AreaMessage name sender operation))

-- "No word of image, state or lent record changes, save the sender's position"; "returned byte counts are 0".
pub record UnitRefused (image : List ℕ) (state : UnitState) (message : UnitMessage) (lent : List ℕ) (r : UnitPerformed) : Type 0 where
  pub bytes : r.answer.bytes ≡ 0
  pub entries : r.answer.entries ≡ 0
  pub same_image : r.image ≡ image
  pub same_lent : r.lent ≡ lent
  pub same_mirror : MirrorLeft state r.state (asked_of message)

-- One of the calls is answered as demand 1 says, and of the mirror every word stays that stands for the same value; a number that no call
-- has is answered FFFFh, and nothing changes.
pub data UnitAnswered (image : List ℕ) (state : UnitState) (message : UnitMessage) (lent : List ℕ) (r : UnitPerformed) : Type 0 where
  call : (m : Message) → asked_of message ≡ Some m → Answered image (state_of state) m lent (performed_of r)
      → r.state ≡ remirrored state (state_of r.state) → UnitAnswered image state message lent r
  no_such_call : asked_of message ≡ None → NotCalled image state lent r → UnitAnswered image state message lent r

pub record UnitDemand1 (C : UnitContract) (F : UnitFormatContract) : Type 0 where
  -- the numbers of the calls are 0 to 10
  pub numbers : (message : UnitMessage) → (10 < message.call) ↔ (asked_of message ≡ None)
  pub call : {image : List ℕ} {state : UnitState} {message : UnitMessage} {lent : List ℕ} {r : UnitPerformed}
      → C image state message lent r → UnitAnswered image state message lent r
  -- so every call of a list
  pub every : {image end : List ℕ} {state stop : UnitState} {calls : List UnitCall} {replies : List UnitReply}
      → UnitRun C image state calls replies end stop → UnitRun UnitAnswered image state calls replies end stop
  -- a word other than 0: no word of image, mirror and lent words changes, save the sender's position
  pub refused : {image : List ℕ} {state : UnitState} {message : UnitMessage} {lent : List ℕ} {r : UnitPerformed}
      → C image state message lent r → r.answer.result ≢ 0 → UnitRefused image state message lent r
  pub format : {image : List ℕ} {state : UnitState} {bytes : ℕ} {lent : List ℕ} {r : UnitFormatted} → F image state bytes lent r
      → FormatAnswer image (state_of state) bytes lent r.image (formatted_of r) × (r.state ≡ remirrored state (state_of r.state))
  pub format_refused : {image : List ℕ} {state : UnitState} {bytes : ℕ} {lent : List ℕ} {r : UnitFormatted}
      → F image state bytes lent r → r.result ≢ 0 → (r.image ≡ image) × (r.state ≡ state)
  -- every word of answer, image, mirror and lent words is determined; a listing's order too, by document 02, R-1
  pub determined : {image : List ℕ} {state : UnitState} {message : UnitMessage} {lent : List ℕ} {r q : UnitPerformed}
      → C image state message lent r → C image state message lent q → r ≡ q
  pub format_determined : {image : List ℕ} {state : UnitState} {bytes : ℕ} {lent : List ℕ} {r q : UnitFormatted}
      → F image state bytes lent r → F image state bytes lent q → r ≡ q

-- ---- demand 2: as `Demand2`, of the states that the mirrors stand for; what a refused Init leaves is `UnitDemand1.refused`

pub record UnitDemand2 (C : UnitContract) (F : UnitFormatContract) : Type 0 where
  -- "Init, on a known unit with no area process, accepts exactly the images that meet document 01's rules of a sound unit"
  pub exactly : {image : List ℕ} {state : UnitState} {message : UnitMessage} {unit : ℕ} {lent : List ℕ} {r : UnitPerformed}
      → C image state message lent r → asked_of message ≡ Some (Init unit) → Known (state_of state) (Init unit)
      → (r.answer.result ≡ 0) ↔ SoundUnit image (state_of state)
  -- and no other unit
  pub only : {image : List ℕ} {state : UnitState} {message : UnitMessage} {unit : ℕ} {lent : List ℕ} {r : UnitPerformed}
      → C image state message lent r → asked_of message ≡ Some (Init unit) → r.answer.result ≡ 0 → Known (state_of state) (Init unit)
  -- on accepting it leaves the image, and the state with which demand 3's list begins
  pub accepted : {image : List ℕ} {state : UnitState} {message : UnitMessage} {unit : ℕ} {lent : List ℕ} {r : UnitPerformed}
      → C image state message lent r → asked_of message ≡ Some (Init unit) → r.answer.result ≡ 0
      → (r.image ≡ image) × AcceptedState (state_of r.state) × SoundUnit r.image (state_of r.state)
  -- "and every image that Format .. writes meets them again"
  pub format : {image : List ℕ} {state : UnitState} {bytes : ℕ} {lent : List ℕ} {r : UnitFormatted}
      → Words image → Words lent → F image state bytes lent r → r.result ≡ 0
      → SoundUnit r.image (state_of r.state) × Known (state_of r.state) (Init r.state.unit)
  -- "or a later call writes meets them again, together with the open area processes": after every list of C calls, Format and numbers
  -- that no call has among them
  pub later : {image end : List ℕ} {state stop : UnitState} → SoundUnit image (state_of state) → UnitLater C F image state end stop
      → SoundUnit end (state_of stop)
  -- and whatever stood there before: after every such list no word of image and mirror has changed, or the rules are met
  pub written : {image end : List ℕ} {state stop : UnitState} → Words image → UnitLater C F image state end stop
      → ((end ≡ image) × (stop ≡ state)) ⊎ SoundUnit end (state_of stop)

-- ---- demand 3

-- Demand 3 of the calls that a list of C calls stands for.
pub record UnitDemand3After (image : List ℕ) (state : UnitState) (calls : List UnitCall) (replies : List UnitReply) (end : List ℕ)
    (stop : UnitState) : Type 0 where
  pub plain : List Call
  pub answered : List Reply
  pub stand_for : StandFor calls replies plain answered
  pub holds : Demand3After image (state_of state) plain answered end (state_of stop)

pub record UnitDemand3 (C : UnitContract) : Type 0 where
  pub holds : {image end : List ℕ} {state stop : UnitState} {calls : List UnitCall} {replies : List UnitReply}
      → SoundUnit image (state_of state) → AcceptedState (state_of state) → UnitLentWords calls → UnitRun C image state calls replies end stop
      → UnitDemand3After image state calls replies end stop
  -- the same said of an accepted Init, without a word about the state that it left
  pub after_init : {image end : List ℕ} {state stop : UnitState} {message : UnitMessage} {unit : ℕ} {words : List ℕ}
      {r : UnitPerformed} {calls : List UnitCall} {replies : List UnitReply}
      → C image state message words r → asked_of message ≡ Some (Init unit) → r.answer.result ≡ 0 → UnitLentWords calls
      → UnitRun C r.image r.state calls replies end stop
      → UnitDemand3After r.image r.state calls replies end stop

-- ---- the three demands

pub record UnitDemands (C : UnitContract) (F : UnitFormatContract) : Type 0 where
  pub first : UnitDemand1 C F
  pub second : UnitDemand2 C F
  pub third : UnitDemand3 C

-- Of the very contracts of `ruzkemp_perform` and `ruzkemp_format`.
abbrev pub TheUnitDemands : Type 0
TheUnitDemands = UnitDemands UnitPerforms UnitFormats
