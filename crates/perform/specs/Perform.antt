-- The one call: what comes of it, for every image, state, message and lent words.
use Rattle.std.specs.Prelude.{◌≡◌, true, List, ℕ}
use Rattle.types.specs.declared.Answer.{Answer}
use Rattle.types.specs.declared.State.{State}
use Rattle.types.specs.declared.Message.{Message}
use Rattle.types.specs.declared.Message.TheVariants.{Init, Set, Create, LookUp, Change, Remove, CreateArea, RemoveArea}
use Rattle.types.specs.declared.Message.TheVariants.{AreaMessage, UnitDescription, Listing}
use Rattle.state.specs.Areas.{initialized}
use Rattle.plain.specs.Unit.{Plain}
use Rattle.plain.specs.Good.{Good}
use Rattle.plain.specs.Questions.{answer}
use Rattle.plain.specs.Step.{step, reply}
use Rattle.sound.specs.Sound.{SoundUnit}
use Rattle.catalog.specs.declared.Unit.{Unit}
use Rattle.refine.specs.Represents.{Represents}
use Rattle.refine.specs.Demands.{Performed}
use Rattle.lookup.specs.Unit.{NumbersOf, Represented}
use Rattle.create.specs.Create.{CreateStep, SetStep}
use Rattle.change.specs.Change.{ChangeStep}
use Rattle.remove.specs.Remove.{RemoveStep}
use Rattle.areas.specs.Areas.{CreateAreaStep, RemoveAreaStep}
use Rattle.area_messages.specs.AreaMessages.{AreaLeaves}
use Rattle.first_question.specs.Known.{unknown_word, unsound_word, Known}

-- "The first no decides; nothing changes, returned byte counts are 0".
pub record Untouched (word : ℕ) (image : List ℕ) (state : State) (lent : List ℕ) (r : Performed) : Type 0 where
  pub answered : r.answer ≡ answer word 0 0 0
  pub same_image : r.image ≡ image
  pub same_state : r.state ≡ state
  pub same_lent : r.lent ≡ lent

-- Image and state as the call left them, with its answer and lent words.
abbrev pub performed : List ℕ → State → Answer → List ℕ → Performed
performed image state answer lent = record { image = image; state = state; answer = answer; lent = lent }

-- Every word of the image and the state after a call that was obeyed: where a question is answered no they are as they were, and
-- where none is, they are those that the message's own contract says.
abbrev pub Wrote : Plain → List ℕ → State → Message → List ℕ → Performed → Type 0
Wrote p image state (Init unit) lent r = (r.image ≡ image) × (r.state ≡ initialized state)
Wrote p image state (Set name) lent r = SetStep p image name lent r.image r.answer.result × (r.state ≡ state)
Wrote p image state (Create name size attributes) lent r =
    CreateStep p image name size attributes r.image r.answer.result × (r.state ≡ state)
Wrote p image state (LookUp name) lent r = (r.image ≡ image) × (r.state ≡ state)
Wrote p image state (Change name) lent r = ChangeStep p image name lent r.image r.answer.result × (r.state ≡ state)
Wrote p image state (Remove name) lent r = RemoveStep p image name r.image r.answer.result × (r.state ≡ state)
Wrote p image state (CreateArea name) lent r =
    (r.image ≡ image) × CreateAreaStep p state name (record { result = r.answer.result; state = r.state })
Wrote p image state (RemoveArea name) lent r =
    RemoveAreaStep p image state name r.image (record { result = r.answer.result; state = r.state })
Wrote p image state (AreaMessage name sender operation) lent r =
    AreaLeaves image state p name sender operation lent (record { answer = r.answer; state = r.state }) r.lent r.image
Wrote p image state (UnitDescription unit bytes) lent r = (r.image ≡ image) × (r.state ≡ state)
Wrote p image state (Listing unit) lent r = (r.image ≡ image) × (r.state ≡ state)

-- The answer and the words handed back are the plain unit's; image and state are determined, and represent the plain unit after
-- the call.
pub record Obeyed (p : Plain) (image : List ℕ) (state : State) (message : Message) (lent : List ℕ) (r : Performed) : Type 0 where
  pub wrote : Wrote p image state message lent r
  pub same : record { answer = r.answer; lent = r.lent } ≡ reply (step p message lent)
  pub represents : Represents r.image r.state (step p message lent).unit
  pub number : r.state.unit ≡ state.unit
  pub initialized : r.state.initialized ≡ true

-- What a message to a known and sound unit starts from, and what it leaves.
pub record CanObey (image : List ℕ) (state : State) (o : Unit) (message : Message) : Type 0 where
  pub known : Known state message
  pub standing : Represented image state o

pub record Obeys (image : List ℕ) (state : State) (o : Unit) (message : Message) (lent : List ℕ) (r : Performed) : Type 0 where
  pub all : (p : Plain) → Good p → Represents image state p → NumbersOf o p → Obeyed p image state message lent r

-- What comes of a call.
pub data Performs (image : List ℕ) (state : State) (message : Message) (lent : List ℕ) (r : Performed) : Type 0 where
  unknown : (Known state message → ⊥) → Untouched (unknown_word message) image state lent r → Performs image state message lent r
  unsound : Known state message → (SoundUnit image state → ⊥) → Untouched (unsound_word message) image state lent r
      → Performs image state message lent r
  obeyed : Known state message → SoundUnit image state
      → ((p : Plain) → Good p → Represents image state p → Obeyed p image state message lent r) → Performs image state message lent r
