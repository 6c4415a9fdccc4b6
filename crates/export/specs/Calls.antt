-- The calls of a C program: what a message of twelve words asks for, the answer, and what comes of a call and of Format.
use Rattle.std.specs.Prelude.{◌≡◌, cond, List, ℕ, get_or, eqb, Option, Some, None}
use Rattle.types.specs.declared.Name.{Name}
use Rattle.types.specs.declared.Answer.{Answer}
use Rattle.types.specs.declared.Operation.{Operation}
use Rattle.types.specs.declared.Operation.TheVariants.{Reserve, Position, Sense, Transput, Other}
use Rattle.types.specs.declared.Message.{Message}
use Rattle.types.specs.declared.Message.TheVariants.{Init, Set, Create, LookUp, Change, Remove}
use Rattle.types.specs.declared.Message.TheVariants.{CreateArea, RemoveArea, AreaMessage, UnitDescription, Listing}
use Rattle.refine.specs.Demands.{Performed}
use Rattle.perform.specs.Perform.{performed, Performs}
use Rattle.format.specs.Format.{Formatted, FormatAnswer}
use Rattle.export.specs.declared.UnitMessage.{UnitMessage}
use Rattle.export.specs.declared.UnitAnswer.{UnitAnswer}
use Rattle.export.specs.declared.UnitState.{UnitState}
use Rattle.export.specs.Mirror.{Arrays, state_of, remirrored}

abbrev pub name_of : List ℕ → Name
name_of words = record { 0 = get_or words 0 0; 1 = get_or words 1 0; 2 = get_or words 2 0 }

-- What a message to an area process asks for, by number.
abbrev pub operation_of : ℕ → ℕ → ℕ → ℕ → Operation
operation_of operation number bytes block =
    cond (eqb operation 0) (Reserve number) (
    cond (eqb operation 1) (Position block) (
    cond (eqb operation 2) Sense (
    cond (eqb operation 3) (Transput number bytes block) (Other number))))

-- What a message asks for, by the number of its call; a number above 10 is no call's.
abbrev pub numbered : ℕ → UnitMessage → Option Message
numbered call m =
    cond (eqb call 0) (Some (Init m.unit)) (
    cond (eqb call 1) (Some (Set (name_of m.name))) (
    cond (eqb call 2) (Some (Create (name_of m.name) m.size m.attributes)) (
    cond (eqb call 3) (Some (LookUp (name_of m.name))) (
    cond (eqb call 4) (Some (Change (name_of m.name))) (
    cond (eqb call 5) (Some (Remove (name_of m.name))) (
    cond (eqb call 6) (Some (CreateArea (name_of m.name))) (
    cond (eqb call 7) (Some (RemoveArea (name_of m.name))) (
    cond (eqb call 8)
    (Some (AreaMessage (name_of m.name) m.sender (operation_of m.operation m.number m.bytes m.block))) (
    cond (eqb call 9) (Some (UnitDescription m.unit m.bytes)) (
    cond (eqb call 10) (Some (Listing m.unit)) None))))))))))

abbrev pub asked_of : UnitMessage → Option Message
asked_of m = numbered m.call m

abbrev pub answer_of : UnitAnswer → Answer
answer_of a = record { result = a.result; bytes = a.bytes; block = record { 0 = a.block }; entries = a.entries }

-- What a call leaves: image, mirror, answer and lent words; the same with the state that the mirror stands for.
pub record UnitPerformed : Type 0 where
  pub image : List ℕ
  pub state : UnitState
  pub answer : UnitAnswer
  pub lent : List ℕ

abbrev pub unit_performed : List ℕ → UnitState → UnitAnswer → List ℕ → UnitPerformed
unit_performed image state answer lent = record { image = image; state = state; answer = answer; lent = lent }

abbrev pub performed_of : UnitPerformed → Performed
performed_of r = performed r.image (state_of r.state) (answer_of r.answer) r.lent

-- What comes of one of the calls: `Performs`, of the state that the mirror stands for, whose arrays have the sizes that its types declare.
-- Of the mirror each word that stands for the same value stays, so every word of it is determined.
pub record UnitCalled (image : List ℕ) (state : UnitState) (message : Message) (lent : List ℕ) (r : UnitPerformed) : Type 0 where
  pub arrays : Arrays state
  pub performs : Performs image (state_of state) message lent (performed_of r)
  pub mirror : r.state ≡ remirrored state (state_of r.state)

-- What comes of a number that no call has: FFFFh, a word that document 01 does not have, and nothing changes.
abbrev pub no_such_answer : UnitAnswer
no_such_answer = record { result = 0xFFFF; bytes = 0; block = 0; entries = 0 }

pub record NotCalled (image : List ℕ) (state : UnitState) (lent : List ℕ) (r : UnitPerformed) : Type 0 where
  pub answered : r.answer ≡ no_such_answer
  pub same_image : r.image ≡ image
  pub same_mirror : r.state ≡ state
  pub same_lent : r.lent ≡ lent

-- What comes of a message.
pub data UnitPerforms (image : List ℕ) (state : UnitState) (message : UnitMessage) (lent : List ℕ) (r : UnitPerformed) : Type 0 where
  call : (m : Message) → asked_of message ≡ Some m → UnitCalled image state m lent r → UnitPerforms image state message lent r
  no_such_call : asked_of message ≡ None → NotCalled image state lent r → UnitPerforms image state message lent r

-- What Format leaves: image, mirror and result word; the result word with the state that the mirror stands for.
pub record UnitFormatted : Type 0 where
  pub image : List ℕ
  pub state : UnitState
  pub result : ℕ

abbrev pub unit_formatted : List ℕ → UnitState → ℕ → UnitFormatted
unit_formatted image state result = record { image = image; state = state; result = result }

abbrev pub formatted_of : UnitFormatted → Formatted
formatted_of r = record { result = r.result; state = state_of r.state }

-- What comes of Format, likewise.
pub record UnitFormats (image : List ℕ) (state : UnitState) (bytes : ℕ) (lent : List ℕ) (r : UnitFormatted) : Type 0 where
  pub arrays : Arrays state
  pub formats : FormatAnswer image (state_of state) bytes lent r.image (formatted_of r)
  pub mirror : r.state ≡ remirrored state (state_of r.state)
