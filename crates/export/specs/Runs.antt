-- Lists of calls of a C program, by the contracts of `ruzkemp_perform` and `ruzkemp_format`: each call gets image and mirror as the one
-- before left them.
use Rattle.std.specs.Prelude.{◌≡◌, List, [], ◌∷◌, ℕ, Some, None}
use Rattle.types.specs.declared.Message.{Message}
use Rattle.disc.specs.Words.{Words}
use Rattle.plain.specs.Step.{Call, Reply}
use Rattle.export.specs.declared.UnitState.{UnitState}
use Rattle.export.specs.declared.UnitMessage.{UnitMessage}
use Rattle.export.specs.declared.UnitAnswer.{UnitAnswer}
use Rattle.export.specs.Calls.{asked_of, answer_of, no_such_answer, UnitPerformed, UnitFormatted}

-- An implementation, by the contracts of its one call and of its Format.
abbrev pub UnitContract : Type 1
UnitContract = List ℕ → UnitState → UnitMessage → List ℕ → UnitPerformed → Type 0

abbrev pub UnitFormatContract : Type 1
UnitFormatContract = List ℕ → UnitState → ℕ → List ℕ → UnitFormatted → Type 0

-- A call with its lent words, and the reply.
pub record UnitCall : Type 0 where
  pub message : UnitMessage
  pub lent : List ℕ

pub record UnitReply : Type 0 where
  pub answer : UnitAnswer
  pub lent : List ℕ

-- A list of calls with its replies, from the first image and mirror to the last.
pub data UnitRun (C : UnitContract) : List ℕ → UnitState → List UnitCall → List UnitReply → List ℕ → UnitState → Type 0 where
  empty : {image : List ℕ} {state : UnitState} → UnitRun C image state [] [] image state
  then : {image end : List ℕ} {state stop : UnitState} {call : UnitCall} {calls : List UnitCall} {replies : List UnitReply}
      {r : UnitPerformed}
      → C image state call.message call.lent r → UnitRun C r.image r.state calls replies end stop
      → UnitRun C image state (call ∷ calls) (record { answer = r.answer; lent = r.lent } ∷ replies) end stop

-- Calls one after the other, Format among them.
pub data UnitLater (C : UnitContract) (F : UnitFormatContract) : List ℕ → UnitState → List ℕ → UnitState → Type 0 where
  here : {image : List ℕ} {state : UnitState} → UnitLater C F image state image state
  call : {image end : List ℕ} {state stop : UnitState} {message : UnitMessage} {lent : List ℕ} {r : UnitPerformed}
      → Words lent → C image state message lent r → UnitLater C F r.image r.state end stop → UnitLater C F image state end stop
  format : {image end : List ℕ} {state stop : UnitState} {bytes : ℕ} {lent : List ℕ} {r : UnitFormatted}
      → Words lent → F image state bytes lent r → UnitLater C F r.image r.state end stop → UnitLater C F image state end stop

-- The lent words of every call are words.
abbrev pub UnitLentWords : List UnitCall → Type 0
UnitLentWords [] = Unit {0}
UnitLentWords (c ∷ calls) = Words c.lent × UnitLentWords calls

-- The calls and replies that a list of C calls and its replies stand for: those whose number is a call's. Any other is answered FFFFh, its
-- lent words stay, and it is left out.
pub data StandFor : List UnitCall → List UnitReply → List Call → List Reply → Type 0 where
  empty : StandFor [] [] [] []
  call : {c : UnitCall} {r : UnitReply} {m : Message} {calls : List UnitCall} {replies : List UnitReply} {plain : List Call}
      {answered : List Reply}
      → asked_of c.message ≡ Some m → StandFor calls replies plain answered
      → StandFor (c ∷ calls) (r ∷ replies) (record { message = m; lent = c.lent } ∷ plain)
      (record { answer = answer_of r.answer; lent = r.lent } ∷ answered)
  no_such_call : {c : UnitCall} {r : UnitReply} {calls : List UnitCall} {replies : List UnitReply} {plain : List Call} {answered : List Reply}
      → asked_of c.message ≡ None → r.answer ≡ no_such_answer → r.lent ≡ c.lent → StandFor calls replies plain answered
      → StandFor (c ∷ calls) (r ∷ replies) plain answered
