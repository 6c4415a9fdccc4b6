-- A list of C calls is a list of calls of the one call and of Format, but for the numbers that no call has: these change nothing.
use Rattle.std.specs.Prelude.{Option, Some, None}
use mathlib.Core.Path.{◌≡◌, ap, subst}
use mathlib.Core.List.{List, [], ◌∷◌}
use Prim.Native.Nat.{ℕ}
use native.Mathlib.Omega.{arith}
use Rattle.types.specs.declared.Message.{Message}
use Rattle.types.specs.declared.State.{State}
use Rattle.plain.specs.Step.{Call, Reply}
use Rattle.plain.specs.Claims.{LentWords}
use Rattle.refine.specs.Demands.{Run}
use Rattle.refine.specs.Demands as run
use Rattle.format.specs.Format.{FormatAnswer}
use Rattle.perform.specs.Perform.{Performs}
use Rattle.demands.specs.Demands.{Later}
use Rattle.demands.specs.Demands as demands
use Rattle.export.specs.declared.UnitMessage.{UnitMessage}
use Rattle.export.specs.declared.UnitState.{UnitState}
use Rattle.export.specs.Mirror.{state_of}
use Rattle.export.specs.Calls.{asked_of, answer_of, UnitPerformed, UnitCalled, UnitPerforms, call, no_such_call, UnitFormats}
use Rattle.export.specs.Runs.{UnitCall, UnitReply, UnitRun, empty, then, UnitLater, here, UnitLentWords, StandFor}
use Rattle.export.specs.Runs as runs

-- a number is one call's, or no call's
pub no_call : {a : Option Message} {m : Message} {A : Type 0} → a ≡ Some m → a ≡ None → A
no_call e f = let z : ◌≡◌ {A = ℕ} 0 1 = cc in absurd (omega arith)

one_call : {a : Option Message} {m n : Message} → a ≡ Some m → a ≡ Some n → m ≡ n
one_call e f = cc

pub called_as : {image lent : List ℕ} {state : UnitState} {message : UnitMessage} {m : Message} {r : UnitPerformed} → UnitPerforms image state message lent r → asked_of message ≡ Some m
    → UnitCalled image state m lent r
called_as {image} {lent} {state} {message} {m} {r} (call n e c) f = subst (λ (x : Message). UnitCalled image state x lent r) (one_call e f) c
called_as (no_such_call e c) f = no_call f e

-- what follows on the same image and mirror
pub at : {A B : Type 0} (P : A → B → Type 0) {a a' : A} {b b' : B} → a ≡ a' → b ≡ b' → P a b → P a' b'
at P {a} {a'} {b} {b'} e f x = subst (λ y. P y b') e (subst (P a) f x)

pub unit_later : {image end : List ℕ} {state stop : UnitState} → UnitLater UnitPerforms UnitFormats image state end stop → Later Performs FormatAnswer image (state_of state) end (state_of stop)
unit_later here = demands.here
unit_later (runs.call w (call m e c) rest) = demands.call w c.performs (unit_later rest)
unit_later {end} {stop} (runs.call w (no_such_call e c) rest) =
    at (λ (i : List ℕ) (s : State). Later Performs FormatAnswer i s end (state_of stop)) c.same_image (ap state_of c.same_mirror) (unit_later rest)
unit_later (runs.format w f rest) = demands.format w f.formats (unit_later rest)

-- the calls that a list stands for
pub record Stands (image : List ℕ) (state : UnitState) (calls : List UnitCall) (replies : List UnitReply) (end : List ℕ) (stop : UnitState) : Type 0 where
  pub plain : List Call
  pub answered : List Reply
  pub words : UnitLentWords calls → LentWords plain
  pub stand_for : StandFor calls replies plain answered
  pub run : Run Performs image (state_of state) plain answered end (state_of stop)

pub unit_run : {image end : List ℕ} {state stop : UnitState} {calls : List UnitCall} {replies : List UnitReply} → UnitRun UnitPerforms image state calls replies end stop
    → Stands image state calls replies end stop
unit_run empty = record { plain = []; answered = []; words = λ w. w; stand_for = runs.empty; run = run.empty }
unit_run (then {call = c} {r = r} (call m e x) rest) =
    let s = unit_run rest in
    record {
      plain = record { message = m; lent = c.lent } ∷ s.plain;
      answered = record { answer = answer_of r.answer; lent = r.lent } ∷ s.answered;
      words = λ w. (w.0, s.words w.1);
      stand_for = runs.call e s.stand_for;
      run = run.then x.performs s.run;
    }
unit_run {end} {stop} (then (no_such_call e x) rest) =
    let s = unit_run rest in
    record {
      plain = s.plain;
      answered = s.answered;
      words = λ w. s.words w.1;
      stand_for = runs.no_such_call e x.answered x.same_lent s.stand_for;
      run = at (λ (i : List ℕ) (t : State). Run Performs i t s.plain s.answered end (state_of stop)) x.same_image (ap state_of x.same_mirror) s.run;
    }
