-- The letter's demands, proved of the contracts of `ruzkemp_perform` and `ruzkemp_format`: by the demands of the calls below, and the laws
-- of the mirror.
use Rattle.std.specs.Prelude.{Option, Some}
use mathlib.Core.Path.{◌≡◌, refl, sym, ap, ◌∙◌, subst}
use mathlib.Core.List.{List}
use mathlib.Core.Logic.{◌≢◌, ◌⊎◌, inl, inr, ⊎_elim}
use Prim.Native.Nat.{ℕ, ◌<◌}
use native.Mathlib.Omega.{arith}
use Rattle.types.specs.declared.Answer.{Answer}
use Rattle.types.specs.declared.Message.{Message}
use Rattle.types.specs.declared.Message.TheVariants.{Init}
use Rattle.types.specs.State.{vacant_user, area_at}
use Rattle.disc.specs.Words.{Words}
use Rattle.state.specs.Areas.{has_id}
use Rattle.state.proofs.SearchLaws.{first_at}
use Rattle.plain.specs.Unit.{Plain}
use Rattle.sound.specs.Sound.{SoundUnit}
use Rattle.refine.specs.Demands.{Performed, AcceptedState}
use Rattle.refine.proofs.StateLaws.{named_inside}
use Rattle.first_question.specs.Known.{Known}
use Rattle.format.specs.Format.{Refused, Formatted, FormatAnswer, not_lent, not_allowed, written}
use Rattle.perform.specs.Perform.{Untouched}
use Rattle.demands.specs.Demands.{Answered, StateLeft}
use Rattle.demands.specs.Demands as demands
use Rattle.demands.proofs.Demands.{demand_1, demand_2, demand_3}
use Rattle.export.specs.declared.UnitAnswer.{UnitAnswer}
use Rattle.export.specs.declared.UnitMessage.{UnitMessage}
use Rattle.export.specs.declared.UnitState.{UnitState}
use Rattle.export.specs.Mirror.{Arrays, state_of, remirrored}
use Rattle.export.specs.Calls.{asked_of, answer_of, UnitPerformed, unit_performed, UnitCalled, performed_of, no_such_answer, NotCalled, UnitPerforms, call, no_such_call, UnitFormatted, formatted_of, UnitFormats}
use Rattle.export.specs.Runs.{UnitCall, UnitReply, UnitRun, empty, then, UnitLater, here}
use Rattle.export.specs.Runs as runs
use Rattle.export.specs.Demands.{MirrorLeft, UnitRefused, UnitAnswered, UnitDemand1, UnitDemand2, UnitDemand3After, UnitDemand3, TheUnitDemands}
use Rattle.export.specs.Demands as unit
use Rattle.export.proofs.MirrorLaws.{state_shaped, same_state_lem, mirror_positioned}
use Rattle.export.proofs.CallLaws.{above, no_number}
use Rattle.export.proofs.RunLaws.{no_call, called_as, unit_later, unit_run}

-- ---- demand 1

unit_answered : {image : List ℕ} {state : UnitState} {message : UnitMessage} {lent : List ℕ} {r : UnitPerformed} → UnitPerforms image state message lent r → UnitAnswered image state message lent r
unit_answered (call m e c) = unit.call m e (demand_1.call c.performs) c.mirror
unit_answered (no_such_call e c) = unit.no_such_call e c

every_answered : {image end : List ℕ} {state stop : UnitState} {calls : List UnitCall} {replies : List UnitReply} → UnitRun UnitPerforms image state calls replies end stop
    → UnitRun UnitAnswered image state calls replies end stop
every_answered empty = empty
every_answered (then c rest) = then (unit_answered c) (every_answered rest)

-- the mirror that a refused call leaves
module _ {state next : UnitState} (shape : Arrays state) (mirror : next ≡ remirrored state (state_of next)) where
  mirror_left : {p q : Plain} {m : Message} → StateLeft p q (state_of state) (state_of next) m → MirrorLeft state next (Some m)
  mirror_left (demands.everything _ same) = unit.everything (same_state_lem state shape next mirror same)
  mirror_left (demands.but_position moves to is) =
      let inside : is.j < 8 = named_inside (state_of state) _ is.j is.is_open in
      unit.but_position moves is.j is.u to.to is.is_open is.is_user
      (mirror ∙ ap (remirrored state) is.left
      ∙ mirror_positioned state shape is.j is.u to.to inside
      (omega (arith, (first_at (has_id _) vacant_user (area_at (state_of state) is.j).users is.u is.is_user).inside, (state_shaped state).three is.j inside)))

module _ {image : List ℕ} {state : UnitState} {lent : List ℕ} {r : UnitPerformed} {m : Message} (c : UnitCalled image state m lent r) where
  untouched : {word : ℕ} → Untouched word image (state_of state) lent (performed_of r) → (message : UnitMessage) → UnitRefused image state message lent r
  untouched u message = record {
    bytes = ap (λ (a : Answer). a.bytes) u.answered;
    entries = ap (λ (a : Answer). a.entries) u.answered;
    same_image = u.same_image;
    same_lent = u.same_lent;
    same_mirror = unit.everything (same_state_lem state c.arrays r.state c.mirror u.same_state);
  }

  call_refused : (message : UnitMessage) → asked_of message ≡ Some m → r.answer.result ≢ 0 → Answered image (state_of state) m lent (performed_of r) → UnitRefused image state message lent r
  call_refused message e nz (demands.unknown _ u) = untouched u message
  call_refused message e nz (demands.unsound _ _ u) = untouched u message
  call_refused message e nz (demands.refused _ _ p _ _ l) = record {
    bytes = l.bytes;
    entries = l.entries;
    same_image = l.same_image;
    same_lent = l.same_lent;
    same_mirror = subst (λ (a : Option Message). MirrorLeft state r.state a) (sym e) (mirror_left c.arrays c.mirror l.same_state);
  }
  call_refused message e nz (demands.done _ _ p _ z _) = absurd (nz z)

unit_refused : {image : List ℕ} {state : UnitState} {message : UnitMessage} {lent : List ℕ} {r : UnitPerformed} → UnitPerforms image state message lent r → r.answer.result ≢ 0
    → UnitRefused image state message lent r
unit_refused {message} (call m e c) nz = call_refused c message e nz (demand_1.call c.performs)
unit_refused (no_such_call e c) nz = record {
  bytes = ap (λ (a : UnitAnswer). a.bytes) c.answered;
  entries = ap (λ (a : UnitAnswer). a.entries) c.answered;
  same_image = c.same_image;
  same_lent = c.same_lent;
  same_mirror = unit.everything c.same_mirror;
}

format_refused_lem : {image : List ℕ} {state : UnitState} {bytes : ℕ} {lent : List ℕ} {r : UnitFormatted} → UnitFormats image state bytes lent r → r.result ≢ 0 → (r.image ≡ image) × (r.state ≡ state)
format_refused_lem {image} {state} {bytes} {lent} {r} f nz = go f.formats
  where
    kept : {word : ℕ} → Refused word image (state_of state) r.image (formatted_of r) → (r.image ≡ image) × (r.state ≡ state)
    kept x = (x.same, same_state_lem state f.arrays r.state f.mirror x.kept)

    go : FormatAnswer image (state_of state) bytes lent r.image (formatted_of r) → (r.image ≡ image) × (r.state ≡ state)
    go (not_lent _ x) = kept x
    go (not_allowed _ _ x) = kept x
    go (written _ _ x) = absurd (nz x.word)

answer_same : (a b : UnitAnswer) → answer_of a ≡ answer_of b → a ≡ b
answer_same a b e = λ i. record { result = (e i).result; bytes = (e i).bytes; block = (e i).block.0; entries = (e i).entries }

not_called_is : {image : List ℕ} {state : UnitState} {lent : List ℕ} {r : UnitPerformed} → NotCalled image state lent r → r ≡ unit_performed image state no_such_answer lent
not_called_is c = λ i. record { image = c.same_image i; state = c.same_mirror i; answer = c.answered i; lent = c.same_lent i }

unit_determined : {image : List ℕ} {state : UnitState} {message : UnitMessage} {lent : List ℕ} {r q : UnitPerformed} → UnitPerforms image state message lent r → UnitPerforms image state message lent q → r ≡ q
unit_determined {state} {r} {q} (call m e c) d =
    let x = called_as d e in
    let s = demand_1.determined c.performs x.performs in
    let mirror : r.state ≡ q.state = c.mirror ∙ ap (λ (y : Performed). remirrored state y.state) s ∙ sym x.mirror in
    let same = answer_same r.answer q.answer (ap (λ (y : Performed). y.answer) s) in
    λ i. record { image = (s i).image; state = mirror i; answer = same i; lent = (s i).lent }
unit_determined (no_such_call e c) (call m f d) = no_call f e
unit_determined (no_such_call e c) (no_such_call _ d) = not_called_is c ∙ sym (not_called_is d)

format_determined_lem : {image : List ℕ} {state : UnitState} {bytes : ℕ} {lent : List ℕ} {r q : UnitFormatted} → UnitFormats image state bytes lent r → UnitFormats image state bytes lent q → r ≡ q
format_determined_lem {state} {r} {q} f g =
    let s = demand_1.format_determined f.formats g.formats in
    let mirror : r.state ≡ q.state = f.mirror ∙ ap (λ (x : Formatted). remirrored state x.state) s.1 ∙ sym g.mirror in
    λ i. record { image = s.0 i; state = mirror i; result = (s.1 i).result }

pub unit_demand_1 : UnitDemand1 UnitPerforms UnitFormats
unit_demand_1 = record {
  numbers = λ m. (above m, no_number m.call m);
  call = unit_answered;
  every = every_answered;
  refused = unit_refused;
  format = λ f. (f.formats, f.mirror);
  format_refused = format_refused_lem;
  determined = unit_determined;
  format_determined = format_determined_lem;
}

-- ---- demand 2

-- what a call leaves is as it was, or sound
abbrev Keeps : List ℕ → UnitState → List ℕ → UnitState → Type 0
Keeps image state end stop = ((end ≡ image) × (stop ≡ state)) ⊎ SoundUnit end (state_of stop)

call_keeps : {image : List ℕ} {state : UnitState} {message : UnitMessage} {lent : List ℕ} {r : UnitPerformed} → Words image → Words lent → UnitPerforms image state message lent r
    → Keeps image state r.image r.state
call_keeps {state} {r} i w (call m e c) =
    ⊎_elim (λ x. inl (x.0, same_state_lem state c.arrays r.state c.mirror x.1)) inr (demand_2.written i (state_shaped state) (demands.call w c.performs demands.here))
call_keeps i w (no_such_call e c) = inl (c.same_image, c.same_mirror)

format_keeps : {image : List ℕ} {state : UnitState} {bytes : ℕ} {lent : List ℕ} {r : UnitFormatted} → Words image → Words lent → UnitFormats image state bytes lent r
    → Keeps image state r.image r.state
format_keeps {state} {r} i w f =
    ⊎_elim (λ x. inl (x.0, same_state_lem state f.arrays r.state f.mirror x.1)) inr (demand_2.written i (state_shaped state) (demands.format w f.formats demands.here))

every_later : {image end : List ℕ} {state stop : UnitState} → SoundUnit image (state_of state) → UnitLater UnitPerforms UnitFormats image state end stop → SoundUnit end (state_of stop)
every_later s l = demand_2.later s (unit_later l)

then_keeps : {image mid end : List ℕ} {state between stop : UnitState} → Keeps image state mid between → (mid ≡ image → Keeps mid between end stop) → (SoundUnit mid (state_of between) → SoundUnit end (state_of stop))
    → Keeps image state end stop
then_keeps (inl e) same sound = ⊎_elim (λ x. inl (x.0 ∙ e.0, x.1 ∙ e.1)) inr (same e.0)
then_keeps (inr s) same sound = inr (sound s)

every_written : {image end : List ℕ} {state stop : UnitState} → Words image → UnitLater UnitPerforms UnitFormats image state end stop → Keeps image state end stop
every_written i here = inl (refl, refl)
every_written i (runs.call w c rest) = then_keeps (call_keeps i w c) (λ e. every_written (rw e i) rest) (λ s. every_later s rest)
every_written i (runs.format w f rest) = then_keeps (format_keeps i w f) (λ e. every_written (rw e i) rest) (λ s. every_later s rest)

format_sound : {image : List ℕ} {state : UnitState} {bytes : ℕ} {lent : List ℕ} {r : UnitFormatted} → Words image → Words lent → UnitFormats image state bytes lent r → r.result ≡ 0
    → SoundUnit r.image (state_of r.state) × Known (state_of r.state) (Init r.state.unit)
format_sound {state} i w f z = demand_2.format i w (state_shaped state) f.formats z

pub unit_demand_2 : UnitDemand2 UnitPerforms UnitFormats
unit_demand_2 = record {
  exactly = λ c e k. demand_2.exactly (called_as c e).performs k;
  only = λ c e z. demand_2.only (called_as c e).performs z;
  accepted = λ c e z. demand_2.accepted (called_as c e).performs z;
  format = format_sound;
  later = every_later;
  written = every_written;
}

-- ---- demand 3

unit_holds : {image end : List ℕ} {state stop : UnitState} {calls : List UnitCall} {replies : List UnitReply}
    → SoundUnit image (state_of state) → AcceptedState (state_of state) → runs.UnitLentWords calls → UnitRun UnitPerforms image state calls replies end stop
    → UnitDemand3After image state calls replies end stop
unit_holds sound accepted words r =
    let s = unit_run r in
    record { plain = s.plain; answered = s.answered; stand_for = s.stand_for; holds = demand_3.holds _ _ _ _ _ _ sound accepted (s.words words) s.run }

pub unit_demand_3 : UnitDemand3 UnitPerforms
unit_demand_3 = record {
  holds = unit_holds;
  after_init = λ c e z words r. let s = unit_demand_2.accepted c e z in unit_holds s.2 s.1 words r;
}

pub the_unit_demands : TheUnitDemands
the_unit_demands = record { first = unit_demand_1; second = unit_demand_2; third = unit_demand_3 }
