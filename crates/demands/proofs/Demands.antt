-- The letter's three demands, proved of the contracts of `perform::perform` and `format::format`.
use mathlib.Core.Path.{◌≡◌, refl, ap, ◌∙◌, subst}
use mathlib.Core.List.{List}
use mathlib.Core.Logic.{◌≢◌, ◌⊎◌, inl, inr, ⊎_elim, ◌↔◌}
use Prim.Native.Nat.{ℕ}
use native.Mathlib.Omega.{arith}
use Rattle.types.specs.declared.Answer.{Answer}
use Rattle.types.specs.declared.State.{State}
use Rattle.types.specs.declared.Message.{Message}
use Rattle.types.specs.declared.Message.TheVariants.{Init}
use Rattle.disc.specs.Words.{Words}
use Rattle.disc.proofs.Compare.{same_or}
use Rattle.plain.specs.Unit.{Plain}
use Rattle.plain.specs.Questions.{Outcome}
use Rattle.plain.specs.Step.{Reply, reply}
use Rattle.plain.proofs.Keeps.{step_keeps}
use Rattle.sound.specs.State.{Shaped}
use Rattle.sound.specs.Sound.{SoundUnit}
use Rattle.refine.specs.Represents.{Represents}
use Rattle.refine.specs.Demands.{Performed, AcceptedState, Demand3}
use Rattle.refine.proofs.SoundRepresents.{sound_represents, represents_sound}
use Rattle.first_question.specs.Known.{Known}
use Rattle.format.specs.Format.{Formatted, FormatAnswer, not_lent, not_allowed, written}
use Rattle.format.proofs.FormatUnit.{format_sound}
use Rattle.perform.specs.Perform.{Performs, unknown, unsound, obeyed}
use Rattle.perform.proofs.ObeyLaws.{init_done_lem}
use Rattle.perform.proofs.Demand3 as perform
use Rattle.demands.specs.Demands.{ReadFrom, Answered, Demand1, Later, here, Demand2, AfterInit, TheDemands}
use Rattle.demands.specs.Demands as demands
use Rattle.demands.proofs.Refused.{refused_later}
use Rattle.demands.proofs.Determined.{determined}
use Rattle.demands.proofs.Reserved.{format_determined_lem, reserved_sectors}
use Rattle.demands.proofs.Slack.{slack_kept}
use Rattle.demands.proofs.Whole.{written_whole}
use Rattle.demands.proofs.Listing.{listed_by_name}

-- ---- demand 1

pub demand_1 : Demand1 Performs FormatAnswer
demand_1 = record { call = answered; format = λ f. f; determined = determined; format_determined = format_determined_lem }
  where
    answered : {image : List ℕ} {state : State} {message : Message} {lent : List ℕ} {r : Performed} → Performs image state message lent r → Answered image state message lent r
    answered (unknown other u) = demands.unknown other u
    answered (unsound k other u) = demands.unsound k other u
    answered {image} {state} {message} {lent} {r} (obeyed k s all) =
        let x = sound_represents.reads image state s in
        let read : ReadFrom image state x.0 = record { good = x.1; represents = x.2; only = λ other g o. sound_represents.unique image state x.0 other x.1 g x.2 o } in
        let o = all x.0 x.1 x.2 in
        same_or r.answer.result 0 (λ z. demands.done k s x.0 read z o) (λ nz. demands.refused k s x.0 read nz (refused_later x.1 x.2 message k o nz))

-- ---- demand 2

module _ {image : List ℕ} {state : State} {unit : ℕ} {lent : List ℕ} where
  init_exactly : {r : Performed} → Performs image state (Init unit) lent r → Known state (Init unit) → (r.answer.result ≡ 0) ↔ SoundUnit image state
  init_exactly (unknown other u) k = absurd (other k)
  init_exactly (unsound _ other u) k = (λ z. absurd (let e = ap (λ (a : Answer). a.result) u.answered in omega arith), λ s. absurd (other s))
  init_exactly (obeyed _ s all) k = (
    λ z. s,
    λ _. let x = sound_represents.reads image state s in
        ap (λ (a : Reply). a.answer.result) ((all x.0 x.1 x.2).same ∙ ap reply (init_done_lem x.1 x.2 lent k)),
  )

  init_only : {r : Performed} → Performs image state (Init unit) lent r → r.answer.result ≡ 0 → Known state (Init unit)
  init_only (unknown other u) z = absurd (let e = ap (λ (a : Answer). a.result) u.answered in omega arith)
  init_only (unsound k other u) z = k
  init_only (obeyed k s all) z = k

  init_refused : {r : Performed} → Performs image state (Init unit) lent r → r.answer.result ≢ 0 → (r.image ≡ image) × (r.state ≡ state) × (r.lent ≡ lent)
  init_refused (unknown _ u) nz = (u.same_image, u.same_state, u.same_lent)
  init_refused (unsound _ _ u) nz = (u.same_image, u.same_state, u.same_lent)
  init_refused (obeyed k s all) nz = absurd (nz ((init_exactly (obeyed k s all) k).1 s))

  init_accepted : {r : Performed} → Performs image state (Init unit) lent r → r.answer.result ≡ 0 → (r.image ≡ image) × AcceptedState r.state × SoundUnit r.image r.state
  init_accepted (unknown other u) z = absurd (let e = ap (λ (a : Answer). a.result) u.answered in omega arith)
  init_accepted (unsound k other u) z = absurd (let e = ap (λ (a : Answer). a.result) u.answered in omega arith)
  init_accepted {r} (obeyed k s all) z =
      let x = sound_represents.reads image state s in
      let o = all x.0 x.1 x.2 in
      let stands = ap (λ (y : Outcome). y.unit) (init_done_lem x.1 x.2 lent k) in (
        o.wrote.0,
        rw o.wrote.1 (record { known = record { number = refl; low = k.unit.low }; initialized = refl; closed = k.ready }),
        represents_sound x.1 (subst (λ (q : Plain). Represents r.image r.state q) stands o.represents),
      )

-- what a call leaves is as it was, or sound
abbrev Keeps : List ℕ → State → List ℕ → State → Type 0
Keeps image state end stop = ((end ≡ image) × (stop ≡ state)) ⊎ SoundUnit end stop

call_keeps : {image : List ℕ} {state : State} {message : Message} {lent : List ℕ} {r : Performed} → Words lent → Performs image state message lent r → Keeps image state r.image r.state
call_keeps w (unknown other u) = inl (u.same_image, u.same_state)
call_keeps w (unsound k other u) = inl (u.same_image, u.same_state)
call_keeps {image} {state} {message} {lent} w (obeyed k s all) =
    let x = sound_represents.reads image state s in
    inr (represents_sound (step_keeps x.0 message lent x.1 w) (all x.0 x.1 x.2).represents)

format_keeps : {image : List ℕ} {state : State} {bytes : ℕ} {lent after : List ℕ} {r : Formatted} → Words image → Shaped state → Words lent → FormatAnswer image state bytes lent after r
    → Keeps image state after r.state
format_keeps i h w (not_lent other f) = inl (f.same, f.kept)
format_keeps i h w (not_allowed l other f) = inl (f.same, f.kept)
format_keeps i h w (written l f x) = inr (format_sound i w h (written l f x) x.word)

format_known : {image : List ℕ} {state : State} {bytes : ℕ} {lent after : List ℕ} {r : Formatted} → FormatAnswer image state bytes lent after r → r.result ≡ 0 → Known r.state (Init r.state.unit)
format_known (not_lent other f) z = absurd (omega (arith, f.word))
format_known (not_allowed l other f) z = absurd (omega (arith, f.word))
format_known (written l f x) z = rw x.left (record { unit = record { number = refl; low = f.known.unit.low }; ready = f.known.ready })

sound_then : {image end : List ℕ} {state stop : State} → SoundUnit image state → Keeps image state end stop → SoundUnit end stop
sound_then s (inl e) = rw (e.0, e.1) s
sound_then s (inr t) = t

every_later : {image end : List ℕ} {state stop : State} → SoundUnit image state → Later Performs FormatAnswer image state end stop → SoundUnit end stop
every_later s here = s
every_later s (demands.call w c rest) = every_later (sound_then s (call_keeps w c)) rest
every_later s (demands.format w f rest) = every_later (sound_then s (format_keeps s.rules.words s.rules.shaped w f)) rest

then_keeps : {image mid end : List ℕ} {state between stop : State} → Keeps image state mid between → (mid ≡ image → between ≡ state → Keeps mid between end stop) → (SoundUnit mid between → SoundUnit end stop)
    → Keeps image state end stop
then_keeps (inl e) same sound = ⊎_elim (λ x. inl (x.0 ∙ e.0, x.1 ∙ e.1)) inr (same e.0 e.1)
then_keeps (inr s) same sound = inr (sound s)

every_written : {image end : List ℕ} {state stop : State} → Words image → Shaped state → Later Performs FormatAnswer image state end stop → Keeps image state end stop
every_written i h here = inl (refl, refl)
every_written i h (demands.call w c rest) = then_keeps (call_keeps w c) (λ e f. every_written (rw e i) (rw f h) rest) (λ s. every_later s rest)
every_written i h (demands.format w c rest) = then_keeps (format_keeps i h w c) (λ e f. every_written (rw e i) (rw f h) rest) (λ s. every_later s rest)

pub demand_2 : Demand2 Performs FormatAnswer
demand_2 = record {
  exactly = init_exactly;
  only = init_only;
  refused = init_refused;
  accepted = init_accepted;
  format = λ w l h f z. (format_sound w l h f z, format_known f z);
  later = every_later;
  written = every_written;
}

-- ---- demand 3

pub demand_3 : Demand3 Performs
demand_3 = perform.demand_3

after_init_lem : AfterInit Performs
after_init_lem = record {
  holds = λ c z words run. let s = init_accepted c z in demand_3.holds _ _ _ _ _ _ s.2 s.1 words run;
}

pub the_demands : TheDemands
the_demands = record {
  first = demand_1;
  second = demand_2;
  third = demand_3;
  after_init = after_init_lem;
  reserved = reserved_sectors;
  slack = slack_kept;
  whole = written_whole;
  listing = listed_by_name;
}
