-- Demand 3: one claim over every list of calls, by induction over the list.
use mathlib.Core.Path.{◌≡◌, refl, sym, ap, ap₂, ◌∙◌}
use mathlib.Core.Bool.{true, not}
use mathlib.Core.List.{List, ◌∷◌}
use mathlib.Core.Logic.{◌≢◌}
use Prim.Native.Nat.{ℕ, ◌≤◌}
use native.Mathlib.Omega.{arith}
use lib.Dec.{T, eqb}
use lib.ListN.{length}
use Rattle.types.specs.declared.State.{State}
use Rattle.types.specs.declared.Message.{Message}
use Rattle.types.specs.declared.Message.TheVariants.{Init, Set, Create, LookUp, Change, Remove, CreateArea, RemoveArea, AreaMessage, UnitDescription, Listing}
use Rattle.types.specs.State.{NoneOpen, UnitKnown}
use Rattle.disc.proofs.Compare.{same_or}
use Rattle.disc.proofs.DecideLaws.{never_true}
use Rattle.disc.specs.Words.{Words}
use Rattle.plain.specs.Unit.{Plain, M, held}
use Rattle.plain.specs.Questions.{replies, known}
use Rattle.plain.specs.Reports.{step_listing, step_description}
use Rattle.plain.specs.Step.{Call, Reply, step, reply, after, answers}
use Rattle.plain.specs.Good.{Good}
use Rattle.plain.specs.Claims.{LentWords}
use Rattle.plain.proofs.Keeps.{step_keeps, good_adds}
use Rattle.plain.proofs.Refuses.{never_shrinks_lem}
use Rattle.plain.proofs.QuestionLaws.{false_no, true_yes, asks_yes, asks_no}
use Rattle.refine.specs.Represents.{Represents}
use Rattle.refine.specs.Demands.{empty, then, Performed, Run, Demand3}
use Rattle.refine.proofs.SoundRepresents.{sound_represents}
use Rattle.refine.proofs.SysStays.{sys_never_shrinks}
use Rattle.map.proofs.CountLaws.{ones_free}
use Rattle.refine.proofs.StateLaws.{same_none}
use Rattle.first_question.specs.Known.{unknown_word, Known}
use Rattle.perform.proofs.ObeyLaws.{known_no, known_yes}
use Rattle.perform.specs.Perform.{Performs, unknown, unsound, obeyed}

-- ---- a refused first question in the plain unit

-- the state of a unit that Init accepted
pub record Standing (image : List ℕ) (state : State) (p : Plain) : Type 0 where
  pub good : Good p
  pub represents : Represents image state p
  pub low : state.unit ≤ 3
  pub initialized : state.initialized ≡ true

module _ {image : List ℕ} {state : State} {p : Plain} (s : Standing image state p) where
  -- another unit
  other : (unit : ℕ) → unit ≢ state.unit → T (not (known p unit))
  other unit d = false_no (known_no p unit (λ e. d (e ∙ sym s.represents.areas.number)))

  -- no area process in the plain unit, none in the state
  no_area : eqb (length p.areas) 0 ≡ true → NoneOpen state
  no_area e = (same_none _ _ s.represents.areas s.good.area_names).1 (lib.Dec.eqb→eq (length p.areas) 0 (rw e tt))

  -- the unit that is meant is known
  mine : {unit : ℕ} → unit ≡ state.unit → UnitKnown state unit
  mine e = record { number = e; low = s.low }

  init_refused : (unit : ℕ) (lent : List ℕ) → (Known state (Init unit) → ⊥) → step p (Init unit) lent ≡ replies p 0x1200 lent
  init_refused unit lent unmet = same_or unit state.unit
      (λ e.
      asks_yes _ _ _ (true_yes (known_yes s.good s.represents (mine e)))
      ∙ asks_no _ _ _ (false_no (never_true (eqb (length p.areas) 0) (λ q. unmet (record { unit = mine e; ready = no_area q })))))
      (λ d. asks_no _ _ _ (other unit d))

  -- every message: what the first no of the one call leaves is the plain unit's reply
  pub unknown_step : (message : Message) (lent : List ℕ) → (Known state message → ⊥) → step p message lent ≡ replies p (unknown_word message) lent
  unfolding step_listing step_description
  unknown_step (Init unit) lent unmet = init_refused unit lent unmet
  unknown_step (Set name) lent unmet = asks_no _ _ _ (other _ (λ e. unmet (record { unit = mine e; ready = s.initialized })))
  unknown_step (Create name size attributes) lent unmet = asks_no _ _ _ (other _ (λ e. unmet (record { unit = mine e; ready = s.initialized })))
  unknown_step (LookUp name) lent unmet = asks_no _ _ _ (other _ (λ e. unmet (record { unit = mine e; ready = s.initialized })))
  unknown_step (Change name) lent unmet = asks_no _ _ _ (other _ (λ e. unmet (record { unit = mine e; ready = s.initialized })))
  unknown_step (Remove name) lent unmet = asks_no _ _ _ (other _ (λ e. unmet (record { unit = mine e; ready = s.initialized })))
  unknown_step (CreateArea name) lent unmet = asks_no _ _ _ (other _ (λ e. unmet (record { unit = mine e; ready = s.initialized })))
  unknown_step (RemoveArea name) lent unmet = asks_no _ _ _ (other _ (λ e. unmet (record { unit = mine e; ready = s.initialized })))
  unknown_step (AreaMessage name sender operation) lent unmet = asks_no _ _ _ (other _ (λ e. unmet (record { unit = mine e; ready = s.initialized })))
  unknown_step (UnitDescription unit bytes) lent unmet = asks_no _ _ _ (other _ (λ e. unmet (record { unit = mine e; ready = s.initialized })))
  unknown_step (Listing unit) lent unmet = asks_no _ _ _ (other _ (λ e. unmet (record { unit = mine e; ready = s.initialized })))

-- ---- one call

pub one_call : {image : List ℕ} {state : State} {p : Plain} {message : Message} {lent : List ℕ} {r : Performed} → Standing image state p → Words lent → Performs image state message lent r
    → (record { answer = r.answer; lent = r.lent } ≡ reply (step p message lent)) × Standing r.image r.state (step p message lent).unit
one_call {image} {state} {p} {message} {lent} {r} s w (unknown unmet u) =
    let e = unknown_step s message lent unmet in
    (rw (u.answered, u.same_lent) (sym (ap reply e)), rw (u.same_image, u.same_state, e) s)
one_call {image} {state} {p} {message} {lent} {r} s w (unsound known unmet u) = absurd (unmet (sound_represents.sound image state p s.good s.represents))
one_call {image} {state} {p} {message} {lent} {r} s w (obeyed known sound f) =
    let o = f p s.good s.represents in (
      o.same,
      record {
        good = step_keeps p message lent s.good w;
        represents = o.represents;
        low = omega (arith, o.number, s.low);
        initialized = o.initialized;
      },
    )

-- ---- every list

pub every_list : {image end : List ℕ} {state stop : State} {p : Plain} {calls : List Call} {replies : List Reply} → Standing image state p → LentWords calls
    → Run Performs image state calls replies end stop → (replies ≡ answers p calls) × Standing end stop (after p calls)
every_list s w empty = (refl, s)
every_list s w (then c rest) =
    let one = one_call s w.0 c in
    let more = every_list one.1 w.1 rest in
    (ap₂ (λ (r : Reply) (l : List Reply). r ∷ l) one.0 more.0, more.1)

pub demand_3 : Demand3 Performs
demand_3 = record {
  holds = λ image end state stop calls replies sound accepted words run.
      let x = sound_represents.reads image state sound in
      let p : Plain = x.0 in
      let s : Standing image state p = record { good = x.1; represents = x.2; low = accepted.known.low; initialized = accepted.initialized } in
      let l = every_list s words run in
      let q : Plain = after p calls in
      let adds = good_adds q l.1.good in
      let r = l.1.represents in
      record {
        start = p;
        good = x.1;
        read = x.2;
        only = λ other g o. sound_represents.unique image state p other x.1 g x.2 o;
        sum = omega (arith, ones_free (M q) (held q) end l.1.good.limits.slices_high r.layout.map r.words, adds.sum);
        once = adds.once;
        same = l.0;
        represented = r;
        good_after = l.1.good;
        sys_stays = sys_never_shrinks x.1 x.2 l.1.good r (never_shrinks_lem calls p);
      };
}
