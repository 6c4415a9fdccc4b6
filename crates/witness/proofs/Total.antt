-- Every call on a sound unit has a result, by the contract of the one call; so every list of calls has a run.
use mathlib.Core.Path.{◌≡◌, refl, sym, subst}
use mathlib.Core.List.{List, [], ◌∷◌}
use Prim.Native.Nat.{ℕ}
use Rattle.types.specs.declared.State.{State}
use Rattle.types.specs.declared.Message.{Message}
use Rattle.types.specs.declared.Message.TheVariants.{Init, Set, Create, LookUp, Change, Remove, CreateArea, RemoveArea, AreaMessage, UnitDescription, Listing}
use Rattle.disc.specs.Words.{Words}
use Rattle.plain.specs.Unit.{Plain}
use Rattle.plain.specs.Questions.{Outcome, answer}
use Rattle.plain.specs.Reports.{step_listing, step_description}
use Rattle.plain.specs.Step.{Call, step}
use Rattle.plain.specs.Good.{Good}
use Rattle.plain.specs.Claims.{LentWords}
use Rattle.plain.proofs.QuestionLaws.{asks_law, given_law}
use Rattle.sound.specs.Sound.{SoundUnit}
use Rattle.refine.specs.Represents.{Represents}
use Rattle.refine.specs.Demands.{Performed, empty, then}
use Rattle.refine.proofs.SoundRepresents.{sound_represents}
use Rattle.preservation.proofs.Whole.{on_disc}
use Rattle.first_question.specs.Known.{unknown_word, unsound_word, Known}
use Rattle.format.specs.Format.{FormatAnswer}
use Rattle.perform.specs.Perform.{performed, Obeyed, Performs, unknown, unsound, obeyed}
use Rattle.perform.proofs.ObeyLaws.{meant, stays, create_by, set_by, remove_by_lem, change_by, create_area_by, remove_area_by, area_message_obeyed, init_obeyed}
use Rattle.demands.specs.Demands.{here, call}
use Rattle.demands.proofs.Demands.{demand_2}
use Rattle.witness.specs.Total.{ResultOf, RunOf, Total}
use Rattle.witness.proofs.Known.{known_or}
use Rattle.witness.proofs.Files.{create_ends, set_ends, remove_ends}
use Rattle.witness.proofs.Change.{change_ends}
use Rattle.witness.proofs.Areas.{create_area_ends, remove_area_ends}
use Rattle.witness.proofs.AreaMessages.{numbers_of, message_some}
use Rattle.witness.proofs.Formats.{some_format}

-- ---- the messages that leave the unit

module _ (p : Plain) (lent : List ℕ) where
  -- an outcome whose unit is p
  abbrev Left : Outcome → Type 0
  Left o = o ≡ record { unit = p; answer = o.answer; lent = o.lent }

  look_up_left : (name : _) → Left (step p (LookUp name) lent)
  look_up_left name = asks_law Left _ refl (λ _. given_law Left _ refl (λ e _. asks_law Left _ refl (λ _. refl)))

  description_left : (unit bytes : ℕ) → Left (step p (UnitDescription unit bytes) lent)
  unfolding step_description
  description_left unit bytes = asks_law Left _ refl (λ _. asks_law Left _ refl (λ _. asks_law Left _ refl (λ _. refl)))

  listing_left : (unit : ℕ) → Left (step p (Listing unit) lent)
  unfolding step_listing
  listing_left unit = asks_law Left _ refl (λ _. asks_law Left _ refl (λ _. refl))

-- ---- a known unit that image and state represent

module _ {image : List ℕ} {state : State} {p : Plain} (g : Good p) (r : Represents image state p) {lent : List ℕ} (w : Words lent) where
  obeys : (message : Message) → Known state message → (x : Performed) × Obeyed p image state message lent x
  obeys (Init unit) k = (_, init_obeyed g r k)
  obeys (Set name) k = let e = set_ends (on_disc g r) name lent in (_, set_by g r w k (record { step = e.step tt }))
  obeys (Create name size attributes) k = let e = create_ends (on_disc g r) name size attributes in (_, create_by g r k (record { step = e.step }))
  obeys (LookUp name) k = (_, stays g r (LookUp name) lent k.ready (look_up_left p lent name) (refl, refl))
  obeys (Change name) k = let e = change_ends (on_disc g r) name lent w in (_, change_by g r w k (record { step = e.step tt }))
  obeys (Remove name) k = let e = remove_ends (on_disc g r) name in (_, remove_by_lem g r k (record { step = e.step }))
  obeys (CreateArea name) k = let e = create_area_ends g r name in (_, create_area_by g r k (record { step = e.step }))
  obeys (RemoveArea name) k = let e = remove_area_ends g r name in (_, remove_area_by g r k (record { step = e.step }))
  obeys (AreaMessage name sender operation) k =
      let e = message_some name (record { standing = record { unit = p; good = g; represents = r; numbers = numbers_of p }; meant = meant g r k }) sender operation lent w in
      (_, area_message_obeyed g r (numbers_of p) k e.holds)
  obeys (UnitDescription unit bytes) k = (_, stays g r (UnitDescription unit bytes) lent k.ready (description_left p lent unit bytes) (refl, refl))
  obeys (Listing unit) k = (_, stays g r (Listing unit) lent k.ready (listing_left p lent unit) (refl, refl))

-- ---- the one call

module _ (image : List ℕ) (state : State) (message : Message) (lent : List ℕ) where
  -- nothing changes
  unfoldable pub no_unit : (Known state message → ⊥) → ResultOf Performs image state message lent
  no_unit n = record {
    result = performed image state (answer (unknown_word message) 0 0 0) lent;
    given = unknown n (record { answered = refl; same_image = refl; same_state = refl; same_lent = refl });
  }

  unfoldable pub not_sound : Known state message → (SoundUnit image state → ⊥) → ResultOf Performs image state message lent
  not_sound k n = record {
    result = performed image state (answer (unsound_word message) 0 0 0) lent;
    given = unsound k n (record { answered = refl; same_image = refl; same_state = refl; same_lent = refl });
  }

  -- the unit that is obeyed is the only one
  known_sound : SoundUnit image state → Words lent → Known state message → ResultOf Performs image state message lent
  known_sound s w k =
      let x = sound_represents.reads image state s in
      let o = obeys x.1 x.2 w message k in
      record {
        result = o.0;
        given = obeyed k s (λ q g r. subst (λ (u : Plain). Obeyed u image state message lent o.0) (sym (sound_represents.unique image state x.0 q x.1 g x.2 r)) o.1);
      }

  some_result : SoundUnit image state → Words lent → ResultOf Performs image state message lent
  some_result s w = known_or state message (known_sound s w) no_unit

  some_always : Words lent → (ResultOf Performs image state message lent → ⊥) → ⊥
  some_always w h = h (no_unit (λ k. h (not_sound k (λ s. h (known_sound s w k)))))

some_run : (image : List ℕ) (state : State) (calls : List Call) → SoundUnit image state → LentWords calls → RunOf Performs image state calls
some_run image state [] s w = record { replies = []; end = image; stop = state; run = empty }
some_run image state (c ∷ calls) s w =
    let one = some_result image state c.message c.lent s w.0 in
    let rest = some_run one.result.image one.result.state calls (demand_2.later s (call w.0 one.given here)) w.1 in
    record { replies = _; end = rest.end; stop = rest.stop; run = then one.given rest.run }

pub total : Total Performs FormatAnswer
total = record { call = some_result; list = some_run; always = some_always; format = λ image state bytes lent. some_format image state lent bytes }
