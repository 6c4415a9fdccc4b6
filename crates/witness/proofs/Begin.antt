-- Format and Init of a disc of 20 sectors.
use mathlib.Core.Path.{◌≡◌, refl, sym, ap, ◌∙◌, subst}
use mathlib.Core.List.{List, []}
use Prim.Native.Nat.{ℕ, ◌<◌}
use native.Mathlib.Omega.{arith}
use lib.ListN.{length, get_or-replicate}
use Rattle.types.specs.declared.Area.{Area}
use Rattle.types.specs.declared.Message.TheVariants.{Init}
use Rattle.types.specs.State.{fresh_state, vacant_area, past_area, area_at, is_open}
use Rattle.disc.specs.Words.{Words}
use Rattle.disc.specs.Kit.{Limits}
use Rattle.disc.proofs.DecideLaws.{true≢false}
use Rattle.disc.proofs.WordLaws.{words_cons, words_replicate}
use Rattle.state.specs.Areas.{initialized}
use Rattle.plain.specs.Questions.{Outcome, answer}
use Rattle.plain.specs.Good.{Good}
use Rattle.examples.specs.Paper.{paper_unit}
use Rattle.sound.specs.State.{Shaped}
use Rattle.sound.specs.Sound.{SoundUnit}
use Rattle.refine.specs.Represents.{Represents}
use Rattle.first_question.specs.Known.{Known}
use Rattle.format.specs.Format.{Formattable, formatted_by, uninitialized, Formatted, FormatAnswer, written}
use Rattle.format.proofs.FormatUnit.{format_unit, format_sound}
use Rattle.perform.specs.Perform.{performed, Performs, obeyed}
use Rattle.perform.proofs.ObeyLaws.{init_done_lem, init_obeyed}
use Rattle.demands.proofs.Demands.{demand_2}
use Rattle.demands.specs.Paper.{paper_record}
use Rattle.witness.specs.Witness.{Begun}

-- ---- the record and the fresh state

limits : Limits 1 2 10 20
limits = record { keys_low = omega arith; keys_high = omega arith; slice_low = omega arith; slice_high = omega arith; first = omega arith; some_data = omega arith; sectors = omega arith; whole = refl; slices_high = omega arith; slices_low = omega arith }

vacant : (j : ℕ) → j < 8 → area_at (fresh_state 0) j ≡ vacant_area
vacant j h = get_or-replicate 8 j vacant_area past_area h

pub known : Known (fresh_state 0) (Init 0)
known = record { unit = record { number = refl; low = omega arith }; ready = λ j h o. true≢false (sym o ∙ ap is_open (vacant j h)) }

shaped : Shaped (fresh_state 0)
shaped = record { eight = refl; three = λ j h. ap (λ (a : Area). length a.users) (vacant j h) }

pub record_words_lem : Words (paper_record 0 0)
record_words_lem =
    words_cons 0 _ (omega arith) (words_cons 1 _ (omega arith) (words_cons 2 _ (omega arith) (words_cons 20 _ (omega arith) (words_cons 10 _ (omega arith)
    (words_cons 10 _ (omega arith) (words_cons 20 _ (omega arith) (words_replicate 2 0 (omega arith))))))))

module _ (disc : List ℕ) (words : Words disc) (size : length disc ≡ 5120) where
  formattable : Formattable disc (fresh_state 0) (paper_record 0 0)
  formattable = record { known = known; limits = limits; free = refl; top = refl; size = size }

  abbrev image : List ℕ
  image = formatted_by disc (paper_record 0 0)

  abbrev left : Formatted
  left = record { result = 0; state = uninitialized (fresh_state 0) }

  formats : FormatAnswer disc (fresh_state 0) 18 (paper_record 0 0) image left
  formats = written (record { count = refl; words = omega arith }) formattable (record { word = refl; whole = refl; left = refl })

  sound : SoundUnit image left.state
  sound = format_sound words record_words_lem shaped formats refl

  inits : Performs image left.state (Init 0) [] (performed image (initialized left.state) (answer 0 0 0 0) [])
  inits = obeyed known sound (λ p g r. init_obeyed g r known)

  pub begun : Begun Performs FormatAnswer disc
  begun =
      let a = demand_2.accepted inits refl in
      record {
        formatted = image;
        format = left;
        formats = formats;
        format_done = refl;
        init = performed image (initialized left.state) (answer 0 0 0 0) [];
        inits = inits;
        init_done = refl;
        sound = a.2;
        accepted = a.1;
      }

  -- image and state represent the unit that was worked on paper
  pub begun_unit : Good paper_unit × Represents begun.init.image begun.init.state paper_unit
  unfolding begun
  begun_unit =
      let u = format_unit words record_words_lem shaped formats refl in
      (u.0, subst (Represents image (initialized left.state)) (ap (λ (o : Outcome). o.unit) (init_done_lem u.0 u.1 [] known)) (init_obeyed u.0 u.1 known).represents)
