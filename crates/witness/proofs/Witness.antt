-- A run of the one call from what Format and Init leave on a disc of 20 sectors, with its answers.
use mathlib.Core.Path.{◌≡◌, refl, sym, ap, ◌∙◌}
use mathlib.Core.List.{List, []}
use Prim.Native.Nat.{ℕ, ◌*◌, ◌<◌}
use native.Mathlib.Omega.{arith}
use lib.ListN.{length, replicate}
use Rattle.types.specs.declared.State.{State}
use Rattle.types.specs.declared.Message.TheVariants.{Init}
use Rattle.types.specs.State.{fresh_state}
use Rattle.disc.specs.Words.{Words}
use Rattle.disc.proofs.WordLaws.{words_none, words_replicate}
use Rattle.words.specs.Store.{zero_words}
use Rattle.words.proofs.StoreLaws.{length-zero_words, words-zero_words}
use Rattle.disc.specs.Slices.{lowest_one}
use Rattle.disc.specs.OneStretch.{lowest_stretch, taken_for_file}
use Rattle.plain.specs.Unit.{Plain, entry}
use Rattle.plain.specs.Questions.{asks, given, either}
use Rattle.plain.specs.Catalog.{new_file}
use Rattle.plain.specs.Areas.{step_reserve, step_release, positioned}
use Rattle.plain.specs.Transput.{input, append, output, step_transput}
use Rattle.plain.specs.Step.{Call, Reply, answers, user_step, operation_step}
use Rattle.plain.specs.Claims.{LentWords}
use Rattle.examples.specs.Cases.{calls_of, answers_in, Shows}
use Rattle.examples.specs.Paper.{paper_unit}
use Rattle.sound.specs.Sound.{SoundUnit}
use Rattle.refine.specs.Demands.{Contract, Run, empty, then}
use Rattle.first_question.specs.Known.{Known}
use Rattle.format.specs.Format.{FormatAnswer}
use Rattle.perform.specs.Perform.{Performs}
use Rattle.demands.specs.FormatContract.{FormatContract}
use Rattle.demands.specs.Demands.{Later, here, call, format}
use Rattle.demands.proofs.Demands.{the_demands}
use Rattle.witness.specs.Witness.{witness_cases, Witness, Met}
use Rattle.witness.proofs.Begin.{known, record_words_lem, begun, begun_unit}
use Rattle.witness.proofs.Total.{no_unit, not_sound, total}

-- ---- on the plain unit, by computation

shows : Shows paper_unit witness_cases
unfolding lowest_one lowest_stretch taken_for_file entry asks given either new_file step_reserve step_release positioned input append output step_transput user_step operation_step
shows = refl

-- ---- the list

lent_words_lem : LentWords (calls_of witness_cases)
lent_words_lem =
    (words_none, (words_none, (words_none, (sector 1 (omega arith), (sector 2 (omega arith), (sector 3 (omega arith), (words_none, (words_none, (words_none, (words_none, tt))))))))))
  where
    sector : (w : ℕ) → w < 65536 → Words (replicate 256 w)
    sector w h = words_replicate 256 w h

run_later : {C : Contract} {F : FormatContract} {image end : List ℕ} {state stop : State} {calls : List Call} {replies : List Reply} → LentWords calls → Run C image state calls replies end stop
    → Later C F image state end stop
run_later w empty = here
run_later w (then c rest) = call w.0 c (run_later w.1 rest)

-- ---- a disc

module _ (disc : List ℕ) (words : Words disc) (size : length disc ≡ 5120) where
  witness : Witness Performs FormatAnswer disc
  witness =
      let b = begun disc words size in
      let u = begun_unit disc words size in
      let r = total.list b.init.image b.init.state (calls_of witness_cases) b.sound lent_words_lem in
      let d = the_demands.after_init.holds b.inits b.init_done lent_words_lem r.run in
      record {
        begun = b;
        words = lent_words_lem;
        ran = r;
        answered = ap answers_in d.same ∙ ap (λ (p : Plain). answers_in (answers p (calls_of witness_cases))) (sym (d.only paper_unit u.0 u.1)) ∙ shows;
        later = format record_words_lem b.formats (call words_none b.inits (run_later lent_words_lem r.run));
      }

-- ---- the first two questions answered no

another_unit : Known (fresh_state 0) (Init 1) → ⊥
another_unit k = omega (arith, k.unit.number)

no_words : SoundUnit [] (fresh_state 0) → ⊥
no_words s = omega (arith, s.rules.size, s.rules.limits.some_data)

pub met : Met Performs FormatAnswer
unfolding no_unit not_sound
met = record {
  discs = witness;
  zeros = witness (zero_words (256 * 20)) (words-zero_words (256 * 20)) (length-zero_words (256 * 20));
  another = no_unit [] (fresh_state 0) (Init 1) [] another_unit;
  another_word = refl;
  unsound = not_sound [] (fresh_state 0) (Init 0) [] known no_words;
  unsound_word = refl;
}
