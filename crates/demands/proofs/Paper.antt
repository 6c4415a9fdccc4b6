-- The cases worked on paper, on the image: Format and Init accept, and from there on every list of calls is that of `paper_unit`.
use mathlib.Core.Path.{◌≡◌, refl, sym, ap, ◌∙◌, subst}
use mathlib.Core.List.{List, [], ◌∷◌}
use mathlib.Core.Option.{Option, none, some}
use Prim.Native.Nat.{ℕ}
use native.Mathlib.Omega.{arith}
use lib.ListN.{length, get_or}
use Rattle.types.specs.declared.State.{State}
use Rattle.types.specs.declared.Message.TheVariants.{Init}
use Rattle.disc.specs.Words.{word, Holds}
use Rattle.disc.specs.Stretches.{index_words, sector_in}
use Rattle.disc.specs.Kit.{kit_sector, map_sector}
use Rattle.disc.specs.Map.{map_word}
use Rattle.disc.specs.Names.{named}
use Rattle.disc.proofs.WordLaws.{words_none, words_replicate}
use Rattle.disc.specs.Slices.{lowest_one}
use Rattle.disc.specs.OneStretch.{lowest_stretch, taken_for_file}
use Rattle.plain.specs.Table.{table_find}
use Rattle.plain.specs.Unit.{Plain, File, M, held, entry}
use Rattle.plain.specs.Questions.{Outcome, asks, given, either}
use Rattle.plain.specs.Catalog.{new_file}
use Rattle.plain.specs.Areas.{step_reserve, step_release, positioned}
use Rattle.plain.specs.Transput.{input, append, output, step_transput}
use Rattle.plain.specs.Step.{Call, Reply, user_step, operation_step, after, answers}
use Rattle.plain.specs.Good.{Good}
use Rattle.plain.specs.Claims.{LentWords}
use Rattle.examples.specs.Cases.{calls_of, answers_in}
use Rattle.examples.specs.Paper.{paper_unit, pass, slices_in, pass_slices, looked_up, six_calls, seven_calls, eight_calls, sixth, seventh}
use Rattle.examples.proofs.Paper.{paper}
use Rattle.refine.specs.Represents.{Represents}
use Rattle.refine.proofs.Format.{format_paper}
use Rattle.first_question.specs.Known.{Known}
use Rattle.format.specs.Format.{Formattable, Written, FormatAnswer, not_lent, not_allowed, written}
use Rattle.format.proofs.FormatUnit.{format_unit}
use Rattle.perform.specs.Perform.{Performs, unknown, unsound, obeyed}
use Rattle.perform.proofs.ObeyLaws.{init_done_lem}
use Rattle.perform.proofs.Demand3.{Standing, one_call, every_list}
use Rattle.demands.specs.Paper.{paper_record, FromFormat, LookUpGives, PaperOnImage}
use Rattle.demands.proofs.MapWords.{words_of-map}
use Rattle.demands.proofs.Demands.{demand_2}

-- ---- Format and Init

module _ {calls : List Call} {replies : List Reply} {fresh end : List ℕ} {stop : State} (b : FromFormat calls replies fresh end stop) where
  abbrev lent : List ℕ
  lent = paper_record b.k6 b.k7

  allowed : Formattable b.image b.state lent
  allowed = record {
    known = record { unit = record { number = sym b.unit; low = omega (arith, b.unit) }; ready = b.closed };
    limits = record {
      keys_low = omega arith;
      keys_high = omega arith;
      slice_low = omega arith;
      slice_high = omega arith;
      first = omega arith;
      some_data = omega arith;
      sectors = omega arith;
      whole = refl;
      slices_high = omega arith;
      slices_low = omega arith;
    };
    free = refl;
    top = refl;
    size = b.size;
  }

  wrote : Written b.image b.state lent fresh b.formatted
  wrote = go b.format
    where
      go : FormatAnswer b.image b.state 18 lent fresh b.formatted → Written b.image b.state lent fresh b.formatted
      go (not_lent other _) = absurd (other (record { count = refl; words = omega arith }))
      go (not_allowed _ other _) = absurd (other allowed)
      go (written _ _ w) = w

  -- what Format leaves is the unit of the paper
  fresh_unit_lem : Good paper_unit × Represents fresh b.formatted.state paper_unit
  fresh_unit_lem = rw b.unit at (format_unit b.words b.record_words b.shaped b.format wrote.word)

  init_known : Known b.formatted.state (Init 0)
  init_known = rw wrote.left (record { unit = record { number = sym b.unit; low = omega (arith, b.unit) }; ready = b.closed })

  -- and Init accepts it
  init_zero : b.accepted.answer.result ≡ 0
  init_zero =
      let sound = (demand_2.format b.words b.record_words b.shaped b.format wrote.word).0 in
      (demand_2.exactly b.init init_known).1 sound

  begins : Standing b.accepted.image b.accepted.state paper_unit
  begins =
      let a = (demand_2.accepted b.init init_zero).1 in
      record { good = fresh_unit_lem.0; represents = go b.init; low = a.known.low; initialized = a.initialized }
    where
      go : Performs fresh b.formatted.state (Init 0) b.lent b.accepted → Represents b.accepted.image b.accepted.state paper_unit
      go (unknown other _) = absurd (other init_known)
      go (unsound _ other _) = absurd (other ((demand_2.exactly b.init init_known).0 init_zero))
      go (obeyed k _ all) =
          let o = all paper_unit fresh_unit_lem.0 fresh_unit_lem.1 in
          subst (λ (q : Plain). Represents b.accepted.image b.accepted.state q)
          (ap (λ (y : Outcome). y.unit) (init_done_lem fresh_unit_lem.0 fresh_unit_lem.1 b.lent k)) o.represents

  ends : LentWords calls → (replies ≡ answers paper_unit calls) × Standing end stop (after paper_unit calls)
  ends words = every_list begins words b.run

-- ---- words of the image

module _ {image : List ℕ} {state : State} {p : Plain} (s : Standing image state p) where
  map_start_lem : word image map_sector 0 ≡ map_word (M p) (held p) 0
  map_start_lem = words_of-map (M p) (held p) image s.good.once s.represents.words s.represents.layout.map 0 (omega arith)

  -- the index block of a 'PASS' that has slices
  pass_index_lem : (x : ℕ) (l : List ℕ) → pass_slices p ≡ x ∷ l → Holds image (sector_in p.F p.s (x ∷ l) 0) (index_words p.F p.s (x ∷ l))
  pass_index_lem x l e = go (table_find (named pass) p.files) refl e
    where
      go : (o : Option File) → table_find (named pass) p.files ≡ o → slices_in o ≡ x ∷ l
          → Holds image (sector_in p.F p.s (x ∷ l) 0) (index_words p.F p.s (x ∷ l))
      go none q z = absurd (let y : ◌≡◌ {A = ℕ} 0 1 = cc in omega arith)
      go (some f) q z = rw z at ((s.represents.layout.files (named pass) f q).index (omega (arith, ap length z)))

  looks_up : LookUpGives image state (looked_up p 7) (looked_up p 9)
  looks_up r c =
      let e = (one_call s (words_replicate 16 0xFFFF (omega arith)) c).0 in
      (ap (λ (x : Reply). get_or x.lent 7 0) e, ap (λ (x : Reply). get_or x.lent 9 0) e)

-- ---- the lists

six_words : LentWords (calls_of six_calls)
six_words = (words_none, tt)

seven_words : LentWords (calls_of seven_calls)
seven_words = (words_none, (words_none, (words_none, (words_replicate 256 1 (omega arith), (words_replicate 256 2 (omega arith), tt)))))

eight_words : LentWords (calls_of eight_calls)
eight_words =
    (words_none, (words_none, (words_none, (words_replicate 256 1 (omega arith), (words_replicate 256 2 (omega arith), (words_none, (words_none, tt)))))))

module _ {replies : List Reply} {fresh end : List ℕ} {stop : State} where
  six : FromFormat (calls_of six_calls) replies fresh end stop → Holds end 12 (1 ∷ 4 ∷ 12 ∷ []) × (word end map_sector 0 ≡ 0x1800) × (word end kit_sector 3 ≡ 4)
  unfolding lowest_one lowest_stretch taken_for_file entry asks given either new_file step_reserve step_release positioned input append output step_transput user_step operation_step
  six b =
      let s : Standing end stop sixth = (ends b six_words).1 in
      (pass_index_lem s 2 (3 ∷ []) refl, map_start_lem s ∙ paper.p6.2, s.represents.layout.kit.unused ∙ paper.p6.3)

  seven : FromFormat (calls_of seven_calls) replies fresh end stop → Holds end 12 (1 ∷ 6 ∷ 12 ∷ []) × (word end kit_sector 3 ≡ 2) × LookUpGives end stop 2 4
  unfolding lowest_one lowest_stretch taken_for_file entry asks given either new_file step_reserve step_release positioned input append output step_transput user_step operation_step
  seven b =
      let s : Standing end stop seventh = (ends b seven_words).1 in
      (pass_index_lem s 2 (3 ∷ 4 ∷ []) refl, s.represents.layout.kit.unused ∙ paper.p7.1, looks_up s)

  eight : FromFormat (calls_of eight_calls) replies fresh end stop → LookUpGives end stop 4 6
  unfolding lowest_one lowest_stretch taken_for_file entry asks given either new_file step_reserve step_release positioned input append output step_transput user_step operation_step
  eight b = looks_up (ends b eight_words).1

pub paper_on_image : PaperOnImage
paper_on_image = record {
  accepted = λ b. ((wrote b).word, init_zero b);
  formatted = λ b. (fresh_unit_lem b).1;
  answered = λ cases shows words b. ap answers_in (ends b words).0 ∙ shows;
  unit = λ b words. let e = ends b words in (e.0, e.1.represents);
  p5 = λ b. rw (wrote b).whole (format_paper b.image b.k6 b.k7 b.size);
  p6 = six;
  p7 = seven;
  p8 = eight;
}
