-- Transput keeps a unit good, and so does every message to an area process.
use mathlib.Core.Path.{◌≡◌, refl, sym, ap, ◌∙◌}
use mathlib.Core.Bool.{Bool, true, false, not, ◌&&◌}
use mathlib.Core.List.{List, [], ◌∷◌, ◌++◌, append-nil}
use mathlib.Core.Logic.{◌≢◌, ◌⊎◌, inl, inr, ⊎_elim}
use mathlib.Core.Option.{Option, none, some}
use Prim.Native.Nat.{ℕ, zero, suc, ◌+◌, ◌≤◌, ◌<◌}
use native.Mathlib.Omega.{arith}
use lib.ListN.{length, take, set, length-append, length-set}
use lib.Dec.{T, ltb, eqb, leb→le, ltb→lt, nltb→le, eqb→eq}
use Rattle.types.specs.declared.Name.{Name}
use Rattle.types.specs.declared.Operation.{Operation}
use Rattle.types.specs.declared.Operation.TheVariants.{Reserve, Position, Sense, Transput, Other}
use Rattle.disc.specs.Numbers.{need}
use Rattle.disc.specs.Words.{Words}
use Rattle.disc.specs.Attributes.{entry_only, extendable, legal_attributes, legal_with}
use Rattle.disc.specs.Slices.{occurrences, in_unit, InRangeOnce}
use Rattle.disc.specs.OneStretch.{taken_for_file}
use Rattle.disc.specs.Stretches.{stretch_count}
use Rattle.disc.proofs.Compare.{same_or}
use Rattle.disc.proofs.NumberLaws.{need_suc}
use Rattle.disc.proofs.SliceLaws.{occurrences_append}
use Rattle.disc.proofs.OneStretchLaws.{for_file_law, length_for_file, for_file_none}
use Rattle.plain.specs.Table.{Table, table_find, table_put, Every}
use Rattle.plain.specs.Unit.{Plain, File, AreaUser, sys_of, M, held, free_slices}
use Rattle.plain.specs.Questions.{either}
use Rattle.plain.specs.Areas.{is_exclusive, other, moved}
use Rattle.plain.specs.Transput.{is_output, rewritten, with_file, input, output, append, one_if, slices_to_take, step_transput}
use Rattle.plain.specs.Step.{step_area, operation_step, user_step}
use Rattle.plain.specs.Good.{Good, GoodFile, GoodArea, WordsOf}
use Rattle.plain.proofs.TableLaws.{some≢none, some_inj, find_put, find_put_other}
use Rattle.plain.proofs.QuestionLaws.{asks_law, given_law, either_law, and_right, or_case}
use Rattle.plain.proofs.WordLaws.{EachOf, each_set, each_append, each_one, words_of_take}
use Rattle.plain.proofs.KeepsAreas.{Keeps, area_beside, file_put_good, move_good, positioned_keeps, position_keeps, reserve_keeps, release_keeps}

-- ---- a file that a sector joins

-- the slices that Output takes suffice
slices_suffice : (s : ℕ) (f : File) → 2 ≤ s → need s (length f.sectors) ≤ length f.slices
    → need s (suc (length f.sectors)) ≤ length f.slices + slices_to_take s f
slices_suffice s f two covered =
    let more : ℕ = need s (suc (length f.sectors)) in
    go (ltb (length f.slices) more) (nltb→le (length f.slices) more) (omega (arith, need_suc s (length f.sectors) two))
  where
    go : (b : Bool) {a c : ℕ} → (T (not b) → c ≤ a) → c ≤ a + 1 → c ≤ a + one_if b
    go true f h = h
    go false f h = omega (arith, f tt)

-- "not 13 with 15": an extendable file may have any number of slices
extendable_legal : (a slices : ℕ) → T (legal_attributes a) → T (extendable a) → T (legal_with a slices)
extendable_legal a slices t u = go (entry_only a) (extendable a) (ltb 0 slices) (and_right (eqb a _) (not (entry_only a && extendable a)) t) u
  where
    go : (x y z : Bool) → T (not (x && y)) → T y → T (not (x && z))
    go true true z t u = absurd t
    go true false z t u = absurd u
    go false y z t u = tt

-- ---- a file is rewritten

-- What is good for the slices and sectors that Output gives a file f: the new slices were free; with no area open, the booked
-- length and slices are still the live ones.
record Rewrites (p : Plain) (n : ℕ) (f : File) (slices : List ℕ) (sectors : List (List ℕ)) : Type 0 where
  pub entry_only : T (legal_with f.attributes (length slices))
  pub words : EachOf (WordsOf 256) [] sectors
  pub covered : need p.s (length sectors) ≤ length slices
  pub few : stretch_count slices ≤ 127
  pub longer : length f.sectors ≤ length sectors
  pub more : length f.slices ≤ length slices
  pub fits : (k : ℕ) → occurrences k (held p) + occurrences k slices ≤ in_unit (M p) k + occurrences k f.slices
  pub closed : table_find n p.areas ≡ none → (f.booked ≡ length sectors) × (f.booked_slices ≡ length slices)

module _ {p : Plain} (g : Good p) (n : ℕ) {f : File} (found : table_find n p.files ≡ some f) where
  rewritten_good : (slices : List ℕ) (sectors : List (List ℕ)) → Rewrites p n f slices sectors → GoodFile (sys_of p) p.s p.areas n (rewritten f slices sectors)
  rewritten_good slices sectors r =
      let old = g.catalog.files n f found in
      search arith

  rewrite_good : (slices : List ℕ) (sectors : List (List ℕ)) → Rewrites p n f slices sectors → Good (with_file n (rewritten f slices sectors) p)
  rewrite_good slices sectors r =
      file_put_good p n f new p.areas g found (rewritten_good slices sectors r) r.fits (λ k d. refl) g.area_names g.eight areas
    where
      new : File
      new = rewritten f slices sectors

      areas : Every (GoodArea (table_put n (rewritten f slices sectors) p.files)) p.areas
      areas k users q = same_or k n own beside
        where
          a : GoodArea p.files k users
          a = g.areas k users q

          own : k ≡ n → GoodArea (table_put n (rewritten f slices sectors) p.files) k users
          own i =
              let z : f ≡ a.file = some_inj (sym found ∙ ap (λ (j : ℕ). table_find j p.files) (sym i) ∙ a.entered) in
              area_beside a new (rw i (find_put n new p.files)) (rw (← z) r.longer)

          beside : k ≢ n → GoodArea (table_put n (rewritten f slices sectors) p.files) k users
          beside d = area_beside a a.file (find_put_other k n new p.files d ∙ a.entered) (omega arith)

  -- a block is replaced
  pub replace_good : (b : ℕ) (words : List ℕ) → WordsOf 256 words → Good (with_file n (rewritten f f.slices (set f.sectors b words)) p)
  replace_good b words ok =
      let old = g.catalog.files n f found in
      let len : length (set f.sectors b words) ≡ length f.sectors = length-set f.sectors b words in
      rewrite_good f.slices (set f.sectors b words) (record {
        entry_only = old.entry_only;
        words = each_set (WordsOf 256) [] f.sectors b words old.sectors ok;
        covered = rw len old.covered;
        few = old.few;
        longer = omega arith;
        more = omega arith;
        fits = λ k. omega (arith, g.once k);
        closed = λ z. ((old.closed z).0 ∙ sym len, (old.closed z).1);
      })

  abbrev count : ℕ
  count = slices_to_take p.s f

  abbrev new_slices : List ℕ
  new_slices = taken_for_file (M p) (held p) f.slices count

  -- at most 127 stretches where no slice is needed, too
  pub append_few : (slices_to_take p.s f ≡ 0) ⊎ (stretch_count (f.slices ++ taken_for_file (M p) (held p) f.slices (slices_to_take p.s f)) ≤ 127)
      → stretch_count (f.slices ++ taken_for_file (M p) (held p) f.slices (slices_to_take p.s f)) ≤ 127
  append_few few = ⊎_elim (λ (z : count ≡ 0). rw (z, for_file_none (M p) (held p) f.slices, append-nil f.slices) (g.catalog.files n f found).few) (λ x. x) few

  -- a block is appended to an open file
  pub append_good : {users : Table AreaUser} → table_find n p.areas ≡ some users → T (extendable f.attributes) → slices_to_take p.s f ≤ free_slices p
      → stretch_count (f.slices ++ taken_for_file (M p) (held p) f.slices (slices_to_take p.s f)) ≤ 127 → (words : List ℕ) → WordsOf 256 words
      → Good (with_file n (rewritten f (f.slices ++ taken_for_file (M p) (held p) f.slices (slices_to_take p.s f)) (f.sectors ++ (words ∷ []))) p)
  append_good live ext room few words ok =
      let old = g.catalog.files n f found in
      let slices : length (f.slices ++ new_slices) ≡ length f.slices + count =
      omega (arith, length-append f.slices new_slices, length_for_file (M p) (held p) f.slices count) in
      let sectors : length (f.sectors ++ (words ∷ [])) ≡ suc (length f.sectors) = omega (arith, length-append f.sectors (words ∷ [])) in
      let once : InRangeOnce (M p) (new_slices ++ held p) = for_file_law (M p) (held p) f.slices count g.once room in
      rewrite_good (f.slices ++ new_slices) (f.sectors ++ (words ∷ [])) (record {
        entry_only = extendable_legal f.attributes (length (f.slices ++ new_slices)) old.attributes ext;
        words = each_append (WordsOf 256) [] f.sectors (words ∷ []) old.sectors (each_one (WordsOf 256) [] words ok);
        covered = rw (sectors, slices) (slices_suffice p.s f g.limits.slice_low old.covered);
        few = few;
        longer = omega arith;
        more = omega arith;
        fits = λ j. omega (arith, once j, occurrences_append j new_slices (held p), occurrences_append j f.slices new_slices);
        closed = λ z. absurd (some≢none (sym live ∙ z));
      })

-- ---- the steps; q is the unit once Position was done

module _ (p : Plain) (n sender : ℕ) (users : Table AreaUser) (g : Good p) (e : table_find n p.areas ≡ some users)
    (u : AreaUser) (f : File) (w : table_find sender users ≡ some u) (h : table_find n p.files ≡ some f) where
  -- an open file is rewritten, and its user moved
  both_good : (slices : List ℕ) (sectors : List (List ℕ)) (k : ℕ) → Good (with_file n (rewritten f slices sectors) p) → k ≤ length sectors
      → Good (with_file n (rewritten f slices sectors) (moved p n sender users u k))
  both_good slices sectors k good le =
      let new : File = rewritten f slices sectors in
      move_good (with_file n new p) n sender users good e u new k w (find_put n new p.files) le

  append_keeps : (q : Plain) (k : ℕ) (lent : List ℕ) → Good q → WordsOf 256 (take 256 lent) → k ≤ length f.sectors → Keeps (append p q (moved p n sender users u) n f k lent)
  unfolding append
  append_keeps q k lent gq ok le =
      asks_law Keeps _ gq λ ext.
      asks_law Keeps _ gq λ free.
      asks_law Keeps _ gq λ few.
      let few₂ = append_few g n h (or_case (eqb (slices_to_take p.s f) 0) _ (λ t. inl (eqb→eq _ 0 t)) (λ t. inr (leb→le _ _ t)) few) in
      both_good _ _ (suc k) (append_good g n h e ext (leb→le _ _ free) few₂ (take 256 lent) ok)
      (omega (arith, length-append f.sectors (take 256 lent ∷ [])))

  output_keeps : (q : Plain) (k : ℕ) (lent : List ℕ) → Good q → WordsOf 256 (take 256 lent) → k ≤ length f.sectors → Keeps (output p q (moved p n sender users u) n f k lent)
  unfolding output
  output_keeps q k lent gq ok le =
      either_law Keeps _
      (λ t. both_good _ _ (suc k) (replace_good g n h k (take 256 lent) ok) (omega (arith, ltb→lt k (length f.sectors) t, length-set f.sectors k (take 256 lent)))) λ _.
      append_keeps q k lent gq ok le

  input_keeps : (q : Plain) (k : ℕ) (lent : List ℕ) → Good q → Keeps (input q (moved p n sender users u) f k lent)
  unfolding input
  input_keeps q k lent gq = asks_law Keeps _ gq λ t. move_good p n sender users g e u f (suc k) w h (ltb→lt k (length f.sectors) t)

  pub transput_keeps : (operation bytes block : ℕ) (lent : List ℕ) → Words lent → Keeps (step_transput p n sender users u f operation bytes block lent)
  unfolding step_transput
  transput_keeps operation bytes block lent words =
      asks_law Keeps _ g λ _.
      asks_law Keeps _ g λ long.
      asks_law Keeps _ g λ _.
      asks_law Keeps _ g λ _.
      let ok : WordsOf 256 (take 256 lent) = words_of_take 256 lent (leb→le 256 (length lent) long) words in
      either_law Keeps _
      (λ _. positioned_keeps move block (length f.sectors) _ _ good (λ q word k gq. gq) (λ k le. go ok (move k) k (good k le) le))
      (λ _. go ok p u.position g here)
    where
      move : ℕ → Plain
      move = moved p n sender users u

      good : (k : ℕ) → k ≤ length f.sectors → Good (moved p n sender users u k)
      good k le = move_good p n sender users g e u f k w h le

      here : u.position ≤ length f.sectors
      here =
          let a = g.areas n users e in
          let z : f ≡ a.file = some_inj (sym h ∙ a.entered) in
          rw z (a.each sender u w).inside

      go : WordsOf 256 (take 256 lent) → (q : Plain) (k : ℕ) → Good q → k ≤ length f.sectors
          → Keeps (either (is_output operation) (output p q (moved p n sender users u) n f k lent) (input q (moved p n sender users u) f k lent))
      go ok q k gq le = either_law Keeps _ (λ _. output_keeps q k lent gq ok le) (λ _. input_keeps q k lent gq)

  -- ---- a user's operation

  user_keeps : (operation : Operation) (lent : List ℕ) → Words lent → Keeps (user_step p n sender users u f operation lent)
  unfolding user_step
  user_keeps (Reserve count) lent words = release_keeps p n sender users g e u lent w
  user_keeps (Position block) lent words = position_keeps p n sender users g e u f block lent w h
  user_keeps Sense lent words = g
  user_keeps (Transput operation bytes block) lent words = transput_keeps operation bytes block lent words
  user_keeps (Other operation) lent words = g

-- ---- every message to an area process

operation_keeps : (p : Plain) (n sender : ℕ) (users : Table AreaUser) (operation : Operation) (reserve : Option ℕ) (lent : List ℕ) → Good p
    → table_find n p.areas ≡ some users → 0 < sender → T (not (other is_exclusive sender users)) → Words lent
    → Keeps (operation_step p n sender users operation reserve lent)
unfolding operation_step
operation_keeps p n sender users operation (some count) lent g e positive q words = reserve_keeps p n sender users g e count lent positive q
operation_keeps p n sender users operation none lent g e positive q words =
    given_law Keeps _ g λ u w.
    given_law Keeps _ g λ f h.
    user_keeps p n sender users g e u f w h operation lent words

nonzero : (x : ℕ) → T (not (eqb x 0)) → 0 < x
nonzero zero t = absurd t
nonzero (suc x) t = omega arith

pub area_keeps : (p : Plain) (name : Name) (sender : ℕ) (operation : Operation) (lent : List ℕ) → Good p → Words lent → Keeps (step_area p name sender operation lent)
area_keeps p name sender operation lent g words =
    asks_law Keeps _ g λ _.
    given_law Keeps _ g λ users e.
    asks_law Keeps _ g λ q.
    asks_law Keeps _ g λ t.
    asks_law Keeps _ g λ _.
    operation_keeps p _ sender users operation _ lent g e (nonzero sender t) q words
