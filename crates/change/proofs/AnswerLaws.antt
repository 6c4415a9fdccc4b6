-- The questions of Change in the plain unit: what its answer says, and which tests decide it.
use mathlib.Core.Path.{◌≡◌, refl, sym, ap, ◌∙◌}
use mathlib.Core.Bool.{Bool, true, false, not, ◌&&◌, ◌||◌}
use mathlib.Core.List.{List, [], ◌++◌, append-nil}
use mathlib.Core.Logic.{◌≢◌}
use mathlib.Core.Option.{none}
use Prim.Native.Nat.{ℕ, ◌+◌, ◌-◌, ◌≤◌, ◌<◌}
use native.Mathlib.Omega.{arith}
use lib.Dec.{T, leb, eqb}
use lib.ListN.{length, take}
use lib.Seq.{take_all}
use borrow.Author.Tests.{le-leb}
use Rattle.disc.specs.Names.{legal_name}
use Rattle.disc.specs.Attributes.{legal_attributes, legal_with, permanent}
use Rattle.disc.specs.OneStretch.{taken_for_file}
use Rattle.disc.proofs.OneStretchLaws.{for_file_none}
use Rattle.disc.specs.Stretches.{stretch_count}
use Rattle.disc.proofs.Compare.{below_or}
use Rattle.disc.proofs.CutLaws.{count-take}
use Rattle.disc.proofs.DecideLaws.{true≢false}
use Rattle.plain.specs.Table.{Table, table_find, table_put, table_remove, is_some}
use Rattle.plain.specs.Unit.{Plain, File, M, held, free_slices, entry, with_tables, sys_of}
use Rattle.plain.specs.Questions.{Outcome, asks, replies, done}
use Rattle.plain.specs.Taking.{Taking, enough}
use Rattle.plain.specs.Catalog.{changed, change_file}
use Rattle.plain.proofs.QuestionLaws.{asks_law, false_no, asks_yes, asks_no}
use Rattle.plain.proofs.ChangeUnit.{change_taking, change_count, ChangeAsked}
use Rattle.grow.proofs.RoomLaws.{enough_yes, enough_no}

-- ---- the answer of change_file

-- An answer that is not 0 comes with nothing changed.
record Refuses (p : Plain) (lent : List ℕ) (x : Outcome) : Type 0 where
  no : (x.answer.result ≡ 0 → ⊥) → x ≡ replies p x.answer.result lent

plain_no : {p : Plain} {lent : List ℕ} {w : ℕ} → Refuses p lent (replies p w lent)
plain_no = record { no = λ h. refl }

module _ (p : Plain) (n m size attributes : ℕ) (f : File) (lent : List ℕ) where
  abbrev t : Taking
  t = change_taking p n m size attributes f lent

  abbrev count : ℕ
  count = change_count p n m size attributes f lent

  abbrev slices : List ℕ
  slices = take count f.slices ++ t.file_new

  abbrev pub change_files : Table File
  change_files = table_put m (changed f attributes size count slices lent) (table_remove n p.files)

  refuses : Refuses p lent (change_file p n f m size attributes lent)
  unfolding change_file
  refuses =
      asks_law (Refuses p lent) _ plain_no (λ a. asks_law (Refuses p lent) _ plain_no (λ b. asks_law (Refuses p lent) _ plain_no (λ c.
      asks_law (Refuses p lent) _ plain_no (λ d. asks_law (Refuses p lent) _ plain_no (λ e. asks_law (Refuses p lent) _ plain_no (λ g.
      record { no = enough_no p (sys_of p) t slices lent change_files }))))))

  -- another answer than 0: a refusal
  pub change_no : ((change_file p n f m size attributes lent).answer.result ≡ 0 → ⊥)
      → change_file p n f m size attributes lent ≡ replies p (change_file p n f m size attributes lent).answer.result lent
  change_no = refuses.no

  abbrev Yes : Outcome → Type 0
  Yes x = x.answer.result ≡ 0 → ChangeAsked p n m size attributes f lent

  -- the answer 0: every question is answered yes
  pub change_yes : (change_file p n f m size attributes lent).answer.result ≡ 0 → ChangeAsked p n m size attributes f lent
  unfolding change_file
  change_yes =
      asks_law Yes _ (λ z. absurd (omega arith)) (λ a. asks_law Yes _ (λ z. absurd (omega arith)) (λ b. asks_law Yes _ (λ z. absurd (omega arith)) (λ c.
      asks_law Yes _ (λ z. absurd (omega arith)) (λ d. asks_law Yes _ (λ z. absurd (omega arith)) (λ e. asks_law Yes _ (λ z. absurd (omega arith)) (λ g z.
      let r = enough_yes p (sys_of p) t slices lent change_files z in
      record {
        legal = a;
        allowed = b;
        only = c;
        shut = d;
        free = e;
        vacant = g;
        room = rw (le-leb _ _ r.free) tt;
        sys_few = rw (le-leb _ _ r.catalog) tt;
        few = rw (le-leb _ _ r.file) tt;
      }))))))

  -- ---- which tests decide it

  -- an open file is refused, whatever else is asked
  pub change_open : is_some (table_find n p.areas) ≡ true → change_file p n f m size attributes lent ≡ replies p 0x1200 lent
  unfolding change_file
  change_open h =
      asks_law (λ x. x ≡ replies p 0x1200 lent) _ refl (λ a. asks_law (λ x. x ≡ replies p 0x1200 lent) _ refl (λ b. asks_law (λ x. x ≡ replies p 0x1200 lent) _ refl (λ c.
      asks_no _ _ _ (rw h tt))))

  -- four questions with the same refusal
  pub change_illegal : table_find n p.areas ≡ none
      → legal_name m && (legal_attributes attributes && (legal_with attributes count && (not (permanent f.attributes) || (eqb m n && eqb size f.booked)))) ≡ false
      → (change_file p n f m size attributes lent).answer.result ≡ 0x1200
  unfolding change_file
  change_illegal shut h =
      asks_law (λ x. x.answer.result ≡ 0x1200) (legal_name m) refl (λ a. asks_law (λ x. x.answer.result ≡ 0x1200) (legal_attributes attributes) refl (λ b.
      asks_law (λ x. x.answer.result ≡ 0x1200) (legal_with attributes count) refl (λ c.
      asks_law (λ x. x.answer.result ≡ 0x1200) _ refl (λ d.
      ap (λ (x : Outcome). x.answer.result) (asks_no _ _ _ (last (legal_name m) (legal_attributes attributes) (legal_with attributes count) _ a b c h))))))
    where
      last : (a b c d : Bool) → T a → T b → T c → a && (b && (c && d)) ≡ false → T (not d)
      last true true true d x y z e = false_no e
      last true true false d x y z e = absurd z
      last true false c d x y z e = absurd y
      last false b c d x y z e = absurd x

  module _ (shut : table_find n p.areas ≡ none)
      (ok : legal_name m && (legal_attributes attributes && (legal_with attributes count && (not (permanent f.attributes) || (eqb m n && eqb size f.booked)))) ≡ true) where
    -- the questions before question 6
    pub change_six : change_file p n f m size attributes lent
        ≡ asks (eqb m n || not (is_some (entry p m))) (replies p 0x1010 lent) (enough p (sys_of p) t slices lent change_files)
    unfolding change_file
    change_six =
        let all = parts (legal_name m) (legal_attributes attributes) (legal_with attributes count) (not (permanent f.attributes) || (eqb m n && eqb size f.booked)) ok in
        asks_yes _ _ _ all.0 ∙ asks_yes _ _ _ all.1 ∙ asks_yes _ _ _ all.2 ∙ asks_yes _ _ _ (rw shut tt) ∙ asks_yes _ _ _ all.3
      where
        parts : (a b c d : Bool) → a && (b && (c && d)) ≡ true → T a × T b × T c × T d
        parts true true true true e = (tt, tt, tt, tt)
        parts true true true false e = absurd (true≢false (sym e))
        parts true true false d e = absurd (true≢false (sym e))
        parts true false c d e = absurd (true≢false (sym e))
        parts false b c d e = absurd (true≢false (sym e))

    pub change_entered : not (eqb m n) && is_some (entry p m) ≡ true → (change_file p n f m size attributes lent).answer.result ≡ 0x1010
    change_entered h = ap (λ (x : Outcome). x.answer.result) (change_six ∙ asks_no _ _ _ (go (eqb m n) (is_some (entry p m)) h))
      where
        go : (a b : Bool) → not a && b ≡ true → T (not (a || not b))
        go true b e = absurd (true≢false (sym e))
        go false true e = tt
        go false false e = absurd (true≢false (sym e))

    pub change_room : not (eqb m n) && is_some (entry p m) ≡ false → change_file p n f m size attributes lent ≡ enough p (sys_of p) t slices lent change_files
    change_room h = change_six ∙ asks_yes _ _ _ (go (eqb m n) (is_some (entry p m)) h)
      where
        go : (a b : Bool) → not a && b ≡ false → T (a || not b)
        go true b e = tt
        go false true e = absurd (true≢false e)
        go false false e = tt

  -- ---- the stretches of the file: those of the slices that are kept are no more than before

  pub room_same : stretch_count f.slices ≤ 127 → enough p (sys_of p) t slices lent change_files ≡ enough p (sys_of p) t (f.slices ++ t.file_new) lent change_files
  room_same few =
      ap (λ (b : Bool). asks (leb (t.for_catalog + t.for_file) (free_slices p)) (replies p 0x1100 lent)
      (asks (leb (stretch_count (p.sys ++ t.catalog_new)) 127) (replies p 0x1008 lent)
      (asks b (replies p 0x1008 lent) (done (with_tables p t.layers (p.sys ++ t.catalog_new) change_files p.areas) lent)))) same
    where
      nothing : count - length f.slices ≡ 0 → t.file_new ≡ []
      nothing z = ap (taken_for_file (M p) (t.catalog_new ++ held p) f.slices) z ∙ for_file_none (M p) (t.catalog_new ++ held p) f.slices

      same : leb (stretch_count slices) 127 ≡ leb (stretch_count (f.slices ++ t.file_new)) 127
      same = below_or (length f.slices) count
          (λ (x : length f.slices < count).
          ap (λ (l : List ℕ). leb (stretch_count (l ++ t.file_new)) 127) (take_all count f.slices (omega arith)))
          (λ (x : count ≤ length f.slices).
          let none_new : t.file_new ≡ [] = nothing (omega arith) in
          let a : slices ≡ take count f.slices = ap (λ (l : List ℕ). take count f.slices ++ l) none_new ∙ append-nil (take count f.slices) in
          let b : f.slices ++ t.file_new ≡ f.slices = ap (λ (l : List ℕ). f.slices ++ l) none_new ∙ append-nil f.slices in
          let cut : stretch_count (take count f.slices) ≤ 127 = omega (arith, count-take count f.slices) in
          ap (λ (l : List ℕ). leb (stretch_count l) 127) a ∙ le-leb _ _ cut
          ∙ sym (ap (λ (l : List ℕ). leb (stretch_count l) 127) b ∙ le-leb _ _ few))
