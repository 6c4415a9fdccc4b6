-- Laws of places that are judged the quick way: what the answer true says, and that places further on in a sequence are ordinary.
use mathlib.Core.Path.{◌≡◌, refl, sym, ap, ◌∙◌, subst}
use mathlib.Core.Bool.{Bool, true, false, cond}
use mathlib.Core.Bool as B
use mathlib.Core.List.{List, [], ◌∷◌}
use Prim.Native.Nat.{ℕ, suc, ◌+◌, ◌-◌, ◌*◌, ◌/◌, ◌≤◌, ◌<◌}
use native.Mathlib.Nat.{mul_comm}
use native.Mathlib.Omega.{arith}
use lib.ListN.{length, get_or, set, take, length-take}
use lib.Seq.{get_or-set_same, get_or-set_other}
use borrow.Author.Tests.{eq-eqb, ne_eqb}
use Rattle.disc.specs.Numbers.{need}
use Rattle.disc.specs.Entries.{name_by}
use Rattle.disc.proofs.Compare.{same_or}
use Rattle.disc.proofs.DecideLaws.{holds}
use Rattle.disc.proofs.NumberLaws.{need_le}
use Rattle.kit.specs.declared.Geometry.{Geometry}
use Rattle.kit.specs.Geometry.{UnitOf}
use Rattle.marks.specs.Marked.{SomeMarked}
use Rattle.marks.specs.Indexed.{SingleFile, SingleMarking}
use Rattle.marks.proofs.SingleLaws.{single_whole, single_index}
use Rattle.sound_entries.proofs.PlaceLaws.{T_of}
use Rattle.std.specs.Prelude.{Option, None}
use Rattle.std.proofs.lemmas.List.Elements.{All-more}
use Rattle.sound_files.specs.declared.files.Live.{Live}
use Rattle.sound_files.specs.declared.files.OpenFile.{OpenFile}
use Rattle.sound_files.specs.declared.files.OpenFiles.{OpenFiles}
use Rattle.sound_files.specs.declared.Entry.{Entry}
use Rattle.sound_files.specs.Live.{live_in, lives, Unopened}
use Rattle.sound_files.specs.Cells.{name_cell, CellsOf}
use Rattle.sound_files.specs.Rules.{entry_of, words_at, FileNumbers, PlainNumbers, ClosedMarking}
use Rattle.sound_files.specs.Walk.{places_from, PlacesMarking, OrdinaryPlace, OrdinaryPlaces, PlainMarking, PlainPlaces}
use Rattle.attributes.proofs.AttributeLaws.{with_some}
use Rattle.sound_files.proofs.FileLaws.{own_some, file_judged}
use Rattle.sound_files.proofs.PlaceLaws.{place_unused_lem, place_file}
use Rattle.sound_files.proofs.WalkLaws.{PlacesPassed, places_none, places_some, place_more, places_more, places_all}

-- ---- one file

module _ {image : List ℕ} {g : Geometry} {before : List ℕ} (entry : Entry) where
  module _ {after : List ℕ} {r : Bool} (unit : UnitOf image g) (plain : PlainNumbers entry) (held : SomeMarked g.slices before) (single : SingleMarking image g entry.index.0 entry.reserved before after r) where
    abbrev s : ℕ
    s = g.slice

    abbrev count : ℕ
    count = entry.reserved / s

    file : r ≡ true → SingleFile image g entry.index.0 entry.reserved before
    file e = (single.yes e).0

    whole : r ≡ true → count * s ≡ entry.reserved
    whole e = single_whole image g entry.index.0 entry.reserved unit held (file e) (single.yes e).1

    enough : r ≡ true → need s entry.size ≤ count
    enough e = same_or entry.size 0
        (λ z. rw z (omega arith))
        (λ d. (need_le s entry.size count (omega (arith, unit.limits.slice_low)) (omega arith)).1 (omega (arith, whole e, plain.short)))

    some : r ≡ true → count ≡ 0 → ⊥
    some e z = omega (arith, whole e, (file e).slices.some, ap (λ (n : ℕ). n * s) z)

    numbers : r ≡ true → FileNumbers s entry None count
    numbers e = record {
      allowed = T_of plain.allowed;
      entry_only = T_of (sym (with_some entry.attributes count (some e)) ∙ ap B.not plain.slices);
      short = omega (arith, plain.short, (file e).high, unit.limits.sectors);
      covered = enough e;
      booked = sym (whole e) ∙ mul_comm count s;
    }

    pub closed_marked : ClosedMarking image g entry before after r
    closed_marked = record {
      yes = λ e.
          file_judged entry None refl
          (own_some entry.index.0 true (sym (eq-eqb entry.index.0 entry.index.0 refl)) (λ z. omega (arith, (file e).slices.low, unit.limits.first))
          (single_index image g entry.index.0 entry.reserved unit held (file e) (single.yes e).1))
          (holds (numbers e));
      not = λ e. (single.not e).1;
    }

-- ---- one place

module _ {image : List ℕ} {g : Geometry} {w : ℕ → ℕ} where
  pub plain_unused : {before : List ℕ} {r : Bool} (name : ℕ) → name ≡ name_by w → (r ≡ true → name ≡ 0) → PlainMarking image g w before before r
  plain_unused name e z = record { yes = λ t lives shut. place_unused_lem name e (z t); not = λ _. refl }

  pub plain_used : {before after : List ℕ} {r : Bool} → OrdinaryPlace w → 10 ≤ w 8 → ClosedMarking image g (entry_of w) before after r → PlainMarking image g w before after r
  plain_used o far m = record {
    yes = λ t lives shut. place_file (name_by w) refl (o.named far) refl (o.ordinary far) (sym shut) (m.yes t);
    not = m.not;
  }

-- ---- places one after the other

-- an area process is open by one of the names
live_other : (list : List OpenFile) (cells : List ℕ) (n : ℕ) → CellsOf list cells → (0 < length list → get_or cells (name_cell n) 0 ≡ 0) → live_in list n ≡ None
unfolding live_in
live_other [] cells n filled free = refl
live_other (f ∷ list) cells n filled free =
    rw (ne_eqb f.name n (λ e. omega (arith, filled.each 0 f (omega arith), free (omega arith), ap (λ (k : ℕ). get_or cells (name_cell k) 0) e)))
    (live_other list cells n (record { each = λ k d h. filled.each (suc k) d (omega arith) }) (λ h. free (omega arith)))

pub live_cell : (files : OpenFiles) (n : ℕ) → Unopened files n → lives files n ≡ None
live_cell files n free = live_other (take files.upto files.list) files.cells n files.filled (λ h. free (λ z. omega (arith, length-take files.upto files.list)))

-- ---- the cells of names

pub cells_more : (list : List OpenFile) {cells : List ℕ} (i cell : ℕ) (d : OpenFile) → i < length list → cell ≡ name_cell (get_or list i d).name → cell < length cells
    → CellsOf (take i list) cells → CellsOf (take (i + 1) list) (set cells cell 1)
cells_more list {cells} i cell d inside e room filled = record {
  each = All-more (λ (f : OpenFile). get_or (set cells cell 1) (name_cell f.name) 0 ≡ 1) list i d inside (λ k x h. kept (get_or (take i list) k x) (filled.each k x h)) (rw (← e) (get_or-set_same cells cell 1 0 room));
}
  where
    kept : (f : OpenFile) → get_or cells (name_cell f.name) 0 ≡ 1 → get_or (set cells cell 1) (name_cell f.name) 0 ≡ 1
    kept f one = same_or (name_cell f.name) cell
        (λ s. rw s (get_or-set_same cells cell 1 0 room))
        (λ d. get_or-set_other cells cell (name_cell f.name) 1 0 d ∙ one)

module _ (image : List ℕ) (g : Geometry) (P : ℕ → ℕ → ℕ) (files : OpenFiles) where
  -- the first n places are legal if no area process of an unopened name is open, and their slices marked
  abbrev pub ClosedPassed : List ℕ → List ℕ → ℕ → Type 0
  ClosedPassed before mid n = (known : ℕ → Option Live) → ((k : ℕ) → Unopened files k → known k ≡ None) → PlacesPassed image g known P before mid n

  pub closed_none : (before : List ℕ) → ClosedPassed before before 0
  closed_none before known shut = places_none image g known P before

  module _ {before mid : List ℕ} (n : ℕ) (some : SomeMarked g.slices before) (pass : ClosedPassed before mid n) where
    pub closed_some : SomeMarked g.slices mid
    closed_some = places_some image g (λ _. None) P n (pass (λ _. None) (λ _ _. refl)) some

    pub closed_more : {after : List ℕ} {r : Bool} → PlainMarking image g (P n) mid after r → r ≡ true → Unopened files (name_by (P n)) → ClosedPassed before after (n + 1)
    closed_more m e free known shut = place_more image g known P n (pass known shut) (m.yes e known (shut (name_by (P n)) free)) some refl

    pub closed_end : {after : List ℕ} (count : ℕ) → n ≤ count → after ≡ mid → PlainPlaces image g P count files before after n
    closed_end {after} count h e = record {
      high = h;
      marking = λ known shut. subst (λ (l : List ℕ). PlacesMarking image g known P n before l true) (sym e) (places_all image g known P n (pass known shut) n refl some);
    }

  -- places that stand in another array too
  pub plain_more : {before mid after : List ℕ} (known : ℕ → Option Live) (b : ℕ) → PlacesPassed image g known P before mid b → SomeMarked g.slices before → (R : ℕ → ℕ → ℕ) {count : ℕ} (n : ℕ)
      → ((i : ℕ) → i < count → R i ≡ P (b + i)) → ((k : ℕ) → Unopened files k → known k ≡ None) → PlainPlaces image g R count files mid after n
      → PlacesPassed image g known P before after (b + n)
  plain_more known b pass some R n same shut m = places_more image g known P b pass R n (λ i h. same i (omega (arith, m.high))) (m.marking known shut) some refl

-- ---- places further on

pub places_on : (image : List ℕ) (at b i : ℕ) → places_from image (at + 16 * b) i ≡ places_from image at (b + i)
places_on image at b i = ap (words_at image) (let e : at + 16 * b + 16 * i ≡ at + 16 * (b + i) = omega arith in e)

pub ordinary_on : (image : List ℕ) (at b : ℕ) {count : ℕ} → OrdinaryPlaces (places_from image at) count → OrdinaryPlaces (places_from image (at + 16 * b)) (count - b)
ordinary_on image at b all t h = subst OrdinaryPlace (sym (places_on image at b t)) (all (b + t) (omega arith))
