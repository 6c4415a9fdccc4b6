-- Laws of one file: its booked numbers, its index block, all its rules, and that they are those of a sound unit.
use mathlib.Core.Path.{◌≡◌, refl, sym, ap, ◌∙◌, subst}
use mathlib.Core.Bool.{Bool, true, false, true≢false}
use mathlib.Core.List.{List, append-nil}
use mathlib.Core.Option as maybe
use mathlib.Core.Option.{none, some}
use Rattle.std.specs.Prelude.{Option, Some, None, MatchOption}
use Rattle.std.specs.Bool.{then_some}
use Prim.Native.Nat.{ℕ, zero, suc, ◌*◌, ◌/◌, ◌≤◌}
use native.Mathlib.Nat.{add-zero, mul_comm, mul-div_cancel_left}
use native.Mathlib.Omega.{arith}
use lib.Dec.{eqb}
use lib.ListN.{length, get_or, get_or-eq_default}
use borrow.Author.Tests.{eqb-true, eqb-false}
use Rattle.types.specs.declared.Area.{Area}
use Rattle.types.specs.declared.State.{State}
use Rattle.disc.specs.Decide.{Decides}
use Rattle.disc.specs.Numbers.{need}
use Rattle.disc.specs.Words.{word}
use Rattle.disc.specs.Entries.{name_at}
use Rattle.disc.proofs.Compare.{below_or}
use Rattle.disc.proofs.DecideLaws.{decides_eq}
use Rattle.kit.specs.declared.Geometry.{Geometry}
use Rattle.kit.specs.Geometry.{UnitOf}
use Rattle.marks.specs.declared.Indexed.{Indexed}
use Rattle.marks.specs.Indexed.{PairsMarking, IndexMarking}
use Rattle.marks.proofs.MarkLaws.{marks, refuses}
use Rattle.sound.specs.Places.{OwnIndex, index_if, Booked}
use Rattle.sound.specs.State.{open_area, live_index, live_length}
use Rattle.sound.specs.Sound.{SoundFile}
use Rattle.sound_files.specs.declared.files.Live.{Live}
use Rattle.sound_files.specs.declared.Entry.{Entry}
use Rattle.sound_files.specs.Live.{live_of, index_by, length_by}
use Rattle.sound_files.specs.Rules.{DataSector, FileNumbers, FileRules, OwnMarking, FileMarking}
use Rattle.sound_files.proofs.LiveLaws.{index_of_lem, length_of_lem}

-- ---- the numbers of an entry beside an open area process

pub index_some : (n q : ℕ) → (n ≡ 0 → ⊥) → index_if n q ≡ q
index_some zero q d = absurd (d refl)
index_some (suc n) q d = refl

module _ {s size index reserved len q count : ℕ} (pos : 1 ≤ s) where
  -- the booked slices are the reserved sectors' number of slices
  pub booked_own : (b : Booked s size index reserved len q count) → b.slices ≡ reserved / s
  booked_own b = sym (ap (λ (n : ℕ). n / s) b.sectors ∙ mul-div_cancel_left b.slices pos)

  pub booked_whole : Booked s size index reserved len q count → reserved / s * s ≡ reserved
  booked_whole b = ap (λ (n : ℕ). n * s) (sym (booked_own b)) ∙ mul_comm b.slices s ∙ sym b.sectors

  pub booked_covered_lem : Booked s size index reserved len q count → need s size ≤ reserved / s
  booked_covered_lem b = subst (λ (n : ℕ). need s size ≤ n) (booked_own b) b.covered

  -- the index sector decides, where the other numbers are as they must be
  pub booked_decided : reserved / s * s ≡ reserved → reserved / s ≤ count → size ≤ len → need s size ≤ reserved / s → (x : ℕ) → index_if (reserved / s) q ≡ x
      → Decides (eqb index x) (Booked s size index reserved len q count)
  booked_decided whole few short enough x e = decides_eq index x
      (λ i. record { slices = reserved / s; sectors = sym whole ∙ mul_comm (reserved / s) s; length_low = short; slices_low = few; covered = enough; at = i ∙ sym e })
      (λ b. b.at ∙ ap (λ (n : ℕ). index_if n q) (booked_own b) ∙ e)

-- ---- the index block

module _ {image : List ℕ} {g : Geometry} where
  pub own_none : {before : List ℕ} {q : ℕ} → q ≡ 0 → OwnMarking image g q before before (Some 0)
  own_none {before} {q} z = subst (λ (n : ℕ). OwnMarking image g n before before (Some 0)) (sym z) (record {
    marking = λ held k. marks (λ d. absurd (d refl)) (rw append-nil k);
    slices = refl;
  })

  -- the block is refused
  pub own_refused : {before after : List ℕ} (q : ℕ) → (q ≡ 0 → ⊥) → IndexMarking image g q before after None → OwnMarking image g q before after None
  own_refused zero d m = absurd (d refl)
  own_refused (suc q) d m = record {
    marking = λ held k. refuses (λ own once. (m.pairs.marking held k.is k.once).not refl (own d).block once);
    slices = tt;
  }

  -- it is legal: its first sector decides
  -- no slice starts below F, and past the image's end stands nothing
  pub own_outside : {before : List ℕ} (q : ℕ) → UnitOf image g → (q ≡ 0 → ⊥) → (DataSector g q → ⊥) → OwnMarking image g q before before None
  own_outside q unit named outside = record {
    marking = λ held k. record {
      yes = λ e. absurd (true≢false (sym e));
      not = λ e own once. refuted (own named);
    };
    slices = tt;
  }
    where
      past_image : length image ≤ q * 256 → word image q 0 ≡ 0
      past_image h = ap (λ (i : ℕ). get_or image i 0) (add-zero (q * 256)) ∙ get_or-eq_default image 0 h

      refuted : OwnIndex image g.first.0 g.slice q → ⊥
      refuted own = below_or q g.sectors
          (λ high. outside (record { low = omega (arith, own.first); high = high }))
          (λ past. omega (arith, own.block.some, past_image (omega (arith, unit.size))))

  pub own_some : {before after : List ℕ} (q : ℕ) {found : Indexed} (r : Bool) → r ≡ eqb found.start.0 q → (q ≡ 0 → ⊥) → PairsMarking image g q before after (Some found)
      → OwnMarking image g q before after (then_some r found.slices)
  own_some zero r e d m = absurd (d refl)
  own_some (suc q) {found} true e d m = record {
    marking = λ held k.
        let y = (m.marking held k.is k.once).yes refl in
        marks (λ _. record { block = y.0; first = sym m.start ∙ eqb-true found.start.0 (suc q) (sym e) }) (record { is = y.2; once = y.1 });
    slices = m.slices;
  }
  own_some (suc q) {found} false e d m = record {
    marking = λ held k. refuses (λ own once. eqb-false found.start.0 (suc q) (sym e) (m.start ∙ (own d).first));
    slices = tt;
  }

  -- ---- the whole file

  module _ {before after : List ℕ} {q : ℕ} (entry : Entry) (live : Option Live) (at : q ≡ index_by live entry.index.0) where
    moved : {found : Option ℕ} → OwnMarking image g q before after found → OwnMarking image g (index_by live entry.index.0) before after found
    moved {found} = subst (λ (n : ℕ). OwnMarking image g n before after found) at

    pub file_refused : OwnMarking image g q before after None → FileMarking image g entry live before after false
    file_refused own = record { marking = λ held k. refuses (λ rules. ((moved own).marking held k).not refl rules.index) }

    pub file_judged : {found : ℕ} {r : Bool} → OwnMarking image g q before after (Some found) → Decides r (FileNumbers g.slice entry live found)
        → FileMarking image g entry live before after r
    file_judged own d = record {
      marking = λ held k.
          let y = ((moved own).marking held k).yes refl in
          let count = (moved own).slices in
          record {
            yes = λ t. (record { index = y.0; numbers = subst (λ (n : ℕ). FileNumbers g.slice entry live n) count (d.yes t) }, y.1, y.2);
            not = λ f rules _. d.not f (subst (λ (n : ℕ). FileNumbers g.slice entry live n) (sym count) rules.numbers);
          };
    }

-- ---- the rules of a sound unit

-- what holds of a closed file, and of the area process of an open one
beside : {A : Type 0} (B : Live → Type 0) (o : maybe.Option Area) → (o ≡ none → A) → ((a : Area) → o ≡ some a → B (record { index = a.index; length = a.length }))
    → MatchOption (live_of o) A B
beside B none shut live = shut refl
beside B (some a) shut live = live a refl

beside_none : {A : Type 0} (B : Live → Type 0) (o : maybe.Option Area) → o ≡ none → MatchOption (live_of o) A B → A
beside_none B none e m = m
beside_none B (some a) e m = absurd cc

beside_some : (A : Type 0) (B : Live → Type 0) (o : maybe.Option Area) {a : Area} → o ≡ some a → MatchOption (live_of o) A B → B (record { index = a.index; length = a.length })
beside_some A B o e m = rw e at m

module _ (image : List ℕ) (state : State) (F s : ℕ) (P : ℕ → ℕ → ℕ) (t : ℕ) where
  abbrev pub entry_in : Entry
  entry_in = record { attributes = P t 6; size = P t 7; index = record { 0 = P t 8 }; reserved = P t 9 }

  abbrev area : maybe.Option Area
  area = open_area state (name_at P t)

  -- what counts, by the entry's numbers beside the area process
  index_is : index_by (live_of area) (P t 8) ≡ live_index area (P t 8)
  index_is = index_of_lem area (P t 8)

  length_is : length_by (live_of area) (P t 7) ≡ live_length area (P t 7)
  length_is = length_of_lem area (P t 7)

  pub rules_sound : FileRules image F s entry_in (live_of area) → SoundFile image state F s P t
  rules_sound r =
      let n = r.numbers in
      record {
        legal = rw (← length_is, ← index_is) (record { allowed = n.allowed; entry_only = n.entry_only; short = n.short; covered = n.covered; index = r.index });
        closed = λ e. rw (← index_is) (beside_none _ area e n.booked);
        booked = λ a e. let b = beside_some _ _ area e n.booked in rw e (rw e at b);
      }

  pub sound_rules : SoundFile image state F s P t → FileRules image F s entry_in (live_of area)
  sound_rules f =
      let l = f.legal in
      record {
        index = rw index_is l.index;
        numbers = record {
          allowed = l.allowed;
          entry_only = rw index_is l.entry_only;
          short = rw length_is l.short;
          covered = rw (length_is, index_is) l.covered;
          booked = beside _ area (λ e. rw index_is (f.closed e)) (λ a e. let b = f.booked a e in rw e (rw e at b));
        };
      }
