-- Create and Set keep the unit on the image: what their contracts say is written is the image of the plain unit after the message, and the
-- state's areas are its own.
use mathlib.Core.Path.{◌≡◌, refl, sym, ap, ◌∙◌, subst}
use mathlib.Core.Bool.{Bool, true, false}
use mathlib.Core.List.{List}
use mathlib.Core.Option.{none}
use Prim.Native.Nat.{ℕ, suc, ◌≤◌}
use native.Mathlib.Omega.{arith}
use lib.Dec.{T, leb→le}
use lib.ListN.{length}
use Rattle.types.specs.declared.Name.{Name}
use Rattle.types.specs.declared.State.{State}
use Rattle.disc.specs.Words.{Words}
use Rattle.disc.specs.Names.{named, unit_in, key_of}
use Rattle.plain.specs.Table.{table_find}
use Rattle.plain.specs.Unit.{Plain, sys_of}
use Rattle.plain.specs.Questions.{Outcome, answer, asks, known}
use Rattle.plain.specs.Taking.{layers_for}
use Rattle.plain.specs.Catalog.{optional_in, attributes_in, size_in, tail_in, is_record, new_file, step_create, step_set}
use Rattle.plain.specs.Good.{Good, WordsOf}
use Rattle.plain.proofs.QuestionLaws.{asks_law}
use Rattle.plain.proofs.UnitLaws.{entry_none}
use Rattle.plain.proofs.WordLaws.{words_of_zeros, optional_words, tail_words}
use Rattle.plain.proofs.TakingLaws.{layers_stay, layers_grow}
use Rattle.plain.proofs.CreateUnit.{Yes, sys_room, sys_few_lem, new_grown, new_stays}
use Rattle.refine.specs.Represents.{Represents}
use Rattle.refine.specs.OnDisc.{OnDisc}
use Rattle.refine.specs.Leaves.{Leaves, StandFor, Decided, refused, written, Replies}
use Rattle.refine.proofs.LeavesLaws.{leaves_map}
use Rattle.refine.proofs.PlaceCount.{sys_entries, unused_room}
use Rattle.preservation.proofs.GrowStep.{grow_on}
use Rattle.preservation.proofs.CreateStep.{create_on}
use Rattle.preservation.proofs.AreaSteps.{areas_grown, create_areas}
use Rattle.preservation.proofs.Whole.{on_disc, stand_for_lem, still}
use Rattle.preservation.specs.Units.{grown_unit, new_file_of}
use Rattle.create.specs.Create.{Created, stays, grows, CreateStep, SetStep}

-- ---- where the answer is 0, every question was answered yes

module _ (p : Plain) (n size attributes : ℕ) (optional tail lent : List ℕ) where
  abbrev Zero : Outcome → Type 0
  Zero x = x.answer.result ≡ 0 → Yes p (layers_for p.H (sys_of p) n p.files) n size attributes

  pub new_file_yes : (new_file p n size attributes optional tail lent).answer.result ≡ 0 → Yes p (layers_for p.H (sys_of p) n p.files) n size attributes
  unfolding new_file
  new_file_yes =
      asks_law Zero _ (λ z. absurd (omega arith)) (λ a. asks_law Zero _ (λ z. absurd (omega arith)) (λ b.
      asks_law Zero _ (λ z. absurd (omega arith)) (λ c. asks_law Zero _ (λ z. absurd (omega arith)) (λ d.
      asks_law Zero _ (λ z. absurd (omega arith)) (λ e. asks_law Zero _ (λ z. absurd (omega arith)) (λ f.
      asks_law Zero _ (λ z. absurd (omega arith)) (λ g. asks_law Zero _ (λ z. absurd (omega arith)) (λ h z. record {
        name = a;
        short = b;
        allowed = c;
        given = d;
        vacant = e;
        room = f;
        sys_few = g;
        few = h;
      }))))))))

-- ---- a new file

module _ {image : List ℕ} {state : State} {p : Plain} (g : Good p) (r : Represents image state p) (n size attributes : ℕ) (optional tail lent : List ℕ) (three : WordsOf 3 optional) (six : WordsOf 6 tail)
    (z : (new_file p n size attributes optional tail lent).answer.result ≡ 0) where
  yes_at : {l : ℕ} → layers_for p.H (sys_of p) n p.files ≡ l → Yes p l n size attributes
  yes_at e = subst (λ (l : ℕ). Yes p l n size attributes) e (new_file_yes p n size attributes optional tail lent z)

  fresh : table_find n p.files ≡ none
  fresh = (entry_none p n (yes_at refl).vacant).0

  -- with SYS as it was, or grown first; the areas are of other names
  created_stand : {after : List ℕ} {q : Plain} → Created p image n size attributes optional tail after q → StandFor after state q
  created_stand (stays c e) =
      let room = unused_room (sys_entries g) r.layout.sys.places (key_of p.H n) c.place c.first.inside c.first.key c.first.unused in
      let y = yes_at (layers_stay p.H (sys_of p) n p.files room) in
      rw (e, c.written)
      (stand_for_lem (create_on (on_disc g r) (new_stays g n size attributes optional tail y three six) c.place c.first.inside c.first.unused c.first.key)
      (create_areas n (new_file_of p size attributes optional tail) g fresh r.areas))
  created_stand (grows h e) =
      let y = yes_at (layers_grow p.H (sys_of p) n p.files h.full) in
      let s = h.grows in
      let c = h.created in
      let on : OnDisc h.grown (grown_unit p) = rw s.written (grow_on (on_disc g r) (sys_room y) (sys_few_lem y) s.place s.inside s.named) in
      let new = new_grown p (suc p.layers) n size attributes optional tail g y three six in
      rw (e, c.written)
      (stand_for_lem (create_on on new c.place c.first.inside c.first.unused c.first.key)
      (create_areas n (new_file_of (grown_unit p) size attributes optional tail) on.good fresh (areas_grown r.areas (suc p.layers) (grown_unit p).sys)))

-- ---- the messages

-- a question before the others: the answer 0 says yes to it
asks_through : (b : Bool) (refusal next : Outcome) → (refusal.answer.result ≡ 0 → ⊥) → (asks b refusal next).answer.result ≡ 0 → T b × (asks b refusal next ≡ next)
unfolding asks
asks_through true refusal next never z = (tt, refl)
asks_through false refusal next never z = absurd (never z)

-- What is known of a message's outcome x where its answer is 0: a new file was asked for, with words for optional and tail.
record Made (p : Plain) (n size attributes : ℕ) (optional tail lent : List ℕ) (x : Outcome) : Type 0 where
  pub three : WordsOf 3 optional
  pub six : WordsOf 6 tail
  pub is : x ≡ new_file p n size attributes optional tail lent

module _ {image : List ℕ} {state : State} {p : Plain} (g : Good p) (r : Represents image state p) where
  made_stand : {n size attributes : ℕ} {optional tail lent : List ℕ} {x : Outcome} {after : List ℕ} {result : ℕ} → (x.answer.result ≡ 0 → Made p n size attributes optional tail lent x)
      → Replies p x lent result (after ≡ image) (Created p image n size attributes optional tail after) → Leaves x (answer result 0 0 0) lent (StandFor after state)
  made_stand {n} {size} {attributes} {optional} {tail} {lent} {x} {after} {result} made l = leaves_map go l
    where
      go : Decided p result (after ≡ image) (Created p image n size attributes optional tail after) x.unit → StandFor after state x.unit
      go (refused nz u same) = still g r u same refl
      go (written z w) =
          let zero : x.answer.result ≡ 0 = ap (λ (y : Outcome). y.answer.result) l.answered ∙ z in
          let m = made zero in
          created_stand g r n size attributes optional tail lent m.three m.six (ap (λ (y : Outcome). y.answer.result) (sym m.is) ∙ zero) w

  pub create_represents : {name : Name} {size attributes : ℕ} {after : List ℕ} {result : ℕ} → CreateStep p image name size attributes after result → (lent : List ℕ)
      → Leaves (step_create p name size attributes lent) (answer result 0 0 0) lent (StandFor after state)
  create_represents {name} s lent = made_stand (λ z. record {
    three = words_of_zeros 3;
    six = words_of_zeros 6;
    is = (asks_through (known p (unit_in name)) _ _ (λ q. omega arith) z).1;
  }) (s.step lent)

  pub set_represents : {name : Name} {lent after : List ℕ} {result : ℕ} → SetStep p image name lent after result → Words lent
      → Leaves (step_set p name lent) (answer result 0 0 0) lent (StandFor after state)
  set_represents {name} {lent} s words = made_stand made s.step
    where
      made : (step_set p name lent).answer.result ≡ 0 → Made p (named name) (size_in lent) (attributes_in lent) (optional_in lent) (tail_in lent) lent (step_set p name lent)
      made z =
          let a = asks_through (known p (unit_in name)) _ _ (λ q. omega arith) z in
          let b = asks_through (is_record lent) _ _ (λ q. omega arith) (ap (λ (y : Outcome). y.answer.result) (sym a.1) ∙ z) in
          let long : 16 ≤ length lent = leb→le 16 (length lent) b.0 in
          record { three = optional_words lent words long; six = tail_words lent words long; is = a.1 ∙ b.1 }
