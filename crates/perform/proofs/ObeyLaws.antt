-- Each message's contract gives what the one call promises.
use mathlib.Core.Path.{◌≡◌, refl, sym, ap, ◌∙◌, subst}
use mathlib.Core.Bool.{Bool, true, false, ◌&&◌}
use mathlib.Core.List.{List}
use mathlib.Core.Logic.{◌≢◌}
use Prim.Native.Nat.{ℕ}
use native.Mathlib.Omega.{arith}
use lib.Dec.{T, leb}
use lib.ListN.{length}
use borrow.Author.Tests.{le-leb, eq-eqb, ne_eqb}
use Rattle.types.specs.declared.Answer.{Answer}
use Rattle.types.specs.declared.Name.{Name}
use Rattle.types.specs.declared.State.{State}
use Rattle.types.specs.declared.Operation.{Operation}
use Rattle.types.specs.declared.Message.{Message}
use Rattle.types.specs.declared.Message.TheVariants.{Init, Set, Create, LookUp, Change, Remove, CreateArea, RemoveArea, AreaMessage, UnitDescription, Listing}
use Rattle.types.specs.State.{UnitKnown}
use Rattle.disc.specs.Words.{Words}
use Rattle.catalog.specs.declared.Unit.{Unit}
use Rattle.plain.specs.Unit.{Plain}
use Rattle.plain.specs.Questions.{Outcome, answer, known, done}
use Rattle.plain.specs.Step.{step, reply}
use Rattle.plain.specs.Good.{Good}
use Rattle.plain.proofs.QuestionLaws.{true_yes, asks_yes}
use Rattle.state.specs.Areas.{initialized}
use Rattle.refine.specs.Represents.{Represents}
use Rattle.refine.proofs.StateLaws.{same_none}
use Rattle.preservation.proofs.Whole.{on_disc}
use Rattle.lookup.specs.Unit.{NumbersOf, MeantOn, Meant}
use Rattle.lookup.specs.LookUp.{LooksUp}
use Rattle.refine.specs.Leaves.{Leaves, StandFor}
use Rattle.refine.proofs.LeavesLaws.{decided_cases}
use Rattle.create.specs.Create.{CreateStep, Creates, SetStep, Sets}
use Rattle.create.proofs.CreateSteps.{create_represents, set_represents}
use Rattle.remove.specs.Remove.{RemoveStep, Removes}
use Rattle.remove.proofs.RemoveUnit.{remove_stepped}
use Rattle.change.specs.Change.{ChangeStep, Changes}
use Rattle.change.proofs.ChangeUnit.{change_stepped}
use Rattle.areas.specs.Areas.{AreaDone, CreateAreaStep, CreatesArea, AreaCreated, dummy_create, made, RemoveAreaStep, RemovesArea, AreaRemoved, dummy_remove, books}
use Rattle.areas.proofs.AreaUnits.{create_area_stepped, remove_area_stepped}
use Rattle.reports.specs.Description.{Describes}
use Rattle.reports.specs.Listing.{Lists}
use Rattle.area_messages.specs.AreaMessages.{AreaMessages}
use Rattle.area_users.specs.declared.AreaReply.{AreaReply}
use Rattle.perform.proofs.StateKept.{Kept, kept_same, state_kept}
use Rattle.first_question.specs.Known.{unit_meant, Known}
use Rattle.perform.specs.Perform.{performed, Wrote, Obeyed, CanObey, Obeys}

-- "Unit known": the number meant is the state's or not
pub known_no : (p : Plain) (unit : ℕ) → unit ≢ p.unit → known p unit ≡ false
known_no p unit d = ap (λ (b : Bool). b && leb unit 3) (ne_eqb unit p.unit d)

module _ {image : List ℕ} {state : State} {p : Plain} (g : Good p) (r : Represents image state p) where
  pub known_yes : {unit : ℕ} → UnitKnown state unit → known p unit ≡ true
  known_yes {unit} k = rw (eq-eqb unit p.unit (k.number ∙ r.areas.number)) (le-leb unit 3 (omega (arith, k.number, k.low)))

  -- the unit that the message means is the plain unit
  pub meant : {message : Message} → Known state message → T (known p (unit_meant message))
  meant k = rw (known_yes k.unit) tt

  -- and has its number
  own : {message : Message} → Known state message → p.unit ≡ unit_meant message
  own k = sym (k.unit.number ∙ r.areas.number)

  -- the unit stays
  pub stays : (message : Message) (lent : List ℕ) {a : Answer} {after : List ℕ} → state.initialized ≡ true → step p message lent ≡ record { unit = p; answer = a; lent = after }
      → Wrote p image state message lent (performed image state a after) → Obeyed p image state message lent (record { image = image; state = state; answer = a; lent = after })
  stays message lent i e w = record {
    wrote = w;
    same = sym (ap reply e);
    represents = subst (Represents image state) (sym (ap (λ (o : Outcome). o.unit) e)) r;
    number = refl;
    initialized = i;
  }

  -- a result word alone
  steps : (message : Message) (lent : List ℕ) {after : List ℕ} {next : State} {result : ℕ} → next.unit ≡ state.unit → next.initialized ≡ true
      → Wrote p image state message lent (performed after next (answer result 0 0 0) lent) → Leaves (step p message lent) (answer result 0 0 0) lent (StandFor after next) → Obeyed p image state message lent (record { image = after; state = next; answer = answer result 0 0 0; lent = lent })
  steps message lent u i w s = record {
    wrote = w;
    same = sym (ap reply s.answered);
    represents = s.left.represents;
    number = u;
    initialized = i;
  }

  pub look_up_obeyed : {o : Unit} {name : Name} {lent after : List ℕ} {result : ℕ} → NumbersOf o p → Known state (LookUp name) → LooksUp image o name lent result after
      → Obeyed p image state (LookUp name) lent (record { image = image; state = state; answer = answer result 0 0 0; lent = after })
  look_up_obeyed {name = name} {lent = lent} n k c = stays (LookUp name) lent k.ready (c.all p (on_disc g r) n (own k)) (refl, refl)

  pub describe_obeyed : {o : Unit} {unit bytes : ℕ} {lent after : List ℕ} {a : Answer} → NumbersOf o p → Known state (UnitDescription unit bytes) → Describes image o unit bytes lent a after
      → Obeyed p image state (UnitDescription unit bytes) lent (record { image = image; state = state; answer = a; lent = after })
  describe_obeyed {unit = unit} {bytes = bytes} {lent = lent} n k c = stays (UnitDescription unit bytes) lent k.ready (c.all p (on_disc g r) n (own k)) (refl, refl)

  pub list_obeyed : {o : Unit} {unit : ℕ} {lent after : List ℕ} {a : Answer} → NumbersOf o p → Known state (Listing unit) → Lists image o lent a after
      → Obeyed p image state (Listing unit) lent (record { image = image; state = state; answer = a; lent = after })
  list_obeyed {unit = unit} {lent = lent} n k c = stays (Listing unit) lent k.ready (c.all p (on_disc g r) n unit (meant k)) (refl, refl)

  -- each message by its step on the unit p, and by its contract

  pub create_by : {name : Name} {size attributes : ℕ} {lent after : List ℕ} {result : ℕ} → Known state (Create name size attributes)
      → CreateStep p image name size attributes after result → Obeyed p image state (Create name size attributes) lent (record { image = after; state = state; answer = answer result 0 0 0; lent = lent })
  create_by {name = name} {size = size} {attributes = attributes} {lent = lent} k s = steps (Create name size attributes) lent refl k.ready (s, refl) (create_represents g r s lent)

  pub create_obeyed : {o : Unit} {name : Name} {size attributes : ℕ} {lent after : List ℕ} {result : ℕ} → NumbersOf o p → Known state (Create name size attributes)
      → Creates image o name size attributes after result → Obeyed p image state (Create name size attributes) lent (record { image = after; state = state; answer = answer result 0 0 0; lent = lent })
  create_obeyed n k c = create_by k (c.all p (on_disc g r) n (own k))

  pub set_by : {name : Name} {lent after : List ℕ} {result : ℕ} → Words lent → Known state (Set name) → SetStep p image name lent after result
      → Obeyed p image state (Set name) lent (record { image = after; state = state; answer = answer result 0 0 0; lent = lent })
  set_by {name = name} {lent = lent} w k s = steps (Set name) lent refl k.ready (s, refl) (set_represents g r s w)

  pub set_obeyed : {o : Unit} {name : Name} {lent after : List ℕ} {result : ℕ} → Words lent → NumbersOf o p → Known state (Set name) → Sets image o name lent after result
      → Obeyed p image state (Set name) lent (record { image = after; state = state; answer = answer result 0 0 0; lent = lent })
  set_obeyed w n k c = set_by w k (c.all p (on_disc g r) n (own k))

  pub remove_by_lem : {name : Name} {lent after : List ℕ} {result : ℕ} → Known state (Remove name) → RemoveStep p image name after result
      → Obeyed p image state (Remove name) lent (record { image = after; state = state; answer = answer result 0 0 0; lent = lent })
  remove_by_lem {name = name} {lent = lent} k s = steps (Remove name) lent refl k.ready (s, refl) (remove_stepped g r s lent)

  pub remove_obeyed : {o : Unit} {name : Name} {lent after : List ℕ} {result : ℕ} → NumbersOf o p → Known state (Remove name) → Removes image o state name after result
      → Obeyed p image state (Remove name) lent (record { image = after; state = state; answer = answer result 0 0 0; lent = lent })
  remove_obeyed n k c = remove_by_lem k (c.all p g r n)

  pub change_by : {name : Name} {lent after : List ℕ} {result : ℕ} → Words lent → Known state (Change name) → ChangeStep p image name lent after result
      → Obeyed p image state (Change name) lent (record { image = after; state = state; answer = answer result 0 0 0; lent = lent })
  change_by {name = name} {lent = lent} w k s = steps (Change name) lent refl k.ready (s, refl) (change_stepped g r w s)

  pub change_obeyed : {o : Unit} {name : Name} {lent after : List ℕ} {result : ℕ} → Words lent → NumbersOf o p → Known state (Change name) → Changes image o state name lent after result
      → Obeyed p image state (Change name) lent (record { image = after; state = state; answer = answer result 0 0 0; lent = lent })
  change_obeyed w n k c = change_by w k (c.all p g r n)

  pub create_area_by : {name : Name} {lent : List ℕ} {d : AreaDone} → Known state (CreateArea name) → CreateAreaStep p state name d
      → Obeyed p image state (CreateArea name) lent (record { image = image; state = d.state; answer = answer d.result 0 0 0; lent = lent })
  create_area_by {name = name} {lent = lent} {d = d} k s =
      let e = decided_cases (λ u same. kept_same same) kept (s.step lent).left in
      steps (CreateArea name) lent e.unit (e.initialized ∙ k.ready) (refl, s) (create_area_stepped g r s lent)
    where
      kept : {n : ℕ} {q : Plain} → AreaCreated p state n d.state q → Kept state d.state
      kept (dummy_create a same) = kept_same same
      kept (made m) = rw m.left (record { unit = refl; initialized = refl })

  pub create_area_obeyed : {o : Unit} {name : Name} {lent : List ℕ} {d : AreaDone} → NumbersOf o p → Known state (CreateArea name) → CreatesArea image o state name d
      → Obeyed p image state (CreateArea name) lent (record { image = image; state = d.state; answer = answer d.result 0 0 0; lent = lent })
  create_area_obeyed n k c = create_area_by k (c.all p g r n)

  pub remove_area_by : {name : Name} {lent after : List ℕ} {d : AreaDone} → Known state (RemoveArea name) → RemoveAreaStep p image state name after d
      → Obeyed p image state (RemoveArea name) lent (record { image = after; state = d.state; answer = answer d.result 0 0 0; lent = lent })
  remove_area_by {name = name} {lent = lent} {after = after} {d = d} k s =
      let e = decided_cases (λ u same. kept_same same.1) kept (s.step lent).left in
      steps (RemoveArea name) lent e.unit (e.initialized ∙ k.ready) s (remove_area_stepped g r s lent)
    where
      kept : {n : ℕ} {q : Plain} → AreaRemoved p image state n after d.state q → Kept state d.state
      kept (dummy_remove a b same) = kept_same same
      kept (books m) = rw m.left (record { unit = refl; initialized = refl })

  pub remove_area_obeyed : {o : Unit} {name : Name} {lent after : List ℕ} {d : AreaDone} → NumbersOf o p → Known state (RemoveArea name) → RemovesArea image o state name after d
      → Obeyed p image state (RemoveArea name) lent (record { image = after; state = d.state; answer = answer d.result 0 0 0; lent = lent })
  remove_area_obeyed n k c = remove_area_by k (c.all p g r n)

  pub area_message_obeyed : {o : Unit} {name : Name} {sender : ℕ} {operation : Operation} {lent filled after : List ℕ} {d : AreaReply} → NumbersOf o p
      → Known state (AreaMessage name sender operation) → AreaMessages image state o name sender operation lent d filled after
      → Obeyed p image state (AreaMessage name sender operation) lent (record { image = after; state = d.state; answer = d.answer; lent = filled })
  area_message_obeyed {sender = sender} {operation = operation} {d = d} n k c =
      let a = c.all p g r n in
      let e : Kept state d.state = subst (Kept state) (sym a.reached) (state_kept p state sender operation d.answer _ _) in
      record {
        wrote = a;
        same = sym (ap reply a.leaves.answered);
        represents = a.leaves.left.represents;
        number = e.unit;
        initialized = e.initialized ∙ k.ready;
      }

  -- "Init leaves everything standing."
  pub init_done_lem : {unit : ℕ} (lent : List ℕ) → Known state (Init unit) → step p (Init unit) lent ≡ done p lent
  init_done_lem lent k =
      asks_yes _ _ _ (true_yes (known_yes k.unit))
      ∙ asks_yes _ _ _ (true_yes (eq-eqb (length p.areas) 0 ((same_none _ _ r.areas g.area_names).0 k.ready)))

  pub init_obeyed : {unit : ℕ} {lent : List ℕ} → Known state (Init unit) → Obeyed p image state (Init unit) lent (record { image = image; state = initialized state; answer = answer 0 0 0 0; lent = lent })
  init_obeyed {unit} {lent} k =
      let e = init_done_lem lent k in
      record {
        wrote = (refl, refl);
        same = sym (ap reply e);
        represents = subst (Represents image (initialized state)) (sym (ap (λ (o : Outcome). o.unit) e)) ready;
        number = refl;
        initialized = refl;
      }
    where
      ready : Represents image (initialized state) p
      ready = record {
        words = r.words;
        layout = r.layout;
        areas = record {
          shaped = record { eight = r.areas.shaped.eight; three = r.areas.shaped.three };
          number = r.areas.number;
          distinct = r.areas.distinct;
          distinct_users = r.areas.distinct_users;
          each = r.areas.each;
        };
      }

-- ---- the message in hand is one of these, and so are answer and state

-- what a message's own step starts from
module _ {image : List ℕ} {state : State} {o : Unit} {m message : Message} (c : CanObey image state o m) (e : m ≡ message) where
  known_now : T (known c.standing.unit (unit_meant message))
  known_now = meant c.standing.good c.standing.represents (subst (Known state) e c.known)

  pub can_mean : Meant image state o (unit_meant message)
  can_mean = record { standing = c.standing; meant = known_now }

  pub can_mean_on : MeantOn image o (unit_meant message)
  can_mean_on =
      let h = c.standing in
      record { standing = record { unit = h.unit; on = on_disc h.good h.represents; numbers = h.numbers }; meant = known_now }

pub answer_obeys : {image after lent filled : List ℕ} {state next s : State} {o : Unit} {m message : Message} {a b : Answer} → m ≡ message → Known state m → (a ≡ b) × (s ≡ next)
    → (Known state message → (p : Plain) → Good p → Represents image state p → NumbersOf o p → Obeyed p image state message lent (performed after next b filled))
    → Obeys image state o m lent (performed after s a filled)
answer_obeys {image} {after} {lent} {filled} {state} {next} {o = o} {b = b} e k w f =
    rw (w.0, w.1) (subst (λ (x : Message). Obeys image state o x lent (performed after next b filled)) (sym e) (record { all = f (subst (Known state) e k) }))
