-- What each message's contract says determines the image and the state: two images or states that it allows are equal.
use Rattle.std.specs.Prelude.{Some}
use mathlib.Core.Path.{◌≡◌, sym, ap, ap₂, ◌∙◌, subst}
use mathlib.Core.List.{List, []}
use mathlib.Core.Logic.{◌≢◌}
use mathlib.Core.Option.{none, some}
use Prim.Native.Nat.{ℕ, ◌<◌}
use native.Mathlib.Omega.{arith}
use Rattle.types.specs.declared.Name.{Name}
use Rattle.types.specs.declared.Answer.{Answer}
use Rattle.types.specs.declared.State.{State}
use Rattle.types.specs.declared.Message.{Message}
use Rattle.types.specs.declared.Message.TheVariants.{Init, Set, Create, LookUp, Change, Remove, CreateArea, RemoveArea, AreaMessage, UnitDescription, Listing}
use Rattle.disc.specs.Names.{SYS, named}
use Rattle.disc.specs.Entries.{place_count, name_at}
use Rattle.disc.proofs.Compare.{same_or, below_or}
use Rattle.plain.specs.Table.{table_find}
use Rattle.plain.specs.Unit.{Plain, File, sys_of}
use Rattle.plain.specs.Questions.{Outcome, answer}
use Rattle.plain.specs.Catalog.{step_change}
use Rattle.plain.specs.Step.{Reply}
use Rattle.plain.specs.Good.{Good}
use Rattle.plain.proofs.TableLaws.{some_inj, some≢none, find_put, find_remove, find_above}
use Rattle.refine.specs.Represents.{Represents}
use Rattle.refine.specs.OnDisc.{OnDisc}
use Rattle.refine.specs.Writes.{booked_image, removed_image, created_image, renamed_image}
use Rattle.refine.specs.Leaves.{Decided, refused, written, Replies}
use Rattle.preservation.proofs.Whole.{on_disc}
use Rattle.refine.specs.Demands.{Performed}
use Rattle.refine.proofs.StateLaws.{same_absent}
use Rattle.refine.proofs.SoundRepresents.{sound_represents}
use Rattle.names.specs.NameIs.{NameIs}
use Rattle.names.proofs.NameIsLaws.{name_is_unique}
use Rattle.state.specs.Areas.{area_closed}
use Rattle.lookup.specs.Unit.{unit_places}
use Rattle.lookup.specs.Find.{FirstUnused}
use Rattle.preservation.specs.Units.{grown_unit}
use Rattle.grow.specs.Grow.{GrownFrom}
use Rattle.create.specs.Create.{CreatedOn, Created, stays, grows}
use Rattle.remove.specs.Remove.{Removed}
use Rattle.change.specs.Rewrite.{Rewrites, stayed, moved}
use Rattle.areas.specs.Areas.{AreaMade, AreaCreated, dummy_create, made, AreaBooked, AreaRemoved, dummy_remove, books}
use Rattle.change.specs.Change as change
use Rattle.change.proofs.ChangeUnit.{change_grown_lem}
use Rattle.format.specs.Format.{Formatted}
use Rattle.perform.specs.Perform.{performed, Wrote, Untouched, Performs, unknown, unsound, obeyed}

-- ---- places

-- a name stands in one place
module _ {image : List ℕ} {p : Plain} (on : OnDisc image p) (n : ℕ) (positive : n ≢ 0) where
  one_place : (t u : ℕ) → t < place_count p.H p.layers → u < place_count p.H p.layers → name_at (unit_places image p) t ≡ n → name_at (unit_places image p) u ≡ n → t ≡ u
  one_place t u h k e f = on.layout.sys.places.alone t u h k (e ∙ sym f) (λ z. positive (sym e ∙ z))

-- the first unused place of a key is one
first_one : {image : List ℕ} {p : Plain} {k t u : ℕ} → FirstUnused image p (sys_of p) k t → FirstUnused image p (sys_of p) k u → t ≡ u
first_one {t = t} {u = u} x y =
    below_or t u (λ h. absurd (y.earlier t h x.key x.unused)) (λ h. same_or t u (λ e. e) (λ d. absurd (x.earlier u (omega arith) y.key y.unused)))

file_positive : {p : Plain} → Good p → (n : ℕ) {f : File} → table_find n p.files ≡ some f → n ≢ 0
file_positive {p} g n {f} e z = omega (arith, find_above n 0 f p.files g.catalog.names e)

-- ---- two replies to one message

at_one : {i j : ℕ} → Some i ≡ Some j → i ≡ j
at_one e = cc

module _ {p : Plain} {o : Outcome} {lent : List ℕ} {m n : ℕ} (same : m ≡ n) {A B : Type 0} {P Q : Plain → Type 0} {C : Type 0} where
  both : Replies p o lent m A P → Replies p o lent n B Q → (A → B → C) → (o.answer.result ≡ 0 → P o.unit → Q o.unit → C) → C
  both x y f g = go x.left y.left
    where
      go : Decided p m A P o.unit → Decided p n B Q o.unit → C
      go (refused _ _ a) (refused _ _ b) = f a b
      go (refused d _ _) (written z _) = absurd (d (same ∙ z))
      go (written z _) (refused d _ _) = absurd (d (sym same ∙ z))
      go (written z a) (written _ b) = g (ap (λ (u : Outcome). u.answer.result) x.answered ∙ z) a b

-- ---- SYS grown, Create and Set

grown_one : {image : List ℕ} {p : Plain} {a b : List ℕ} → OnDisc image p → GrownFrom image p a → GrownFrom image p b → a ≡ b
grown_one on x y = x.written ∙ rw (one_place on SYS (λ z. omega arith) x.place y.place x.inside y.inside x.named y.named) (sym y.written)

created_one : {p : Plain} {image : List ℕ} {n : ℕ} {f : File} {a b : List ℕ} → CreatedOn p image n f a → CreatedOn p image n f b → a ≡ b
created_one {p} {image} {n} {f} x y = x.written ∙ ap (λ (t : ℕ). created_image p (sys_of p) image t n f) (first_one x.first y.first) ∙ sym y.written

created_same : {p : Plain} {image : List ℕ} {n size attributes : ℕ} {optional tail a b : List ℕ} {u : Plain} → OnDisc image p
    → Created p image n size attributes optional tail a u → Created p image n size attributes optional tail b u → a ≡ b
created_same on (stays x _) (stays y _) = created_one x y
created_same on (stays x s) (grows y t) = absurd (omega (arith, ap (λ (q : Plain). q.layers) (sym s ∙ t)))
created_same on (grows x s) (stays y t) = absurd (omega (arith, ap (λ (q : Plain). q.layers) (sym s ∙ t)))
created_same on (grows x _) (grows y _) = created_one (rw (grown_one on x.grows y.grows) at x.created) y.created

-- ---- Remove

removed_same : {p : Plain} {image : List ℕ} {n : ℕ} {a b : List ℕ} {u v : Plain} → OnDisc image p → Removed p image n a u → Removed p image n b v → a ≡ b
removed_same {p} {image} {n} on x y =
    let place = one_place on n (file_positive on.good n x.file) x.t y.t x.inside y.inside x.stands y.stands in
    x.written ∙ ap₂ (λ (t : ℕ) (f : File). removed_image p (sys_of p) image t f) place (some_inj (sym x.file ∙ y.file)) ∙ sym y.written

-- ---- Change

rewrites_one : {image : List ℕ} {p : Plain} {t n m : ℕ} {f f' : File} {a b : List ℕ} → Rewrites image p t n m f f' a → Rewrites image p t n m f f' b → a ≡ b
rewrites_one (stayed _ x) (stayed _ y) = x ∙ sym y
rewrites_one (stayed e x) (moved d u first y) = absurd (d e)
rewrites_one (moved d u first x) (stayed e y) = absurd (d e)
rewrites_one {image} {p} {t} {n} {m} {f} {f'} (moved d u x e) (moved _ v y g) = e ∙ ap (λ (i : ℕ). renamed_image p (sys_of p) image t i m f f') (first_one x y) ∙ sym g

changed_one : {p : Plain} {image : List ℕ} {n : ℕ} {f : File} {lent a b : List ℕ} → OnDisc image p → n ≢ 0 → change.ChangedOn p image n f lent a → change.ChangedOn p image n f lent b → a ≡ b
changed_one {n = n} on positive x y =
    rewrites_one (rw (one_place on n positive x.t y.t x.inside y.inside x.stands y.stands) at x.rewrites) y.rewrites

module _ {p : Plain} {image : List ℕ} (on : OnDisc image p) (name : Name) (lent : List ℕ) (z : (step_change p name lent).answer.result ≡ 0) where
  change_same : {f : File} {a b : List ℕ} {u v : Plain} → table_find (named name) p.files ≡ some f → change.Changed p image (named name) f lent a u → change.Changed p image (named name) f lent b v → a ≡ b
  change_same file (change.stays _ x _) (change.stays _ y _) = changed_one on (file_positive on.good (named name) file) x y
  change_same file (change.stays s x _) (change.grows t i gf y _) = absurd (omega (arith, sym s ∙ t))
  change_same file (change.grows s i gf x _) (change.stays t y _) = absurd (omega (arith, sym s ∙ t))
  change_same {f} {a} file (change.grows s i gf x _) (change.grows t j gg y _) =
      changed_one (change_grown_lem name lent z file t on gg) (file_positive on.good (named name) file)
      (subst (λ (k : List ℕ). change.ChangedOn (grown_unit p) k (named name) f lent a) (grown_one on gf gg) x) y

  change_done_same : {a b : List ℕ} {u v : Plain} → change.ChangeDone p image (named name) lent a u → change.ChangeDone p image (named name) lent b v → a ≡ b
  change_done_same {a} {u = u} x y =
      change_same y.file (subst (λ (f : File). change.Changed p image (named name) f lent a u) (some_inj (sym x.file ∙ y.file)) x.changed) y.changed

-- ---- area create and remove

module _ {image : List ℕ} {state : State} {p : Plain} (g : Good p) (r : Represents image state p) where
  -- two names of one number
  name_one : {x y : Name} {n : ℕ} → NameIs x n → NameIs y n → x ≡ y
  name_one a b = let e = name_is_unique a b in λ i. record { 0 = e.0 i; 1 = e.1 i; 2 = e.2 i }

  -- a created area is in the unit, one that is not there before
  not_made : {n : ℕ} {u : Plain} {s : State} → u ≡ p → AreaMade p state n s u → ⊥
  not_made {n} f m =
      let shut : table_find n p.areas ≡ none = same_absent state p r.areas n m.absent in
      let made : table_find n p.areas ≡ some [] = ap (λ (q : Plain). table_find n q.areas) (sym f ∙ m.unit) ∙ find_put n [] p.areas in
      some≢none (sym made ∙ shut)

  made_same : {n : ℕ} {s t : State} {u : Plain} → AreaCreated p state n s u → AreaCreated p state n t u → s ≡ t
  made_same (dummy_create _ x) (dummy_create _ y) = x ∙ sym y
  made_same (dummy_create f _) (made m) = absurd (not_made f m)
  made_same (made m) (dummy_create f _) = absurd (not_made f m)
  made_same (made m) (made k) =
      let same_name = name_one m.is k.is in
      let file = some_inj (sym m.file ∙ k.file) in
      let j : m.j ≡ k.j = at_one (sym m.vacant ∙ k.vacant) in
      m.left ∙ rw (j, same_name, file) (sym k.left)

  not_booked : {n : ℕ} {u : Plain} {a : List ℕ} {s : State} → u ≡ p → AreaBooked p image state n a s u → ⊥
  not_booked {n} f m =
      let gone : table_find n p.areas ≡ none = ap (λ (q : Plain). table_find n q.areas) (sym f ∙ m.unit) ∙ find_remove n 0 p.areas g.area_names in
      some≢none (sym m.alone ∙ gone)

  booked_same : {n : ℕ} {a b : List ℕ} {s t : State} {u : Plain} → AreaRemoved p image state n a s u → AreaRemoved p image state n b t u → (a ≡ b) × (s ≡ t)
  booked_same (dummy_remove _ x s) (dummy_remove _ y t) = (x ∙ sym y, s ∙ sym t)
  booked_same (dummy_remove f _ _) (books m) = absurd (not_booked f m)
  booked_same (books m) (dummy_remove f _ _) = absurd (not_booked f m)
  booked_same {n} (books m) (books k) =
      let place = one_place (on_disc g r) n (file_positive g n m.file) m.t k.t m.inside k.inside m.stands k.stands in
      let file = some_inj (sym m.file ∙ k.file) in
      let j : m.j ≡ k.j = at_one (sym m.found ∙ k.found) in
      (m.written ∙ ap₂ (λ (t : ℕ) (f : File). booked_image p (sys_of p) image t n f) place file ∙ sym k.written, m.left ∙ ap (area_closed state) j ∙ sym k.left)

  -- ---- every message

  abbrev result : Answer → ℕ
  result a = a.result

  pub wrote_same : (message : Message) (lent : List ℕ) (x y : Performed) → x.answer ≡ y.answer → Wrote p image state message lent x → Wrote p image state message lent y
      → (x.image ≡ y.image) × (x.state ≡ y.state)
  wrote_same (Init unit) lent x y e a b = (a.0 ∙ sym b.0, a.1 ∙ sym b.1)
  wrote_same (Set name) lent x y e a b =
      (both (ap result e) a.0.step b.0.step (λ s t. s ∙ sym t) (λ z. created_same (on_disc g r)), a.1 ∙ sym b.1)
  wrote_same (Create name size attributes) lent x y e a b =
      (both (ap result e) (a.0.step lent) (b.0.step lent) (λ s t. s ∙ sym t) (λ z. created_same (on_disc g r)), a.1 ∙ sym b.1)
  wrote_same (LookUp name) lent x y e a b = (a.0 ∙ sym b.0, a.1 ∙ sym b.1)
  wrote_same (Change name) lent x y e a b =
      (both (ap result e) a.0.step b.0.step (λ s t. s ∙ sym t) (λ z. change_done_same (on_disc g r) name lent z), a.1 ∙ sym b.1)
  wrote_same (Remove name) lent x y e a b =
      (both (ap result e) (a.0.step lent) (b.0.step lent) (λ s t. s ∙ sym t) (λ z. removed_same (on_disc g r)), a.1 ∙ sym b.1)
  wrote_same (CreateArea name) lent x y e a b = (a.0 ∙ sym b.0, both (ap result e) (a.1.step lent) (b.1.step lent) (λ s t. s ∙ sym t) (λ z. made_same))
  wrote_same (RemoveArea name) lent x y e a b = both (ap result e) (a.step lent) (b.step lent) (λ s t. (s.0 ∙ sym t.0, s.1 ∙ sym t.1)) (λ z. booked_same)
  wrote_same (AreaMessage name sender operation) lent x y e a b = (a.written ∙ rw e (sym b.written), a.reached ∙ rw e (sym b.reached))
  wrote_same (UnitDescription unit bytes) lent x y e a b = (a.0 ∙ sym b.0, a.1 ∙ sym b.1)
  wrote_same (Listing unit) lent x y e a b = (a.0 ∙ sym b.0, a.1 ∙ sym b.1)

-- ---- every call

untouched_is : {word : ℕ} {image : List ℕ} {state : State} {lent : List ℕ} {x : Performed} → Untouched word image state lent x → x ≡ performed image state (answer word 0 0 0) lent
untouched_is u = λ i. record { image = u.same_image i; state = u.same_state i; answer = u.answered i; lent = u.same_lent i }

pub determined : {image : List ℕ} {state : State} {message : Message} {lent : List ℕ} {x y : Performed} → Performs image state message lent x → Performs image state message lent y → x ≡ y
determined (unknown _ a) (unknown _ b) = untouched_is a ∙ sym (untouched_is b)
determined (unknown n a) (unsound k _ b) = absurd (n k)
determined (unknown n a) (obeyed k _ b) = absurd (n k)
determined (unsound k _ a) (unknown n b) = absurd (n k)
determined (unsound _ _ a) (unsound _ _ b) = untouched_is a ∙ sym (untouched_is b)
determined (unsound _ n a) (obeyed _ s b) = absurd (n s)
determined (obeyed k _ a) (unknown n b) = absurd (n k)
determined (obeyed _ s a) (unsound _ n b) = absurd (n s)
determined {image} {state} {message} {lent} {x} {y} (obeyed k s a) (obeyed _ _ b) =
    let read = sound_represents.reads image state s in
    let oa = a read.0 read.1 read.2 in
    let ob = b read.0 read.1 read.2 in
    let e = oa.same ∙ sym ob.same in
    let w = wrote_same read.1 read.2 message lent x y (ap (λ (r : Reply). r.answer) e) oa.wrote ob.wrote in
    λ i. record { image = w.0 i; state = w.1 i; answer = (e i).answer; lent = (e i).lent }

-- ---- two results of Format

pub format_same : (r q : Formatted) → r.result ≡ q.result → r.state ≡ q.state → r ≡ q
format_same r q e f = λ i. record { result = e i; state = f i }
