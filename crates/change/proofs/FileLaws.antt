-- Change of a closed file: the plain unit's outcome, and what the writes ask for and leave.
use mathlib.Core.Path.{◌≡◌, refl, sym, ap, ap₂, ◌∙◌, subst}
use mathlib.Core.Bool.{Bool, true, false, not, cond}
use mathlib.Core.List.{List, [], ◌++◌}
use mathlib.Core.Logic.{◌≢◌}
use mathlib.Core.Option.{none}
use Prim.Native.Nat.{ℕ, suc, ◌+◌, ◌*◌, ◌-◌, ◌≤◌, ◌<◌}
use native.Mathlib.Omega.{arith}
use lib.Dec.{T, leb, eqb, leb→le, eqb→eq}
use lib.ListN.{length}
use borrow.Author.Tests.{le-leb, eq-eqb}
use Rattle.disc.specs.Numbers.{need}
use Rattle.disc.specs.Words.{Words}
use Rattle.disc.specs.Names.{key_of}
use Rattle.disc.specs.Attributes.{legal_attributes, legal_with}
use Rattle.disc.specs.Stretches.{stretch_count}
use Rattle.disc.proofs.DecideLaws.{true≢false}
use Rattle.catalog.specs.declared.Place.{Place}
use Rattle.catalog.specs.declared.Unit.{Unit}
use Rattle.plain.specs.Table.{table_remove}
use Rattle.plain.specs.Unit.{Plain, File, free_slices, entry, sys_of}
use Rattle.plain.specs.Questions.{replies, done}
use Rattle.plain.specs.Taking.{taking, places_taken, layers_for}
use Rattle.plain.specs.Catalog.{is_record, new_name, kept_or, attributes_in, size_in, slices_after, changed, change_file}
use Rattle.plain.proofs.ChangeUnit.{Changes, change_layers, change_grown, changed_on, changed_unit, ChangeAsked, change_outcome, change_changes, moved_vacant, moved_fits}
use Rattle.plain.proofs.GrowUnit.{grown_to, not_grown, entry_grown}
use Rattle.refine.specs.Leaves.{Replies}
use Rattle.refine.proofs.LeavesLaws.{refuses, writes}
use Rattle.preservation.specs.Units.{grown_unit}
use Rattle.lookup.specs.Files.{ClosedFile}
use Rattle.grow.specs.Grow.{CanGrowFrom, CanGrow, Grows}
use Rattle.grow.proofs.BlockLaws.{sys_in}
use Rattle.change.specs.Resize.{slices_then}
use Rattle.change.specs.declared.rewrite.Standing.{Standing}
use Rattle.change.specs.declared.rewrite.Wanted.{Wanted}
use Rattle.change.specs.Rewrite.{StandsAs, file_then, CanRewriteFrom, CanRewrite, Rewrites, Rewritten}
use Rattle.change.specs.Asked.{Stands, WantedOf, LayersFor, AskedAs, CanJudge, Judges}
use Rattle.change.specs.Change.{size_then, attributes_then, file_after, layers_then, Changed, stays, grows}
use Rattle.change.proofs.AnswerLaws.{change_no, change_yes}
use Rattle.change.proofs.GrownLaws.{grown_stands}

-- ---- a test and its opposite

cond_not : (b : Bool) (x y : ℕ) → cond (not b) x y ≡ cond b y x
cond_not true x y = refl
cond_not false x y = refl

same_name : (m n : ℕ) (b : Bool) → b ≡ not (eqb m n) → b ≡ false → m ≡ n
same_name m n b e f = go (eqb m n) refl (sym e ∙ f)
  where
    go : (c : Bool) → eqb m n ≡ c → not c ≡ false → m ≡ n
    go true q h = eqb→eq m n (rw q tt)
    go false q h = absurd (true≢false h)

other_name : (m n : ℕ) (b : Bool) → b ≡ not (eqb m n) → b ≡ true → m ≢ n
other_name m n b e t q = true≢false (sym t ∙ e ∙ ap not (eq-eqb m n q))

layers_low : (a b : Bool) (l : ℕ) → l ≤ cond a l (cond b (suc l) l)
layers_low true b l = omega arith
layers_low false true l = omega arith
layers_low false false l = omega arith

layers_high : (a b : Bool) (l : ℕ) → cond a l (cond b (suc l) l) ≤ suc l
layers_high true b l = omega arith
layers_high false true l = omega arith
layers_high false false l = omega arith

-- The file as it stands and as it is to be, and SYS's layers then.
pub record Known (image : List ℕ) (o : Unit) (n : ℕ) (place : Place) (lent : List ℕ) (now : Standing) (w : Wanted) (layers : ℕ) : Type 0 where
  pub stands : Stands image o place now
  pub wanted : WantedOf o.slice n now lent w
  pub layered : LayersFor image o n w layers

-- Every question is answered yes.
pub record Allowed (image : List ℕ) (o : Unit) (lent : List ℕ) (now : Standing) (w : Wanted) (layers : ℕ) : Type 0 where
  pub judged : Judges image o now w layers 0
  pub long : 16 ≤ length lent
  pub words : Words lent

pub known : {image : List ℕ} {o : Unit} {n : ℕ} {place : Place} {lent : List ℕ} {now : Standing} {w : Wanted} {layers : ℕ} → Stands image o place now → WantedOf o.slice n now lent w
    → LayersFor image o n w layers → Known image o n place lent now w layers
known stands wanted layered = record { stands = stands; wanted = wanted; layered = layered }

pub all_yes : {image : List ℕ} {o : Unit} {lent : List ℕ} {now : Standing} {w : Wanted} {layers : ℕ} → Judges image o now w layers 0 → 16 ≤ length lent → Words lent
    → Allowed image o lent now w layers
all_yes judged long words = record { judged = judged; long = long; words = words }

module _ {image : List ℕ} {o : Unit} {n : ℕ} {place : Place} {lent : List ℕ} {now : Standing} {w : Wanted} {layers : ℕ}
    (known : Known image o n place lent now w layers) where
  abbrev m : ℕ
  m = new_name n lent

  -- of every unit that has the file
  module _ {p : Plain} {f : File} (can : ClosedFile image o place p n f) where
    s : StandsAs image o now p n f
    s = known.stands.all p n f can

    size_is : w.size ≡ size_then f lent
    size_is = known.wanted.size ∙ ap (kept_or (size_in lent)) s.size

    attributes_are : w.attributes ≡ attributes_then f lent
    attributes_are = known.wanted.attributes ∙ ap (kept_or (attributes_in lent)) s.attributes

    slices_are : w.slices ≡ slices_after p.s w.size f
    slices_are =
        known.wanted.slices ∙ ap₂ (λ (b k : ℕ). cond (eqb w.size b) k (need o.slice w.size)) s.size s.slices
        ∙ ap (λ (x : ℕ). cond (eqb w.size f.booked) (length f.slices) (need x w.size)) can.numbers.slice

    count_is : w.slices ≡ slices_after p.s (size_then f lent) f
    count_is = slices_are ∙ ap (λ (x : ℕ). slices_after p.s x f) size_is

    layers_are : layers ≡ layers_then p n lent
    layers_are =
        known.layered.all p f can.on can.numbers can.file
        ∙ ap₂ (λ (b : Bool) (k : ℕ). cond b (layers_for p.H (sys_of p) k (table_remove n p.files)) p.layers) known.wanted.moves known.wanted.name.packed
        ∙ cond_not (eqb m n) (layers_for p.H (sys_of p) m (table_remove n p.files)) p.layers

    asked_as : AskedAs image o now w layers p n (new_name n lent) f
    asked_as = record { stands = s; name = known.wanted.name; moves = known.wanted.moves; slices = slices_are; layered = layers_are }

    pub can_judge : CanJudge image o now w layers
    can_judge = record { unit = p; old = n; new = m; file = f; asked = asked_as }

    module _ {answer : ℕ} (jd : Judges image o now w layers answer) where
      answer_is : answer ≡ (change_file p n f (new_name n lent) (size_then f lent) (attributes_then f lent) lent).answer.result
      answer_is = jd.all p n m f asked_as lent ∙ ap₂ (λ (x y : ℕ). (change_file p n f m x y lent).answer.result) size_is attributes_are

      pub file_refused : answer ≢ 0 → Replies p (change_file p n f (new_name n lent) (size_then f lent) (attributes_then f lent) lent) lent answer (image ≡ image) (Changed p image n f lent image)
      file_refused d =
          refuses d
          (change_no p n m (size_then f lent) (attributes_then f lent) f lent (λ z. d (answer_is ∙ z)) ∙ ap (λ (r : ℕ). replies p r lent) (sym answer_is)) refl

    module _ (ok : Allowed image o lent now w layers) where
      asked : ChangeAsked p n (new_name n lent) (size_then f lent) (attributes_then f lent) f lent
      asked = change_yes p n m (size_then f lent) (attributes_then f lent) f lent (sym (answer_is ok.judged))

      -- ---- the writes on the unit q, with SYS as it was or grown

      rewrite_from : (q : Plain) → change_grown p n (new_name n lent) (size_then f lent) (attributes_then f lent) f lent ≡ q → {i : List ℕ} {o' : Unit} → StandsAs i o' now q n f
          → CanRewriteFrom i o' now w lent q n (new_name n lent) f
      rewrite_from q e s₂ =
          let sz : ℕ = size_then f lent in
          let at : ℕ = attributes_then f lent in
          let c : ℕ = slices_after p.s sz f in
          let rec : T (is_record lent) = rw (le-leb 16 (length lent) ok.long) tt in
          let ch : Changes q f (changed_on p n m sz at f lent q) sz c =
          subst (λ (x : Plain). Changes x f (changed_on p n m sz at f lent x) sz c) e (change_changes p n m sz at f lent can.on.good can.file asked ok.words rec) in
          record {
            stands = s₂;
            lent_size = ok.long;
            lent_words = ok.words;
            name = known.wanted.name;
            kept = same_name m n w.moves known.wanted.moves;
            moved = other_name m n w.moves known.wanted.moves;
            legal = asked.legal;
            allowed = subst (λ (x : ℕ). T (legal_attributes x)) (sym attributes_are) asked.allowed;
            only =
                subst (λ (x : ℕ). T (legal_with w.attributes x)) (sym count_is) (subst (λ (x : ℕ). T (legal_with x c)) (sym attributes_are) asked.only);
            needed = subst (λ (x : ℕ). need q.s x ≤ w.slices) (sym size_is) (subst (λ (x : ℕ). need q.s sz ≤ x) (sym count_is) ch.needed);
            room = subst (λ (x : ℕ). x - length f.slices ≤ free_slices q) (sym count_is) ch.room;
            few = subst (λ (x : ℕ). stretch_count (slices_then q f x) ≤ 127) (sym count_is) ch.few;
            vacant = λ d.
                subst (λ (x : Plain). entry x m ≡ none) e (entry_grown p (change_layers p n m sz at f lent) m (moved_vacant p n m sz at f lent d asked));
            fits = λ d.
                subst (λ (x : Plain). places_taken x.H (key_of x.H m) (sys_of x) (table_remove n x.files) < 16 * x.layers) e (moved_fits p n m sz at f lent can.on.good d);
          }

      file_then_lem : (q : Plain) → q.s ≡ p.s → file_then q f w lent ≡ file_after q f lent
      file_then_lem q same =
          let c : w.slices ≡ slices_after q.s (size_then f lent) f = count_is ∙ ap (λ (x : ℕ). slices_after x (size_then f lent) f) (sym same) in
          ap₂ (λ (a z : ℕ). changed f a z w.slices (slices_then q f w.slices) lent) attributes_are size_is
          ∙ ap (λ (k : ℕ). changed f (attributes_then f lent) (size_then f lent) k (slices_then q f k) lent) c

      -- ---- SYS as it was

      module _ (few : layers ≤ o.catalog.layers) where
        same_layers : layers_then p n lent ≡ p.layers
        same_layers =
            omega (
              arith,
              layers_are,
              can.numbers.catalog.layers,
              layers_low (eqb m n) (leb (16 * p.layers) (places_taken p.H (key_of p.H m) (sys_of p) (table_remove n p.files))) p.layers,
            )

        same_unit : change_grown p n (new_name n lent) (size_then f lent) (attributes_then f lent) f lent ≡ p
        same_unit = ap (grown_to p) same_layers ∙ not_grown p can.on.good

        stays_from : CanRewriteFrom image o now w lent p n (new_name n lent) f
        stays_from = rewrite_from p same_unit s

        pub can_stay : CanRewrite image o now w lent
        can_stay = record { unit = p; name = n; new_name = m; file = f; can = stays_from }

        pub file_stays : {after : List ℕ} → Rewritten image o now w lent after
            → Replies p (change_file p n f (new_name n lent) (size_then f lent) (attributes_then f lent) lent) lent 0 (after ≡ image) (Changed p image n f lent after)
        file_stays {after} r =
            let t = stays_from.stands.at in
            writes
            (change_outcome p n m (size_then f lent) (attributes_then f lent) f lent asked
            ∙ ap (λ (x : Plain). done (changed_unit p n m (size_then f lent) (attributes_then f lent) f lent x) lent) same_unit)
            (stays same_layers (record {
              t = t.number;
              inside = t.is.inside;
              stands = t.named;
              rewrites = subst (λ (f' : File). Rewrites image p t.number n m f f' after) (file_then_lem p refl) (r.all p n m f stays_from);
            }) refl)

      -- ---- SYS grown by a layer

      module _ (more : o.catalog.layers < layers) where
        next_layers : layers_then p n lent ≡ suc p.layers
        next_layers =
            omega (
              arith,
              layers_are,
              can.numbers.catalog.layers,
              layers_high (eqb m n) (leb (16 * p.layers) (places_taken p.H (key_of p.H m) (sys_of p) (table_remove n p.files))) p.layers,
            )

        grow_from : CanGrowFrom image o p (sys_of p)
        grow_from = record {
          catalog = sys_in can.on can.numbers;
          room =
              let h : (taking p (sys_of p) (layers_then p n lent) [] 0).for_catalog + (slices_after p.s (size_then f lent) f - length f.slices) ≤ free_slices p = leb→le _ _ asked.room in
              subst (λ (l : ℕ). (taking p (sys_of p) l [] 0).for_catalog ≤ free_slices p) next_layers (omega arith);
          few = subst (λ (l : ℕ). stretch_count (p.sys ++ (taking p (sys_of p) l [] 0).catalog_new) ≤ 127) next_layers (leb→le _ _ asked.sys_few);
        }

        pub can_grow : CanGrow image o
        can_grow = record { unit = p; can = grow_from }

        module _ {i : List ℕ} {o' : Unit} (gw : Grows image o i o') where
          grown_unit_lem : change_grown p n (new_name n lent) (size_then f lent) (attributes_then f lent) f lent ≡ grown_unit p
          grown_unit_lem = ap (grown_to p) next_layers

          grown_from : CanRewriteFrom i o' now w lent (grown_unit p) n (new_name n lent) f
          grown_from = let r = gw.all p grow_from in rewrite_from (grown_unit p) grown_unit_lem (grown_stands s grow_from r.0 r.1)

          pub can_change : CanRewrite i o' now w lent
          can_change = record { unit = grown_unit p; name = n; new_name = m; file = f; can = grown_from }

          pub file_grows : {after : List ℕ} → Rewritten i o' now w lent after
              → Replies p (change_file p n f (new_name n lent) (size_then f lent) (attributes_then f lent) lent) lent 0 (after ≡ image) (Changed p image n f lent after)
          file_grows {after} r =
              let t = grown_from.stands.at in
              writes
              (change_outcome p n m (size_then f lent) (attributes_then f lent) f lent asked
              ∙ ap (λ (x : Plain). done (changed_unit p n m (size_then f lent) (attributes_then f lent) f lent x) lent) grown_unit_lem)
              (grows next_layers i (gw.all p grow_from).0 (record {
                t = t.number;
                inside = t.is.inside;
                stands = t.named;
                rewrites = subst (λ (f' : File). Rewrites i (grown_unit p) t.number n m f f' after) (file_then_lem (grown_unit p) refl) (r.all (grown_unit p) n m f grown_from);
              }) refl)
