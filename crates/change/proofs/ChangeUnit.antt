-- Change leaves the image of the plain unit after it, with the state as it was.
use mathlib.Core.Path.{◌≡◌, refl, sym, ap, ◌∙◌, subst}
use mathlib.Core.Bool.{Bool, cond}
use mathlib.Core.List.{List, [], ◌++◌}
use mathlib.Core.Logic.{◌≢◌}
use mathlib.Core.Option.{some}
use Prim.Native.Nat.{ℕ, suc, ◌+◌, ◌-◌, ◌≤◌, ◌<◌}
use native.Mathlib.Omega.{arith}
use lib.Dec.{T, leb→le}
use lib.ListN.{length}
use borrow.Author.Tests.{eq-eqb}
use Rattle.types.specs.declared.Name.{Name}
use Rattle.types.specs.declared.State.{State}
use Rattle.disc.specs.Words.{Words}
use Rattle.disc.specs.Names.{named, key_of}
use Rattle.disc.specs.Stretches.{stretch_count, sys_from}
use Rattle.disc.specs.Entries.{place_word, place_count, name_at}
use Rattle.plain.specs.Table.{table_find, table_remove}
use Rattle.plain.specs.Unit.{Plain, File, sys_of, free_slices}
use Rattle.plain.specs.Questions.{Outcome, replies, answer}
use Rattle.plain.specs.Good.{Good}
use Rattle.plain.specs.Taking.{taking, layers_for}
use Rattle.plain.specs.Catalog.{is_record, new_name, slices_after, change_file, step_change}
use Rattle.plain.proofs.QuestionLaws.{asks_law, given_law}
use Rattle.plain.proofs.TableLaws.{some_inj}
use Rattle.plain.proofs.ChangeUnit.{change_layers, change_grown, changed_on, changed_unit, ChangeAsked, change_outcome, change_shut, change_changes, moved_vacant, moved_fits}
use Rattle.plain.proofs.GrowUnit.{grown_to, not_grown, entry_grown}
use Rattle.refine.specs.Represents.{Represents}
use Rattle.refine.specs.OnDisc.{OnDisc}
use Rattle.refine.specs.Writes.{empty_place, resized_image, renamed_image}
use Rattle.preservation.proofs.Whole.{on_disc, stand_for_lem, still}
use Rattle.preservation.proofs.GrowStep.{grow_on}
use Rattle.preservation.proofs.ChangeStep.{rename_on}
use Rattle.preservation.proofs.ChangeMessage.{change_kept, change_areas}
use Rattle.preservation.specs.Units.{grown_unit}
use Rattle.refine.specs.Leaves.{Leaves, StandFor, Decided, refused, written}
use Rattle.refine.proofs.LeavesLaws.{leaves_map}
use Rattle.lookup.specs.Find.{FirstUnused}
use Rattle.grow.specs.Grow.{GrownFrom}
use Rattle.change.specs.Rewrite.{Rewrites, stayed, moved}
use Rattle.change.specs.Change.{size_then, attributes_then, file_after, layers_then, Changed, stays, grows, ChangeDone, ChangeStep}
use Rattle.change.proofs.AnswerLaws.{change_yes}

-- ---- every question was answered yes

-- An outcome with the result word 0 is that of the file's change.
record DoneAs (p : Plain) (n : ℕ) (f : File) (lent : List ℕ) (x : Outcome) : Type 0 where
  told : x.answer.result ≡ 0 → T (is_record lent) × ChangeAsked p n (new_name n lent) (size_then f lent) (attributes_then f lent) f lent
      × (x ≡ change_file p n f (new_name n lent) (size_then f lent) (attributes_then f lent) lent)

no_answer : {p : Plain} {n : ℕ} {f : File} {lent : List ℕ} {w : ℕ} → w ≢ 0 → DoneAs p n f lent (replies p w lent)
no_answer d = record { told = λ z. absurd (d z) }

done_as : (p : Plain) (name : Name) (f : File) (lent : List ℕ) → table_find (named name) p.files ≡ some f → DoneAs p (named name) f lent (step_change p name lent)
done_as p name f lent file =
    let n : ℕ = named name in
    asks_law (DoneAs p n f lent) _ (no_answer (omega arith)) (λ known. asks_law (DoneAs p n f lent) _ (no_answer (omega arith)) (λ entered.
    asks_law (DoneAs p n f lent) _ (no_answer (omega arith)) (λ rec. given_law (DoneAs p n f lent) (table_find n p.files) (no_answer (omega arith)) (λ f₂ h.
    asks_law (DoneAs p n f lent) _ (no_answer (omega arith)) (λ no-bit.
    subst (λ (g : File). DoneAs p n f lent (change_file p n g (new_name n lent) (size_then g lent) (attributes_then g lent) lent)) (some_inj (sym file ∙ h))
    (record { told = λ z. (rec, change_yes p n (new_name n lent) (size_then f lent) (attributes_then f lent) f lent z, refl) }))))))

-- ---- the image afterwards

-- SYS is grown first
on_grown : (p : Plain) (n : ℕ) (f : File) (lent : List ℕ) → ChangeAsked p n (new_name n lent) (size_then f lent) (attributes_then f lent) f lent → {image i : List ℕ}
    → layers_then p n lent ≡ suc p.layers → OnDisc image p → GrownFrom image p i → OnDisc i (grown_unit p)
on_grown p n f lent asked next o gf = subst (λ (j : List ℕ). OnDisc j (grown_unit p)) (sym gf.written) (grow_on o room few gf.place gf.inside gf.named)
  where
    room : (taking p (sys_of p) (suc p.layers) [] 0).for_catalog ≤ free_slices p
    room =
        let h : (taking p (sys_of p) (layers_then p n lent) [] 0).for_catalog + (slices_after p.s (size_then f lent) f - length f.slices) ≤ free_slices p = leb→le _ _ asked.room in
        subst (λ (l : ℕ). (taking p (sys_of p) l [] 0).for_catalog ≤ free_slices p) next (omega arith)

    few : stretch_count (p.sys ++ (taking p (sys_of p) (suc p.layers) [] 0).catalog_new) ≤ 127
    few = subst (λ (l : ℕ). stretch_count (p.sys ++ (taking p (sys_of p) l [] 0).catalog_new) ≤ 127) next (leb→le _ _ asked.sys_few)

module _ (p : Plain) (n : ℕ) (f : File) (lent : List ℕ) (g : Good p) (found : table_find n p.files ≡ some f) (words : Words lent) (rec : T (is_record lent))
    (asked : ChangeAsked p n (new_name n lent) (size_then f lent) (attributes_then f lent) f lent) where
  abbrev m : ℕ
  m = new_name n lent

  abbrev sz : ℕ
  sz = size_then f lent

  abbrev at : ℕ
  at = attributes_then f lent

  abbrev grown : Plain
  grown = change_grown p n m sz at f lent

  abbrev on : Plain → File
  on q = changed_on p n m sz at f lent q

  abbrev unit : Plain
  unit = (change_file p n f m sz at lent).unit

  unit_is : changed_unit p n m sz at f lent grown ≡ unit
  unit_is = sym (ap (λ (x : Outcome). x.unit) (change_outcome p n m sz at f lent asked))

  -- another name, in a place that is unused once the own one is empty
  moved_at : m ≢ n → (q : Plain) → change_grown p n (new_name n lent) (size_then f lent) (attributes_then f lent) f lent ≡ q → (i : List ℕ) → OnDisc i q → (t : ℕ) → t < place_count q.H q.layers
      → name_at (place_word i q.F q.s q.sys sys_from) t ≡ n → (u : ℕ) → FirstUnused (empty_place q (sys_of q) (resized_image q i f (on q)) t) q (sys_of q) (key_of q.H m) u
      → OnDisc (renamed_image q (sys_of q) i t u m f (on q)) unit
  moved_at d q e i =
      subst
      (λ (q : Plain). OnDisc i q → (t : ℕ) → t < place_count q.H q.layers → name_at (place_word i q.F q.s q.sys sys_from) t ≡ n
      → (u : ℕ) → FirstUnused (empty_place q (sys_of q) (resized_image q i f (on q)) t) q (sys_of q) (key_of q.H m) u → OnDisc (renamed_image q (sys_of q) i t u m f (on q)) unit)
      e
      (λ o t in₀ was u first. subst (λ (x : Plain). OnDisc (renamed_image grown (sys_of grown) i t u m f (on grown)) x) unit_is
      (rename_on o n m found (change_shut p n m sz at f lent g found asked) (change_changes p n m sz at f lent g found asked words rec) d asked.legal
      (entry_grown p (change_layers p n m sz at f lent) m (moved_vacant p n m sz at f lent d asked)) (moved_fits p n m sz at f lent g d)
      t in₀ was u first.inside first.key first.unused))

  changed_on_lem : {image after : List ℕ} {q : Plain} → OnDisc image p → Changed p image n f lent after q → OnDisc after unit
  changed_on_lem {image} {after} o (stays same c _) = go c.rewrites
    where
      same_unit : change_grown p n (new_name n lent) (size_then f lent) (attributes_then f lent) f lent ≡ p
      same_unit = ap (grown_to p) same ∙ not_grown p g

      go : Rewrites image p c.t n (new_name n lent) f (file_after p f lent) after → OnDisc after unit
      go (stayed e w) =
          subst (λ (i : List ℕ). OnDisc i unit) (sym w) (change_kept p n m sz at f lent g found asked words rec e image o c.t c.inside c.stands)
      go (moved d u first w) = subst (λ (i : List ℕ). OnDisc i unit) (sym w) (moved_at d p same_unit image o c.t c.inside c.stands u first)
  changed_on_lem {image} {after} o (grows next i gf c _) = go c.rewrites
    where
      grown_unit_lem : change_grown p n (new_name n lent) (size_then f lent) (attributes_then f lent) f lent ≡ grown_unit p
      grown_unit_lem = ap (grown_to p) next

      go : Rewrites i (grown_unit p) c.t n (new_name n lent) f (file_after (grown_unit p) f lent) after → OnDisc after unit
      go (stayed e w) =
          let z : layers_then p n lent ≡ p.layers = ap (λ (b : Bool). cond b p.layers (layers_for p.H (sys_of p) m (table_remove n p.files))) (eq-eqb m n e) in
          absurd (omega (arith, next))
      go (moved d u first w) = subst (λ (j : List ℕ). OnDisc j unit) (sym w) (moved_at d (grown_unit p) grown_unit_lem i (on_grown p n f lent asked next o gf) c.t c.inside c.stands u first)

-- ---- the message

-- the unit with SYS grown is on the image that a Change with result word 0 grew first
pub change_grown_lem : {p : Plain} (name : Name) {f : File} (lent : List ℕ) {image i : List ℕ} → (step_change p name lent).answer.result ≡ 0 → table_find (named name) p.files ≡ some f
    → layers_then p (named name) lent ≡ suc p.layers → OnDisc image p → GrownFrom image p i → OnDisc i (grown_unit p)
change_grown_lem {p} name {f} lent z file next o gf = on_grown p (named name) f lent ((done_as p name f lent file).told z).1 next o gf

pub change_stepped : {image : List ℕ} {state : State} {p : Plain} → Good p → Represents image state p → {name : Name} {lent after : List ℕ} {result : ℕ} → Words lent → ChangeStep p image name lent after result
    → Leaves (step_change p name lent) (answer result 0 0 0) lent (StandFor after state)
change_stepped {image} {state} {p} g r {name} {lent} {after} {result} words s = leaves_map go s.step
  where
    go : Decided p result (after ≡ image) (ChangeDone p image (named name) lent after) (step_change p name lent).unit → StandFor after state (step_change p name lent).unit
    go (refused nz u same) = still g r u same refl
    go (written z w) =
        let n : ℕ = named name in
        let f = w.f in
        let told = (done_as p name f lent w.file).told (ap (λ (x : Outcome). x.answer.result) s.step.answered ∙ z) in
        rw (ap (λ (x : Outcome). x.unit) told.2)
        (stand_for_lem (changed_on_lem p n f lent g w.file words told.0 told.1 (on_disc g r) w.changed)
        (change_areas p n (new_name n lent) (size_then f lent) (attributes_then f lent) f lent g w.file told.1 r.areas))
