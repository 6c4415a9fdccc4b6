-- "In the image an emptied place is zeroed and an index block is written whole when its file's slices change", proved of the contract of
-- `perform::perform`.
use mathlib.Core.Path.{◌≡◌, refl, sym, ap, ◌∙◌, subst}
use mathlib.Core.Bool.{Bool, true, false}
use mathlib.Core.List.{List, [], ◌∷◌, ◌++◌, append-nil}
use mathlib.Core.Logic.{⊎_elim}
use mathlib.Core.Option.{some}
use Prim.Native.Nat.{ℕ, suc, ◌*◌, ◌≤◌, ◌<◌}
use native.Mathlib.Omega.{arith}
use lib.Dec.{T}
use lib.ListN.{length, take}
use Rattle.types.specs.declared.State.{State}
use Rattle.types.specs.declared.Message.{Message}
use Rattle.types.specs.declared.Message.TheVariants.{Init, Set, Create, LookUp, Change, Remove, CreateArea, RemoveArea, AreaMessage, UnitDescription, Listing}
use Rattle.disc.specs.Words.{Words, Holds}
use Rattle.disc.specs.Names.{named}
use Rattle.disc.specs.Stretches.{sector_in}
use Rattle.disc.specs.Kit.{sys_index_sector}
use Rattle.disc.proofs.Compare.{same_or}
use Rattle.index.specs.Block.{whole_index}
use Rattle.plain.specs.Table.{Table, table_find, table_put, table_remove}
use Rattle.plain.specs.Unit.{Plain, File, AreaUser, with_tables}
use Rattle.plain.specs.Questions.{Outcome, asks}
use Rattle.plain.specs.Reports.{step_listing, step_description}
use Rattle.plain.proofs.QuestionLaws.{asks_law, given_law}
use Rattle.plain.specs.Catalog.{new_name}
use Rattle.plain.specs.Step.{step}
use Rattle.plain.specs.Good.{Good}
use Rattle.plain.proofs.TableLaws.{some_inj, some≢none, find_put, find_put_other, remove_some}
use Rattle.plain.proofs.Keeps.{step_keeps}
use Rattle.refine.specs.Leaves.{Decided}
use Rattle.refine.proofs.LeavesLaws.{decided_cases}
use Rattle.refine.specs.Demands.{Performed}
use Rattle.refine.proofs.SoundRepresents.{represents_sound}
use Rattle.refine.proofs.Sectors.{Same, holds_kept}
use Rattle.preservation.specs.Units.{layer_slices, grown_unit}
use Rattle.grow.specs.Grow.{GrownFrom}
use Rattle.create.specs.Create.{Created, stays, grows}
use Rattle.change.specs.Change as change
use Rattle.remove.specs.Remove.{Removed}
use Rattle.areas.specs.Areas.{AreaRemoved, dummy_remove, books}
use Rattle.area_messages.specs.AreaMessages.{message_image}
use Rattle.perform.specs.Perform.{Wrote, Performs, unknown, unsound, obeyed}
use Rattle.perform.proofs.Demand3.{Standing, unknown_step, one_call}
use Rattle.demands.specs.Whole.{EmptiedZero, IndexWhole, WrittenWhole}
use Rattle.demands.proofs.OverlaidWrites.{beyond_grown}
use Rattle.demands.proofs.MessageFrames.{file_in_map}
use Rattle.demands.proofs.AreaWrites.{Did, nothing, replaced, appended, area_did}
use Rattle.demands.proofs.Slack.{front, changed_file, changed_on_kept}
use Rattle.demands.proofs.WholeBlocks.{system_off, system_index, grown_whole, created_whole, created_system, changed_whole, appended_whole}

-- ---- the files of a table

put_cases : {C : Type 0} (k n : ℕ) (f a : File) (files : Table File) → table_find k (table_put n f files) ≡ some a → (a ≡ f → C) → (table_find k files ≡ some a → C) → C
put_cases k n f a files e own old = same_or k n
    (λ q. own (some_inj (sym e ∙ ap (λ (x : ℕ). table_find x (table_put n f files)) q ∙ find_put n f files)))
    (λ d. old (sym (find_put_other k n f files d) ∙ e))

-- no file of p has the slices l
abbrev Unsliced : Plain → List ℕ → Type 0
Unsliced p l = (m : ℕ) (a : File) → table_find m p.files ≡ some a → a.slices ≡ l → ⊥

-- every slice list stands as it stood
same_lists : {p u : Plain} {j : List ℕ} → u.files ≡ p.files → u.sys ≡ p.sys → IndexWhole p u j
same_lists {p} e s = record {
  file = λ n f found has new. absurd (new n f (rw e at found) refl);
  sys = λ d. absurd (d s);
}

-- the file f alone is new, SYS has its slices
one_file : {p : Plain} {j : List ℕ} (n : ℕ) (f : File) (files : Table File) (areas : Table (Table AreaUser)) → ((k : ℕ) (a : File) → table_find k files ≡ some a → table_find k p.files ≡ some a)
    → (0 < length f.slices → Unsliced p f.slices → Holds j (sector_in p.F p.s f.slices 0) (whole_index p.F p.s f.slices))
    → IndexWhole p (with_tables p p.layers p.sys (table_put n f files) areas) j
one_file {p} {j} n f files areas old whole = record {
  file = λ k a found has new. put_cases k n f a files found
      (λ e. subst (λ (y : File). Holds j (sector_in p.F p.s y.slices 0) (whole_index p.F p.s y.slices)) (sym e)
      (whole (omega (arith, ap (λ (y : File). length y.slices) e)) (λ m b h s. new m b h (s ∙ ap (λ (y : File). y.slices) (sym e)))))
      (λ h. absurd (new k a (old k a h) refl));
  sys = λ d. absurd (d refl);
}

-- ---- messages that leave every slice list

abbrev quietly : Message → Bool
quietly (Init unit) = true
quietly (Set name) = false
quietly (Create name size attributes) = false
quietly (LookUp name) = true
quietly (Change name) = false
quietly (Remove name) = false
quietly (CreateArea name) = true
quietly (RemoveArea name) = false
quietly (AreaMessage name sender operation) = false
quietly (UnitDescription unit bytes) = true
quietly (Listing unit) = true

module _ (p : Plain) where
  -- the lists of an outcome's unit
  record Stands (o : Outcome) : Type 0 where
    files : o.unit.files ≡ p.files
    sys : o.unit.sys ≡ p.sys

  as_it_is : {o : Outcome} → o.unit.files ≡ p.files → o.unit.sys ≡ p.sys → Stands o
  as_it_is e s = record { files = e; sys = s }

  ask : (b : Bool) {refusal next : Outcome} → Stands refusal → Stands next → Stands (asks b refusal next)
  ask b x y = asks_law Stands b x (λ _. y)

  quiet : (message : Message) (lent : List ℕ) → T (quietly message) → Stands (step p message lent)
  unfolding step_listing step_description
  quiet (Init unit) lent t = ask _ (as_it_is refl refl) (ask _ (as_it_is refl refl) (as_it_is refl refl))
  quiet (Set name) lent t = absurd t
  quiet (Create name size attributes) lent t = absurd t
  quiet (LookUp name) lent t = ask _ (as_it_is refl refl) (given_law Stands _ (as_it_is refl refl) λ e _. ask _ (as_it_is refl refl) (as_it_is refl refl))
  quiet (Change name) lent t = absurd t
  quiet (Remove name) lent t = absurd t
  quiet (CreateArea name) lent t =
      ask _ (as_it_is refl refl) (ask _ (as_it_is refl refl) (ask _ (as_it_is refl refl) (ask _ (as_it_is refl refl) (ask _ (as_it_is refl refl) (as_it_is refl refl)))))
  quiet (RemoveArea name) lent t = absurd t
  quiet (AreaMessage name sender operation) lent t = absurd t
  quiet (UnitDescription unit bytes) lent t = ask _ (as_it_is refl refl) (ask _ (as_it_is refl refl) (ask _ (as_it_is refl refl) (as_it_is refl refl)))
  quiet (Listing unit) lent t = ask _ (as_it_is refl refl) (ask _ (as_it_is refl refl) (as_it_is refl refl))

-- ---- SYS grown first

some_more : (l new : List ℕ) → (l ++ new ≡ l → ⊥) → 0 < length new
some_more l [] d = absurd (d (append-nil l))
some_more l (k ∷ new) d = omega arith

after_growth : (p : Plain) {u : Plain} {j : List ℕ} → IndexWhole (grown_unit p) u j → ((u.sys ≡ p.sys → ⊥) → Holds j sys_index_sector (whole_index u.F u.s u.sys)) → IndexWhole p u j
after_growth p w sys = record { file = w.file; sys = sys }

module _ {p : Plain} (g : Good p) (i : List ℕ) (size : length i ≡ 256 * p.N) where
  far : 2560 ≤ length i
  far = omega (arith, g.limits.first, g.limits.some_data)

  grown_size : {j : List ℕ} → GrownFrom i p j → length j ≡ 256 * p.N
  grown_size w = ap length w.written ∙ (beyond_grown p (omega (arith, g.limits.first)) w.place (layer_slices p)).size i ∙ size

  grown_sys_lem : {mid j : List ℕ} (files : Table File) (areas : Table (Table AreaUser)) → Good (with_tables p (suc p.layers) (p.sys ++ layer_slices p) files areas) → GrownFrom i p mid
      → Same mid j sys_index_sector → (p.sys ++ layer_slices p ≡ p.sys → ⊥) → Holds j sys_index_sector (whole_index p.F p.s (p.sys ++ layer_slices p))
  grown_sys_lem files areas g' w kept d =
      holds_kept (rw w.written (grown_whole p g (layer_slices p) files areas g' i far w.place w.inside (some_more p.sys (layer_slices p) d))) kept

  -- ---- each message

  created_ends : {j : List ℕ} {n count attributes : ℕ} {optional tail : List ℕ} {u : Plain} → Good u → Created p i n count attributes optional tail j u → IndexWhole p u j
  created_ends {j} {n} g' (stays c e) =
      let g'' = subst Good e g' in
      subst (λ (v : Plain). IndexWhole p v j) (sym e)
      (one_file n _ p.files p.areas (λ k a h. h) (λ has _. rw c.written (created_whole p n _ g'' i size c.place c.first.inside has)))
  created_ends {j} {n} g' (grows c e) =
      let g'' = subst Good e g' in
      let d = c.created in
      let longer = grown_size c.grows in
      subst (λ (v : Plain). IndexWhole p v j) (sym e)
      (after_growth p
      (one_file {p = grown_unit p} n _ p.files p.areas (λ k a h. h) (λ has _. rw d.written (created_whole (grown_unit p) n _ g'' c.grown longer d.place d.first.inside has)))
      (grown_sys_lem _ _ g'' c.grows (rw d.written (created_system (grown_unit p) n _ g'' c.grown longer d.place d.first.inside))))

  changed_ends : {j : List ℕ} {n : ℕ} {f : File} {lent : List ℕ} {u : Plain} → table_find n p.files ≡ some f → Good u → change.Changed p i n f lent j u → IndexWhole p u j
  changed_ends {j} {n} {f} {lent} found g' (change.stays s c e) =
      let g'' = subst Good e g' in
      subst (λ (v : Plain). IndexWhole p v j) (sym e)
      (one_file (new_name n lent) _ (table_remove n p.files) p.areas (λ k a h. (remove_some k n 0 p.files a g.catalog.names h).1)
      (λ has new. changed_whole p n f lent (file_in_map g n f found) g'' i size c (λ same. new n f found (sym same)) has))
  changed_ends {j} {n} {f} {lent} found g' (change.grows s grown w c e) =
      let g'' = subst Good e g' in
      let old = file_in_map g n f found in
      let longer = grown_size w in
      let now = changed_file (grown_unit p) n f lent in
      subst (λ (v : Plain). IndexWhole p v j) (sym e)
      (after_growth p
      (one_file {p = grown_unit p} (new_name n lent) _ (table_remove n p.files) p.areas (λ k a h. (remove_some k n 0 p.files a g.catalog.names h).1)
      (λ has new. changed_whole (grown_unit p) n f lent old g'' grown longer c (λ same. new n f found (sym same)) has))
      (grown_sys_lem _ _ g'' w
      (changed_on_kept (grown_unit p) n f lent old g'' grown (omega (arith, far)) sys_index_sector (system_off g'' _ _ now) (system_index g'' _ _ now) c)))

  removed_ends : {j : List ℕ} {n : ℕ} {u : Plain} → Removed p i n j u → IndexWhole p u j
  removed_ends {j} {n} r = subst (λ (v : Plain). IndexWhole p v j) (sym r.unit) (record {
    file = λ k a found has new. absurd (new k a (remove_some k n 0 p.files a g.catalog.names found).1 refl);
    sys = λ d. absurd (d refl);
  })

  area_removed_ends : {j : List ℕ} {state next : State} {n : ℕ} {u : Plain} → AreaRemoved p i state n j next u → IndexWhole p u j
  area_removed_ends (dummy_remove e s t) = same_lists (ap (λ (v : Plain). v.files) e) (ap (λ (v : Plain). v.sys) e)
  area_removed_ends {j} {n = n} (books b) =
      subst (λ (v : Plain). IndexWhole p v j) (sym b.unit) (one_file n _ p.files _ (λ k a h. h) (λ has new. absurd (new n b.f b.file refl)))

  did_ends : {lent : List ℕ} {n : ℕ} {u : Plain} {j : List ℕ} → Good u → Did p i lent n u j → IndexWhole p u j
  did_ends g' (nothing _ e s) = same_lists e s
  did_ends {n = n} {j = j} g' (replaced f f' areas b low same found e w) =
      subst (λ (v : Plain). IndexWhole p v j) (sym e) (one_file n f' p.files areas (λ k a h. h) (λ has new. absurd (new n f found (sym same))))
  did_ends {lent} {n} {j = j} g' (appended f f' areas more same found e w) =
      subst (λ (v : Plain). IndexWhole p v j) (sym e) (one_file n f' p.files areas (λ k a h. h) (λ has new.
      rw w (appended_whole p n f f' areas (subst Good e g') i size (take 256 lent) (front lent) _ more same (some_more f.slices _ (λ x. new n f found (sym (same ∙ x)))) has)))

  -- ---- every message

  ends : {q : Plain} {result : ℕ} {A : Type 0} {P : Plain → Type 0} {j : List ℕ} → Decided p result A P q → (P q → IndexWhole p q j) → IndexWhole p q j
  ends w f = decided_cases (λ e _. same_lists (ap (λ (v : Plain). v.files) e) (ap (λ (v : Plain). v.sys) e)) f w

  quiet_ends : (message : Message) (lent j : List ℕ) → T (quietly message) → IndexWhole p (step p message lent).unit j
  quiet_ends message lent j t = let x = quiet p message lent t in same_lists x.files x.sys

  wrote_whole : (state : State) (message : Message) (lent : List ℕ) (r : Performed) → Good (step p message lent).unit → Wrote p i state message lent r → IndexWhole p (step p message lent).unit r.image
  wrote_whole state (Init unit) lent r g' w = quiet_ends (Init unit) lent r.image tt
  wrote_whole state (Set name) lent r g' w = ends w.0.step.left (created_ends g')
  wrote_whole state (Create name size attributes) lent r g' w = ends (w.0.step lent).left (created_ends g')
  wrote_whole state (LookUp name) lent r g' w = quiet_ends (LookUp name) lent r.image tt
  wrote_whole state (Change name) lent r g' w = ends w.0.step.left (λ d. changed_ends d.file g' d.changed)
  wrote_whole state (Remove name) lent r g' w = ends (w.0.step lent).left removed_ends
  wrote_whole state (CreateArea name) lent r g' w = quiet_ends (CreateArea name) lent r.image tt
  wrote_whole state (RemoveArea name) lent r g' w = ends (w.step lent).left area_removed_ends
  wrote_whole state (AreaMessage name sender operation) lent r g' w =
      let same = ap (λ (o : Outcome). message_image p i operation o.answer lent (table_find (named name) p.files)) w.leaves.answered in
      rw (w.written ∙ sym same) (did_ends g' (area_did p i lent name sender operation))
  wrote_whole state (UnitDescription unit bytes) lent r g' w = quiet_ends (UnitDescription unit bytes) lent r.image tt
  wrote_whole state (Listing unit) lent r g' w = quiet_ends (Listing unit) lent r.image tt

-- ---- every call

module _ {image : List ℕ} {state : State} {p : Plain} {message : Message} {lent : List ℕ} {r : Performed} (s : Standing image state p) (w : Words lent) where
  call_whole : Performs image state message lent r → IndexWhole p (step p message lent).unit r.image
  call_whole (unknown other u) = let e = ap (λ (o : Outcome). o.unit) (unknown_step s message lent other) in same_lists (ap (λ (v : Plain). v.files) e) (ap (λ (v : Plain). v.sys) e)
  call_whole (unsound k other u) = absurd (other (represents_sound s.good s.represents))
  call_whole (obeyed k t all) =
      wrote_whole s.good image s.represents.layout.size state message lent r (step_keeps p message lent s.good w) (all p s.good s.represents).wrote

  call_emptied : Performs image state message lent r → EmptiedZero (step p message lent).unit r.image
  call_emptied c t h e = ⊎_elim (λ z. z) (λ x. absurd (some≢none (sym x.entered ∙ e))) ((one_call s w c).1.represents.layout.sys.places.each t h)

pub written_whole : WrittenWhole Performs
written_whole = record {
  emptied = λ p g rep low ready w c. call_emptied (record { good = g; represents = rep; low = low; initialized = ready }) w c;
  index = λ p g rep low ready w c. call_whole (record { good = g; represents = rep; low = low; initialized = ready }) w c;
}
