-- "Slack, freed and free sectors keep their words", proved of the contract of `perform::perform`.
use mathlib.Core.Path.{◌≡◌, refl, sym, ap, ◌∙◌, subst}
use mathlib.Core.List.{List, ◌++◌}
use mathlib.Core.Option.{some}
use Prim.Native.Nat.{ℕ, suc, ◌≤◌, ◌-◌}
use native.Mathlib.Omega.{arith}
use lib.ListN.{length, take, length-take}
use Rattle.types.specs.declared.State.{State}
use Rattle.types.specs.declared.Message.{Message}
use Rattle.types.specs.declared.Message.TheVariants.{Init, Set, Create, LookUp, Change, Remove, CreateArea, RemoveArea, AreaMessage, UnitDescription, Listing}
use Rattle.disc.specs.Words.{Words}
use Rattle.disc.specs.Names.{named}
use Rattle.disc.specs.Kit.{sys_index_sector}
use Rattle.disc.specs.OneStretch.{taken_for_file}
use Rattle.disc.proofs.OneStretchLaws.{length_for_file}
use Rattle.map.proofs.MarkLaws.{InMap}
use Rattle.plain.specs.Table.{Table, table_find, table_remove}
use Rattle.plain.specs.Unit.{Plain, File, sys_of, AreaUser, M, held, with_tables}
use Rattle.plain.specs.Questions.{Outcome}
use Rattle.plain.specs.Catalog.{new_name, slices_after}
use Rattle.plain.specs.Step.{Call, Reply, step}
use Rattle.plain.specs.Good.{Good}
use Rattle.plain.specs.Claims.{LentWords}
use Rattle.plain.proofs.TableLaws.{find_put}
use Rattle.plain.proofs.Keeps.{step_keeps}
use Rattle.refine.specs.Represents.{Represents}
use Rattle.refine.specs.Writes.{changed_image}
use Rattle.refine.specs.Demands.{Performed, Run, empty, then}
use Rattle.refine.proofs.Sectors.{Same, same_refl, same_trans}
use Rattle.refine.proofs.Ground.{ground}
use Rattle.refine.proofs.Writers.{long}
use Rattle.preservation.specs.Units.{layer_slices, grown_unit}
use Rattle.preservation.proofs.ResizeLaws.{Resizes, resizes_taken}
use Rattle.grow.specs.Grow.{GrownFrom}
use Rattle.create.specs.Create.{Created, stays, grows}
use Rattle.remove.specs.Remove.{Removed}
use Rattle.change.specs.Rewrite.{Rewrites, stayed, moved}
use Rattle.change.specs.Change as change
use Rattle.areas.specs.Areas.{AreaRemoved, dummy_remove, books}
use Rattle.area_messages.specs.AreaMessages.{message_image}
use Rattle.perform.specs.Perform.{Wrote, Performs, unknown, unsound, obeyed}
use Rattle.perform.proofs.Demand3.{Standing, one_call}
use Rattle.demands.specs.Slack.{Idle, SectorKept, IdleAfterEach, SlackKept}
use Rattle.refine.proofs.LeavesLaws.{decided_cases}
use Rattle.demands.proofs.OverlaidWrites.{beyond_grown}
use Rattle.demands.proofs.MessageFrames.{Off, OffIndex, file_in_map, removed_keep, booked_keep, grown_keep, created_keep, changed_keep, renamed_keep, replaced_keep, appended_keep}
use Rattle.demands.proofs.AreaWrites.{Did, nothing, replaced, appended, area_did}
use Rattle.demands.proofs.Idle.{idle_system, idle-map, idle_kit, idle_sys, idle_place, idle_off, idle_index}
use Rattle.demands.proofs.LeftAlone.{left_idle}

as_before : {i j : List ℕ} → j ≡ i → (q : ℕ) → Same i j q
as_before {i} e q = rw e (same_refl i q)

pub front : (lent : List ℕ) → length (take 256 lent) ≤ 256
front lent = omega (arith, length-take 256 lent)

module _ {p : Plain} (g : Good p) {i : List ℕ} (far : 2560 ≤ length i) (q : ℕ) where
  -- SYS grown: the unit afterwards has these files
  grown_kept : {j : List ℕ} (files : Table File) (areas : Table (Table AreaUser)) → Good (with_tables p (suc p.layers) (p.sys ++ layer_slices p) files areas) → GrownFrom i p j
      → Idle (with_tables p (suc p.layers) (p.sys ++ layer_slices p) files areas) q → Same i j q
  grown_kept files areas g' w idle = rw w.written
      (grown_keep p g (layer_slices p) files areas g' i far w.place w.inside q (idle_kit idle) (idle_sys idle) (idle-map idle) (idle_system idle sys_index_sector (omega arith) (omega arith)))

  grown_far : {j : List ℕ} → GrownFrom i p j → 2560 ≤ length j
  grown_far w = rw w.written (omega (arith, (beyond_grown p (omega (arith, g.limits.first)) w.place (layer_slices p)).size i, far))

  created_kept : {j : List ℕ} {n size attributes : ℕ} {optional tail : List ℕ} {u : Plain} → Good u → Idle u q → Created p i n size attributes optional tail j u → Same i j q
  created_kept {n = n} g' idle (stays c e) =
      let idle'' = subst (λ (v : Plain). Idle v q) e idle in
      let here = find_put n _ p.files in
      rw c.written (created_keep p n _ (subst Good e g') i far c.place c.first.inside q (idle_off idle'' n _ here) (idle_index idle'' n _ here))
  created_kept {n = n} g' idle (grows c e) =
      let g'' = subst Good e g' in
      let idle'' = subst (λ (v : Plain). Idle v q) e idle in
      let here = find_put n _ p.files in
      let d = c.created in
      same_trans (grown_kept _ _ g'' c.grows idle'')
      (rw d.written (created_keep (grown_unit p) n _ g'' c.grown (grown_far c.grows) d.place d.first.inside q (idle_off idle'' n _ here) (idle_index idle'' n _ here)))

  removed_kept : {j : List ℕ} {n : ℕ} {u : Plain} → Idle u q → Removed p i n j u → Same i j q
  removed_kept {n = n} idle r =
      let idle'' = subst (λ (v : Plain). Idle v q) r.unit idle in
      rw r.written (removed_keep p g n r.f r.file i far r.t q (idle_place idle'' r.t r.inside) (idle-map idle'') (idle_kit idle''))

  area_removed_kept : {j : List ℕ} {state next : State} {n : ℕ} {u : Plain} → Idle u q → AreaRemoved p i state n j next u → Same i j q
  area_removed_kept idle (dummy_remove e s t) = as_before s q
  area_removed_kept {n = n} idle (books b) =
      rw b.written (booked_keep p g n b.f b.file i far b.t q (idle_place (subst (λ (v : Plain). Idle v q) b.unit idle) b.t b.inside))

  -- a message to an area process
  did_kept : {lent : List ℕ} {n : ℕ} {u : Plain} {j : List ℕ} → Good u → Idle u q → Did p i lent n u j → Same i j q
  did_kept g' idle (nothing e _ _) = as_before e q
  did_kept {lent} {n} g' idle (replaced f f' areas b low same found e w) =
      rw w (replaced_keep p n f f' areas i far (take 256 lent) (front lent) q (idle_off (subst (λ (v : Plain). Idle v q) e idle) n f' (find_put n f' p.files)) b low same)
  did_kept {lent} {n} g' idle (appended f f' areas more same found e w) =
      let idle'' = subst (λ (v : Plain). Idle v q) e idle in
      let here = find_put n f' p.files in
      rw w (appended_keep p n f f' areas i far (take 256 lent) (front lent) q (idle_off idle'' n f' here) (subst Good e g') _ more same (idle_index idle'' n f' here))

-- ---- Change

module _ (p : Plain) (n : ℕ) (f : File) (lent : List ℕ) where
  abbrev m : ℕ
  m = new_name n lent

  abbrev f' : File
  f' = change.file_after p f lent

  pub changed_file : table_find (new_name n lent) (change.unit_after p n f lent).files ≡ some (change.file_after p f lent)
  changed_file = find_put m f' (table_remove n p.files)

  -- the slices before and after: one list begins with the other
  pub changed_resizes : Resizes f.slices (change.file_after p f lent).slices
  changed_resizes =
      let count : ℕ = slices_after p.s (change.size_then f lent) f in
      let more : ℕ = count - length f.slices in
      resizes_taken f.slices f'.slices (taken_for_file (M p) (held p) f.slices more) count (length_for_file (M p) (held p) f.slices more) refl

  module _ (old : InMap f.slices) (g' : Good (change.unit_after p n f lent)) (i : List ℕ) (far : 2560 ≤ length i) (q : ℕ) (off : Off (change.unit_after p n f lent) (change.file_after p f lent) q)
      (own : OffIndex p (change.file_after p f lent) q) where
    pub changed_on_kept : {j : List ℕ} → change.ChangedOn p i n f lent j → Same i j q
    changed_on_kept {j} c = go c.rewrites
      where
        go : Rewrites i p c.t n m f f' j → Same i j q
        go (stayed e w) = rw (w ∙ ap (λ (k : ℕ). changed_image p (sys_of p) i c.t k f f') (sym e)) (changed_keep p n m f f' old changed_resizes g' i far c.t c.inside q off own)
        go (moved d u first w) = rw w (renamed_keep p n m f f' old changed_resizes g' i far c.t c.inside q off own u first.inside)

module _ {p : Plain} (g : Good p) {i : List ℕ} (far : 2560 ≤ length i) (q : ℕ) where
  changed_kept : {j : List ℕ} {n : ℕ} {f : File} {lent : List ℕ} {u : Plain} → InMap f.slices → Good u → Idle u q → change.Changed p i n f lent j u → Same i j q
  changed_kept {n = n} {f} {lent} old g' idle (change.stays s c e) =
      let idle'' = subst (λ (v : Plain). Idle v q) e idle in
      changed_on_kept p n f lent old (subst Good e g') i far q (idle_off idle'' _ _ (changed_file p n f lent)) (idle_index idle'' _ _ (changed_file p n f lent)) c
  changed_kept {n = n} {f} {lent} old g' idle (change.grows s grown w c e) =
      let g'' = subst Good e g' in
      let idle'' = subst (λ (v : Plain). Idle v q) e idle in
      let now = changed_file (grown_unit p) n f lent in
      same_trans (grown_kept g far q _ _ g'' w idle'') (changed_on_kept (grown_unit p) n f lent old g'' grown (grown_far g far q w) q (idle_off idle'' _ _ now) (idle_index idle'' _ _ now) c)

  -- ---- every message

  pub wrote_idle : (state : State) (message : Message) (lent : List ℕ) (r : Performed) → Good (step p message lent).unit → Idle (step p message lent).unit q → Wrote p i state message lent r
      → Same i r.image q
  wrote_idle state (Init unit) lent r g' idle w = as_before w.0 q
  wrote_idle state (Set name) lent r g' idle w =
      decided_cases (λ _ s. as_before s q) (created_kept g far q g' idle) w.0.step.left
  wrote_idle state (Create name size attributes) lent r g' idle w =
      decided_cases (λ _ s. as_before s q) (created_kept g far q g' idle) (w.0.step lent).left
  wrote_idle state (LookUp name) lent r g' idle w = as_before w.0 q
  wrote_idle state (Change name) lent r g' idle w =
      decided_cases (λ _ s. as_before s q) (λ d. changed_kept (file_in_map g _ d.f d.file) g' idle d.changed) w.0.step.left
  wrote_idle state (Remove name) lent r g' idle w = decided_cases (λ _ s. as_before s q) (removed_kept g far q idle) (w.0.step lent).left
  wrote_idle state (CreateArea name) lent r g' idle w = as_before w.0 q
  wrote_idle state (RemoveArea name) lent r g' idle w =
      decided_cases (λ _ s. as_before s.0 q) (area_removed_kept g far q idle) (w.step lent).left
  wrote_idle state (AreaMessage name sender operation) lent r g' idle w =
      let same = ap (λ (o : Outcome). message_image p i operation o.answer lent (table_find (named name) p.files)) w.leaves.answered in
      rw (w.written ∙ sym same) (did_kept g far q g' idle (area_did p i lent name sender operation))
  wrote_idle state (UnitDescription unit bytes) lent r g' idle w = as_before w.0 q
  wrote_idle state (Listing unit) lent r g' idle w = as_before w.0 q

-- ---- every call, and every list

kept : {i j : List ℕ} {q : ℕ} → Same i j q → SectorKept i j q
kept s = record { at = s.at }

call_idle : {image : List ℕ} {state : State} {message : Message} {lent : List ℕ} {r : Performed} (p : Plain) → Good p → Represents image state p → Words lent → Performs image state message lent r
    → (q : ℕ) → Idle (step p message lent).unit q → SectorKept image r.image q
call_idle p g rep w (unknown other u) q idle = kept (as_before u.same_image q)
call_idle p g rep w (unsound k other u) q idle = kept (as_before u.same_image q)
call_idle {state = state} {message} {lent} {r} p g rep w (obeyed k s all) q idle =
    kept (wrote_idle g (long (ground p g) rep.layout) q state message lent r (step_keeps p message lent g w) idle (all p g rep).wrote)

list_idle : {image end : List ℕ} {state stop : State} {p : Plain} {calls : List Call} {replies : List Reply} → Standing image state p → LentWords calls
    → Run Performs image state calls replies end stop → (q : ℕ) → IdleAfterEach p calls q → SectorKept image end q
list_idle {image} s w empty q idle = kept (same_refl image q)
list_idle s w (then c rest) q idle =
    let first = call_idle _ s.good s.represents w.0 c q idle.0 in
    let others = list_idle (one_call s w.0 c).1 w.1 rest q idle.1 in
    record { at = λ b h. others.at b h ∙ first.at b h }

pub slack_kept : SlackKept Performs
slack_kept = record {
  idle = call_idle;
  call = λ {image} {state} {message} {lent} p g rep w c q left. call_idle p g rep w c q (left_idle (step_keeps p message lent g w) left);
  list = λ p g rep low ready w run q idle. list_idle (record { good = g; represents = rep; low = low; initialized = ready }) w run q idle;
}
