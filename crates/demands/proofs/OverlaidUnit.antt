-- The unit on an image, and what each message writes, with other words in sectors 0 to 5.
use mathlib.Core.Path.{◌≡◌, sym, ap, ◌∙◌, subst}
use mathlib.Core.List.{List}
use Prim.Native.Nat.{ℕ, ◌≤◌, ◌+◌, ◌*◌, ◌%◌}
use native.Mathlib.Omega.{arith}
use Rattle.types.specs.declared.State.{State}
use Rattle.types.specs.declared.Message.{Message}
use Rattle.types.specs.declared.Message.TheVariants.{Init, Set, Create, LookUp, Change, Remove, CreateArea, RemoveArea, AreaMessage, UnitDescription, Listing}
use Rattle.disc.specs.Words.{Words}
use Rattle.disc.specs.Names.{key_of}
use Rattle.disc.specs.Entries.{name_at}
use Rattle.disc.specs.Catalog.{place_sector}
use Rattle.plain.specs.Unit.{Plain, File, sys_of}
use Rattle.plain.specs.Good.{Good}
use Rattle.sound.specs.Places.{Unused}
use Rattle.sound.specs.Sound.{SoundUnit}
use Rattle.refine.specs.Represents.{Represents}
use Rattle.refine.specs.Demands.{Performed}
use Rattle.refine.proofs.Sectors.{Same, bit_kept}
use Rattle.refine.proofs.Ground.{ground}
use Rattle.refine.proofs.Writers.{kit_kept, low_write}
use Rattle.refine.proofs.SoundRepresents.{sound_represents, represents_sound}
use Rattle.preservation.specs.Units.{grown_unit}
use Rattle.lookup.specs.Unit.{unit_places}
use Rattle.lookup.specs.Find.{FirstUnused}
use Rattle.grow.specs.Grow.{GrownFrom}
use Rattle.create.specs.Create.{CreatedOn, Created, stays, grows}
use Rattle.remove.specs.Remove.{Removed}
use Rattle.change.specs.Rewrite.{Rewrites, stayed, moved}
use Rattle.change.specs.Change as change
use Rattle.areas.specs.Areas.{AreaBooked, AreaRemoved, dummy_remove, books}
use Rattle.perform.specs.Perform.{Wrote}
use Rattle.refine.proofs.LeavesLaws.{leaves_map, decided-map}
use Rattle.demands.proofs.Overlaid.{overlaid, length_overlaid, words_overlaid, word_overlaid}
use Rattle.demands.proofs.OverlaidWrites.{beyond_emptied, beyond_removed, beyond_grown, beyond_created, beyond_changed, beyond_renamed, beyond_booked, beyond_message}

module _ (x : List ℕ) where
  -- ---- what is read

  same_overlaid : (i : List ℕ) (q : ℕ) → 6 ≤ q → Same i (overlaid x i) q
  same_overlaid i q h = record { at = λ b l. word_overlaid x i q b h }

  pub represents_overlaid : {i : List ℕ} {state : State} {p : Plain} → Words x → Good p → Represents i state p → Represents (overlaid x i) state p
  represents_overlaid {i} {p = p} w g r =
      let l = r.layout in
      let at : (q : ℕ) → 6 ≤ q → Same i (overlaid x i) q = same_overlaid i in
      record {
        words = words_overlaid x i w r.words;
        layout = low_write (ground p g) l (overlaid x i) _ _ (length_overlaid x i) (λ q h. at q (omega arith)) (at 6 (omega arith)) (at 7 (omega arith))
            (kit_kept l.kit (at 8 (omega arith))) (λ k a b. omega (arith, bit_kept k a b (at 9 (omega arith)), l.map k a b));
        areas = r.areas;
      }

  pub sound_overlaid : {i : List ℕ} {state : State} → Words x → SoundUnit i state → SoundUnit (overlaid x i) state
  sound_overlaid {i} {state} w s = let y = sound_represents.reads i state s in represents_sound y.1 (represents_overlaid w y.1 y.2)

  module _ (p : Plain) (low : 6 ≤ p.F) where
    pub places_overlaid : (i : List ℕ) → unit_places (overlaid x i) p ≡ unit_places i p
    places_overlaid i = λ j t w. word_overlaid x i (place_sector p.F p.s (sys_of p) t) (t % 16 * 16 + w) (omega arith) j

    name_overlaid : (i : List ℕ) (t : ℕ) {n : ℕ} → name_at (unit_places i p) t ≡ n → name_at (unit_places (overlaid x i) p) t ≡ n
    name_overlaid i t e = ap (λ (P : ℕ → ℕ → ℕ). name_at P t) (places_overlaid i) ∙ e

    first_overlaid : {i : List ℕ} {k u : ℕ} → FirstUnused i p (sys_of p) k u → FirstUnused (overlaid x i) p (sys_of p) k u
    first_overlaid {i} {k} {u} f = record {
      inside = f.inside;
      key = f.key;
      unused = subst (λ (P : ℕ → ℕ → ℕ). Unused P u) (sym (places_overlaid i)) f.unused;
      earlier = λ t h e z. f.earlier t h e (subst (λ (P : ℕ → ℕ → ℕ). Unused P t) (places_overlaid i) z);
    }

    -- ---- what is written

    created_on : {i j : List ℕ} {n : ℕ} {f : File} → CreatedOn p i n f j → CreatedOn p (overlaid x i) n f (overlaid x j)
    created_on {i} {n = n} {f = f} c =
        record { place = c.place; first = first_overlaid c.first; written = ap (overlaid x) c.written ∙ (beyond_created p low c.place n f).past x i }

    grown_from : {i j : List ℕ} → GrownFrom i p j → GrownFrom (overlaid x i) p (overlaid x j)
    grown_from {i} g =
        record { place = g.place; inside = g.inside; named = name_overlaid i g.place g.named; written = ap (overlaid x) g.written ∙ (beyond_grown p low g.place _).past x i }

    removed_from : {i j : List ℕ} {n : ℕ} {q : Plain} → Removed p i n j q → Removed p (overlaid x i) n (overlaid x j) q
    removed_from {i} r = record {
      f = r.f;
      file = r.file;
      closed = r.closed;
      t = r.t;
      inside = r.inside;
      stands = name_overlaid i r.t r.stands;
      unit = r.unit;
      written = ap (overlaid x) r.written ∙ (beyond_removed p low r.t r.f).past x i;
    }

    rewrites : {i j : List ℕ} {t n m : ℕ} {f f' : File} → Rewrites i p t n m f f' j → Rewrites (overlaid x i) p t n m f f' (overlaid x j)
    rewrites {i} {t = t} {n} {m} {f} {f'} (stayed e w) = stayed e (ap (overlaid x) w ∙ (beyond_changed p low t n f f').past x i)
    rewrites {i} {t = t} {n} {m} {f} {f'} (moved d u first w) =
        moved d u (subst (λ (k : List ℕ). FirstUnused k p (sys_of p) (key_of p.H m) u) ((beyond_emptied p low t f f').past x i) (first_overlaid first))
        (ap (overlaid x) w ∙ (beyond_renamed p low t u m f f').past x i)

    changed_on_lem : {i j : List ℕ} {n : ℕ} {f : File} {lent : List ℕ} → change.ChangedOn p i n f lent j → change.ChangedOn p (overlaid x i) n f lent (overlaid x j)
    changed_on_lem {i} c = record { t = c.t; inside = c.inside; stands = name_overlaid i c.t c.stands; rewrites = rewrites c.rewrites }

    booked_from : {i j : List ℕ} {state next : State} {n : ℕ} {q : Plain} → AreaBooked p i state n j next q → AreaBooked p (overlaid x i) state n (overlaid x j) next q
    booked_from {i} {n = n} b = record {
      f = b.f;
      file = b.file;
      alone = b.alone;
      t = b.t;
      inside = b.inside;
      stands = name_overlaid i b.t b.stands;
      j = b.j;
      found = b.found;
      unit = b.unit;
      left = b.left;
      written = ap (overlaid x) b.written ∙ (beyond_booked p low b.t n b.f).past x i;
    }

    area_removed : {i j : List ℕ} {state next : State} {n : ℕ} {q : Plain} → AreaRemoved p i state n j next q → AreaRemoved p (overlaid x i) state n (overlaid x j) next q
    area_removed (dummy_remove e s t) = dummy_remove e (ap (overlaid x) s) t
    area_removed (books b) = books (booked_from b)

  -- ---- every message

  -- the result of a call with other words in sectors 0 to 5
  abbrev pub elsewhere : Performed → Performed
  elsewhere r = record { image = overlaid x r.image; state = r.state; answer = r.answer; lent = r.lent }

  module _ (p : Plain) (low : 6 ≤ p.F) where
    created : {i j : List ℕ} {n size attributes : ℕ} {optional tail : List ℕ} {q : Plain} → Created p i n size attributes optional tail j q
        → Created p (overlaid x i) n size attributes optional tail (overlaid x j) q
    created (stays c e) = stays (created_on p low c) e
    created (grows c e) =
        grows (record { full = c.full; grown = overlaid x c.grown; grows = grown_from p low c.grows; created = created_on (grown_unit p) low c.created }) e

    changed : {i j : List ℕ} {n : ℕ} {f : File} {lent : List ℕ} {q : Plain} → change.Changed p i n f lent j q → change.Changed p (overlaid x i) n f lent (overlaid x j) q
    changed (change.stays s c e) = change.stays s (changed_on_lem p low c) e
    changed (change.grows s grown g c e) = change.grows s (overlaid x grown) (grown_from p low g) (changed_on_lem (grown_unit p) low c) e

    pub wrote_overlaid : (i : List ℕ) (state : State) (message : Message) (lent : List ℕ) (r : Performed) → Words x → Wrote p i state message lent r
        → Wrote p (overlaid x i) state message lent (elsewhere r)
    wrote_overlaid i state (Init unit) lent r v w = (ap (overlaid x) w.0, w.1)
    wrote_overlaid i state (Set name) lent r v w = (record { step = leaves_map (decided-map (ap (overlaid x)) created) w.0.step }, w.1)
    wrote_overlaid i state (Create name size attributes) lent r v w = (record { step = λ l. leaves_map (decided-map (ap (overlaid x)) created) (w.0.step l) }, w.1)
    wrote_overlaid i state (LookUp name) lent r v w = (ap (overlaid x) w.0, w.1)
    wrote_overlaid i state (Change name) lent r v w = (
      record { step = leaves_map (decided-map (ap (overlaid x)) (λ d. record { f = d.f; file = d.file; closed = d.closed; changed = changed d.changed })) w.0.step },
      w.1,
    )
    wrote_overlaid i state (Remove name) lent r v w = (record { step = λ l. leaves_map (decided-map (ap (overlaid x)) (removed_from p low)) (w.0.step l) }, w.1)
    wrote_overlaid i state (CreateArea name) lent r v w = (ap (overlaid x) w.0, w.1)
    wrote_overlaid i state (RemoveArea name) lent r v w =
        record { step = λ l. leaves_map (decided-map (λ s. (ap (overlaid x) s.0, s.1)) (area_removed p low)) (w.step l) }
    wrote_overlaid i state (AreaMessage name sender operation) lent r v w = record {
      leaves = leaves_map (λ s. record { good = s.good; represents = represents_overlaid v s.good s.represents }) w.leaves;
      written = ap (overlaid x) w.written ∙ (beyond_message p low operation r.answer lent _).past x i;
      reached = w.reached;
    }
    wrote_overlaid i state (UnitDescription unit bytes) lent r v w = (ap (overlaid x) w.0, w.1)
    wrote_overlaid i state (Listing unit) lent r v w = (ap (overlaid x) w.0, w.1)
