-- Create, Set and Remove on a unit that is on the image: their contracts have a result.
use mathlib.Core.Path.{◌≡◌, refl, sym, subst}
use mathlib.Core.Bool.{not}
use mathlib.Core.List.{List}
use mathlib.Core.Option.{some}
use Prim.Native.Nat.{ℕ, suc, ◌*◌, ◌≤◌, ◌<◌}
use native.Mathlib.Omega.{arith}
use native.Mathlib.Nat.{mod-lt}
use lib.ListN.{replicate}
use Rattle.types.specs.declared.Name.{Name}
use Rattle.disc.specs.Names.{SYS, key_of, named, unit_in}
use Rattle.disc.specs.Attributes.{permanent}
use Rattle.disc.specs.Entries.{place_count, name_at}
use Rattle.disc.proofs.Compare.{below_or}
use Rattle.plain.specs.Table.{table_find, is_some}
use Rattle.plain.specs.Unit.{Plain, entry, sys_of}
use Rattle.plain.specs.Questions.{Outcome, known, done}
use Rattle.plain.specs.Taking.{layers_for, places_taken}
use Rattle.plain.specs.Catalog.{optional_in, attributes_in, size_in, tail_in, is_record, new_file, step_create, step_set, step_remove}
use Rattle.plain.proofs.UnitLaws.{entry_sys}
use Rattle.plain.proofs.QuestionLaws.{not_some, is_some_lem}
use Rattle.plain.proofs.TakingLaws.{layers_stay, layers_grow}
use Rattle.plain.proofs.CreateUnit.{unit_after, Yes, sys_room, sys_few_lem, unit_grown, unit_stays}
use Rattle.refine.specs.OnDisc.{OnDisc}
use Rattle.refine.specs.Writes.{created_image, removed_image, grown_sys}
use Rattle.preservation.specs.Units.{layer_slices, grown_unit, new_file_of}
use Rattle.preservation.proofs.GrowStep.{grow_on}
use Rattle.lookup.specs.Unit.{unit_places}
use Rattle.lookup.specs.Find.{FirstUnused}
use Rattle.lookup.proofs.UnitLaws.{on_catalog}
use Rattle.grow.specs.Grow.{GrownFrom}
use Rattle.create.specs.Create.{Created, stays, grows}
use Rattle.remove.specs.Remove.{Removed}
use Rattle.witness.proofs.Ends.{Effect, Ends, ask, refuse, finish, give}
use Rattle.witness.proofs.Chains.{first_unused}

-- A message that writes the image, and leaves it where it is refused.
abbrev pub writes : List ℕ → (List ℕ → Plain → Type 0) → Effect (List ℕ)
writes image Written = record { Same = λ after. after ≡ image; Written = Written; still = image; same = refl }

abbrev pub creates : Plain → List ℕ → ℕ → ℕ → ℕ → List ℕ → List ℕ → Effect (List ℕ)
creates p image n size attributes optional tail = writes image (Created p image n size attributes optional tail)

-- the first unused place of a name's key
pub first_place : {image : List ℕ} {p : Plain} → OnDisc image p → (n : ℕ) → places_taken p.H (key_of p.H n) (sys_of p) p.files < 16 * p.layers → (u : ℕ) × FirstUnused image p (sys_of p) (key_of p.H n) u
first_place {p = p} on n room = first_unused (on_catalog on) (key_of p.H n) (mod-lt _ on.good.limits.keys_low) room

-- ---- SYS grows by a layer

module _ {image : List ℕ} {p : Plain} (on : OnDisc image p) where
  -- its entry is written anew where it stands
  pub grown_from : (after : List ℕ) × GrownFrom image p after
  grown_from =
      let at = on.layout.sys.places.there SYS _ (entry_sys p) in
      (grown_sys p image at.0 (layer_slices p), record { place = at.0; inside = at.1; named = at.2; written = refl })

  -- ---- a new file

  module _ {I : Type 0} (words : I → List ℕ) (n size attributes : ℕ) (optional tail : List ℕ) where
    abbrev Made : (I → Outcome) → Type 0
    Made = Ends p words (creates p image n size attributes optional tail)

    -- SYS is grown
    in_layer : {j : List ℕ} → 16 * p.layers ≤ places_taken p.H (key_of p.H n) (sys_of p) p.files → GrownFrom image p j → OnDisc j (grown_unit p)
        → Made (λ i. done (unit_after p (suc p.layers) n size attributes optional tail) (words i))
    in_layer {j} taken from grown_on =
        let u = first_place grown_on n (omega (arith, on.good.catalog.chains (key_of p.H n))) in
        finish _ (created_image (grown_unit p) (sys_of (grown_unit p)) j u.0 n (new_file_of (grown_unit p) size attributes optional tail))
        (grows (record { full = taken; grown = j; grows = from; created = record { place = u.0; first = u.1; written = refl } }) (unit_grown p (suc p.layers) n size attributes optional tail))

    -- every question is answered yes
    made : Yes p (layers_for p.H (sys_of p) n p.files) n size attributes → Made (λ i. done (unit_after p (layers_for p.H (sys_of p) n p.files) n size attributes optional tail) (words i))
    made asked = below_or (places_taken p.H (key_of p.H n) (sys_of p) p.files) (16 * p.layers) beside new_layer
      where
        at : {l : ℕ} → layers_for p.H (sys_of p) n p.files ≡ l → Made (λ i. done (unit_after p l n size attributes optional tail) (words i)) → Made (λ i. done (unit_after p (layers_for p.H (sys_of p) n p.files) n size attributes optional tail) (words i))
        at e m = subst (λ (k : ℕ). Made (λ i. done (unit_after p k n size attributes optional tail) (words i))) (sym e) m

        beside : places_taken p.H (key_of p.H n) (sys_of p) p.files < 16 * p.layers → Made (λ i. done (unit_after p (layers_for p.H (sys_of p) n p.files) n size attributes optional tail) (words i))
        beside room =
            let u = first_place on n room in
            let e = unit_stays on.good n size attributes optional tail in
            at (layers_stay p.H (sys_of p) n p.files room)
            (finish _ (created_image p (sys_of p) image u.0 n (new_file_of p size attributes optional tail))
            (stays (record { place = u.0; first = u.1; written = refl }) e))

        new_layer : 16 * p.layers ≤ places_taken p.H (key_of p.H n) (sys_of p) p.files → Made (λ i. done (unit_after p (layers_for p.H (sys_of p) n p.files) n size attributes optional tail) (words i))
        new_layer taken =
            let e = layers_grow p.H (sys_of p) n p.files taken in
            let y = subst (λ (l : ℕ). Yes p l n size attributes) e asked in
            at e (in_layer taken grown_from.1 (rw grown_from.1.written
            (grow_on on (sys_room y) (sys_few_lem y) grown_from.1.place grown_from.1.inside grown_from.1.named)))

    pub new_file_lem : Made (λ i. new_file p n size attributes optional tail (words i))
    unfolding new_file
    new_file_lem =
        ask _ 0x1200 (omega arith) (λ a. ask _ 0x1200 (omega arith) (λ b. ask _ 0x1200 (omega arith) (λ c.
        ask _ 0x1200 (omega arith) (λ d. ask _ 0x1010 (omega arith) (λ e. ask _ 0x1100 (omega arith) (λ f.
        ask _ 0x1008 (omega arith) (λ g. ask _ 0x1008 (omega arith) (λ h.
        made (record { name = a; short = b; allowed = c; given = d; vacant = e; room = f; sys_few = g; few = h })))))))))

  -- ---- Create

  pub create_ends : (name : Name) (size attributes : ℕ)
      → Ends p (λ lent. lent) (creates p image (named name) size attributes (replicate 3 0) (replicate 6 0)) (step_create p name size attributes)
  create_ends name size attributes = ask (known p (unit_in name)) 0x1200 (omega arith) (λ _. new_file_lem (λ lent. lent) (named name) size attributes (replicate 3 0) (replicate 6 0))

  -- ---- Set

  pub set_ends : (name : Name) (lent : List ℕ)
      → Ends {I = Unit {0}} p (λ _. lent) (creates p image (named name) (size_in lent) (attributes_in lent) (optional_in lent) (tail_in lent)) (λ _. step_set p name lent)
  set_ends name lent =
      ask (known p (unit_in name)) 0x1200 (omega arith) (λ _. ask (is_record lent) 0x1200 (omega arith) (λ _.
      new_file_lem (λ _. lent) (named name) (size_in lent) (attributes_in lent) (optional_in lent) (tail_in lent)))

  -- ---- Remove

  -- the place where a name stands
  pub name_place : (n : ℕ) {e : List ℕ} → entry p n ≡ some e → (t : ℕ) × (t < place_count p.H p.layers) × (name_at (unit_places image p) t ≡ n)
  name_place n h = on.layout.sys.places.there n _ h

  pub remove_ends : (name : Name) → Ends p (λ lent. lent) (writes image (Removed p image (named name))) (step_remove p name)
  remove_ends name =
      ask (known p (unit_in name)) 0x1200 (omega arith) (λ _. ask (is_some (entry p (named name))) 0x5000 (omega arith) (λ entered.
      give (table_find (named name) p.files) (refuse 0x1200 (omega arith)) (λ f file.
      ask (not (is_some (table_find (named name) p.areas))) 0x1200 (omega arith) (λ shut. ask (not (permanent f.attributes)) 0x1200 (omega arith) (λ _.
      let at = name_place (named name) (is_some_lem (entry p (named name)) entered).1 in
      finish _ (removed_image p (sys_of p) image at.0 f)
      (record {
        f = f;
        file = file;
        closed = not_some (table_find (named name) p.areas) shut;
        t = at.0;
        inside = at.1;
        stands = at.2;
        unit = refl;
        written = refl;
      }))))))
