-- Change on a unit that is on the image: its contract has a result.
use mathlib.Core.Path.{◌≡◌, refl, ap, ◌∙◌, subst}
use mathlib.Core.Bool.{not}
use mathlib.Core.List.{List}
use mathlib.Core.Logic.{◌≢◌}
use mathlib.Core.Option.{none, some}
use Prim.Native.Nat.{ℕ, suc, ◌*◌, ◌<◌}
use native.Mathlib.Omega.{arith}
use native.Mathlib.Nat.{mod-lt}
use lib.Dec.{T}
use Rattle.types.specs.declared.Name.{Name}
use Rattle.disc.specs.Words.{Words}
use Rattle.disc.specs.Names.{key_of, named, unit_in}
use Rattle.disc.specs.Attributes.{gives_entry_only}
use Rattle.disc.specs.Entries.{place_count, name_at}
use Rattle.disc.proofs.Compare.{same_or, below_or}
use Rattle.plain.specs.Table.{table_find, table_remove, is_some}
use Rattle.plain.specs.Unit.{Plain, File, sys_of, with_files, entry}
use Rattle.plain.specs.Questions.{Outcome, known}
use Rattle.plain.specs.Good.{Good}
use Rattle.plain.specs.Taking.{places_taken}
use Rattle.plain.specs.Catalog.{attributes_in, is_record, new_name, change_file, step_change}
use Rattle.plain.proofs.KeepsCatalog.{removed_good}
use Rattle.plain.proofs.ChangeUnit.{change_layers, change_grown, changed_unit, ChangeAsked, change_outcome, change_shut, change_changes, kept_layers, moved_layers, moved_vacant, moved_fits}
use Rattle.plain.proofs.TakingLaws.{layers_stay, layers_grow}
use Rattle.plain.proofs.GrowUnit.{grown_to, not_grown, entry_grown}
use Rattle.plain.proofs.QuestionLaws.{asks_yes, given_some}
use Rattle.plain.proofs.UnitLaws.{entry_of}
use Rattle.refine.specs.OnDisc.{OnDisc}
use Rattle.refine.specs.Writes.{empty_place, resized_image, changed_image, renamed_image}
use Rattle.refine.proofs.LeavesLaws.{refuses, writes as replies-written}
use Rattle.preservation.specs.Units.{grown_unit}
use Rattle.preservation.proofs.ChangeStep.{rename_emptied}
use Rattle.lookup.specs.Unit.{CatalogOn, unit_places}
use Rattle.lookup.specs.Find.{FirstUnused}
use Rattle.grow.specs.Grow.{GrownFrom}
use Rattle.change.specs.Rewrite.{stayed, moved}
use Rattle.change.specs.Change.{size_then, attributes_then, file_after, layers_then, ChangedOn, Changed, stays, grows, ChangeDone}
use Rattle.change.proofs.AnswerLaws.{change_no, change_yes}
use Rattle.change.proofs.ChangeUnit.{change_grown_lem}
use Rattle.witness.proofs.Ends.{Ends, ask, refuse, give}
use Rattle.witness.proofs.Chains.{first_unused}
use Rattle.witness.proofs.Files.{writes, grown_from, name_place}

module _ {p : Plain} (g : Good p) (n : ℕ) {f : File} (file : table_find n p.files ≡ some f) (lent : List ℕ) (words : Words lent) (rec : T (is_record lent))
    (asked : ChangeAsked p n (new_name n lent) (size_then f lent) (attributes_then f lent) f lent) where
  abbrev m : ℕ
  m = new_name n lent

  abbrev sz : ℕ
  sz = size_then f lent

  abbrev at : ℕ
  at = attributes_then f lent

  -- the unit with SYS's layers as the message needs them
  abbrev grown : Plain
  grown = change_grown p n (new_name n lent) (size_then f lent) (attributes_then f lent) f lent

  shut : table_find n p.areas ≡ none
  shut = change_shut p n m sz at f lent g file asked

  -- ---- the writes on it

  module _ {i : List ℕ} (on : OnDisc i (change_grown p n (new_name n lent) (size_then f lent) (attributes_then f lent) f lent)) where
    stands : (t : ℕ) × (t < place_count grown.H grown.layers) × (name_at (unit_places i grown) t ≡ n)
    stands = name_place on n (entry_of grown n f (on.good.catalog.files n f file).ordinary file)

    abbrev f' : File
    f' = file_after (change_grown p n (new_name n lent) (size_then f lent) (attributes_then f lent) f lent) f lent

    -- the new name's place, once the file's own is empty
    new_place : m ≢ n → (u : ℕ) × FirstUnused (empty_place grown (sys_of grown) (resized_image grown i f f') stands.0) grown (sys_of grown) (key_of grown.H m) u
    new_place d =
        let fits = moved_fits p n m sz at f lent g d in
        let l = rename_emptied on n m file shut (change_changes p n m sz at f lent g file asked words rec) d asked.legal
        (entry_grown p (change_layers p n m sz at f lent) m (moved_vacant p n m sz at f lent d asked)) fits stands.0 stands.1 stands.2 in
        let without : Plain = with_files grown (table_remove n grown.files) in
        let bare : CatalogOn (empty_place grown (sys_of grown) (resized_image grown i f f') stands.0) without =
        record { good = removed_good grown n on.good shut; size = l.size; sys = l.sys } in
        let u = first_unused bare (key_of grown.H m) (mod-lt _ g.limits.keys_low) fits in
        (u.0, record { inside = u.1.inside; key = u.1.key; unused = u.1.unused; earlier = u.1.earlier })

    rewrites : (after : List ℕ) × ChangedOn grown i n f lent after
    rewrites = same_or m n
        (λ e. (changed_image grown (sys_of grown) i stands.0 n f f', record { t = stands.0; inside = stands.1; stands = stands.2; rewrites = stayed e refl }))
        (λ d. let u = new_place d in
        (renamed_image grown (sys_of grown) i stands.0 u.0 m f f', record { t = stands.0; inside = stands.1; stands = stands.2; rewrites = moved d u.0 u.1 refl }))

  -- ---- SYS as it was, or grown

  rewrites_on : {q : Plain} → change_grown p n (new_name n lent) (size_then f lent) (attributes_then f lent) f lent ≡ q → {i : List ℕ} → OnDisc i q → (after : List ℕ) × ChangedOn q i n f lent after
  rewrites_on e {i} = subst (λ (q : Plain). OnDisc i q → (after : List ℕ) × ChangedOn q i n f lent after) e rewrites

  changes : {image : List ℕ} → OnDisc image p → (layers_then p n lent ≡ suc p.layers → (i : List ℕ) → GrownFrom image p i → OnDisc i (grown_unit p))
      → (after : List ℕ) × Changed p image n f lent after (changed_unit p n (new_name n lent) (size_then f lent) (attributes_then f lent) f lent (change_grown p n (new_name n lent) (size_then f lent) (attributes_then f lent) f lent))
  changes {image} on next = same_or m n
      (λ e. beside (kept_layers p n m sz at f lent e))
      (λ d. below_or (places_taken p.H (key_of p.H m) (sys_of p) (table_remove n p.files)) (16 * p.layers)
      (λ room. beside (moved_layers p n m sz at f lent d ∙ layers_stay p.H (sys_of p) m (table_remove n p.files) room))
      (λ taken. layer (moved_layers p n m sz at f lent d ∙ layers_grow p.H (sys_of p) m (table_remove n p.files) taken)))
    where
      beside : layers_then p n lent ≡ p.layers → (after : List ℕ) × Changed p image n f lent after (changed_unit p n m sz at f lent grown)
      beside e =
          let same : grown ≡ p = ap (grown_to p) e ∙ not_grown p g in
          let c = rewrites_on same on in
          (c.0, stays e c.1 (ap (changed_unit p n m sz at f lent) same))

      layer : layers_then p n lent ≡ suc p.layers → (after : List ℕ) × Changed p image n f lent after (changed_unit p n m sz at f lent grown)
      layer e =
          let more : grown ≡ grown_unit p = ap (grown_to p) e in
          let i = grown_from on in
          let c = rewrites_on more (next e i.0 i.1) in
          (c.0, grows e i.0 i.1 c.1 (ap (changed_unit p n m sz at f lent) more))

-- ---- the message

pub change_ends : {image : List ℕ} {p : Plain} → OnDisc image p → (name : Name) (lent : List ℕ) → Words lent
    → Ends {I = Unit {0}} p (λ _. lent) (writes image (ChangeDone p image (named name) lent)) (λ _. step_change p name lent)
change_ends {image} {p} on name lent words =
    ask (known p (unit_in name)) 0x1200 (omega arith) (λ mine. ask (is_some (entry p n)) 0x5000 (omega arith) (λ entered. ask (is_record lent) 0x1200 (omega arith) (λ rec.
    give (table_find n p.files) (refuse 0x1200 (omega arith)) (λ f file.
    ask (not (gives_entry_only (attributes_in lent))) 0x1200 (omega arith) (λ no-bit. judged mine entered rec no-bit f file)))))
  where
    n : ℕ
    n = named name

    judged : T (known p (unit_in name)) → T (is_some (entry p (named name))) → T (is_record lent) → T (not (gives_entry_only (attributes_in lent)))
        → (f : File) → table_find (named name) p.files ≡ some f
        → Ends {I = Unit {0}} p (λ _. lent) (writes image (ChangeDone p image (named name) lent)) (λ _. change_file p (named name) f (new_name (named name) lent) (size_then f lent) (attributes_then f lent) lent)
    judged mine entered rec no-bit f file = same_or (change_file p n f (new_name n lent) (size_then f lent) (attributes_then f lent) lent).answer.result 0
        (λ z.
        let asked = change_yes p n (new_name n lent) (size_then f lent) (attributes_then f lent) f lent z in
        let is : step_change p name lent ≡ change_file p n f (new_name n lent) (size_then f lent) (attributes_then f lent) lent =
        asks_yes _ _ _ mine ∙ asks_yes _ _ _ entered ∙ asks_yes _ _ _ rec ∙ given_some _ f _ _ file ∙ asks_yes _ _ _ no-bit in
        let c = changes on.good n file lent words rec asked on (λ e i gf. change_grown_lem name lent (ap (λ (x : Outcome). x.answer.result) is ∙ z) file e on gf) in
        record {
          result = 0;
          left = c.0;
          step = λ _. replies-written (change_outcome p n (new_name n lent) (size_then f lent) (attributes_then f lent) f lent asked)
              (record { f = f; file = file; closed = shut on.good n file lent words rec asked; changed = c.1 });
        })
        (λ d. record {
          result = _;
          left = image;
          step = λ _. refuses d (change_no p n (new_name n lent) (size_then f lent) (attributes_then f lent) f lent d) refl;
        })
