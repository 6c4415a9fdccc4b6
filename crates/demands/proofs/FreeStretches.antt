-- Where the free slices on the map form at most 127 stretches, the one call refuses no new file for its index: the plain unit does not.
use mathlib.Core.Path.{◌≡◌, sym, ap, ◌∙◌}
use mathlib.Core.List.{List}
use mathlib.Core.Logic.{◌≢◌, ◌↔◌}
use Prim.Native.Nat.{ℕ, ◌*◌, ◌-◌, ◌≤◌, ◌<◌}
use native.Mathlib.Nat.{mod-lt}
use native.Mathlib.Omega.{arith}
use Rattle.types.specs.declared.Answer.{Answer}
use Rattle.types.specs.declared.Name.{Name}
use Rattle.types.specs.declared.State.{State}
use Rattle.types.specs.declared.Message.{Message}
use Rattle.types.specs.declared.Message.TheVariants.{Create}
use Rattle.disc.specs.Names.{key_of}
use Rattle.disc.specs.FreeStretches.{free_stretches_on_map}
use Rattle.disc.proofs.Compare.{below_or}
use Rattle.disc.proofs.FreeStretchLaws.{map_stretches}
use Rattle.plain.specs.Unit.{Plain, M, held, sys_of}
use Rattle.plain.specs.Taking.{places_taken}
use Rattle.plain.specs.Step.{Reply, step}
use Rattle.plain.specs.Good.{Good}
use Rattle.plain.specs.FreeStretches.{free_stretches, AddsNoLayer, MakesFile, create, set, length_of_all}
use Rattle.plain.proofs.TakingLaws.{layers_stay, layers_grow}
use Rattle.plain.proofs.FreeStretches as plain_unit
use Rattle.refine.specs.Represents.{Represents}
use Rattle.refine.specs.Demands.{Performed}
use Rattle.refine.proofs.SoundRepresents.{sound_represents}
use Rattle.refine.proofs.PlaceCount.{unused_room, sys_entries}
use Rattle.lookup.specs.Unit.{CatalogOn}
use Rattle.lookup.specs.Find.{FirstUnused}
use Rattle.lookup.proofs.UnusedLaws.{unused_there}
use Rattle.first_question.specs.Known.{unknown_word, unsound_word}
use Rattle.perform.specs.Perform.{Obeyed, Performs, unknown, unsound, obeyed}
use Rattle.demands.specs.FreeStretches.{AddsNoLayerOn, length_of_all_on, NoCrowdedIndexOf}

module _ {image : List ℕ} {state : State} (p : Plain) (g : Good p) (r : Represents image state p) where
  same_count : free_stretches_on_map image ≡ free_stretches p
  same_count = map_stretches image (M p) (held p) g.limits.slices_high r.layout.map

  all_sectors : length_of_all_on image ≡ length_of_all p
  all_sectors = ap (λ (w : ℕ). w - 1) r.layout.kit.unused

  -- ---- a layer is added where no place of the key is unused

  module _ (n : ℕ) where
    key_low : key_of p.H n < p.H
    key_low = mod-lt _ g.limits.keys_low

    place_left : AddsNoLayer p n → (place : ℕ) × FirstUnused image p (sys_of p) (key_of p.H n) place
    place_left stays =
        let on : CatalogOn image p = record { good = g; size = r.layout.size; sys = r.layout.sys } in
        unused_there on (key_of p.H n) key_low
        (below_or (places_taken p.H (key_of p.H n) (sys_of p) p.files) (16 * p.layers) (λ less. less)
        (λ all. absurd (omega (arith, layers_grow p.H (sys_of p) n p.files all, stays))))

    layers_are : AddsNoLayer p n ↔ ((place : ℕ) × FirstUnused image p (sys_of p) (key_of p.H n) place)
    layers_are = (
      place_left,
      λ x. layers_stay p.H (sys_of p) n p.files
          (unused_room (sys_entries g) r.layout.sys.places (key_of p.H n) x.0 x.1.inside x.1.key x.1.unused),
    )

-- ---- the one call

-- the word of a call that was obeyed is the plain unit's
same_word : {p : Plain} {image : List ℕ} {state : State} {message : Message} {lent : List ℕ} {r : Performed} → Obeyed p image state message lent r
    → r.answer.result ≡ (step p message lent).answer.result
same_word o = ap (λ (y : Reply). y.answer.result) o.same

-- the words of the first two questions are others
other_words : {name : Name} {message : Message} → MakesFile name message → (unknown_word message ≢ 0x1008) × (unsound_word message ≢ 0x1008)
other_words create = (λ e. omega (arith, e), λ e. omega (arith, e))
other_words set = (λ e. omega (arith, e), λ e. omega (arith, e))

call_fits : {image : List ℕ} {state : State} {name : Name} {message : Message} {lent : List ℕ} {r : Performed} → Performs image state message lent r
    → MakesFile name message → free_stretches_on_map image ≤ 127 → AddsNoLayerOn image state name → r.answer.result ≢ 0x1008
call_fits (unknown _ u) makes few stays e = (other_words makes).0 (sym (ap (λ (a : Answer). a.result) u.answered) ∙ e)
call_fits (unsound _ _ u) makes few stays e = (other_words makes).1 (sym (ap (λ (a : Answer). a.result) u.answered) ∙ e)
call_fits {image} {state} {name} {message} {lent} (obeyed _ s all) makes few stays e =
    let x = sound_represents.reads image state s in
    let p : Plain = x.0 in
    plain_unit.no_crowded_index_lem.fits p name message lent x.1 makes (omega (arith, same_count p x.1 x.2)) (stays p x.1 x.2)
    (sym (same_word (all p x.1 x.2)) ∙ e)

call_highest : {image : List ℕ} {state : State} {name : Name} {attributes : ℕ} {words lent : List ℕ} {q r : Performed}
    → Performs image state (Create name 0 attributes) words q → q.answer.result ≡ 0
    → Performs image state (Create name (length_of_all_on image) attributes) lent r
    → 128 ≤ free_stretches_on_map image → AddsNoLayerOn image state name → r.answer.result ≡ 0x1008
call_highest (unknown _ u) z c many stays = absurd (let e = ap (λ (a : Answer). a.result) u.answered in omega arith)
call_highest (unsound _ _ u) z c many stays = absurd (let e = ap (λ (a : Answer). a.result) u.answered in omega arith)
call_highest (obeyed k s _) z (unknown denied _) many stays = absurd (denied (record { unit = k.unit; ready = k.ready }))
call_highest (obeyed k s _) z (unsound _ denied _) many stays = absurd (denied s)
call_highest {image} {state} {name} {attributes} {words} {lent} (obeyed k s first) z (obeyed _ _ second) many stays =
    let x = sound_represents.reads image state s in
    let p : Plain = x.0 in
    same_word (second p x.1 x.2)
    ∙ ap (λ (size : ℕ). (step p (Create name size attributes) lent).answer.result) (all_sectors p x.1 x.2)
    ∙ plain_unit.no_crowded_index_lem.highest p name attributes words lent x.1 (omega (arith, same_count p x.1 x.2)) (stays p x.1 x.2)
    (sym (same_word (first p x.1 x.2)) ∙ z)

pub no_crowded_index_lem : NoCrowdedIndexOf Performs
no_crowded_index_lem = record {
  counted = same_count;
  layers = λ p n g r. layers_are p g r n;
  fits = call_fits;
  highest = call_highest;
}
