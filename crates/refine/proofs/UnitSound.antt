-- What a good plain unit is represented by is sound: the image's part.
use mathlib.Core.Path.{◌≡◌, refl}
use mathlib.Core.List.{List}
use mathlib.Core.Logic.{⊎_elim}
use mathlib.Core.Option.{some}
use Prim.Native.Nat.{ℕ, ◌*◌, ◌<◌}
use native.Mathlib.Omega.{arith}
use Rattle.types.specs.declared.State.{State}
use Rattle.disc.specs.Names.{SYS, MAP}
use Rattle.disc.specs.Slices.{InRangeOnce}
use Rattle.disc.specs.Kit.{Kit}
use Rattle.disc.specs.Map.{ones_in_map}
use Rattle.disc.specs.Entries.{name_at, sys_entry, map_entry}
use Rattle.disc.proofs.SliceLaws.{in_unit_in, in_unit_no}
use Rattle.map.proofs.CountLaws.{ones_free}
use Rattle.plain.specs.Unit.{Plain, sys_of, M, held, entry}
use Rattle.plain.specs.Good.{Good}
use Rattle.plain.proofs.UnitLaws.{entry_sys, entry-map, legal_positive}
use Rattle.sound.specs.Places.{Unused, Used, Entered, LegalPlace}
use Rattle.sound.specs.Sound.{SoundEntries, SoundMap, all_slices}
use Rattle.refine.specs.Represents.{PlaceOf, Represents}
use Rattle.refine.proofs.CatalogLaws.{at, Named}
use Rattle.refine.proofs.Ground.{entry_named, entry_legal}
use Rattle.refine.proofs.UnitFiles.{P, count, file_at_lem, sound_file}
use Rattle.refine.proofs.UnitSlices.{all_held}

module _ {image : List ℕ} {state : State} {p : Plain} (g : Good p) (r : Represents image state p) where
  abbrev Q : ℕ → ℕ → ℕ
  Q = P g r

  abbrev N : ℕ
  N = count g r

  nm : Named (entry p)
  nm = entry_named p g.catalog.names

  -- ---- SYS and the kit

  -- the free word is s times the ones
  pub kit_ones : Kit image p.H p.s p.N (p.s * ones_in_map image) p.F
  kit_ones =
      let ones : ones_in_map image ≡ Rattle.plain.specs.Unit.free_slices p = ones_free (M p) (held p) image g.limits.slices_high r.layout.map r.words in
      rw ones r.layout.kit

  -- ---- entries

  entered : (n : ℕ) (e : List ℕ) → entry p n ≡ some e → Entered Q N e
  entered n e h = let a = at r.layout.sys.places nm n e h in record { place = a.place; inside = a.inside; holds = a.holds }

  pub sys_entered_lem : Entered Q N (sys_entry p.H p.s p.layers p.sys)
  sys_entered_lem = entered SYS (sys_entry p.H p.s p.layers p.sys) (entry_sys p)

  pub map_entered_lem : Entered Q N map_entry
  map_entered_lem = entered MAP map_entry (entry-map p)

  pub legal_place : (t : ℕ) → t < N → Used Q t → LegalPlace Q p.H t
  legal_place t x used = ⊎_elim
      (λ (z : Unused Q t). absurd (used z))
      (λ (u : PlaceOf Q p.H (entry p) t). record { name = entry_legal p g (name_at Q t) u.words u.entered; key = u.key })
      (r.layout.sys.places.each t x)

  pub sound_entries : SoundEntries image state p.H p.s p.F (sys_of p)
  sound_entries = record {
    legal = legal_place;
    alone = λ t u x y a b e. r.layout.sys.places.alone t u x y e (λ z. let k = legal_positive (name_at Q t) (legal_place t x a).name in omega arith);
    files = λ t x used other. let f = file_at_lem g r t x used other in sound_file g r (name_at Q t) f.0 f.1 t refl f.2;
  }

  -- ---- slices and map

  pub sound_once : InRangeOnce (M p) (all_slices image state p.H p.s p.F (sys_of p))
  sound_once k = rw (all_held g r k) (g.once k)

  pub sound-map : SoundMap image (M p) (all_slices image state p.H p.s p.F (sys_of p))
  sound-map = record {
    marked = λ k a b.
        let e = r.layout.map k a (omega (arith, g.limits.slices_high)) in
        let one = in_unit_in (M p) k a b in
        let held_same = all_held g r k in
        ((λ z. omega arith), (λ z. omega arith));
    past = λ k a b. omega (arith, r.layout.map k (omega arith) b, in_unit_no (M p) k a);
  }
