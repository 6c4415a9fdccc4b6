-- A unit is sound exactly if some good plain unit is represented, and that one is unique.
use mathlib.Core.Path.{◌≡◌, refl, sym, subst}
use mathlib.Core.List.{List}
use Prim.Native.Nat.{ℕ}
use Rattle.types.specs.declared.State.{State}
use Rattle.disc.specs.Catalog.{sys_catalog}
use Rattle.plain.specs.Unit.{Plain, sys_of}
use Rattle.plain.specs.Good.{Good}
use Rattle.sound.specs.Sound.{SoundCatalog, SoundWith, SoundUnit}
use Rattle.refine.specs.Represents.{Represents}
use Rattle.refine.specs.Claims.{SoundRepresents}
use Rattle.refine.proofs.Unique.{represents_unique}
use Rattle.refine.proofs.UnitFiles.{sys_read, sys_index_lem}
use Rattle.refine.proofs.UnitSound.{kit_ones, sys_entered_lem, map_entered_lem, sound_entries, sound_once, sound-map}
use Rattle.refine.proofs.UnitAreas.{sound_areas}
use Rattle.refine.proofs.Read.{sound_reads}

module _ {image : List ℕ} {state : State} {p : Plain} (g : Good p) (r : Represents image state p) where
  -- the rules with the plain unit's numbers and slices
  with_unit : SoundWith image state p.H p.s p.F p.N (sys_of p)
  with_unit =
      let index = r.layout.sys.index in
      let catalog : SoundCatalog image state p.H p.s p.F (sys_of p) = search (g.catalog, sym (sys_read image p g index), sys_index_lem image p g index, sound_entries g r) in
      search (kit_ones g r, sys_entered_lem g r, map_entered_lem g r, sound_once g r, sound-map g r, sound_areas g r)

  -- the kit and sector 6 have those numbers and slices
  pub represents_sound : SoundUnit image state
  represents_sound =
      let kit = r.layout.kit in
      let with-sys = subst (λ (l : List ℕ). SoundWith image state p.H p.s p.F p.N (sys_catalog p.layers l))
      (sym (sys_read image p g r.layout.sys.index)) with_unit in
      record { layers = p.layers; rules = rw (kit.keys, kit.slice, kit.first, kit.sectors) with-sys }

  -- L of the rules is the unit's
  pub represents_layers : represents_sound.layers ≡ p.layers
  unfolding represents_sound
  represents_layers = refl

pub sound_represents : SoundRepresents
sound_represents = record {
  reads = λ image state sound. let x = sound_reads image state sound in (x.plain, x.good, x.represents);
  sound = λ image state p g r. represents_sound g r;
  unique = represents_unique;
}
