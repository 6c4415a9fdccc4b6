-- The rules of a sound unit are those on users and kit, on SYS's slices and layers, and on the rest, said of the geometry that
-- was read.
use Rattle.std.specs.Prelude.{Option, Some, None}
use mathlib.Core.Path.{◌≡◌, refl, sym, subst}
use mathlib.Core.Bool.{Bool}
use mathlib.Core.List.{List}
use Prim.Native.Nat.{ℕ, ◌*◌}
use native.Mathlib.Omega.{arith}
use lib.ListN.{length}
use Rattle.std.specs.Prelude.{Some, None}
use Rattle.types.specs.declared.State.{State}
use Rattle.disc.specs.Decide.{Decides}
use Rattle.disc.specs.Words.{Words}
use Rattle.disc.proofs.NumberLaws.{ceil_div_le}
use Rattle.disc.proofs.SliceLaws.{occurrences_append}
use Rattle.disc.proofs.DecideLaws.{holds, fails}
use Rattle.sound.specs.State.{Shaped}
use Rattle.sound.specs.Sound.{SoundWith, SoundUnit}
use Rattle.sound.specs.Parts.{SoundUsers}
use Rattle.catalog.specs.declared.Unit.{Unit}
use Rattle.catalog.specs.Catalog.{sys_value}
use Rattle.kit.specs.declared.Geometry.{Geometry}
use Rattle.kit.specs.Geometry.{GeometryOf, UnitOf, SoundByKit}
use Rattle.kit.proofs.KitLaws.{sound_unit}
use Rattle.marks.specs.Marked.{Marked}
use Rattle.sound_entries.specs.Sys.{sys_slices, sys_with}
use Rattle.sound_files.specs.Walk.{SysKnown, sys_held}
use Rattle.soundness.specs.Layers.{SysSound, SysMarking, SoundLayers}
use Rattle.soundness.specs.Judged.{NumbersBy, Judges}

-- ---- what a sound unit has, by the numbers in the kit

pub unit_users : {image : List ℕ} {state : State} → SoundUnit image state → SoundUsers state
unit_users u = record { distinct = u.rules.areas.distinct; users = u.rules.areas.users }

pub unit_kit : {image : List ℕ} {state : State} → SoundUnit image state → SoundByKit image
unit_kit u = record { size = u.rules.size; kit = u.rules.kit; limits = u.rules.limits; map_index = u.rules.map_index }

-- ---- by the geometry

abbrev SoundBy : List ℕ → State → Geometry → ℕ → Type 0
SoundBy image state g L = SoundWith image state g.keys g.slice g.first.0 g.sectors (sys_with image g L)

module _ {image : List ℕ} {g : Geometry} (is : GeometryOf image g) where
  -- SYS's slices have room for its layers
  pub sys_known : {marks : List ℕ} {L : ℕ} → SoundByKit image → SysSound image g L → Marked g.slices marks (sys_slices image g)
      → SysKnown image g marks (g.keys * L)
  sys_known {L = L} kit s marked =
      let unit : UnitOf image g = sound_unit is kit in
      let least = ceil_div_le (g.keys * L) g.slice (length (sys_slices image g)) (omega (arith, unit.limits.slice_low)) in
      let room = least.0 (omega (arith, s.count)) in
      record { unit = unit; index = s.index; marked = marked; room = omega (arith, room) }

  module _ {state : State} where
    by_geometry : (u : SoundUnit image state) → SoundBy image state g u.layers
    by_geometry u = rw (is.keys, is.slice, is.first, is.sectors) u.rules

    by_kit : {L : ℕ} → SoundBy image state g L → SoundUnit image state
    by_kit {L} w = record { layers = L; rules = rw (← is.keys, ← is.slice, ← is.first, ← is.sectors) w }

    by_layers : {L : ℕ} → SoundBy image state g L → SoundLayers image state g L
    by_layers w = record {
      names = record { sys_entered = w.sys_entered; map_entered = w.map_entered; legal = w.catalog.entries.legal; alone = w.catalog.entries.alone };
      areas = record { each = λ j h o. record { entered = w.areas.entered j h o; ordinary = w.areas.ordinary j h o } };
      files = w.catalog.entries.files;
      once = rw is.slices w.once;
      map = rw is.slices w.map;
    }

    by_sys : {L : ℕ} → SoundBy image state g L → SysSound image g L
    by_sys {L} w = record {
      some = w.catalog.layered;
      index = w.catalog.index;
      once = λ k. omega (arith, (by_layers w).once k, occurrences_append k (sys_slices image g) (sys_held image state g L));
      first = w.sys_first;
      count = w.catalog.count;
    }

    -- the number of layers that was found is the only one
    layers_are : {marks : List ℕ} {r : ℕ} → SysMarking image g marks (Some r) → (u : SoundUnit image state) → r ≡ u.layers
    layers_are found u = let w = by_geometry u in let e = found.only u.layers (by_sys w) (by_layers w).names in cc

    pub no_layers : {marks : List ℕ} → SysMarking image g marks None → SoundUnit image state → ⊥
    no_layers found u = let w = by_geometry u in let e = found.only u.layers (by_sys w) (by_layers w).names in cc

    pub unit_layers : {marks : List ℕ} {r : ℕ} → SysMarking image g marks (Some r) → SoundUnit image state
        → SysSound image g r × SoundLayers image state g r
    unit_layers {r = r} found u =
        let w = by_geometry u in
        subst (λ (L : ℕ). SysSound image g L × SoundLayers image state g L) (sym (layers_are found u)) (by_sys w, by_layers w)

    layers_unit : {L : ℕ} → Words image → Shaped state → SoundUsers state → SoundByKit image
        → SysSound image g L → SoundLayers image state g L → SoundUnit image state
    layers_unit {L} words shaped users kit s l = by_kit (record {
      words = words;
      shaped = shaped;
      size = rw is.sectors kit.size;
      kit = rw (is.keys, is.slice, is.first, is.sectors) kit.kit;
      limits = (sound_unit is kit).limits;
      sys_entered = l.names.sys_entered;
      map_entered = l.names.map_entered;
      map_index = kit.map_index;
      catalog = record {
        layered = s.some;
        described = refl;
        index = s.index;
        count = s.count;
        entries = record { legal = l.names.legal; alone = l.names.alone; files = l.files };
      };
      sys_first = s.first;
      once = rw (← is.slices) l.once;
      map = rw (← is.slices) l.map;
      areas = record {
        distinct = users.distinct;
        entered = λ j h o. (l.areas.each j h o).entered;
        ordinary = λ j h o. (l.areas.each j h o).ordinary;
        users = users.users;
      };
    })

    -- all steps before were answered yes: the last answer is that of the whole
    pub decides_unit : {marks : List ℕ} {L : ℕ} (r : Bool) → Words image → Shaped state → SoundUsers state → SoundByKit image
        → SysMarking image g marks (Some L) → SysSound image g L → Decides r (SoundLayers image state g L) → Decides r (SoundUnit image state)
    decides_unit r words shaped users kit found s d = record {
      yes = λ e. layers_unit words shaped users kit s (d.yes e);
      not = λ e u. d.not e (unit_layers found u).1;
    }

    -- ---- the numbers

    pub numbers_by : {marks : List ℕ} {r : ℕ} → SysMarking image g marks (Some r) → (u : SoundUnit image state)
        → NumbersBy image state u (record { slice = g.slice; first = g.first; slices = g.slices; catalog = sys_value g.keys r })
    numbers_by found u = record {
      slice = is.slice;
      first = is.first;
      slices = rw (← is.slice, ← is.first, ← is.sectors) is.slices;
      catalog = record { index = refl; from = refl; keys = is.keys; layers = layers_are found u };
    }

-- ---- the answer

module _ {image : List ℕ} {state : State} where
  pub not_sound : (SoundUnit image state → ⊥) → Judges image state None
  not_sound refuted = record {
    sound = fails refuted;
    area_sound = fails refuted;
    numbers = λ u e. absurd (let z : ◌≡◌ {A = ℕ} 0 1 = cc in omega arith);
  }

  pub is_sound : {u : Unit} → SoundUnit image state → ((unit : SoundUnit image state) → NumbersBy image state unit u)
      → Judges image state (Some u)
  is_sound {u} sound numbers = record {
    sound = holds sound;
    area_sound = holds sound;
    numbers = λ v e unit. let z : u ≡ v = cc in subst (NumbersBy image state unit) z (numbers unit);
  }

  module _ {r : Option Unit} (judged : Judges image state r) where
    pub judged_sound : {u : Unit} → r ≡ Some u → SoundUnit image state
    judged_sound e = (rw e at judged.sound).yes refl

    pub judged_unsound : r ≡ None → SoundUnit image state → ⊥
    judged_unsound e = (rw e at judged.sound).not refl
