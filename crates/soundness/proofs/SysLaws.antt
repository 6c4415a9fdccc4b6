-- What the marking of SYS's index block tells: its slices stand once, and the first of them is slice 1 exactly if it begins
-- where the data begin.
use mathlib.Core.Path.{◌≡◌, refl, ap, ◌∙◌}
use mathlib.Core.List.{List, [], ◌∷◌}
use Prim.Native.Nat.{ℕ, ◌-◌, ◌≤◌}
use native.Mathlib.Omega.{arith}
use native.Mathlib.Nat.{mul-le-mul_right}
use Rattle.std.specs.Prelude.{Option, Some, None}
use Rattle.disc.specs.Numbers.{slice_start}
use Rattle.disc.specs.Words.{word, Holds}
use Rattle.disc.specs.Slices.{InRangeOnce, first_of}
use Rattle.disc.specs.Stretches.{index_words}
use Rattle.disc.specs.Kit.{sys_index_sector}
use Rattle.disc.proofs.Compare.{same_or}
use Rattle.disc.proofs.SliceLaws.{in_unit_out, occurrences_self}
use Rattle.sound.specs.Places.{IndexBlock}
use Rattle.sound.specs.Parts.{MarksOf}
use Rattle.kit.specs.declared.Geometry.{Geometry}
use Rattle.kit.specs.Geometry.{UnitOf}
use Rattle.marks.specs.declared.Indexed.{Indexed}
use Rattle.marks.specs.Marked.{Marked}
use Rattle.marks.specs.Indexed.{PairsMarking, IndexMarking}
use Rattle.sound_entries.specs.Sys.{sys_slices, SysOf}
use Rattle.sound_entries.specs.Names.{LayersOf}
use Rattle.soundness.specs.Layers.{SysMarking}

-- an index block describes some slice, and the first one is a slice of the unit
first_some : {image : List ℕ} {q : ℕ} (F s m : ℕ) (l : List ℕ) → Holds image q (index_words F s l) → 1 ≤ word image q 0 → InRangeOnce m l → 1 ≤ first_of l
first_some F s m [] holds some once = absurd (omega (arith, holds.at 0 (omega arith) (omega arith)))
first_some F s m (x ∷ l) holds some once = (in_unit_out m x (omega (arith, once x, occurrences_self x l))).0

-- the slice that begins at the first data sector is slice 1
starts_first : (F s k : ℕ) → 1 ≤ s → 1 ≤ k → slice_start F s k ≡ F → k ≡ 1
starts_first F s k pos some e = same_or k 1 (λ one. one) (λ d. let l : 1 ≤ k - 1 = omega arith in absurd (omega (arith, mul-le-mul_right s l)))

module _ {image : List ℕ} {g : Geometry} {before after : List ℕ} (unit : UnitOf image g) (none : Marked g.slices before []) where
  pub sys_refused_lem : {marks : List ℕ} → IndexMarking image g sys_index_sector before after None → SysMarking image g marks None
  sys_refused_lem marked = record {
    known = tt;
    only = λ L sound names. absurd ((marked.pairs.marking [] none.is none.once).not refl sound.index sound.once);
  }

  module _ {sys : Indexed} (marked : PairsMarking image g sys_index_sector before after (Some sys)) where
    read : IndexBlock image g.first.0 g.slice sys_index_sector × InRangeOnce g.slices (sys_slices image g) × MarksOf after (sys_slices image g)
    read = (marked.marking [] none.is none.once).yes refl

    pub sys_of_lem : SysOf image g
    sys_of_lem = record { unit = unit; index = read.0; once = read.1 }

    first_one : sys.start.0 ≡ g.first.0 → first_of (sys_slices image g) ≡ 1
    first_one e =
        starts_first g.first.0 g.slice (first_of (sys_slices image g)) (omega (arith, unit.limits.slice_low))
        (first_some g.first.0 g.slice g.slices (sys_slices image g) read.0.pairs read.0.some read.1)
        (omega (arith, e, marked.start))

    one_first : first_of (sys_slices image g) ≡ 1 → sys.start.0 ≡ g.first.0
    one_first e =
        let f : slice_start g.first.0 g.slice 1 ≡ g.first.0 = omega arith in
        marked.start ∙ ap (slice_start g.first.0 g.slice) e ∙ f

    -- SYS begins elsewhere
    pub sys_elsewhere : {marks : List ℕ} → (sys.start.0 ≡ g.first.0 → ⊥) → SysMarking image g marks None
    sys_elsewhere d = record {
      known = tt;
      only = λ L sound names. absurd (d (one_first sound.first));
    }

    pub sys_layers_lem : (r : Option ℕ) → sys.start.0 ≡ g.first.0 → LayersOf image g r → SysMarking image g after r
    sys_layers_lem None e layers = record { known = tt; only = λ L sound names. layers.only L sound.some sound.count names }
    sys_layers_lem (Some L) e layers = record {
      known = (
        record { some = layers.fits.0; index = read.0; once = read.1; first = first_one e; count = layers.fits.1 },
        record { is = read.2; once = read.1 },
      );
      only = λ L sound names. layers.only L sound.some sound.count names;
    }
