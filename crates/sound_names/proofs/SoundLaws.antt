-- The names are sound exactly if they are legal, by SYS's own entry, and alone.
use mathlib.Core.Path.{◌≡◌, sym, ap, ap₂, ◌∙◌, subst}
use mathlib.Core.Bool.{Bool, true, false}
use mathlib.Core.List.{List}
use Prim.Native.Nat.{ℕ, ◌*◌}
use lib.ListN.{length}
use Rattle.disc.specs.Decide.{Decides}
use Rattle.disc.specs.Names.{SYS}
use Rattle.disc.specs.Kit.{sys_index_sector}
use Rattle.disc.specs.Entries.{system_entry, sys_entry, place_count}
use Rattle.disc.proofs.DecideLaws.{fails}
use Rattle.kit.specs.declared.Geometry.{Geometry}
use Rattle.sound_entries.specs.declared.Expected.{Expected}
use Rattle.sound_entries.specs.Legal.{own_entry, PlacesLegal}
use Rattle.sound_entries.specs.Sys.{sys_slices, places_in, SysNames}
use Rattle.sound_entries.specs.Names.{NamesLegal, NamesAlone}
use Rattle.sound_entries.proofs.NamesLaws.{sound_legal, names_sound}

module _ (image : List ℕ) (g : Geometry) (L : ℕ) (expected : Expected) (index : expected.catalog.index.0 ≡ sys_index_sector) (size : expected.size ≡ g.keys * L)
    (reserved : expected.reserved ≡ g.slice * length (sys_slices image g)) where
  own : own_entry expected ≡ sys_entry g.keys g.slice L (sys_slices image g)
  unfolding own_entry
  own =
      ap (λ (q : ℕ). system_entry SYS expected.size q expected.reserved) index
      ∙ ap₂ (λ (x y : ℕ). system_entry SYS x sys_index_sector y) size reserved

  -- sound names are legal by the words that SYS's entry must have
  own_legal : SysNames image g L
      → NamesLegal (places_in image g) g.keys (own_entry expected) (place_count g.keys L)
  own_legal n = subst (λ (e : List ℕ). NamesLegal (places_in image g) g.keys e (place_count g.keys L)) (sym own) (sound_legal _ _ _ _ _ n)

  module _ {r : Bool}
      (judged : Decides r (PlacesLegal (places_in image g) g.keys (own_entry expected) (place_count g.keys L) × NamesAlone (places_in image g) (place_count g.keys L))) where
    pub not_sound : r ≡ false → Decides false (SysNames image g L)
    not_sound e = fails (λ n. judged.not e ((own_legal n).places, record { alone = n.alone }))

    pub judged_entered : {s : Bool} → r ≡ true → Decides s (NamesLegal (places_in image g) g.keys (own_entry expected) (place_count g.keys L))
        → Decides s (SysNames image g L)
    judged_entered e d =
        record {
          yes = λ y.
              names_sound _ _ _ _ _ (subst (λ (w : List ℕ). NamesLegal (places_in image g) g.keys w (place_count g.keys L)) own (d.yes y)) (judged.yes e).1;
          not = λ y n. d.not y (own_legal n);
        }
