-- The rules once SYS's layers are known, as they are decided one after the other: names, areas, files, map.
use mathlib.Core.Path.{◌≡◌, sym, ◌∙◌}
use mathlib.Core.Bool.{Bool, true, false}
use mathlib.Core.List.{List}
use Prim.Native.Nat.{ℕ, ◌*◌, ◌<◌}
use native.Mathlib.Omega.{arith}
use lib.Dec.{lit<}
use borrow.Author.Tests.{ne_eqb}
use Rattle.types.specs.declared.State.{State}
use Rattle.disc.specs.Decide.{Decides}
use Rattle.disc.specs.Slices.{InRangeOnce}
use Rattle.disc.specs.Names.{SYS, MAP, is_system}
use Rattle.disc.specs.Entries.{place_count, name_at}
use Rattle.disc.proofs.Compare.{same_or}
use Rattle.disc.proofs.DecideLaws.{true≢false}
use Rattle.sound.specs.Sound.{SoundMap}
use Rattle.sound.specs.Parts.{MarksOf, Marking}
use Rattle.kit.specs.declared.Geometry.{Geometry}
use Rattle.sound_entries.specs.Sys.{sys_slices, places_in, sys_with, SysNames}
use Rattle.sound_entries.proofs.NamesLaws.{sound_legal}
use Rattle.sound_files.specs.Walk.{SysKnown, NamesKnown, SysFiles, sys_held}
use Rattle.soundness.specs.Areas.{AreasEntered}
use Rattle.soundness.specs.Layers.{SoundLayers, unit_slices}

module _ {image : List ℕ} {g : Geometry} {L : ℕ} where
  module _ {before : List ℕ} (known : SysKnown image g before (g.keys * L)) (names : SysNames image g L) where
    abbrev P : ℕ → ℕ → ℕ
    P = places_in image g

    -- "SYS and MAP are entered with .. index 6 and 7"
    system_low : (t : ℕ) → t < place_count g.keys L → is_system (name_at P t) ≡ true → P t 8 < 10
    system_low t h e =
        let words = ((sound_legal image g.keys g.slice g.first.0 (sys_with image g L) names).places.each t h).system in
        same_or (name_at P t) SYS
        (λ y. omega (arith, (words.sys_words y).at 8 (lit< tt)))
        (λ d. same_or (name_at P t) MAP
        (λ y. omega (arith, (words.map_words y).at 8 (lit< tt)))
        (λ f.
        let z : is_system (name_at P t) ≡ false = rw (ne_eqb (name_at P t) SYS d, ne_eqb (name_at P t) MAP f) in
        absurd (true≢false (sym e ∙ z))))

    pub names_known : NamesKnown image g (place_count g.keys L)
    names_known = record { legal = λ t h u. (names.legal t h u).name; system = system_low }

  -- the files and their slices are those of a sound unit, and the map decides
  pub map_decides : {state : State} {r : Bool} {marks : List ℕ}
      → Marking r (SysFiles image state g L) g.slices marks (sys_slices image g) (sys_held image state g L) → r ≡ true
      → {a : Bool} → SysNames image g L → AreasEntered state (places_in image g) (place_count g.keys L)
      → ((all : List ℕ) → MarksOf marks all → InRangeOnce g.slices all → Decides a (SoundMap image g.slices all))
      → Decides a (SoundLayers image state g L)
  map_decides {state} files e names areas agrees =
      let f = files.yes e in
      let d = agrees (unit_slices image state g L) f.2 f.1 in
      record {
        yes = λ y. record { names = names; areas = areas; files = f.0; once = f.1; map = d.yes y };
        not = λ n s. d.not n s.map;
      }
