-- SYS as it is known when its places are judged, and that the places of a turn of the walk stand one after the other in the image.
use mathlib.Core.Path.{◌≡◌, ap, ◌∙◌}
use mathlib.Core.List.{List}
use Prim.Native.Nat.{ℕ, ◌+◌, ◌*◌, ◌/◌, ◌%◌, ◌<◌}
use native.Mathlib.Omega.{arith}
use lib.ListN.{get_or}
use Rattle.disc.specs.Stretches.{sector_in}
use Rattle.kit.specs.declared.Geometry.{Geometry}
use Rattle.marks.specs.Marked.{SomeMarked}
use Rattle.sound_entries.specs.Sys.{sys_slices, places_in, SysOf}
use Rattle.sound_entries.proofs.SysLaws.{Turn}
use Rattle.sound_files.specs.Walk.{places_from, SysKnown}

module _ {image : List ℕ} {g : Geometry} {marks : List ℕ} {size : ℕ} (known : SysKnown image g marks size) where
  pub known_sys : SysOf image g
  known_sys = record { unit = known.unit; index = known.index; once = known.marked.once }

  pub some_sys : SomeMarked g.slices marks
  some_sys = record { slices = sys_slices image g; marked = known.marked }

-- the places of a turn stand one after the other
pub turn_places : {image : List ℕ} {g : Geometry} {size j b n start : ℕ} → Turn image g size j b n start
    → (i : ℕ) → i < 16 * n → places_from image (start * 256) i ≡ places_in image g (16 * b + i)
turn_places {image} {g} {size} {j} {b} {n} {start} t i h = λ k w. each w k
  where
    sector : sector_in g.first.0 g.slice (sys_slices image g) ((16 * b + i) / 16 + 0) ≡ start + i / 16
    sector =
        let e : (16 * b + i) / 16 + 0 ≡ b + i / 16 = omega arith in
        ap (sector_in g.first.0 g.slice (sys_slices image g)) e ∙ t.walk (i / 16) (omega arith)

    each : (w : ℕ) → places_from image (start * 256) i w ≡ places_in image g (16 * b + i) w
    each w =
        let e : start * 256 + 16 * i + w ≡ sector_in g.first.0 g.slice (sys_slices image g) ((16 * b + i) / 16 + 0) * 256 + ((16 * b + i) % 16 * 16 + w) = omega (arith, sector) in
        ap (λ (n : ℕ). get_or image n 0) e
