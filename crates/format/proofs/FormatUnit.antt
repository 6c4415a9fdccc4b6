-- Where Format answers 0, the image and the state that it leaves represent the fresh unit, which is good, and are a sound
-- unit.
use mathlib.Core.Path.{◌≡◌}
use mathlib.Core.List.{List}
use Prim.Native.Nat.{ℕ}
use native.Mathlib.Omega.{arith}
use lib.ListN.{get_or}
use Rattle.types.specs.declared.State.{State}
use Rattle.disc.specs.Words.{Words}
use Rattle.plain.specs.Unit.{Plain}
use Rattle.plain.specs.Good.{Good}
use Rattle.sound.specs.State.{Shaped}
use Rattle.sound.specs.Sound.{SoundUnit}
use Rattle.refine.specs.Represents.{Represents}
use Rattle.refine.specs.Format.{fresh_unit}
use Rattle.refine.proofs.Format.{format_good, format_represents}
use Rattle.refine.proofs.SoundRepresents.{represents_sound}
use Rattle.format.specs.Format.{lent_keys, lent_slice, lent_first, lent_sectors, uninitialized, Formatted, FormatAnswer, not_lent, not_allowed, written}

-- the unit that Format makes, by its record
abbrev pub unit_by : State → List ℕ → Plain
unit_by state lent = fresh_unit state.unit (lent_keys lent) (lent_slice lent) (lent_first lent) (lent_sectors lent)

pub format_unit : {image : List ℕ} {state : State} {bytes : ℕ} {lent after : List ℕ} {r : Formatted} → Words image → Words lent → Shaped state
    → FormatAnswer image state bytes lent after r → r.result ≡ 0 → Good (unit_by state lent) × Represents after r.state (unit_by state lent)
format_unit words lent_words shaped (not_lent short refused) zero = absurd (omega (arith, refused.word))
format_unit words lent_words shaped (not_allowed l other refused) zero = absurd (omega (arith, refused.word))
format_unit {image} {state} {lent = lent} words lent_words shaped (written l f w) zero = (
  format_good (lent_keys lent) (lent_slice lent) (lent_first lent) (lent_sectors lent) f.limits state.unit,
  rw (w.whole, w.left)
      (format_represents image (uninitialized state) (lent_keys lent) (lent_slice lent) (lent_first lent) (lent_sectors lent) (get_or lent 7 0) (get_or lent 8 0)
      f.limits f.size words (lent_words.each 7) (lent_words.each 8) (record { eight = shaped.eight; three = shaped.three }) f.known.ready),
)

pub format_sound : {image : List ℕ} {state : State} {bytes : ℕ} {lent after : List ℕ} {r : Formatted} → Words image → Words lent → Shaped state
    → FormatAnswer image state bytes lent after r → r.result ≡ 0 → SoundUnit after r.state
format_sound words lent_words shaped answer zero = let u = format_unit words lent_words shaped answer zero in represents_sound u.0 u.1

-- whatever Format answers, the state that it leaves has the arrays of the state before it
pub format_shaped : {image : List ℕ} {state : State} {bytes : ℕ} {lent after : List ℕ} {r : Formatted} → Shaped state → FormatAnswer image state bytes lent after r → Shaped r.state
format_shaped shaped (not_lent short refused) = rw refused.kept shaped
format_shaped shaped (not_allowed l other refused) = rw refused.kept shaped
format_shaped shaped (written l f w) = rw w.left (record { eight = shaped.eight; three = shaped.three })
