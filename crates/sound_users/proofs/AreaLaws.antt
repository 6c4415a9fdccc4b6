-- Names of open descriptors are distinct exactly if each open descriptor is the first of its name.
use Rattle.std.specs.Prelude.{Some}
use mathlib.Core.Path.{◌≡◌}
use Prim.Native.Nat.{ℕ, ◌<◌}
use native.Mathlib.Omega.{arith}
use Rattle.types.specs.declared.State.{State}
use Rattle.types.specs.State.{area_at, past_area, is_open, IsOpen}
use Rattle.sound.specs.State.{Shaped, area_name, DistinctAreas}
use Rattle.sound.specs.Parts.{SoundUsers}
use Rattle.state.specs.Areas.{area_named}
use Rattle.state.proofs.DistinctLaws.{Distinct, distinct_first}
use Rattle.sound_users.specs.Rules.{LegalArea}

module _ (state : State) where
  first_open_lem : Shaped state → DistinctAreas state → (j : ℕ) → j < 8 → IsOpen state j → area_named (area_name (area_at state j)) state ≡ Some j
  first_open_lem sh d j h o = distinct_first is_open area_name past_area state.areas j names (omega (arith, sh.eight)) o
    where
      names : Distinct is_open area_name past_area state.areas
      names = record { only = λ i k hi hk. d i k (omega (arith, sh.eight)) (omega (arith, sh.eight)) }

  -- the rules, for each open descriptor
  pub each_area : Shaped state → SoundUsers state → (j : ℕ) → j < 8 → IsOpen state j → LegalArea state (area_at state j) j
  each_area sh s j h o = record { first = first_open_lem sh s.distinct j h o; users = s.users j h o }

  pub all_areas : ((j : ℕ) → j < 8 → IsOpen state j → LegalArea state (area_at state j) j) → SoundUsers state
  all_areas each = record { distinct = distinct; users = λ j h o. (each j h o).users }
    where
      distinct : DistinctAreas state
      distinct j k hj hk oj ok e = let p = (each j hj oj).first in let q = (each k hk ok).first in cc
