-- Every state that the code holds has eight descriptors with three user entries each.
use mathlib.Core.Path.{◌≡◌}
use mathlib.Core.List.{List, [], ◌∷◌}
use Prim.Native.Nat.{ℕ, zero, suc, ◌<◌}
use native.Mathlib.Omega.{arith}
use lib.ListN.{length, get_or}
use mir.Val.{Val}
use denote.Shadow.{shadow}
use denote.Array.{each}
use denote.Laws.{Is}
use denote.Struct.Laws as LL
use Rattle.types.specs.declared.Area.{Area}
use Rattle.types.specs.declared.State.{State}
use Rattle.types.specs.State.{past_area}
use Rattle.types.specs.contracts.Area as A
use Rattle.types.specs.contracts.State as S
use Rattle.types.proofs.State.TheLaws as S'
use Rattle.sound.specs.State.{Shaped}
use Rattle.state.proofs.ShapeLaws.{areas-length, users-length}

-- what owning an array of descriptors tells of each
each_three : (l : List Area) (us : List Val)
    → shadow (each A.the_row.Denot A.the_row.own_val l us)
    → (j : ℕ) → j < length l → length (get_or l j past_area).users ≡ 3
each_three [] us s j h = absurd (omega arith)
each_three (a ∷ l) [] s j h = absurd s
each_three (a ∷ l) (u ∷ us) s zero h = users-length a (u ∷ []) s.0
each_three (a ∷ l) (u ∷ us) s (suc j) h = each_three l us s.1 j (omega arith)

pub shaped : (state : State) (vs : List Val) → Is S.the_row state vs → Shaped state
shaped state vs g = record { eight = eight; three = λ j h. each_three state.areas _ (LL.owed S.the_type S'.the_laws state vs g).1.1.0.1.1 j (omega (arith, eight)) }
  where
    eight : length state.areas ≡ 8
    eight = areas-length state vs g
