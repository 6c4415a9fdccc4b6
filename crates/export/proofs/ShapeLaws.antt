-- A mirror that the code holds has the arrays that its types declare.
use mathlib.Core.Path.{◌≡◌}
use mathlib.Core.List.{List, [], ◌∷◌}
use Prim.Native.Nat.{ℕ, zero, suc, ◌<◌}
use native.Mathlib.Omega.{arith}
use lib.ListN.{length, get_or}
use mir.Val.{Val}
use denote.Shadow.{shadow}
use denote.Array.{each}
use denote.Laws.{Is}
use denote.Struct.Laws as LL
use Rattle.export.specs.declared.AreaState.{AreaState}
use Rattle.export.specs.declared.UnitState.{UnitState}
use Rattle.export.specs.Mirror.{mirror_area, Arrays}
use Rattle.export.specs.contracts.AreaState as A
use Rattle.export.proofs.AreaState.TheLaws as A'
use Rattle.export.specs.contracts.UnitState as T
use Rattle.export.proofs.UnitState.TheLaws as T'

abbrev Threes : AreaState → Type 0
Threes a = (length a.name ≡ 3) × (length a.users ≡ 3)

threes : (area : AreaState) (vs : List Val) → Is A.the_row area vs → Threes area
threes area vs g = let owed = LL.owed A.the_type A'.the_laws area vs g in (owed.1.0.1.0.1, owed.1.1.1.1.0.1.0.1)

-- what owning an array of descriptors tells of each
each_threes : (l : List AreaState) (us : List Val)
    → shadow (each A.the_row.Denot A.the_row.own_val l us)
    → (j : ℕ) → j < length l → Threes (get_or l j (record { live = 0; name = []; index = 0; length = 0; users = [] }))
each_threes [] us s j h = absurd (omega arith)
each_threes (a ∷ l) [] s j h = absurd s
each_threes (a ∷ l) (u ∷ us) s zero h = threes a (u ∷ []) s.0
each_threes (a ∷ l) (u ∷ us) s (suc j) h = each_threes l us s.1 j (omega arith)

pub arrays : (m : UnitState) (vs : List Val) → Is T.the_row m vs → Arrays m
arrays m vs g = record { eight = eight; name = λ j h. (all j h).0; users = λ j h. (all j h).1 }
  where
    eight : length m.areas ≡ 8
    eight = (LL.owed T.the_type T'.the_laws m vs g).1.1.0.1.0.1

    all : (j : ℕ) → j < 8 → Threes (mirror_area m j)
    all j h = each_threes m.areas _ (LL.owed T.the_type T'.the_laws m vs g).1.1.0.1.1 j (omega (arith, eight))
