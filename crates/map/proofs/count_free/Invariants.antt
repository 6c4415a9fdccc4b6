use mathlib.Core.Path.{◌≡◌}
use Prim.Native.Nat.{◌-◌, ◌*◌, ◌≤◌}
use Rattle.disc.specs.Map.{ones_below}
use Rattle.map.proofs.count_free.Given as goal

abbrev pub invariant-loop-w : goal.invariant-loop-w
invariant-loop-w l = (l.free ≡ ones_below l.image l.w) × (l.free ≤ 16 * l.w)

abbrev pub decreases-loop-w : goal.decreases-loop-w
decreases-loop-w l = 256 - l.w
