use Prim.Native.Nat.{◌+◌, ◌-◌, ◌*◌, ◌≤◌, ◌<◌}
use Rattle.map.specs.Stretch.{Passed}
use Rattle.map.proofs.lowest_stretch.Given as goal

abbrev pub invariant-loop-w : goal.invariant-loop-w
invariant-loop-w l = (l.w ≤ 256) × (16 * l.w < l.start + l.n) × Passed l.image l.n (16 * l.w) l.start

abbrev pub decreases-loop-w : goal.decreases-loop-w
decreases-loop-w l = 256 - l.w
