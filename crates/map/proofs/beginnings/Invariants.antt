use Prim.Native.Nat.{◌-◌, ◌≤◌}
use Rattle.map.specs.Stretch.{Beginnings}
use Rattle.map.proofs.beginnings.Given as goal

abbrev pub invariant-loop-have : goal.invariant-loop-have
invariant-loop-have l = (1 ≤ l.have) × (l.have ≤ l.n) × Beginnings l.word l.have l.found

abbrev pub decreases-loop-have : goal.decreases-loop-have
decreases-loop-have l = l.n - l.have
