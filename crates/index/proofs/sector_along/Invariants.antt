use Prim.Native.Nat.{◌-◌, ◌≤◌}
use Rattle.index.specs.Along.{Along}
use Rattle.index.proofs.sector_along.Given as goal

abbrev pub invariant-loop-j : goal.invariant-loop-j
invariant-loop-j l = (l.rest ≤ l.joined) × Along l.words l.j (l.joined - l.rest)
