use mathlib.Core.Path.{◌≡◌}
use Prim.Native.Nat.{◌+◌, ◌-◌, ◌*◌, ◌≤◌}
use Rattle.index.specs.Block.{sectors_from, sector_total}
use Rattle.index.proofs.sector_total_at.Given as goal

abbrev pub invariant-loop-j : goal.invariant-loop-j
invariant-loop-j l = (l.total ≤ l.j * 65535) × (l.total + sectors_from l.image l.q.0 (l.n - l.j) l.j ≡ sector_total l.image l.q.0)
