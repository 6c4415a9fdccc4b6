use mathlib.Core.Path.{◌≡◌}
use Prim.Native.Nat.{◌-◌}
use Rattle.index.specs.Block.{sector_from, joint_sector}
use Rattle.index.proofs.sector_at.Given as goal

abbrev pub invariant-loop-j : goal.invariant-loop-j
invariant-loop-j l = sector_from l.image l.q.0 (l.n - l.j) l.j l.rest ≡ joint_sector l.image l.q.0 l.joined
