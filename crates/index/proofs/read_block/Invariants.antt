use Prim.Native.Nat.{◌-◌}
use Rattle.index.specs.Block.{pairs_from}
use Rattle.index.proofs.WalkLaws.{Filling}
use Rattle.index.proofs.read_block.Given as goal

abbrev pub invariant-loop-j : goal.invariant-loop-j
invariant-loop-j l = Filling l.n (pairs_from l.image l.q.0 l.n 0) l.block.words l.j (pairs_from l.image l.q.0 (l.n - l.j) l.j)
