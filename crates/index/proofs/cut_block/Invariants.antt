use Prim.Native.Nat.{◌-◌, ◌*◌}
use Rattle.index.specs.Block.{cut_pairs}
use Rattle.index.proofs.WalkLaws.{Filling}
use Rattle.index.proofs.cut_block.Given as goal

abbrev pub invariant-loop-j : goal.invariant-loop-j
invariant-loop-j l = Filling l.j (cut_pairs l.block.words l.count 0 (l.s * l.n)) l.cut.words l.j (cut_pairs l.block.words (l.count - l.j) l.j l.rest)
