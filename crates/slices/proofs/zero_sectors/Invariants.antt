use mathlib.Core.Path.{◌≡◌}
use mathlib.Core.List.{List}
use Prim.Native.Nat.{ℕ, ◌+◌, ◌≤◌}
use Rattle.index.specs.Along.{Along}
use Rattle.refine.specs.Writes.{zeroed_sectors}
use Rattle.slices.specs.Zero.{CanZeroFrom}
use Rattle.slices.proofs.zero_sectors.Given as goal

abbrev pub invariant-loop-j : goal.invariant-loop-j
invariant-loop-j l = record {
  zeroed : (F s m : ℕ) (slices : List ℕ) → CanZeroFrom l.fn.image l.block.words l.from l.n F s m slices → l.image ≡ zeroed_sectors l.fn.image F s slices l.from l.j;
  behind : l.at.before ≤ l.from + l.j;
  along : Along l.block.words l.at.pair l.at.before;
}
