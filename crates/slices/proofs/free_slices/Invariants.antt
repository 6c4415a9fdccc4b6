use mathlib.Core.Path.{◌≡◌}
use mathlib.Core.List.{List}
use Prim.Native.Nat.{ℕ, ◌*◌, ◌≤◌}
use lib.ListN.{drop}
use Rattle.map.specs.Marks.{all_free}
use Rattle.index.specs.Along.{Along}
use Rattle.slices.specs.Give.{CanFreeFrom}
use Rattle.slices.proofs.free_slices.Given as goal

abbrev pub invariant-loop-j : goal.invariant-loop-j
invariant-loop-j l = record {
  same : (slices : List ℕ) → CanFreeFrom l.fn.image l.block.words l.first.0 l.s l.total slices → all_free l.image (drop l.j slices) ≡ all_free l.fn.image (drop l.keep slices);
  behind : l.at.before ≤ l.s * l.j;
  along : Along l.block.words l.at.pair l.at.before;
}
