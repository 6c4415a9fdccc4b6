use mathlib.Core.List.{List}
use Prim.Native.Nat.{ℕ, ◌-◌}
use Rattle.slices.specs.Take.{CanTakeFrom}
use Rattle.slices.proofs.TakeLaws.{Left}
use Rattle.slices.proofs.take_slices.Given as goal

abbrev pub invariant-loop : goal.invariant-loop
invariant-loop l =
    (held own : List ℕ) → CanTakeFrom l.fn.image l.fn.words l.unit.first.0 l.unit.slice l.unit.slices l.n held own
    → Left l.fn.image l.image l.words l.unit.first.0 l.unit.slice l.unit.slices l.n (l.n - l.counter) held own
