use Rattle.std.proofs.Common.{◌≡◌, Bool, ℕ, ◌<◌}
use Rattle.catalog.proofs.WalkLaws.{SlotsLeft}
use Rattle.catalog.proofs.first_slot.Given as goal

abbrev pub invariant-loop-i : goal.invariant-loop-i
invariant-loop-i g l = (t : ℕ → Bool) → ((i : ℕ) (b : Bool) → i < 16 → goal.F-post g l.test i b → b ≡ t i) → SlotsLeft t l.i
