-- What a function that answers a question promises.
use Rattle.std.specs.Prelude.{◌≡◌, Bool, true, false}

-- The answer is true exactly if P.
pub record Decides (answer : Bool) (P : Type 0) : Type 0 where
  pub yes : answer ≡ true → P
  pub not : answer ≡ false → P → ⊥
