-- The characters of a name by class, in the order in which they may come: "a letter, then letters or digits, then zeros".
use Rattle.std.specs.Prelude.{◌≡◌, ◌||◌, cond, List, ℕ, ◌<◌, get_or, eqb}
use Rattle.disc.specs.Names.{letter, digit}

-- 0 for the character 0, 1 for a letter or a digit, 2 for any other.
unfoldable pub class_of : ℕ → ℕ
class_of c = cond (eqb c 0) 0 (cond (letter c || digit c) 1 2)

-- A table with the class of every character.
pub record ClassesOf (table : List ℕ) : Type 0 where
  pub each : (c : ℕ) → c < 256 → get_or table c 0 ≡ class_of c
