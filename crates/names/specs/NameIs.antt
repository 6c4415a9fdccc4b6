-- A name of the code, three words, and the one number that they make.
use Rattle.std.specs.Prelude.{◌≡◌, ℕ, ◌<◌}
use Rattle.types.specs.declared.Name.{Name}
use Rattle.disc.specs.Names.{packed}

-- The three words of a name, each a word, make the number n. At most one name does.
pub record NameIs (name : Name) (n : ℕ) : Type 0 where
  pub packed : packed name ≡ n
  pub first : name.0 < 65536
  pub second : name.1 < 65536
  pub third : name.2 < 65536
