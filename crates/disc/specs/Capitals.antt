-- The legal names that document 01 has before request R-8 of document 02, for the law that they stay legal: "a legal name in
-- capitals".
use Rattle.std.specs.Prelude.{Bool, true, ◌&&◌, ◌||◌, List, [], ◌∷◌, ℕ, ◌/◌, ◌%◌, leb, eqb}
use Rattle.disc.specs.Names.{digit, zeros}

abbrev pub capital_letter : ℕ → Bool
capital_letter c = leb 65 c && leb c 90

-- "Letters or digits, then zeros", the letters in capitals.
abbrev pub rest_in_capitals : List ℕ → Bool
rest_in_capitals [] = true
rest_in_capitals (c ∷ l) = ((capital_letter c || digit c) && rest_in_capitals l) || (eqb c 0 && zeros l)

-- A legal name in capitals, its sixth character 0.
abbrev pub name_in_capitals : ℕ → Bool
name_in_capitals n =
    capital_letter (n / 0x10000000000)
    && rest_in_capitals ((n / 0x100000000 % 256) ∷ (n / 0x1000000 % 256) ∷ (n / 65536 % 256) ∷ (n / 256 % 256) ∷ [])
    && eqb (n % 256) 0
