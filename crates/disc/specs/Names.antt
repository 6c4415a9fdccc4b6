-- Names: "five characters, high half first, sixth stored 0: a letter, then letters or digits, then zeros".
-- A name is three words in an image or a message, and here the one number that the three words make.
use Rattle.std.specs.Prelude.{Bool, true, ◌&&◌, ◌||◌, List, [], ◌∷◌, ℕ, ◌+◌, ◌*◌, ◌/◌, ◌%◌, leb, eqb}
use Rattle.types.specs.declared.Name.{Name}

-- Three words as one number, the first word highest.
abbrev pub pack : ℕ → ℕ → ℕ → ℕ
pack a b c = (a * 65536 + b) * 65536 + c

-- The three words of a name as one number, as they stand.
abbrev pub packed : Name → ℕ
packed name = pack name.0 name.1 name.2

-- The three words of a name.
abbrev pub name_words : ℕ → List ℕ
name_words n = (n / 0x100000000) ∷ (n / 65536 % 65536) ∷ (n % 65536) ∷ []

-- "Small letters are legal" (document 02, R-8) beside the capital ones.
abbrev pub letter : ℕ → Bool
letter c = (leb 65 c && leb c 90) || (leb 97 c && leb c 122)

abbrev pub digit : ℕ → Bool
digit c = leb 48 c && leb c 57

abbrev pub zeros : List ℕ → Bool
zeros [] = true
zeros (c ∷ l) = eqb c 0 && zeros l

-- "Letters or digits, then zeros".
abbrev pub rest_legal : List ℕ → Bool
rest_legal [] = true
rest_legal (c ∷ l) = ((letter c || digit c) && rest_legal l) || (eqb c 0 && zeros l)

-- A legal name, its sixth character 0.
abbrev pub legal_name : ℕ → Bool
legal_name n =
    letter (n / 0x10000000000)
    && rest_legal ((n / 0x100000000 % 256) ∷ (n / 0x1000000 % 256) ∷ (n / 65536 % 256) ∷ (n / 256 % 256) ∷ [])
    && eqb (n % 256) 0

-- The name that three words mean: five characters "as given" (document 02, R-8), the sixth ignored (the unit number, or
-- nothing). "Names are equal only when all five characters are."
abbrev pub name_of : ℕ → ℕ → ℕ → ℕ
name_of a b c = pack a b (c / 256 * 256)

-- The name and the unit number of a message's name: "in a message's name the sixth is the unit number".
abbrev pub named : Name → ℕ
named m = name_of m.0 m.1 m.2

abbrev pub unit_in : Name → ℕ
unit_in m = m.2 % 256

-- 'SYS' and 'MAP'.
abbrev pub SYS : ℕ
SYS = pack 0x5359 0x5300 0

abbrev pub MAP : ℕ
MAP = pack 0x4D41 0x5000 0

abbrev pub is_system : ℕ → Bool
is_system n = eqb n SYS || eqb n MAP

-- "The key of a name is the sum of its three words, carry out of 16 bits dropped, modulo H."
abbrev pub key_of : ℕ → ℕ → ℕ
key_of H n = (n / 0x100000000 + n / 65536 % 65536 + n % 65536) % 65536 % H
