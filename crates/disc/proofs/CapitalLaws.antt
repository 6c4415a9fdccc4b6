-- A name that was legal when only capital letters were is legal still.
use mathlib.Core.Bool.{Bool, true, false, ◌&&◌, ◌||◌}
use mathlib.Core.List.{List, [], ◌∷◌}
use Prim.Native.Nat.{ℕ, ◌/◌, ◌%◌}
use lib.Dec.{T, leb, eqb}
use Rattle.disc.specs.Names.{letter, digit, zeros, rest_legal, legal_name}
use Rattle.disc.specs.Capitals.{capital_letter, rest_in_capitals, name_in_capitals}

both : (a b c d : Bool) → (T a → T c) → (T b → T d) → T (a && b) → T (c && d)
both true true true d f g t = g t
both true true false d f g t = absurd (f t)
both true false c d f g t = absurd t
both false b c d f g t = absurd t

either : (a b c d : Bool) → (T a → T c) → (T b → T d) → T (a || b) → T (c || d)
either a b true d f g t = tt
either true b false d f g t = absurd (f t)
either false b false d f g t = g t

is_letter : (c : ℕ) → T (capital_letter c) → T (letter c)
is_letter c t = go (capital_letter c) t
  where
    go : (b : Bool) → T b → T (b || (leb 97 c && leb c 122))
    go true u = u
    go false u = absurd u

rest_legal_lem : (l : List ℕ) → T (rest_in_capitals l) → T (rest_legal l)
rest_legal_lem [] t = t
rest_legal_lem (c ∷ l) t =
    either ((capital_letter c || digit c) && rest_in_capitals l) (eqb c 0 && zeros l) ((letter c || digit c) && rest_legal l) (eqb c 0 && zeros l)
    (both (capital_letter c || digit c) (rest_in_capitals l) (letter c || digit c) (rest_legal l)
    (either (capital_letter c) (digit c) (letter c) (digit c) (is_letter c) (λ u. u)) (rest_legal_lem l))
    (λ u. u) t

pub capitals_legal : (n : ℕ) → T (name_in_capitals n) → T (legal_name n)
capitals_legal n t =
    let rest : List ℕ = (n / 0x100000000 % 256) ∷ (n / 0x1000000 % 256) ∷ (n / 65536 % 256) ∷ (n / 256 % 256) ∷ [] in
    let first : ℕ = n / 0x10000000000 in
    both (capital_letter first && rest_in_capitals rest) (eqb (n % 256) 0) (letter first && rest_legal rest) (eqb (n % 256) 0)
    (both (capital_letter first) (rest_in_capitals rest) (letter first) (rest_legal rest) (is_letter first) (rest_legal_lem rest)) (λ u. u) t
