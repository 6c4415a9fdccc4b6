-- A table with the class of every character, place by place.
use Rattle.std.proofs.Common.{◌≡◌, List, ℕ, zero, suc, ◌<◌, Bool, true, ◌&&◌, sym, ap, refl, replicate, ◌∷◌, ◌++◌, ◌∙◌, get_or, arith}
use Rattle.std.specs.Prelude.{eqb}
use Rattle.std.proofs.lemmas.Bool.{eqb-true, and_parts}
use Rattle.disc.proofs.Compare.{same_or}
use Rattle.names.specs.Classes.{class_of, ClassesOf}

-- the places below n have the classes of their characters
abbrev pub classed : List ℕ → ℕ → Bool
classed table zero = true
classed table (suc n) = eqb (get_or table n 0) (class_of n) && classed table n

at : (table : List ℕ) (n c : ℕ) → classed table n ≡ true → c < n → get_or table c 0 ≡ class_of c
at table zero c e h = absurd (omega arith)
at table (suc n) c e h =
    let both = and_parts (eqb (get_or table n 0) (class_of n)) (classed table n) e in
    same_or c n
    (λ i. ap (λ k. get_or table k 0) i ∙ eqb-true (get_or table n 0) (class_of n) both.0 ∙ ap class_of (sym i))
    (λ d. at table n c both.1 (omega arith))

-- 48 characters of which the first is 0, 10 digits, 7 others, 26 capitals, 6 others, 26 small letters, 133 others
abbrev pub table : List ℕ
table = (0 ∷ replicate 47 2) ++ (replicate 10 1 ++ (replicate 7 2 ++ (replicate 26 1 ++ (replicate 6 2 ++ (replicate 26 1 ++ replicate 133 2)))))

all_classed : classed table 256 ≡ true
unfolding class_of
all_classed = refl

pub table_classes : ClassesOf table
table_classes = record { each = λ c h. at table 256 c all_classed h }
