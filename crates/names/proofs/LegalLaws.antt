-- When a name is legal, by its characters: the first is a letter, letters or digits are passed over, and the rest are zeros.
use Rattle.std.proofs.Common.{◌≡◌, ℕ, suc, ◌+◌, ◌/◌, ◌%◌, ◌<◌, List, [], ◌∷◌, Bool, true, false, ◌&&◌, ◌||◌, refl, sym, ap, ◌∙◌, drop, arith}
use Rattle.std.specs.Prelude.{eqb}
use Rattle.std.specs.List.{list_all, prefix_len}
use mathlib.Core.Bool.{or-false}
use borrow.Author.Tests.{ne_eqb}
use Rattle.disc.specs.Names.{letter, digit, zeros, rest_legal, pack, legal_name}
use Rattle.disc.proofs.NameLaws.{pack_char0, pack_char1, pack_char2, pack_char3, pack_char4, pack_char5}

-- the six characters of a name's three words
pub by_characters : (a b c : ℕ) → b < 65536 → c < 65536
    → legal_name (pack a b c) ≡ (letter (a / 256) && rest_legal (a % 256 ∷ b / 256 ∷ b % 256 ∷ c / 256 ∷ [])) && eqb (c % 256) 0
by_characters a b c hb hc =
    rw (pack_char0 a b c hb hc, pack_char1 a b c hb hc, pack_char2 a b c hb hc, pack_char3 a b c hc, pack_char4 a b c hc, pack_char5 a b c)

-- ---- letters or digits, then zeros

all_zeros : (l : List ℕ) → list_all (λ x. eqb x 0) l ≡ zeros l
all_zeros [] = refl
all_zeros (c ∷ l) = ap (λ b. eqb c 0 && b) (all_zeros l)

-- a letter or digit is not 0
not_zero : (c : ℕ) → letter c || digit c ≡ true → eqb c 0 ≡ false
not_zero c e =
    ne_eqb c 0 (λ z. let f : letter 0 || digit 0 ≡ true = rw z at e in let g : ◌≡◌ {A = ℕ} 0 1 = cc in omega arith)

pub passed_over : (l : List ℕ) → list_all (λ x. eqb x 0) (drop (prefix_len (λ x. letter x || digit x) l) l) ≡ rest_legal l
passed_over [] = refl
passed_over (c ∷ l) = go (letter c || digit c) refl (passed_over l)
  where
    go : (b : Bool) → letter c || digit c ≡ b → list_all (λ x. eqb x 0) (drop (prefix_len (λ x. letter x || digit x) l) l) ≡ rest_legal l
        → list_all (λ x. eqb x 0) (drop (prefix_len (λ x. letter x || digit x) (c ∷ l)) (c ∷ l)) ≡ rest_legal (c ∷ l)
    go true e ih =
        let n : 1 + prefix_len (λ x. letter x || digit x) l ≡ suc (prefix_len (λ x. letter x || digit x) l) = omega arith in
        rw (e, not_zero c e, n) (ih ∙ sym (or-false (rest_legal l)))
    go false e ih = rw e (all_zeros (c ∷ l))
