-- When a name is legal, by the classes of its characters: no class is above the one before it.
use mathlib.Core.Path.{◌≡◌, refl, sym, ap, ◌∙◌}
use mathlib.Core.Bool.{Bool, true, false, ◌&&◌, ◌||◌, cond, or-false}
use mathlib.Core.List.{List, [], ◌∷◌}
use Prim.Native.Nat.{ℕ, ◌/◌, ◌%◌, ◌<◌}
use native.Mathlib.Omega.{arith}
use lib.Dec.{leb, eqb}
use borrow.Author.Tests.{eq-eqb, ne_eqb, le-leb, lt-leb}
use Rattle.disc.specs.Names.{pack, letter, digit, zeros, rest_legal, legal_name}
use Rattle.disc.proofs.Compare.{same_or, below_or}
use Rattle.names.proofs.LegalLaws.{by_characters}
use lib.ListN.{get_or}
use Rattle.names.specs.Classes.{class_of, ClassesOf}

-- ---- the three classes

class_zero : (c : ℕ) → c ≡ 0 → class_of c ≡ 0
unfolding class_of
class_zero c e = rw (eq-eqb c 0 e)

module _ (c : ℕ) (d : c ≡ 0 → ⊥) where
  class_one : letter c || digit c ≡ true → class_of c ≡ 1
  unfolding class_of
  class_one e = rw (ne_eqb c 0 d, e)

  class_two : letter c || digit c ≡ false → class_of c ≡ 2
  unfolding class_of
  class_two e = rw (ne_eqb c 0 d, e)

-- a character is a letter exactly if it is not before 'A' and of class 1
pub letter_class : (c : ℕ) → letter c ≡ (leb 65 c && leb (class_of c) 1)
unfolding class_of
letter_class c = below_or c 65
    (λ h. rw (lt-leb 65 c h, lt-leb 97 c (omega arith)))
    (λ h. rw (ne_eqb c 0 (λ e. absurd (omega arith)), le-leb 65 c h, le-leb 48 c (omega arith), lt-leb c 57 (omega arith)) (go (leb c 90) (leb 97 c && leb c 122)))
  where
    go : (a b : Bool) → (a || b) ≡ leb (cond ((a || b) || false) 1 2) 1
    go true b = refl
    go false true = refl
    go false false = refl

-- the three cases
data Class (c : ℕ) : Type 0 where
  zero : c ≡ 0 → class_of c ≡ 0 → Class c
  one : (c ≡ 0 → ⊥) → letter c || digit c ≡ true → class_of c ≡ 1 → Class c
  two : (c ≡ 0 → ⊥) → letter c || digit c ≡ false → class_of c ≡ 2 → Class c

class : (c : ℕ) → Class c
class c = same_or c 0 (λ e. zero e (class_zero c e)) (λ d. go d (letter c || digit c) refl)
  where
    go : (c ≡ 0 → ⊥) → (b : Bool) → letter c || digit c ≡ b → Class c
    go d true e = one d e (class_one c d e)
    go d false e = two d e (class_two c d e)

-- ---- classes that do not rise, from k on

abbrev run : ℕ → List ℕ → Bool
run k [] = true
run k (c ∷ l) = leb (class_of c) k && run (class_of c) l

run_zeros : (l : List ℕ) → run 0 l ≡ zeros l
run_zeros [] = refl
run_zeros (c ∷ l) = go (class c) (run_zeros l)
  where
    go : Class c → run 0 l ≡ zeros l → leb (class_of c) 0 && run (class_of c) l ≡ eqb c 0 && zeros l
    go (zero e k) ih = rw (k, eq-eqb c 0 e) ih
    go (one d e k) ih = rw (k, ne_eqb c 0 d)
    go (two d e k) ih = rw (k, ne_eqb c 0 d)

run_legal : (l : List ℕ) → run 1 l ≡ rest_legal l
run_legal [] = refl
run_legal (c ∷ l) = go (class c) (run_legal l)
  where
    go : Class c → run 1 l ≡ rest_legal l → leb (class_of c) 1 && run (class_of c) l ≡ ((letter c || digit c) && rest_legal l) || (eqb c 0 && zeros l)
    go (zero e k) ih = rw (k, e) (run_zeros l)
    go (one d e k) ih = rw (k, e, ne_eqb c 0 d) (ih ∙ sym (or-false (rest_legal l)))
    go (two d e k) ih = rw (k, e, ne_eqb c 0 d)

-- ---- the five characters

-- the name's words, by the classes of their characters
module _ (a b c : ℕ) {table : List ℕ} (classes : ClassesOf table) (first : a < 65536) (second : b < 65536) (third : c < 65536) where
  abbrev class_at : ℕ → ℕ
  class_at k = get_or table k 0

  abbrev pub falling : Bool
  falling =
      ((((leb 65 (a / 256) && leb (class_at (a / 256)) 1) && leb (class_at (a % 256)) 1) && leb (class_at (b / 256)) (class_at (a % 256)))
      && leb (class_at (b % 256)) (class_at (b / 256))) && leb (class_at (c / 256)) (class_at (b % 256))

  grouped : (x p q r s : Bool) → (x && (p && (q && (r && (s && true))))) ≡ ((((x && p) && q) && r) && s)
  grouped true true true true true = refl
  grouped true true true true false = refl
  grouped true true true false s = refl
  grouped true true false r s = refl
  grouped true false q r s = refl
  grouped false p q r s = refl

  pub by_classes : legal_name (pack a b c) ≡ falling && eqb (c % 256) 0
  by_classes =
      by_characters a b c second third
      ∙ rw (letter_class (a / 256), sym (run_legal (a % 256 ∷ b / 256 ∷ b % 256 ∷ c / 256 ∷ [])), sym (classes.each (a / 256) (omega arith)), sym (classes.each (a % 256) (omega arith)), sym (classes.each (b / 256) (omega arith)), sym (classes.each (b % 256) (omega arith)), sym (classes.each (c / 256) (omega arith)))
      (ap (λ (t : Bool). t && eqb (c % 256) 0) (grouped (leb 65 (a / 256) && leb (class_at (a / 256)) 1) (leb (class_at (a % 256)) 1) (leb (class_at (b / 256)) (class_at (a % 256))) (leb (class_at (b % 256)) (class_at (b / 256))) (leb (class_at (c / 256)) (class_at (b % 256)))))
