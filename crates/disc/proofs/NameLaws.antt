-- Laws of names: three words come back from the number that they make, whole and by their characters; a legal name begins with a
-- letter.
use mathlib.Core.Path.{◌≡◌, ap}
use mathlib.Core.Bool.{Bool, true, false, ◌&&◌}
use mathlib.Core.List.{[], ◌∷◌}
use Prim.Native.Nat.{ℕ, ◌+◌, ◌/◌, ◌%◌, ◌≤◌, ◌<◌}
use native.Mathlib.Omega.{arith}
use lib.Dec.{T}
use borrow.Author.Tests.{le-leb, lt-leb}
use Rattle.disc.specs.Names.{pack, name_words, letter, legal_name, key_of}
use Rattle.disc.proofs.Compare.{below_or}

-- the three words
pub pack_first : (a b c : ℕ) → b < 65536 → c < 65536 → pack a b c / 0x100000000 ≡ a
pack_first a b c p q = omega arith

pub pack_second : (a b c : ℕ) → b < 65536 → c < 65536 → pack a b c / 65536 % 65536 ≡ b
pack_second a b c p q = omega arith

pub pack_third : (a b c : ℕ) → c < 65536 → pack a b c % 65536 ≡ c
pack_third a b c q = omega arith

pub name_words_pack : (a b c : ℕ) → b < 65536 → c < 65536 → name_words (pack a b c) ≡ a ∷ b ∷ c ∷ []
name_words_pack a b c p q = rw (pack_first a b c p q, pack_second a b c p q, pack_third a b c q)

-- every number is the pack of its three words
pub pack_words : (n : ℕ) → pack (n / 0x100000000) (n / 65536 % 65536) (n % 65536) ≡ n
pack_words n = omega arith

pub pack_injective : (a b c d e f : ℕ) → b < 65536 → c < 65536 → e < 65536 → f < 65536 → pack a b c ≡ pack d e f → (a ≡ d) × (b ≡ e) × (c ≡ f)
pack_injective a b c d e f p q r s g = omega arith

-- the key is that of the words' sum
pub key_pack : (a b c H : ℕ) → b < 65536 → c < 65536 → key_of H (pack a b c) ≡ (a + b + c) % 65536 % H
key_pack a b c H p q = ap (λ (n : ℕ). n % 65536 % H) (omega arith)

-- ---- letters

pub letter_range : (c : ℕ) → T (letter c) → (65 ≤ c) × (c ≤ 122)
letter_range c t =
    below_or c 65
    (λ h. absurd (rw (lt-leb 65 c h, lt-leb 97 c (omega arith)) at t))
    (λ h. below_or 122 c
    (λ k. absurd (rw (le-leb 65 c h, le-leb 97 c (omega arith), lt-leb c 90 (omega arith), lt-leb c 122 k) at t))
    (λ k. (h, k)))

-- a legal name begins with a letter
pub legal_begins : (n : ℕ) → T (legal_name n) → (65 ≤ n / 0x10000000000) × (n / 0x10000000000 ≤ 122)
legal_begins n t = letter_range (n / 0x10000000000) (first (letter (n / 0x10000000000)) _ _ t)
  where
    first : (a b c : Bool) → T (a && b && c) → T a
    first true b c u = tt
    first false b c u = u

-- ---- the six characters

pub pack_char0 : (a b c : ℕ) → b < 65536 → c < 65536 → pack a b c / 0x10000000000 ≡ a / 256
pack_char0 a b c p q = omega arith

pub pack_char1 : (a b c : ℕ) → b < 65536 → c < 65536 → pack a b c / 0x100000000 % 256 ≡ a % 256
pack_char1 a b c p q = omega arith

pub pack_char2 : (a b c : ℕ) → b < 65536 → c < 65536 → pack a b c / 0x1000000 % 256 ≡ b / 256
pack_char2 a b c p q = omega arith

pub pack_char3 : (a b c : ℕ) → c < 65536 → pack a b c / 65536 % 256 ≡ b % 256
pack_char3 a b c q = omega arith

pub pack_char4 : (a b c : ℕ) → c < 65536 → pack a b c / 256 % 256 ≡ c / 256
pack_char4 a b c q = omega arith

pub pack_char5 : (a b c : ℕ) → pack a b c % 256 ≡ c % 256
pack_char5 a b c = omega arith
