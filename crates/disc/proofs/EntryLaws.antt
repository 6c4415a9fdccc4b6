-- The words of an entry, by number.
use mathlib.Core.Path.{◌≡◌, refl}
use mathlib.Core.List.{List, [], ◌∷◌}
use Prim.Native.Nat.{ℕ, ◌≤◌, ◌<◌}
use native.Mathlib.Omega.{arith}
use native.Mathlib.Nat.{zero-div, zero-mod}
use lib.ListN.{length, get_or, length-append}
use Rattle.disc.specs.Stretches.{sector_in}
use Rattle.disc.specs.Entries.{entry_words, index_sector}

-- a list of three words
pub three_words : (P : List ℕ → Type 0) (l : List ℕ) → length l ≡ 3 → ((x y z : ℕ) → P (x ∷ y ∷ z ∷ [])) → P l
three_words P [] e f = absurd (omega arith)
three_words P (x ∷ []) e f = absurd (omega arith)
three_words P (x ∷ y ∷ []) e f = absurd (omega arith)
three_words P (x ∷ y ∷ z ∷ []) e f = f x y z
three_words P (x ∷ y ∷ z ∷ w ∷ l) e f = absurd (omega arith)

module _ (name : ℕ) (optional : List ℕ) (attributes size index reserved : ℕ) (tail : List ℕ) (three : length optional ≡ 3) where
  abbrev words : List ℕ → List ℕ
  words o = entry_words name o attributes size index reserved tail

  pub entry_attributes_lem : get_or (words optional) 6 0 ≡ attributes
  entry_attributes_lem = three_words (λ o. get_or (words o) 6 0 ≡ attributes) optional three (λ x y z. refl)

  pub entry_size : get_or (words optional) 7 0 ≡ size
  entry_size = three_words (λ o. get_or (words o) 7 0 ≡ size) optional three (λ x y z. refl)

  pub entry_index : get_or (words optional) 8 0 ≡ index
  entry_index = three_words (λ o. get_or (words o) 8 0 ≡ index) optional three (λ x y z. refl)

  pub entry_reserved : get_or (words optional) 9 0 ≡ reserved
  entry_reserved = three_words (λ o. get_or (words o) 9 0 ≡ reserved) optional three (λ x y z. refl)

  pub length_entry : length tail ≡ 6 → length (words optional) ≡ 16
  length_entry six = omega (arith, length-append optional (attributes ∷ size ∷ index ∷ reserved ∷ tail))

-- ---- the index sector of a slice list

pub sector_first : (F s : ℕ) (l : List ℕ) → 0 < length l → sector_in F s l 0 ≡ index_sector F s (length l) l
sector_first F s [] h = absurd (omega arith)
sector_first F s (x ∷ l) h = rw (zero-div s, zero-mod s) (omega arith)

pub index_none : (F s : ℕ) (l : List ℕ) → length l ≤ 0 → index_sector F s (length l) l ≡ 0
index_none F s [] x = refl
index_none F s (y ∷ l) x = absurd (omega arith)

pub index_zero : (F s : ℕ) (l : List ℕ) → 1 ≤ F → index_sector F s (length l) l ≡ 0 → l ≡ []
index_zero F s [] p h = refl
index_zero F s (x ∷ l) p h = absurd (omega arith)

pub no_slices : (l : List ℕ) → length l ≤ 0 → l ≡ []
no_slices [] x = refl
no_slices (y ∷ l) x = absurd (omega arith)
