-- The sixteen words of an entry, as the code puts them together.
use mathlib.Core.Path.{◌≡◌, refl, sym, ap, ap₂, ◌∙◌}
use mathlib.Core.List.{List, [], ◌∷◌, ◌++◌}
use Prim.Native.Nat.{ℕ, zero, suc, ◌+◌, ◌≤◌, ◌<◌}
use native.Mathlib.Omega.{arith}
use lib.ListN.{length, get_or, take, drop}
use lib.Seq.{drop-cons}
use Rattle.disc.specs.Names.{pack}
use Rattle.disc.specs.Entries.{optional_in, tail_in, entry_from}
use Rattle.disc.proofs.NameLaws.{name_words_pack}

-- the n words of a list from word i on
abbrev part : List ℕ → ℕ → ℕ → List ℕ
part l i zero = []
part l i (suc n) = get_or l i 0 ∷ part l (suc i) n

is_part : (l : List ℕ) (n i : ℕ) → i + n ≤ length l → take n (drop i l) ≡ part l i n
is_part l zero i h = refl
is_part l (suc n) i h = ap (take (suc n)) (drop-cons l i 0 (omega arith)) ∙ ap (λ (r : List ℕ). get_or l i 0 ∷ r) (is_part l n (suc i) (omega arith))

pub entry_told : (l : List ℕ) → 16 ≤ length l → (a b c attributes size index reserved : ℕ) → b < 65536 → c < 65536
    → (a ∷ b ∷ c ∷ []) ++ (part l 3 3 ++ (attributes ∷ size ∷ index ∷ reserved ∷ part l 10 6)) ≡ entry_from (pack a b c) attributes size index reserved l
entry_told l long a b c attributes size index reserved p q =
    sym (ap (λ (n : List ℕ). n ++ (optional_in l ++ (attributes ∷ size ∷ index ∷ reserved ∷ tail_in l))) (name_words_pack a b c p q)
    ∙ ap₂ (λ (o t : List ℕ). (a ∷ b ∷ c ∷ []) ++ (o ++ (attributes ∷ size ∷ index ∷ reserved ∷ t))) (is_part l 3 3 (omega arith)) (is_part l 6 10 (omega arith)))

-- an entry is sixteen words
pub entry_whole : (l : List ℕ) → 16 ≤ length l → (n attributes size index reserved : ℕ)
    → take 16 (entry_from n attributes size index reserved l) ≡ entry_from n attributes size index reserved l
entry_whole l long n attributes size index reserved = rw (is_part l 3 3 (omega arith), is_part l 6 10 (omega arith)) refl
