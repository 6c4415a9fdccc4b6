-- Optional and tail of an entry, and of the first 16 words lent.
use mathlib.Core.Path.{◌≡◌, refl, sym, ap, ◌∙◌}
use mathlib.Core.List.{List, [], ◌∷◌}
use Prim.Native.Nat.{ℕ, zero, suc, ◌+◌}
use native.Mathlib.Omega.{arith}
use lib.ListN.{length, take, drop}
use lib.Seq.{take-take, take_all, take_at}
use Rattle.disc.specs.Entries.{entry_words}

drop-take : (k n total : ℕ) (l : List ℕ) (m : ℕ) → total ≡ k + n → take m (drop k (take total l)) ≡ take m (take n (drop k l))
drop-take zero n total l m e = let z : total ≡ n = omega arith in ap (λ (x : ℕ). take m (take x l)) z
drop-take (suc k) n zero l m e = absurd (omega arith)
drop-take (suc k) n (suc total) [] m e = ap (take m) (sym (take_all n [] (omega arith)))
drop-take (suc k) n (suc total) (x ∷ l) m e = drop-take k n total l m (omega arith)

module _ (lent : List ℕ) where
  pub lent_optional : take 3 (drop 3 (take 16 lent)) ≡ take 3 (drop 3 lent)
  lent_optional = drop-take 3 13 16 lent 3 refl ∙ take-take 3 13 (drop 3 lent) (omega arith)

  pub lent_tail : take 6 (drop 10 (take 16 lent)) ≡ take 6 (drop 10 lent)
  lent_tail = drop-take 10 6 16 lent 6 refl ∙ take-take 6 6 (drop 10 lent) (omega arith)

module _ (n : ℕ) (optional : List ℕ) (attributes size index reserved : ℕ) (tail : List ℕ) (has-three : length optional ≡ 3) (has-six : length tail ≡ 6) where
  abbrev words : List ℕ
  words = entry_words n optional attributes size index reserved tail

  pub entry_optional : take 3 (drop 3 words) ≡ optional
  entry_optional = take_at optional (attributes ∷ size ∷ index ∷ reserved ∷ tail) 3 has-three

  pub entry_tail : take 6 (drop 10 words) ≡ tail
  entry_tail = go optional has-three ∙ take_all 6 tail (omega arith)
    where
      go : (o : List ℕ) → length o ≡ 3 → take 6 (drop 10 (entry_words n o attributes size index reserved tail)) ≡ take 6 tail
      go [] e = absurd (omega arith)
      go (x ∷ []) e = absurd (omega arith)
      go (x ∷ y ∷ []) e = absurd (omega arith)
      go (x ∷ y ∷ z ∷ []) e = refl
      go (x ∷ y ∷ z ∷ u ∷ o) e = absurd (omega arith)
