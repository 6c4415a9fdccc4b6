-- An index block's words determine its slice list.
use mathlib.Core.Path.{◌≡◌, refl, sym, ap, ap₂, ◌∙◌}
use mathlib.Core.List.{List, [], ◌∷◌}
use Prim.Native.Nat.{ℕ, suc, ◌+◌, ◌*◌, ◌-◌, ◌/◌, ◌≤◌, ◌<◌}
use native.Mathlib.Omega.{arith}
use native.Mathlib.Nat.{mul-div_cancel_left, mul-div_left}
use lib.ListN.{length, get_or}
use lib.Seq.{ext_get_or}
use Rattle.disc.specs.Words.{Holds}
use Rattle.disc.specs.Stretches.{Stretch, join_by, join, stretches, stretch_count, pairs, index_words, expand}
use Rattle.disc.proofs.Compare.{compare_cases}
use Rattle.disc.proofs.StretchLaws.{expand_stretches}

pub length_pairs : (F s : ℕ) (rs : List Stretch) → length (pairs F s rs) ≡ 2 * length rs
length_pairs F s [] = refl
length_pairs F s (r ∷ rs) = omega (arith, length_pairs F s rs)

pub length_index : (F s : ℕ) (l : List ℕ) → length (index_words F s l) ≡ 1 + 2 * stretch_count l
length_index F s l = omega (arith, length_pairs F s (stretches l))

-- every stretch begins at a slice above 0
pub data Firsts : List Stretch → Type 0 where
  end : Firsts []
  next : {r : Stretch} {rs : List Stretch} → 1 ≤ r.first → Firsts rs → Firsts (r ∷ rs)

pub firsts : (l : List ℕ) → ((j : ℕ) → j < length l → 1 ≤ get_or l j 0) → Firsts (stretches l)
firsts [] h = end
firsts (x ∷ l) h = go (stretches l) (firsts l (λ j y. h (suc j) (omega arith)))
  where
    go : (rs : List Stretch) → Firsts rs → Firsts (join x rs)
    go rs end = next (h 0 (omega arith)) end
    go rs (next {r = r} {rs = t} a b) =
        let first = h 0 (omega arith) in
        compare_cases (suc x) r.first (λ o. Firsts (join_by o x r t)) (λ _. next first (next a b)) (λ _. next first b) (λ _. next first (next a b))

abbrev from_pairs : ℕ → ℕ → List ℕ → List Stretch
from_pairs F s [] = []
from_pairs F s (n ∷ []) = []
from_pairs F s (n ∷ a ∷ l) = record { first = (a - F) / s + 1; count = n / s } ∷ from_pairs F s l

pairs_back : (F s : ℕ) (rs : List Stretch) → 0 < s → Firsts rs → from_pairs F s (pairs F s rs) ≡ rs
pairs_back F s rs pos end = refl
pairs_back F s rs pos (next {r = r} {rs = t} h k) =
    let x : s * r.count / s ≡ r.count = mul-div_cancel_left r.count pos in
    let d : F + (r.first - 1) * s - F ≡ (r.first - 1) * s = omega arith in
    let y : (F + (r.first - 1) * s - F) / s ≡ r.first - 1 = ap (λ (q : ℕ). q / s) d ∙ mul-div_left (r.first - 1) pos in
    let z : (F + (r.first - 1) * s - F) / s + 1 ≡ r.first = omega arith in
    let row : record { first = (F + (r.first - 1) * s - F) / s + 1; count = s * r.count / s } ≡ r = λ i. record { first = z i; count = x i } in
    ap₂ (λ (a : Stretch) (l : List Stretch). a ∷ l) row (pairs_back F s t pos k)

index_inj : (F s : ℕ) (l k : List ℕ) → 0 < s → ((j : ℕ) → j < length l → 1 ≤ get_or l j 0) → ((j : ℕ) → j < length k → 1 ≤ get_or k j 0)
    → index_words F s l ≡ index_words F s k → l ≡ k
index_inj F s l k pos a b e =
    let q : pairs F s (stretches l) ≡ pairs F s (stretches k) = cc in
    let u : stretches l ≡ stretches k = sym (pairs_back F s (stretches l) pos (firsts l a)) ∙ ap (from_pairs F s) q ∙ pairs_back F s (stretches k) pos (firsts k b) in
    sym (expand_stretches l) ∙ ap expand u ∙ expand_stretches k

-- one sector with the index words of two lists: one list
pub index_unique : {image : List ℕ} {q : ℕ} (F s : ℕ) (l k : List ℕ) → 0 < s → ((j : ℕ) → j < length l → 1 ≤ get_or l j 0) → ((j : ℕ) → j < length k → 1 ≤ get_or k j 0)
    → stretch_count l ≤ 127 → stretch_count k ≤ 127 → Holds image q (index_words F s l) → Holds image q (index_words F s k) → l ≡ k
index_unique F s l k pos above above' a b x y = index_inj F s l k pos above above' words
  where
    count : stretch_count l ≡ stretch_count k
    count = sym (x.at 0 (omega arith) (omega arith)) ∙ y.at 0 (omega arith) (omega arith)

    words : index_words F s l ≡ index_words F s k
    words =
        let n : length (index_words F s l) ≡ length (index_words F s k) = length_index F s l ∙ ap (λ (z : ℕ). 1 + 2 * z) count ∙ sym (length_index F s k) in
        ext_get_or 0 (index_words F s l) (index_words F s k) n (λ j z.
        let w : j < 256 = omega (arith, length_index F s l) in
        sym (x.at j z w) ∙ y.at j (omega arith) w)
