-- The first n slices of a list: their stretches are the first ones, the last of them cut.
use mathlib.Core.Path.{◌≡◌, refl, sym, ap, ap₂, ◌∙◌}
use mathlib.Core.List.{List, [], ◌∷◌, ◌++◌, append-nil}
use Prim.Native.Nat.{ℕ, zero, suc, ◌+◌, ◌-◌, ◌≤◌, ◌<◌, min}
use native.Mathlib.Nat.{min-eq_left, min-eq_right}
use native.Mathlib.Omega.{arith}
use lib.ListN.{length, take, length-append}
use lib.Seq.{take-nil, take-append-le, take-append-add}
use Rattle.disc.specs.Stretches.{Stretch, stretches, stretch_count, span, expand}
use Rattle.disc.proofs.Compare.{below_or}
use Rattle.disc.proofs.StretchLaws.{expand_stretches}
use Rattle.disc.proofs.Longest.{Longest, end, last, next, longest_stretches, stretches_expand}

-- the stretches of the first n slices
abbrev pub cut_stretches : ℕ → List Stretch → List Stretch
cut_stretches n [] = []
cut_stretches zero (r ∷ rs) = []
cut_stretches (suc n) (r ∷ rs) = record { first = r.first; count = min r.count (suc n) } ∷ cut_stretches (suc n - r.count) rs

cut_none : (rs : List Stretch) → cut_stretches 0 rs ≡ []
cut_none [] = refl
cut_none (r ∷ rs) = refl

pub length_span : (x n : ℕ) → length (span x n) ≡ n
length_span x zero = refl
length_span x (suc n) = ap suc (length_span (suc x) n)

pub length_expand : (r : Stretch) (rs : List Stretch) → length (expand (r ∷ rs)) ≡ r.count + length (expand rs)
length_expand r rs =
    length-append (span r.first r.count) (expand rs) ∙ ap (λ (k : ℕ). k + length (expand rs)) (length_span r.first r.count)

take_span : (n x c : ℕ) → n ≤ c → take n (span x c) ≡ span x n
take_span zero x c h = refl
take_span (suc n) x zero h = absurd (omega arith)
take_span (suc n) x (suc c) h = ap (λ (l : List ℕ). x ∷ l) (take_span n (suc x) c (omega arith))

expand_cut : (n : ℕ) (rs : List Stretch) → expand (cut_stretches n rs) ≡ take n (expand rs)
expand_cut n [] = sym (take-nil n)
expand_cut zero (r ∷ rs) = refl
expand_cut (suc n) (r ∷ rs) = below_or (suc n) r.count
    (λ (x : suc n < r.count).
    let m : min r.count (suc n) ≡ suc n = min-eq_right (omega arith) in
    let z : suc n - r.count ≡ 0 = omega arith in
    ap₂ (λ (c k : ℕ). span r.first c ++ expand (cut_stretches k rs)) m z
    ∙ ap (λ (t : List Stretch). span r.first (suc n) ++ expand t) (cut_none rs)
    ∙ append-nil (span r.first (suc n))
    ∙ sym (take_span (suc n) r.first r.count (omega arith))
    ∙ sym (take-append-le (suc n) (span r.first r.count) (expand rs) (omega (arith, length_span r.first r.count))))
    (λ (x : r.count ≤ suc n).
    let m : min r.count (suc n) ≡ r.count = min-eq_left x in
    let k : length (span r.first r.count) + (suc n - r.count) ≡ suc n = omega (arith, length_span r.first r.count) in
    ap₂ (λ (c : ℕ) (l : List ℕ). span r.first c ++ l) m (expand_cut (suc n - r.count) rs)
    ∙ sym (take-append-add (span r.first r.count) (expand rs) (suc n - r.count))
    ∙ ap (λ (i : ℕ). take i (span r.first r.count ++ expand rs)) k)

longest_cut : (n : ℕ) {rs : List Stretch} → Longest rs → Longest (cut_stretches n rs)
longest_cut n end = end
longest_cut zero (last h) = end
longest_cut (suc n) (last {r = r} h) = last {r = record { first = r.first; count = min r.count (suc n) }} (omega arith)
longest_cut zero (next h d k) = end
longest_cut (suc n) (next {r = r} {t = t} {rs = rs} h d k) = go (suc n - r.count) refl (λ i. longest_cut i k)
  where
    go : (i : ℕ) → suc n - r.count ≡ i → ((i : ℕ) → Longest (cut_stretches i (t ∷ rs)))
        → Longest (record { first = r.first; count = min r.count (suc n) } ∷ cut_stretches i (t ∷ rs))
    go zero e ih = last {r = record { first = r.first; count = min r.count (suc n) }} (omega arith)
    go (suc i) e ih =
        next {r = record { first = r.first; count = min r.count (suc n) }} {t = record { first = t.first; count = min t.count (suc i) }}
        (omega arith) (λ x. d (omega arith)) (ih (suc i))

pub stretches-take : (n : ℕ) (l : List ℕ) → stretches (take n l) ≡ cut_stretches n (stretches l)
stretches-take n l =
    ap stretches (ap (take n) (sym (expand_stretches l)) ∙ sym (expand_cut n (stretches l)))
    ∙ stretches_expand (longest_cut n (longest_stretches l))

length_cut : (n : ℕ) (rs : List Stretch) → length (cut_stretches n rs) ≤ length rs
length_cut n [] = omega arith
length_cut zero (r ∷ rs) = omega arith
length_cut (suc n) (r ∷ rs) = omega (arith, length_cut (suc n - r.count) rs)

pub count-take : (n : ℕ) (l : List ℕ) → stretch_count (take n l) ≤ stretch_count l
count-take n l = omega (arith, ap length (stretches-take n l), length_cut n (stretches l))
