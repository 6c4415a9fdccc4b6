-- Longest stretches: those of a slice list are longest, and longest stretches are those of the slices that they spell out.
use mathlib.Core.Path.{◌≡◌, refl, sym, ap, ◌∙◌}
use mathlib.Core.List.{List, [], ◌∷◌, ◌++◌}
use mathlib.Core.Logic.{◌≢◌}
use Prim.Native.Nat.{ℕ, zero, suc, ◌+◌, ◌≤◌, Ordering}
use native.Mathlib.Omega.{arith}
use Rattle.disc.specs.Stretches.{Stretch, join_by, join, stretches, span, expand}
use Rattle.disc.proofs.Compare.{compare_cases, tri_same}

-- stretches that are not empty, none going on where the one before it ends
pub data Longest : List Stretch → Type 0 where
  end : Longest []
  last : {r : Stretch} → 1 ≤ r.count → Longest (r ∷ [])
  next : {r t : Stretch} {rs : List Stretch} → 1 ≤ r.count → r.first + r.count ≢ t.first → Longest (t ∷ rs) → Longest (r ∷ t ∷ rs)

pub longest_head : {r : Stretch} {rs : List Stretch} → Longest (r ∷ rs) → 1 ≤ r.count
longest_head (last h) = h
longest_head (next h d k) = h

pub longest_tail : {r : Stretch} {rs : List Stretch} → Longest (r ∷ rs) → Longest rs
longest_tail (last h) = end
longest_tail (next h d k) = k

-- the stretch of one slice
abbrev one : ℕ → Stretch
one x = record { first = x; count = 1 }

longest_join : (x : ℕ) {rs : List Stretch} → Longest rs → Longest (join x rs)
longest_join x end = last {r = one x} (omega arith)
longest_join x (last {r = r} h) = compare_cases (suc x) r.first (λ o. Longest (join_by o x r []))
    (λ d. next {r = one x} {t = r} (omega arith) (λ e. omega arith) (last h))
    (λ d. last {r = record { first = x; count = suc r.count }} (omega arith))
    (λ d. next {r = one x} {t = r} (omega arith) (λ e. omega arith) (last h))
longest_join x (next {r = r} {t = t} {rs = rs} h a k) = compare_cases (suc x) r.first (λ o. Longest (join_by o x r (t ∷ rs)))
    (λ d. next {r = one x} {t = r} (omega arith) (λ e. omega arith) (next h a k))
    (λ d. next {r = record { first = x; count = suc r.count }} {t = t} (omega arith) (λ e. a (omega arith)) k)
    (λ d. next {r = one x} {t = r} (omega arith) (λ e. omega arith) (next h a k))

pub longest_stretches : (l : List ℕ) → Longest (stretches l)
longest_stretches [] = end
longest_stretches (x ∷ l) = longest_join x (longest_stretches l)

-- a slice before stretches that do not begin after it
apart_join : (x : ℕ) (t : Stretch) (rs : List Stretch) → suc x ≢ t.first → join x (t ∷ rs) ≡ one x ∷ t ∷ rs
apart_join x t rs d = compare_cases (suc x) t.first (λ o. join_by o x t rs ≡ one x ∷ t ∷ rs) (λ h. refl) (λ e. absurd (d e)) (λ h. refl)

-- n + 1 slices from x on before the slices l
span_stretches : (n x : ℕ) (l : List ℕ) (rs : List Stretch) → stretches l ≡ rs → ((y : ℕ) → y ≡ x + n → join y rs ≡ one y ∷ rs)
    → stretches (span x (suc n) ++ l) ≡ record { first = x; count = suc n } ∷ rs
span_stretches zero x l rs e h = ap (join x) e ∙ h x (omega arith)
span_stretches (suc n) x l rs e h =
    ap (join x) (span_stretches n (suc x) l rs e (λ y q. h y (omega arith)))
    ∙ ap (λ (o : Ordering). join_by o x (record { first = suc x; count = suc n }) rs) (tri_same (suc x))

-- the same with a stretch that is not empty
before : (r : Stretch) (l : List ℕ) (rs : List Stretch) → 1 ≤ r.count → stretches l ≡ rs
    → ((y : ℕ) → suc y ≡ r.first + r.count → join y rs ≡ one y ∷ rs) → stretches (span r.first r.count ++ l) ≡ r ∷ rs
before r l rs h e apart = go r.count refl
  where
    go : (c : ℕ) → r.count ≡ c → stretches (span r.first r.count ++ l) ≡ r ∷ rs
    go zero z = absurd (omega arith)
    go (suc c) z =
        ap (λ (k : ℕ). stretches (span r.first k ++ l)) z
        ∙ span_stretches c r.first l rs e (λ y q. apart y (omega arith))
        ∙ ap (λ (k : ℕ). record { first = r.first; count = k } ∷ rs) (sym z)

pub stretches_expand : {rs : List Stretch} → Longest rs → stretches (expand rs) ≡ rs
stretches_expand end = refl
stretches_expand (last {r = r} h) = before r [] [] h refl (λ y q. refl)
stretches_expand (next {r = r} {t = t} {rs = rs} h d k) =
    before r (expand (t ∷ rs)) (t ∷ rs) h (stretches_expand k) (λ y q. apart_join y t rs (λ w. d (omega arith)))
