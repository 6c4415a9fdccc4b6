-- Laws of the longest stretches: they spell out their slices, and one slice more is at most one stretch more.
use mathlib.Core.Path.{◌≡◌, refl, ap}
use mathlib.Core.List.{List, [], ◌∷◌}
use Prim.Native.Nat.{ℕ, suc, ◌≤◌}
use native.Mathlib.Omega.{arith}
use lib.ListN.{length}
use Rattle.disc.specs.Stretches.{Stretch, join_by, join, stretches, stretch_count, expand}
use Rattle.disc.proofs.Compare.{compare_cases}

pub expand_stretches : (l : List ℕ) → expand (stretches l) ≡ l
expand_stretches [] = refl
expand_stretches (x ∷ l) = go (stretches l) (expand_stretches l)
  where
    go : (rs : List Stretch) → expand rs ≡ l → expand (join x rs) ≡ x ∷ l
    go [] e = ap (λ (t : List ℕ). x ∷ t) e
    go (r ∷ rs) e =
        let rest = ap (λ (t : List ℕ). x ∷ t) e in
        compare_cases (suc x) r.first (λ o. expand (join_by o x r rs) ≡ x ∷ l) (λ h. rest) (λ g. ap (λ (t : List ℕ). x ∷ t) (rw g e)) (λ h. rest)

-- one slice more is at most one stretch more
stretch_join : (x : ℕ) (rs : List Stretch) → length (join x rs) ≤ suc (length rs)
stretch_join x [] = omega arith
stretch_join x (r ∷ rs) =
    compare_cases (suc x) r.first (λ o. length (join_by o x r rs) ≤ suc (suc (length rs))) (λ h. omega arith) (λ h. omega arith) (λ h. omega arith)

pub count_le : (l : List ℕ) → stretch_count l ≤ length l
count_le [] = omega arith
count_le (x ∷ l) = omega (arith, stretch_join x (stretches l), count_le l)

-- some slice is some stretch
pub count_some : (l : List ℕ) → 1 ≤ length l → 1 ≤ stretch_count l
count_some [] h = absurd (omega arith)
count_some (x ∷ l) h = go (stretches l)
  where
    go : (rs : List Stretch) → 1 ≤ length (join x rs)
    go [] = omega arith
    go (r ∷ rs) = compare_cases (suc x) r.first (λ o. 1 ≤ length (join_by o x r rs)) (λ h. omega arith) (λ h. omega arith) (λ h. omega arith)
