-- Slices are taken, and counted free, by what is held, in whatever order.
use mathlib.Core.Path.{◌≡◌, refl, ap, ap₂, ◌∙◌}
use mathlib.Core.List.{List, ◌∷◌}
use Prim.Native.Nat.{ℕ, zero, suc}
use native.Mathlib.Omega.{arith}
use Rattle.disc.proofs.LowestLaws.{lowest_agree}
use Rattle.disc.specs.Slices.{occurrences, in_unit, one_if_none, free_count, lowest_from, next_or, choose, taken}

pub free_same : (m : ℕ) (h l : List ℕ) → ((x : ℕ) → occurrences x h ≡ occurrences x l) → free_count m h ≡ free_count m l
free_same zero h l e = refl
free_same (suc m) h l e = omega (arith, ap one_if_none (e (suc m)), free_same m h l e)

lowest_same : (n k : ℕ) (h l : List ℕ) → ((x : ℕ) → occurrences x h ≡ occurrences x l) → lowest_from n k h ≡ lowest_from n k l
lowest_same n k h l e = lowest_agree (λ j. one_if_none (occurrences j h)) (λ j. one_if_none (occurrences j l)) n k (λ j. ap one_if_none (e j))

choose_same : (m last : ℕ) (h l : List ℕ) → ((x : ℕ) → occurrences x h ≡ occurrences x l) → choose m h last ≡ choose m l last
choose_same m last h l e = ap₂ (λ (a r : ℕ). next_or (in_unit m (suc last)) a (suc last) r) (e (suc last)) (lowest_same m 1 h l e)

pub taken_same : (m : ℕ) (h l : List ℕ) (last n : ℕ) → ((x : ℕ) → occurrences x h ≡ occurrences x l) → taken m h last n ≡ taken m l last n
taken_same m h l last zero e = refl
taken_same m h l last (suc n) e =
    let a : ℕ = choose m h last in
    let b : ℕ = choose m l last in
    let q : a ≡ b = choose_same m last h l e in
    ap (λ (k : ℕ). k ∷ taken m (k ∷ h) k n) q ∙ ap (λ (r : List ℕ). b ∷ r) (taken_same m (b ∷ h) (b ∷ l) b n (λ x. omega (arith, e x)))
