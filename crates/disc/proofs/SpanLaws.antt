-- Neighbouring slices from one on: each stands once, and they are one stretch.
use mathlib.Core.Path.{◌≡◌, sym, ap, ◌∙◌, subst}
use mathlib.Core.List.{List, [], ◌∷◌, append-nil}
use Prim.Native.Nat.{ℕ, zero, suc, ◌+◌, ◌*◌, ◌≤◌, ◌<◌}
use native.Mathlib.Omega.{arith}
use Rattle.disc.specs.Numbers.{slice_start}
use Rattle.disc.specs.Slices.{occurrences, in_unit, InRangeOnce}
use Rattle.disc.specs.Stretches.{Stretch, stretches, pairs, index_words, span, sector_in}
use Rattle.disc.proofs.Compare.{same_or}
use Rattle.disc.proofs.SliceLaws.{in_unit_in, occurrences_self, occurrences_other}
use Rattle.disc.proofs.Longest.{last, stretches_expand}
use Rattle.disc.proofs.SectorLaws.{sector_span}

span_below : (n x k : ℕ) → k < x → occurrences k (span x n) ≡ 0
span_below zero x k h = omega arith
span_below (suc n) x k h = occurrences_other k x (span (suc x) n) (omega arith) ∙ span_below n (suc x) k (omega arith)

-- which slices they are
pub span_past : (n x k : ℕ) → x + n ≤ k → occurrences k (span x n) ≡ 0
span_past zero x k h = omega arith
span_past (suc n) x k h = occurrences_other k x (span (suc x) n) (omega arith) ∙ span_past n (suc x) k (omega arith)

pub span_in : (n x k : ℕ) → x ≤ k → k < x + n → occurrences k (span x n) ≡ 1
span_in zero x k a b = absurd (omega arith)
span_in (suc n) x k a b = same_or k x
    (λ e. subst (λ (i : ℕ). occurrences i (span x (suc n)) ≡ 1) (sym e) (omega (arith, occurrences_self x (span (suc x) n), span_below n (suc x) x (omega arith))))
    (λ d. occurrences_other k x (span (suc x) n) d ∙ span_in n (suc x) k (omega arith) (omega arith))

span_in_unit : (m n x k : ℕ) → 1 ≤ x → x + n ≤ suc m → occurrences k (span x n) ≤ in_unit m k
span_in_unit m zero x k p h = omega arith
span_in_unit m (suc n) x k p h = same_or k x
    (λ e. subst (λ (i : ℕ). occurrences i (span x (suc n)) ≤ in_unit m i) (sym e) (omega (arith, occurrences_self x (span (suc x) n), span_below n (suc x) x (omega arith), in_unit_in m x p (omega arith))))
    (λ d. omega (arith, occurrences_other k x (span (suc x) n) d, span_in_unit m n (suc x) k (omega arith) (omega arith)))

-- the first n slices of a unit
pub span_once : (m n : ℕ) → n ≤ m → InRangeOnce m (span 1 n)
span_once m n h k = span_in_unit m n 1 k (omega arith) (omega arith)

pub stretches_span : (x n : ℕ) → 1 ≤ n → stretches (span x n) ≡ record { first = x; count = n } ∷ []
stretches_span x n h = ap stretches (sym (append-nil (span x n))) ∙ stretches_expand (last {r = record { first = x; count = n }} h)

-- the index block and the sectors of n slices from slice x on
pub index_span : (F s x n : ℕ) → 1 ≤ n → index_words F s (span x n) ≡ 1 ∷ (s * n) ∷ slice_start F s x ∷ []
index_span F s x n h = ap (λ (rs : List Stretch). lib.ListN.length rs ∷ pairs F s rs) (stretches_span x n h)

pub sector_of_span : (F s x n b : ℕ) → 1 ≤ s → 1 ≤ x → b < s * n → sector_in F s (span x n) b ≡ slice_start F s x + b
sector_of_span F s x n b pos p h = ap (λ (l : List ℕ). sector_in F s l b) (sym (append-nil (span x n))) ∙ sector_span F s x n [] b pos p h
