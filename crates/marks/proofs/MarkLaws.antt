-- Laws of marks: one slice more, and the answers of a function that marks.
use mathlib.Core.Path.{◌≡◌, sym, ap, ◌∙◌}
use mathlib.Core.Bool.{true, false}
use mathlib.Core.List.{List, [], ◌∷◌, ◌++◌}
use Prim.Native.Nat.{ℕ, suc, ◌-◌, ◌≤◌, ◌<◌}
use native.Mathlib.Omega.{arith}
use lib.ListN.{get_or, set, replicate, length-set, length-replicate, get_or-replicate}
use lib.Seq.{get_or-set_same, get_or-set_other}
use Rattle.disc.specs.Slices.{occurrences, in_unit, InRangeOnce}
use Rattle.disc.proofs.Compare.{same_or}
use Rattle.disc.proofs.DecideLaws.{true≢false}
use Rattle.disc.proofs.SliceLaws.{in_unit_in, occurrences_self, occurrences_other, occurrences_append}
use Rattle.sound.specs.Parts.{Marking}
use Rattle.marks.specs.Marked.{Marked}

-- ---- answers

pub marks : {Q : Type 0} {m : ℕ} {after held new : List ℕ} → Q → Marked m after (held ++ new) → Marking true Q m after held new
marks q k = record { yes = λ _. (q, k.once, k.is); not = λ e. absurd (true≢false e) }

pub refuses : {Q : Type 0} {m : ℕ} {after held new : List ℕ} → (Q → InRangeOnce m (held ++ new) → ⊥) → Marking false Q m after held new
refuses n = record { yes = λ e. absurd (true≢false (sym e)); not = λ _. n }

-- ---- none

-- a list of zeros, n of them so that it stays shut
pub mark_none : (m n : ℕ) → n ≡ 4096 → Marked m (replicate n 0) []
mark_none m n e = record {
  is = record {
    size = length-replicate n 0 ∙ e;
    each = λ k low high. get_or-replicate n (k - 1) 0 0 (omega arith);
  };
  once = λ k. omega arith;
}

-- ---- one slice more

pub mark_one : (m k : ℕ) (marks slices : List ℕ) → k < m → k < 4096 → get_or marks k 0 ≡ 0 → Marked m marks slices
    → Marked m (set marks k 1) (slices ++ (suc k ∷ []))
mark_one m k marks slices below high none marked = record {
  is = record { size = length-set marks k 1 ∙ marked.is.size; each = each };
  once = once;
}
  where
    before : occurrences (suc k) slices ≡ 0
    before = sym (marked.is.each (suc k) (omega arith) (omega arith)) ∙ ap (λ (i : ℕ). get_or marks i 0) (let e : suc k - 1 ≡ k = omega arith in e) ∙ none

    new : occurrences (suc k) (slices ++ (suc k ∷ [])) ≡ 1
    new = omega (arith, occurrences_append (suc k) slices (suc k ∷ []), occurrences_self (suc k) [], before)

    other : (j : ℕ) → (j ≡ suc k → ⊥) → occurrences j (slices ++ (suc k ∷ [])) ≡ occurrences j slices
    other j d = omega (arith, occurrences_append j slices (suc k ∷ []), occurrences_other j (suc k) [] d)

    each : (j : ℕ) → 1 ≤ j → j ≤ 4096 → get_or (set marks k 1) (j - 1) 0 ≡ occurrences j (slices ++ (suc k ∷ []))
    each j low top = same_or j (suc k)
        (λ e.
        let at : j - 1 ≡ k = omega arith in
        ap (λ (i : ℕ). get_or (set marks k 1) i 0) at ∙ get_or-set_same marks k 1 0 (omega (arith, marked.is.size))
        ∙ sym new ∙ ap (λ (i : ℕ). occurrences i (slices ++ (suc k ∷ []))) (sym e))
        (λ d. get_or-set_other marks k (j - 1) 1 0 (omega arith) ∙ marked.is.each j low top ∙ sym (other j d))

    once : (j : ℕ) → occurrences j (slices ++ (suc k ∷ [])) ≤ in_unit m j
    once j = same_or j (suc k)
        (λ e. rw e (omega (arith, new, in_unit_in m (suc k) (omega arith) below)))
        (λ d. omega (arith, other j d, marked.once j))
