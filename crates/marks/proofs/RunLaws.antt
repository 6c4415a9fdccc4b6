-- Laws of a run of neighbouring slices that are marked if none of them is: the run as a whole, one slice, and two to four.
use mathlib.Core.Path.{◌≡◌, refl, sym, ap, ◌∙◌}
use mathlib.Core.Bool.{Bool, true}
use mathlib.Core.List.{List, [], ◌∷◌, ◌++◌, append_assoc, append-nil}
use Prim.Native.Nat.{ℕ, zero, suc, ◌+◌, ◌-◌, ◌≤◌, ◌<◌}
use native.Mathlib.Nat.{add-zero}
use native.Mathlib.Numerals.{add-one}
use native.Mathlib.Omega.{arith}
use lib.ListN.{get_or, set}
use lib.Seq.{get_or-set_other, set-set}
use Rattle.disc.specs.Slices.{InRangeOnce}
use Rattle.disc.specs.Stretches.{span}
use Rattle.disc.proofs.Compare.{same_or}
use Rattle.disc.proofs.DecideLaws.{true≢false}
use Rattle.disc.proofs.SliceLaws.{in_unit_le, occurrences_append}
use Rattle.disc.proofs.SpanLaws.{span_in}
use Rattle.sound.specs.Parts.{Marking}
use Rattle.marks.specs.Marked.{Marked, Free, run_marks, RunMarking}
use Rattle.marks.proofs.MarkLaws.{mark_one}

-- ---- the run as a whole

span_snoc : (n x : ℕ) → span x (suc n) ≡ span x n ++ ((x + n) ∷ [])
span_snoc zero x = ap (λ (y : ℕ). y ∷ []) (sym (add-zero x))
span_snoc (suc n) x =
    ap (λ (l : List ℕ). x ∷ l) (span_snoc n (suc x) ∙ ap (λ (y : ℕ). span (suc x) n ++ (y ∷ [])) (let e : suc x + n ≡ x + suc n = omega arith in e))

pub run_none : (before : List ℕ) (from : ℕ) → before ≡ run_marks before from 0
unfolding run_marks
run_none before from = refl

pub run_more : (before : List ℕ) {marks : List ℕ} (from n : ℕ) → marks ≡ run_marks before from n → set marks (from + n) 1 ≡ run_marks before from (n + 1)
unfolding run_marks
run_more before {marks} from n e = rw add-one (ap (λ (l : List ℕ). set l (from + n) 1) e)

run_past : (before : List ℕ) (from n j : ℕ) → from + n ≤ j → get_or (run_marks before from n) j 0 ≡ get_or before j 0
unfolding run_marks
run_past before from zero j h = refl
run_past before from (suc n) j h = get_or-set_other (run_marks before from n) (from + n) j 1 0 (λ e. omega arith) ∙ run_past before from n j (omega arith)

module _ (m from : ℕ) (held before : List ℕ) (marked : Marked m before held) where
  run_marked : (n : ℕ) → from + n ≤ m → from + n ≤ 4096 → Free before from n → Marked m (run_marks before from n) (held ++ span (suc from) n)
  unfolding run_marks
  run_marked zero fits room free = rw append-nil marked
  run_marked (suc n) fits room free =
      let here : get_or (run_marks before from n) (from + n) 0 ≡ 0 = run_past before from n (from + n) (omega arith) ∙ free.each n (omega arith) in
      let rest = run_marked n (omega arith) (omega arith) (record { each = λ i h. free.each i (omega arith) }) in
      let next : suc from + n ≡ suc (from + n) = omega arith in
      let one = mark_one m (from + n) (run_marks before from n) (held ++ span (suc from) n) (omega arith) (omega arith) here rest in
      rw (span_snoc n (suc from), next, ← append_assoc) one

  -- a run whose slices stand once beside those marked before is free
  run_free : (count : ℕ) → from + count ≤ 4096 → InRangeOnce m (held ++ span (suc from) count) → Free before from count
  run_free count room once = record { each = λ i h. same_or (get_or before (from + i) 0) 0 (λ z. z) (λ taken. absurd (clash i h taken)) }
    where
      clash : (i : ℕ) → i < count → (get_or before (from + i) 0 ≡ 0 → ⊥) → ⊥
      clash i h taken =
          let k = suc from + i in
          let at : k - 1 ≡ from + i = omega arith in
          let mark = ap (λ (j : ℕ). get_or before j 0) (sym at) ∙ marked.is.each k (omega arith) (omega arith) in
          omega (
            arith,
            mark,
            once k,
            in_unit_le m k,
            occurrences_append k held (span (suc from) count),
            span_in count (suc from) k (omega arith) (omega arith),
          )

pub run_marking : {r : Bool} {before after : List ℕ} (from count : ℕ) → from + count ≤ 4096 → RunMarking r from count before after
    → (m : ℕ) (held : List ℕ) → from + count ≤ m → Marked m before held → Marking r (Unit {0}) m after held (span (from + 1) count)
run_marking {r} {before} {after} from count room run m held fits marked = rw add-one (record {
  yes = λ e.
      let y = run.yes e in
      let k : Marked m after (held ++ span (suc from) count) = rw y.1 (run_marked m from held before marked count fits room y.0) in
      (tt, k.once, k.is);
  not = λ e _ once. (run.not e).0 (run_free m from held before marked count room once);
})

-- ---- marked

pub run_done : {before after : List ℕ} (from count : ℕ) → Free before from count → after ≡ run_marks before from count → RunMarking true from count before after
run_done from count free e = record { yes = λ _. (free, e); not = λ f. absurd (true≢false f) }

-- ---- one slice

pub one_done : {before : List ℕ} (from : ℕ) → get_or before from 0 ≡ 0 → RunMarking true from 1 before (set before from 1)
unfolding run_marks
one_done {before} from none = run_done from 1
    (record { each = λ i h. ap (λ (j : ℕ). get_or before j 0) (let e : from + i ≡ from = omega arith in e) ∙ none })
    (ap (λ (i : ℕ). set before i 1) (sym (add-zero from)))

-- ---- two to four slices

module _ (before : List ℕ) (from count third last : ℕ) (low : 2 ≤ count) (high : count ≤ 4) (end : last ≡ from + (count - 1))
    (far : from + 2 ≤ last → third ≡ from + 2) (near : last ≤ from + 2 → third ≡ last) where
  abbrev four_marks : List ℕ
  four_marks = set (set (set (set before from 1) (from + 1) 1) third 1) last 1

  -- fewer than four are marked twice
  four_marks_lem : (n : ℕ) → count ≡ n → four_marks ≡ run_marks before from n
  unfolding run_marks
  four_marks_lem zero e = absurd (omega arith)
  four_marks_lem (suc zero) e = absurd (omega arith)
  four_marks_lem (suc (suc zero)) e =
      let el : last ≡ from + 1 = omega arith in
      let et : third ≡ from + 1 = near (omega arith) ∙ el in
      simp (el, et, set-set, add-zero)
  four_marks_lem (suc (suc (suc zero))) e =
      let el : last ≡ from + 2 = omega arith in
      let et : third ≡ from + 2 = near (omega arith) ∙ el in
      simp (el, et, set-set, add-zero)
  four_marks_lem (suc (suc (suc (suc zero)))) e =
      let el : last ≡ from + 3 = omega arith in
      let et : third ≡ from + 2 = far (omega arith) in
      simp (el, et, add-zero)
  four_marks_lem (suc (suc (suc (suc (suc n))))) e = absurd (omega arith)

  pub four_done : get_or before from 0 ≡ 0 → get_or before (from + 1) 0 ≡ 0 → get_or before third 0 ≡ 0 → get_or before last 0 ≡ 0 → RunMarking true from count before four_marks
  four_done z0 z1 z2 z3 = run_done from count (record { each = none }) (four_marks_lem count refl)
    where
      at : {i j : ℕ} → i ≡ j → get_or before j 0 ≡ 0 → get_or before i 0 ≡ 0
      at e z = ap (λ (k : ℕ). get_or before k 0) e ∙ z

      none : (i : ℕ) → i < count → get_or before (from + i) 0 ≡ 0
      none zero h = at (add-zero from) z0
      none (suc zero) h = z1
      none (suc (suc zero)) h = at (sym (far (omega arith))) z2
      none (suc (suc (suc zero))) h = at (let e : from + 3 ≡ last = omega arith in e) z3
      none (suc (suc (suc (suc i)))) h = absurd (omega arith)
