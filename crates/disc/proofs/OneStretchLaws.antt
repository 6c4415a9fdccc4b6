-- The slices that a file takes: one stretch is what 01's choice takes after the slice before it, so that what holds of 01's choice after any
-- slice holds of them.
use mathlib.Core.Path.{◌≡◌, refl, sym, ap, ap₂, ◌∙◌}
use mathlib.Core.List.{List, [], ◌∷◌, ◌++◌}
use Prim.Native.Nat.{ℕ, zero, suc, ◌+◌, ◌-◌, ◌*◌, ◌≤◌}
use native.Mathlib.Nat.{zero-mul, mul-zero}
use native.Mathlib.Omega.{arith}
use lib.ListN.{length}
use Rattle.disc.specs.Slices.{occurrences, in_unit, InRangeOnce, one_if_none, free_count, first_if, lowest_one, lowest_from, next_or, choose, taken, last_of}
use Rattle.disc.specs.Stretches.{span}
use Rattle.disc.specs.OneStretch.{free_span, lowest_stretch, span_or, taken_for_file, FreeRun, InOneStretch}
use Rattle.disc.proofs.Compare.{same_or}
use Rattle.disc.proofs.SliceLaws.{in_unit_le, in_unit_in, in_unit_no, in_unit_out, occurrences_other, taken_law, length_taken}
use Rattle.disc.proofs.TakenLaws.{taken_same}
use Rattle.disc.proofs.LowestLaws.{lowest_none, lowest_is, lowest_found, lowest_agree}

-- ---- free slices next to each other

module _ (m : ℕ) (held : List ℕ) where
  factors : (u t r : ℕ) → 1 ≤ u * one_if_none t * r → (1 ≤ u) × (t ≡ 0) × (1 ≤ r)
  factors zero t r h = absurd (omega (arith, ap (λ (x : ℕ). x * r) (zero-mul (one_if_none t)), zero-mul r))
  factors (suc u) (suc t) r h = absurd (omega (arith, ap (λ (x : ℕ). x * r) (mul-zero (suc u)), zero-mul r))
  factors (suc u) zero zero h = absurd (omega (arith, mul-zero (suc u * 1)))
  factors (suc u) zero (suc r) h = (omega arith, refl, omega arith)

  pub run_of : (k n : ℕ) → 1 ≤ free_span m held n k → FreeRun m held n k
  run_of k zero h j p q = absurd (omega arith)
  run_of k (suc n) h j p q =
      let f = factors (in_unit m k) (occurrences k held) (free_span m held n (suc k)) h in
      same_or j k
      (λ e. rw e (omega (arith, in_unit_le m k, f.0), f.1))
      (λ d. run_of (suc k) n f.2 j (omega arith) (omega arith))

  pub run_span : (k n : ℕ) → FreeRun m held n k → free_span m held n k ≡ 1
  run_span k zero run = refl
  run_span k (suc n) run =
      let here = run k (omega arith) (omega arith) in
      rw (here.0, here.1, run_span (suc k) n (λ j p q. run j (omega arith) (omega arith))) refl

  -- no such run
  pub no_span : (k n : ℕ) → (FreeRun m held n k → ⊥) → free_span m held n k ≡ 0
  no_span k n none = same_or (free_span m held n k) 0 (λ e. e) (λ d. absurd (none (run_of k n (omega arith))))

  -- ---- the lowest

  module _ (n : ℕ) where
    pub stretch_is : (k : ℕ) → 1 ≤ k → k ≤ m → FreeRun m held n k → ((j : ℕ) → 1 ≤ j → FreeRun m held n j → k ≤ j) → lowest_stretch m held n ≡ k
    unfolding lowest_stretch
    stretch_is k a b run low =
        lowest_is (free_span m held n) m 1 k a (omega arith) (λ z. omega (arith, run_span k n run))
        (λ j p q. no_span j n (λ other. omega (arith, low j p other)))

    pub stretch_none : ((j : ℕ) → 1 ≤ j → FreeRun m held n j → ⊥) → lowest_stretch m held n ≡ 0
    unfolding lowest_stretch
    stretch_none none = lowest_none (free_span m held n) m 1 (λ j p q. no_span j n (none j p))

    stretch_run : (k : ℕ) → lowest_stretch m held n ≡ suc k → FreeRun m held n (suc k)
    unfolding lowest_stretch
    stretch_run k e = run_of (suc k) n (let f = lowest_found (free_span m held n) m 1 k e in omega (arith, f.2))

-- the next slice where it is free
pub next_free : (m k : ℕ) (held : List ℕ) → in_unit m (suc k) ≡ 1 → occurrences (suc k) held ≡ 0 → choose m held k ≡ suc k
next_free m k held inside free = rw (inside, free) refl

-- one stretch is what is taken after the slice before it
pub span_taken : (m : ℕ) (held : List ℕ) (k n : ℕ) → FreeRun m held n (suc k) → span (suc k) n ≡ taken m held k n
span_taken m held k zero run = refl
span_taken m held k (suc n) run =
    let here = run (suc k) (omega arith) (omega arith) in
    let e : choose m held k ≡ suc k = next_free m k held here.0 here.1 in
    let rest : FreeRun m (suc k ∷ held) n (suc (suc k)) = λ j p q.
    (let r = run j (omega arith) (omega arith) in (r.0, occurrences_other j (suc k) held (λ z. omega arith) ∙ r.1)) in
    ap (λ (l : List ℕ). suc k ∷ l) (span_taken m (suc k ∷ held) (suc k) n rest) ∙ ap (λ (x : ℕ). x ∷ taken m (x ∷ held) x n) (sym e)

-- ---- the slices that a file takes

-- The slice after which they are taken.
abbrev pub start_before : ℕ → List ℕ → List ℕ → ℕ → ℕ
start_before m held [] n = lowest_stretch m held n - 1
start_before m held (x ∷ l) n = last_of (x ∷ l)

pub for_file_is : (m : ℕ) (held slices : List ℕ) (n : ℕ) → taken_for_file m held slices n ≡ taken m held (start_before m held slices n) n
unfolding taken_for_file
for_file_is m held (x ∷ l) n = refl
for_file_is m held [] n = go (lowest_stretch m held n) refl
  where
    go : (k : ℕ) → lowest_stretch m held n ≡ k → span_or k n (taken m held 0 n) ≡ taken m held (k - 1) n
    go zero e = refl
    go (suc k) e = span_taken m held k n (stretch_run m held n k e) ∙ ap (λ (x : ℕ). taken m held x n) (let f : k ≡ suc k - 1 = omega arith in f)

module _ (m : ℕ) (held slices : List ℕ) (n : ℕ) where
  pub length_for_file : length (taken_for_file m held slices n) ≡ n
  length_for_file = ap length (for_file_is m held slices n) ∙ length_taken m held (start_before m held slices n) n

  -- the taken ones beside the held ones: each free before, none twice, all of the unit
  pub for_file_law : InRangeOnce m held → n ≤ free_count m held → InRangeOnce m (taken_for_file m held slices n ++ held)
  for_file_law once enough = rw (for_file_is m held slices n) (taken_law m held (start_before m held slices n) n once enough)

pub for_file_none : (m : ℕ) (held slices : List ℕ) → taken_for_file m held slices 0 ≡ []
for_file_none m held slices = for_file_is m held slices 0

-- a file that has slices takes by 01's choice
pub for_file_last : (m : ℕ) (held slices : List ℕ) (n : ℕ) → 1 ≤ length slices → taken_for_file m held slices n ≡ taken m held (last_of slices) n
unfolding taken_for_file
for_file_last m held [] n h = absurd (omega arith)
for_file_last m held (x ∷ l) n h = refl

-- no stretch is long enough
pub for_file_old : (m : ℕ) (held : List ℕ) (n : ℕ) → lowest_stretch m held n ≡ 0 → taken_for_file m held [] n ≡ taken m held 0 n
unfolding taken_for_file
for_file_old m held n e = ap (λ (k : ℕ). span_or k n (taken m held 0 n)) e

-- one is
pub for_file_span : (m : ℕ) (held : List ℕ) (n k : ℕ) → 1 ≤ k → lowest_stretch m held n ≡ k → taken_for_file m held [] n ≡ span k n
unfolding taken_for_file
for_file_span m held n zero h e = absurd (omega arith)
for_file_span m held n (suc k) h e = ap (λ (x : ℕ). span_or x n (taken m held 0 n)) e

-- what is held counts, in whatever order
span_same : (m : ℕ) (h l : List ℕ) → ((x : ℕ) → occurrences x h ≡ occurrences x l) → (k n : ℕ) → free_span m h n k ≡ free_span m l n k
span_same m h l e k zero = refl
span_same m h l e k (suc n) =
    ap₂ (λ (t r : ℕ). in_unit m k * one_if_none t * r) (e k) (span_same m h l e (suc k) n)

pub for_file_same : (m : ℕ) (h l slices : List ℕ) (n : ℕ) → ((x : ℕ) → occurrences x h ≡ occurrences x l) → taken_for_file m h slices n ≡ taken_for_file m l slices n
unfolding taken_for_file lowest_stretch
for_file_same m h l (x ∷ r) n e = taken_same m h l (last_of (x ∷ r)) n e
for_file_same m h l [] n e =
    ap₂ (λ (k : ℕ) (r : List ℕ). span_or k n r)
    (lowest_agree (free_span m h n) (free_span m l n) m 1 (λ k. span_same m h l e k n))
    (taken_same m h l 0 n e)

-- the choice without a search
pub in_one_stretch_lem : (m : ℕ) (held : List ℕ) (n : ℕ) → InOneStretch m held n
in_one_stretch_lem m held zero = record {
  lowest = λ k a run low. for_file_none m held [];
  nowhere = λ none. for_file_none m held [];
  others = λ x l. for_file_last m held (x ∷ l) 0 (omega arith);
}
in_one_stretch_lem m held (suc n) = record {
  lowest = λ k a run low.
      let top = in_unit_out m k (omega (arith, (run k (omega arith) (omega arith)).0)) in
      for_file_span m held (suc n) k a (stretch_is m held (suc n) k a top.1 run low);
  nowhere = λ none. for_file_old m held (suc n) (stretch_none m held (suc n) none);
  others = λ x l. for_file_last m held (x ∷ l) (suc n) (omega arith);
}

-- its first slice is the stretch's, and the others come after it by 01's choice
pub for_file_first : (m : ℕ) (held : List ℕ) (n k : ℕ) → 1 ≤ k → lowest_stretch m held (suc n) ≡ k → taken_for_file m held [] (suc n) ≡ k ∷ taken m (k ∷ held) k n
for_file_first m held n zero h e = absurd (omega arith)
for_file_first m held n (suc k) h e =
    let run = stretch_run m held (suc n) k e in
    let here = run (suc k) (omega arith) (omega arith) in
    for_file_span m held (suc n) (suc k) h e ∙ span_taken m held k (suc n) run
    ∙ ap (λ (x : ℕ). x ∷ taken m (x ∷ held) x n) (next_free m k held here.0 here.1)

-- ---- one slice

one_span : (m k : ℕ) (held : List ℕ) → 1 ≤ k → k ≤ m → free_span m held 1 k ≡ one_if_none (occurrences k held)
one_span m k held a b = rw (in_unit_in m k a b) (omega arith)

lowest_from_lem : (m : ℕ) (held : List ℕ) (n a : ℕ) → 1 ≤ a → a + n ≤ suc m → lowest_one (free_span m held 1) n a ≡ lowest_from n a held
unfolding lowest_one
lowest_from_lem m held zero a p q = refl
lowest_from_lem m held (suc n) a p q =
    ap₂ (λ (d r : ℕ). first_if d a r) (one_span m a held p (omega arith)) (lowest_from_lem m held n (suc a) (omega arith) (omega arith))

-- a file without slices takes the lowest free one
choose_first : (m : ℕ) (held : List ℕ) → choose m held 0 ≡ lowest_from m 1 held
unfolding lowest_one
choose_first zero held = rw (in_unit_no 0 1 (omega arith)) refl
choose_first (suc m) held = go (occurrences 1 held)
  where
    go : (t : ℕ) → next_or (in_unit (suc m) 1) t 1 (first_if (one_if_none t) 1 (lowest_from m 2 held)) ≡ first_if (one_if_none t) 1 (lowest_from m 2 held)
    go zero = rw (in_unit_in (suc m) 1 (omega arith) (omega arith)) refl
    go (suc t) = rw (in_unit_in (suc m) 1 (omega arith) (omega arith)) refl

-- one slice is taken by 01's choice whatever the file has
pub for_file_one : (m : ℕ) (held slices : List ℕ) → taken_for_file m held slices 1 ≡ taken m held (last_of slices) 1
unfolding taken_for_file lowest_stretch
for_file_one m held (x ∷ l) = refl
for_file_one m held [] = go (lowest_from m 1 held) (lowest_from_lem m held m 1 (omega arith) (omega arith))
  where
    go : (k : ℕ) → lowest_one (free_span m held 1) m 1 ≡ k → span_or (lowest_one (free_span m held 1) m 1) 1 (choose m held 0 ∷ []) ≡ choose m held 0 ∷ []
    go zero e = ap (λ (k : ℕ). span_or k 1 (choose m held 0 ∷ [])) e
    go (suc k) e =
        ap (λ (j : ℕ). span_or j 1 (choose m held 0 ∷ [])) e
        ∙ ap (λ (j : ℕ). j ∷ []) (sym e ∙ lowest_from_lem m held m 1 (omega arith) (omega arith) ∙ sym (choose_first m held))
