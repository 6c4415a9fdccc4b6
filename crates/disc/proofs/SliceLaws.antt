-- Laws of counting slices, the sum of free and held slices, and the taking of slices.
use mathlib.Core.Path.{◌≡◌, refl, sym, ap, subst}
use mathlib.Core.List.{List, [], ◌∷◌, ◌++◌}
use mathlib.Core.Logic.{◌≢◌}
use Prim.Native.Nat.{ℕ, zero, suc, ◌+◌, ◌-◌, ◌≤◌, ◌<◌, compare, Ordering}
use native.Mathlib.Omega.{arith}
use lib.ListN.{length, take, drop, length-append, length-take, take-append-drop}
use Rattle.disc.specs.Slices.{one_if_same, occurrences, one_if_below, in_unit, InRangeOnce, one_if_none, free_count, first_if, lowest_one, lowest_from, next_or, choose, taken, last_of}
use Rattle.disc.proofs.Compare.{compare_cases, tri_less, tri_more, tri_same, same_or, below_or}

pub same_le : (o : Ordering) → one_if_same o ≤ 1
same_le Ordering.lt = omega arith
same_le Ordering.eq = omega arith
same_le Ordering.gt = omega arith

pub one_other : (j k : ℕ) → j ≢ k → one_if_same (compare j k) ≡ 0
one_other j k d = compare_cases j k (λ o. one_if_same o ≡ 0) (λ h. refl) (λ e. absurd (d e)) (λ h. refl)

pub in_unit_le : (m k : ℕ) → in_unit m k ≤ 1
in_unit_le m zero = omega arith
in_unit_le m (suc k) = compare_cases k m (λ o. one_if_below o ≤ 1) (λ h. omega arith) (λ h. omega arith) (λ h. omega arith)

pub in_unit_in : (m k : ℕ) → 1 ≤ k → k ≤ m → in_unit m k ≡ 1
in_unit_in m zero p q = absurd (omega arith)
in_unit_in m (suc k) p q = rw (tri_less q) refl

pub in_unit_no : (m k : ℕ) → m < k → in_unit m k ≡ 0
in_unit_no m zero q = refl
in_unit_no m (suc k) q = compare_cases k m (λ o. one_if_below o ≡ 0) (λ h. absurd (omega arith)) (λ h. refl) (λ h. refl)

pub in_unit_out : (m k : ℕ) → 1 ≤ in_unit m k → (1 ≤ k) × (k ≤ m)
in_unit_out m zero p = absurd (omega arith)
in_unit_out m (suc k) p = below_or k m (λ h. omega arith) (λ h. absurd (omega (arith, in_unit_no m (suc k) (omega arith))))

-- more slices have room for more
pub in_unit_mono : (m n k : ℕ) → m ≤ n → in_unit m k ≤ in_unit n k
in_unit_mono m n zero h = omega arith
in_unit_mono m n (suc k) h =
    compare_cases k m (λ o. one_if_below o ≤ in_unit n (suc k)) (λ l. omega (arith, in_unit_in n (suc k) (omega arith) (omega arith))) (λ e. omega arith) (λ l. omega arith)

pub occurrences_self : (k : ℕ) (h : List ℕ) → occurrences k (k ∷ h) ≡ suc (occurrences k h)
occurrences_self k h = rw (tri_same k) (omega arith)

pub occurrences_other : (j k : ℕ) (h : List ℕ) → j ≢ k → occurrences j (k ∷ h) ≡ occurrences j h
occurrences_other j k h d = omega (arith, one_other j k d)

pub occurrences_append : (k : ℕ) (s t : List ℕ) → occurrences k (s ++ t) ≡ occurrences k s + occurrences k t
occurrences_append k [] t = omega arith
occurrences_append k (x ∷ s) t = omega (arith, occurrences_append k s t)

pub occurrences-take : (k c : ℕ) (l : List ℕ) → occurrences k (take c l) ≤ occurrences k l
occurrences-take k c l = omega (arith, ap (occurrences k) (take-append-drop c l), occurrences_append k (take c l) (drop c l))

pub none_left : {A : Type 0} (l : List A) → length l ≡ 0 → l ≡ []
none_left [] e = refl
none_left (x ∷ l) e = absurd (omega arith)

-- the first ones kept, and as many taken as are wanted beyond those there are
pub length_after : (l l' new : List ℕ) (count : ℕ) → length new ≡ count - length l → l' ≡ take count l ++ new → length l' ≡ count
length_after l l' new count len e = omega (arith, ap length e, length-append (take count l) new, length-take count l)

-- the last of a longer list
pub last_snoc : (l : List ℕ) (k : ℕ) → last_of (l ++ (k ∷ [])) ≡ k
last_snoc [] k = refl
last_snoc (x ∷ []) k = refl
last_snoc (x ∷ y ∷ l) k = last_snoc (y ∷ l) k

-- the sum of `occurrences` over 1 to m
abbrev total : ℕ → List ℕ → ℕ
total zero h = 0
total (suc m) h = occurrences (suc m) h + total m h

abbrev hits : ℕ → ℕ → ℕ
hits zero x = 0
hits (suc m) x = one_if_same (compare (suc m) x) + hits m x

total_cons : (m x : ℕ) (h : List ℕ) → total m (x ∷ h) ≡ hits m x + total m h
total_cons zero x h = refl
total_cons (suc m) x h = omega (arith, total_cons m x h)

hits-in_unit : (m x : ℕ) → hits m x ≡ in_unit m x
hits-in_unit zero zero = refl
hits-in_unit zero (suc x) = sym (in_unit_no 0 (suc x) (omega arith))
hits-in_unit (suc m) zero = rw (tri_more {n = suc m} {m = 0} (omega arith)) (omega (arith, hits-in_unit m 0))
hits-in_unit (suc m) (suc x) = compare_cases (suc m) (suc x) (λ o. one_if_same o + hits m (suc x) ≡ in_unit (suc m) (suc x))
    (λ h. omega (arith, hits-in_unit m (suc x), in_unit_no m (suc x) (omega arith), in_unit_no (suc m) (suc x) (omega arith)))
    (λ e. omega (arith, hits-in_unit m (suc x), in_unit_no m (suc x) (omega arith), in_unit_in (suc m) (suc x) (omega arith) (omega arith)))
    (λ h. omega (arith, hits-in_unit m (suc x), in_unit_in m (suc x) (omega arith) (omega arith), in_unit_in (suc m) (suc x) (omega arith) (omega arith)))

none-sum : (x : ℕ) → x ≤ 1 → one_if_none x + x ≡ 1
none-sum zero h = refl
none-sum (suc x) h = omega arith

free_total : (m : ℕ) (h : List ℕ) → ((k : ℕ) → occurrences k h ≤ 1) → free_count m h + total m h ≡ m
free_total zero h ok = refl
free_total (suc m) h ok = omega (arith, free_total m h ok, none-sum (occurrences (suc m) h) (ok (suc m)))

once_tail : (m x : ℕ) (h : List ℕ) → InRangeOnce m (x ∷ h) → InRangeOnce m h
once_tail m x h ok k = omega (arith, ok k)

total-length : (m : ℕ) (h : List ℕ) → InRangeOnce m h → total m h ≡ length h
total-length m [] ok = go m
  where
    go : (m : ℕ) → total m [] ≡ 0
    go zero = refl
    go (suc m) = omega (arith, go m)
total-length m (x ∷ h) ok =
    omega (arith, total_cons m x h, hits-in_unit m x, total-length m h (once_tail m x h ok), in_unit_le m x, ok x, occurrences_self x h)

-- THE SUM: the free slices and the held ones make m
pub sum_law : (m : ℕ) (h : List ℕ) → InRangeOnce m h → free_count m h + length h ≡ m
sum_law m h ok = omega (arith, total-length m h ok, free_total m h (λ k. omega (arith, ok k, in_unit_le m k)))

-- ---- the taking

-- some slice is free if the count says so
free_some : (m : ℕ) (h : List ℕ) → 1 ≤ free_count m h → (j : ℕ) × (1 ≤ j) × (j ≤ m) × (occurrences j h ≡ 0)
free_some zero h p = absurd (omega arith)
free_some (suc m) h p = go (occurrences (suc m) h) refl (λ q. free_some m h q)
  where
    go : (t : ℕ) → occurrences (suc m) h ≡ t → (1 ≤ free_count m h → (j : ℕ) × (1 ≤ j) × (j ≤ m) × (occurrences j h ≡ 0)) → (j : ℕ) × (1 ≤ j) × (j ≤ suc m) × (occurrences j h ≡ 0)
    go zero e ih = (suc m, omega arith, omega arith, e)
    go (suc t) e ih =
        let p' : 1 ≤ one_if_none (occurrences (suc m) h) + free_count m h = p in
        let q : 1 ≤ one_if_none (suc t) + free_count m h = rw e at p' in
        let r = ih (omega arith) in
        (r.0, r.1, omega arith, r.3)

-- the lowest free: it is free and no smaller one is
pub lowest_law : (n k j : ℕ) (h : List ℕ) → k ≤ j → j < k + n → occurrences j h ≡ 0
    → (occurrences (lowest_from n k h) h ≡ 0) × (k ≤ lowest_from n k h) × (lowest_from n k h ≤ j)
unfolding lowest_one
lowest_law zero k j h p q z = absurd (omega arith)
lowest_law (suc n) k j h p q z = go (occurrences k h) refl (λ l. lowest_law n (suc k) j h l (omega arith) z)
  where
    go : (t : ℕ) → occurrences k h ≡ t → (suc k ≤ j → (occurrences (lowest_from n (suc k) h) h ≡ 0) × (suc k ≤ lowest_from n (suc k) h) × (lowest_from n (suc k) h ≤ j))
        → (occurrences (first_if (one_if_none t) k (lowest_from n (suc k) h)) h ≡ 0) × (k ≤ first_if (one_if_none t) k (lowest_from n (suc k) h)) × (first_if (one_if_none t) k (lowest_from n (suc k) h) ≤ j)
    go zero e ih = (e, omega arith, p)
    go (suc t) e ih =
        let d : k ≢ j = λ g. let e₂ : occurrences j h ≡ suc t = rw (← g) e in omega arith in
        let r = ih (omega arith) in
        (r.0, omega arith, r.2)

-- what is picked is free, if any is
pub choose_law : (m last : ℕ) (h : List ℕ) → 1 ≤ free_count m h → (occurrences (choose m h last) h ≡ 0) × (in_unit m (choose m h last) ≡ 1)
choose_law m last h p = go (in_unit m (suc last)) refl (occurrences (suc last) h) refl
  where
    low : (occurrences (lowest_from m 1 h) h ≡ 0) × (in_unit m (lowest_from m 1 h) ≡ 1)
    low =
        let s = free_some m h p in
        let l = lowest_law m 1 s.0 h s.1 (omega (arith, s.2)) s.3 in
        (l.0, in_unit_in m (lowest_from m 1 h) l.1 (omega (arith, l.2, s.2)))

    go : (r : ℕ) → in_unit m (suc last) ≡ r → (t : ℕ) → occurrences (suc last) h ≡ t
        → (occurrences (next_or r t (suc last) (lowest_from m 1 h)) h ≡ 0) × (in_unit m (next_or r t (suc last) (lowest_from m 1 h)) ≡ 1)
    go zero e t f = low
    go (suc r) e zero f = (f, omega (arith, in_unit_le m (suc last), e))
    go (suc r) e (suc t) f = low

pub once_cons : (m k : ℕ) (h : List ℕ) → InRangeOnce m h → occurrences k h ≡ 0 → in_unit m k ≡ 1 → InRangeOnce m (k ∷ h)
once_cons m k h ok z r j = same_or j k (λ e. subst (λ (i : ℕ). occurrences i (k ∷ h) ≤ in_unit m i) (sym e) (omega (arith, occurrences_self k h))) (λ d. omega (arith, ok j, occurrences_other j k h d))

pub length_taken : (m : ℕ) (h : List ℕ) (last n : ℕ) → length (taken m h last n) ≡ n
length_taken m h last zero = refl
length_taken m h last (suc n) = ap suc (length_taken m (choose m h last ∷ h) (choose m h last) n)

-- one slice more is one free slice less
pub free_cons : (m k : ℕ) (h : List ℕ) → InRangeOnce m h → InRangeOnce m (k ∷ h) → free_count m (k ∷ h) + 1 ≡ free_count m h
free_cons m k h p q = omega (arith, sum_law m h p, sum_law m (k ∷ h) q)

-- the taken ones beside the held ones: each free before, none twice, all of the unit
pub taken_law : (m : ℕ) (h : List ℕ) (last n : ℕ) → InRangeOnce m h → n ≤ free_count m h → InRangeOnce m (taken m h last n ++ h)
taken_law m h last zero ok p j = ok j
taken_law m h last (suc n) ok p j =
    let k = choose m h last in
    let l = choose_law m last h (omega arith) in
    let ok₂ : InRangeOnce m (k ∷ h) = once_cons m k h ok l.0 l.1 in
    let r = taken_law m (k ∷ h) k n ok₂ (omega (arith, free_cons m k h ok ok₂)) j in
    omega (arith, r, occurrences_append j (taken m (k ∷ h) k n) (k ∷ h), occurrences_append j (taken m (k ∷ h) k n) h)
