-- The free slices in ascending order: 01's choice for a file that has none takes them so, and the first of them lie in no more stretches than
-- all of them. The ones in the map are the free slices.
use mathlib.Core.Path.{◌≡◌, refl, sym, ap, ap₂, ◌∙◌}
use mathlib.Core.List.{List, [], ◌∷◌, ◌++◌, append-nil}
use mathlib.Core.Logic.{◌≢◌}
use Prim.Native.Nat.{ℕ, zero, suc, ◌+◌, ◌-◌, ◌≤◌, ◌<◌, compare, Ordering}
use native.Mathlib.Omega.{arith}
use lib.ListN.{length, take, length-append}
use lib.Seq.{take_all}
use Rattle.disc.specs.Slices.{occurrences, in_unit, one_if_none, free_count, lowest_from, next_or, choose, taken}
use Rattle.disc.specs.Stretches.{Stretch, join_by, join, stretches, stretch_count, span}
use Rattle.disc.specs.OneStretch.{lowest_stretch, taken_for_file, FreeRun}
use Rattle.disc.specs.Map.{map_bit, MapOf}
use Rattle.disc.specs.FreeStretches.{with_one, ones_from, free_in, free_on_map, free_stretches_in, free_stretches_on_map}
use Rattle.disc.proofs.Compare.{compare_cases, same_or}
use Rattle.disc.proofs.LowestLaws.{lowest_is}
use Rattle.disc.proofs.SliceLaws.{in_unit_in, in_unit_no, in_unit_out, occurrences_self, occurrences_other, none_left}
use Rattle.disc.proofs.StretchLaws.{count_le, count_some}
use Rattle.disc.proofs.CutLaws.{length_span}
use Rattle.disc.proofs.SpanLaws.{stretches_span}
use Rattle.disc.proofs.OneStretchLaws.{next_free, stretch_none, for_file_none, for_file_old, for_file_span}

-- ---- the first slices of a list

-- 1 where a slice does not lie right before another, by how the next one compares.
abbrev apart : Ordering → ℕ
apart Ordering.lt = 1
apart Ordering.eq = 0
apart Ordering.gt = 1

length_join : (x : ℕ) (r : Stretch) (rs : List Stretch) → length (join x (r ∷ rs)) ≡ apart (compare (suc x) r.first) + length (r ∷ rs)
length_join x r rs = compare_cases (suc x) r.first (λ o. length (join_by o x r rs) ≡ apart o + suc (length rs)) (λ h. omega arith) (λ h. omega arith) (λ h. omega arith)

count_cons : (x y : ℕ) (l : List ℕ) → stretch_count (x ∷ y ∷ l) ≡ apart (compare (suc x) y) + stretch_count (y ∷ l)
count_cons x y l = go (stretches l)
  where
    go : (rs : List Stretch) → length (join x (join y rs)) ≡ apart (compare (suc x) y) + length (join y rs)
    go [] = length_join x (record { first = y; count = 1 }) []
    go (r ∷ rs) = compare_cases (suc y) r.first (λ o. length (join x (join_by o y r rs)) ≡ apart (compare (suc x) y) + length (join_by o y r rs))
        (λ h. length_join x (record { first = y; count = 1 }) (r ∷ rs))
        (λ h. length_join x (record { first = y; count = suc r.count }) rs)
        (λ h. length_join x (record { first = y; count = 1 }) (r ∷ rs))

pub count-take : (n : ℕ) (l : List ℕ) → stretch_count (take n l) ≤ stretch_count l
count-take zero l = omega arith
count-take (suc n) [] = omega arith
count-take (suc zero) (x ∷ l) = count_some (x ∷ l) (omega arith)
count-take (suc (suc n)) (x ∷ []) = omega arith
count-take (suc (suc n)) (x ∷ y ∷ l) = omega (arith, count_cons x y (take n l), count_cons x y l, count-take (suc n) (y ∷ l))

-- ---- the ones of some bits

module _ (bits : ℕ → ℕ) where
  ones_skip : (n k : ℕ) → bits k ≡ 0 → ones_from bits (suc n) k ≡ ones_from bits n (suc k)
  unfolding ones_from
  ones_skip n k e = ap (λ (d : ℕ). with_one d k (ones_from bits n (suc k))) e

  ones_here : (n k : ℕ) → bits k ≢ 0 → ones_from bits (suc n) k ≡ k ∷ ones_from bits n (suc k)
  unfolding ones_from
  ones_here n k h = go (bits k) h
    where
      go : (d : ℕ) → d ≢ 0 → with_one d k (ones_from bits n (suc k)) ≡ k ∷ ones_from bits n (suc k)
      go zero h = absurd (h refl)
      go (suc d) h = refl

  ones_nil : (k : ℕ) → ones_from bits 0 k ≡ []
  unfolding ones_from
  ones_nil k = refl

  ones_none : (n k : ℕ) → ((j : ℕ) → k ≤ j → j < k + n → bits j ≡ 0) → ones_from bits n k ≡ []
  ones_none zero k none = ones_nil k
  ones_none (suc n) k none = ones_skip n k (none k (omega arith) (omega arith)) ∙ ones_none n (suc k) (λ j p q. none j (omega arith) (omega arith))

  ones_all : (n k : ℕ) → ((j : ℕ) → k ≤ j → j < k + n → bits j ≢ 0) → ones_from bits n k ≡ span k n
  ones_all zero k all = ones_nil k
  ones_all (suc n) k all =
      ones_here n k (all k (omega arith) (omega arith))
      ∙ ap (λ (l : List ℕ). k ∷ l) (ones_all n (suc k) (λ j p q. all j (omega arith) (omega arith)))

  ones_append : (a b k : ℕ) → ones_from bits (a + b) k ≡ ones_from bits a k ++ ones_from bits b (k + a)
  ones_append zero b k =
      let e : zero + b ≡ b = omega arith in
      let f : k ≡ k + zero = omega arith in
      ap₂ (ones_from bits) e f ∙ ap (λ (l : List ℕ). l ++ ones_from bits b (k + zero)) (sym (ones_nil k))
  ones_append (suc a) b k =
      let e : suc a + b ≡ suc (a + b) = omega arith in
      let f : suc k + a ≡ k + suc a = omega arith in
      let rest : ones_from bits (a + b) (suc k) ≡ ones_from bits a (suc k) ++ ones_from bits b (k + suc a) =
      ones_append a b (suc k) ∙ ap (λ (j : ℕ). ones_from bits a (suc k) ++ ones_from bits b j) f in
      ap (λ (n : ℕ). ones_from bits n k) e
      ∙ same_or (bits k) 0
      (λ z. ones_skip (a + b) k z ∙ rest ∙ ap (λ (l : List ℕ). l ++ ones_from bits b (k + suc a)) (sym (ones_skip a k z)))
      (λ d. ones_here (a + b) k d ∙ ap (λ (l : List ℕ). k ∷ l) rest ∙ ap (λ (l : List ℕ). l ++ ones_from bits b (k + suc a)) (sym (ones_here a k d)))

pub ones_agree : (bits other : ℕ → ℕ) (n k : ℕ) → ((j : ℕ) → k ≤ j → j < k + n → bits j ≡ other j) → ones_from bits n k ≡ ones_from other n k
unfolding ones_from
ones_agree bits other zero k e = refl
ones_agree bits other (suc n) k e =
    ap₂ (λ (d : ℕ) (l : List ℕ). with_one d k l) (e k (omega arith) (omega arith)) (ones_agree bits other n (suc k) (λ j p q. e j (omega arith) (omega arith)))

-- ---- the free slices

abbrev free : List ℕ → ℕ → ℕ
free held k = one_if_none (occurrences k held)

free_one : (held : List ℕ) (k : ℕ) → occurrences k held ≡ 0 → free held k ≢ 0
free_one held k e z = let f = ap one_if_none e in omega (arith, f, z)

used_none : (held : List ℕ) (k : ℕ) → occurrences k held ≢ 0 → free held k ≡ 0
used_none held k d = go (occurrences k held) d
  where
    go : (t : ℕ) → t ≢ 0 → one_if_none t ≡ 0
    go zero d = absurd (d refl)
    go (suc t) d = refl

length_one : (held : List ℕ) (k : ℕ) → length (ones_from (free held) 1 k) ≡ free held k
length_one held k = same_or (occurrences k held) 0
    (λ e. ap length (ones_here (free held) 0 k (free_one held k e) ∙ ap (λ (l : List ℕ). k ∷ l) (ones_nil (free held) (suc k))) ∙ sym (ap one_if_none e))
    (λ d. ap length (ones_skip (free held) 0 k (used_none held k d) ∙ ones_nil (free held) (suc k)) ∙ sym (used_none held k d))

pub length_free : (m : ℕ) (held : List ℕ) → length (free_in m held) ≡ free_count m held
length_free zero held = ap length (ones_nil (free held) 1)
length_free (suc m) held =
    let e : suc m ≡ m + 1 = omega arith in
    let f : 1 + m ≡ suc m = omega arith in
    let split = ap (λ (n : ℕ). ones_from (free held) n 1) e ∙ ones_append (free held) m 1 1 in
    omega (
      arith,
      ap length split,
      length-append (free_in m held) (ones_from (free held) 1 (1 + m)),
      length_free m held,
      length_one held (1 + m),
      ap (free held) f,
    )

-- ---- 01's choice for a file that has none takes the lowest ones

module _ (m : ℕ) where
  -- no slice is free up to this one
  abbrev NoneFree : List ℕ → ℕ → Type 0
  NoneFree held last = (j : ℕ) → 1 ≤ j → j ≤ last → occurrences j held ≢ 0

  choose_lowest : (held : List ℕ) (last : ℕ) → NoneFree held last → choose m held last ≡ lowest_from m 1 held
  choose_lowest held last none = go (in_unit m (suc last)) refl (occurrences (suc last) held) refl
    where
      go : (r : ℕ) → in_unit m (suc last) ≡ r → (t : ℕ) → occurrences (suc last) held ≡ t → next_or r t (suc last) (lowest_from m 1 held) ≡ lowest_from m 1 held
      go zero e t f = refl
      go (suc r) e (suc t) f = refl
      go (suc r) e zero f =
          let inside = in_unit_out m (suc last) (omega (arith, e)) in
          sym (lowest_is (free held) m 1 (suc last) (omega arith) (omega (arith, inside.1)) (free_one held (suc last) f)
          (λ j p q. used_none held j (none j p (omega arith))))

  -- from a slice that is not free on it takes as from the one before it
  taken_on : (held : List ℕ) (last n : ℕ) → NoneFree held (suc last) → taken m held last n ≡ taken m held (suc last) n
  taken_on held last zero none = refl
  taken_on held last (suc n) none =
      ap (λ (k : ℕ). k ∷ taken m (k ∷ held) k n)
      (choose_lowest held last (λ j p q. none j p (omega arith)) ∙ sym (choose_lowest held (suc last) none))

  module _ (held : List ℕ) (last : ℕ) (none : NoneFree held last) where
    -- with the next one held, too
    none_held : occurrences (suc last) held ≢ 0 → NoneFree held (suc last)
    none_held d j p q = same_or j (suc last) (λ e. rw e d) (λ f. none j p (omega arith))

    none_taken : NoneFree (suc last ∷ held) (suc last)
    none_taken j p q = same_or j (suc last)
        (λ e z. omega (arith, ap (λ (i : ℕ). occurrences i (suc last ∷ held)) e, occurrences_self (suc last) held, z))
        (λ d z. none j p (omega arith) (sym (occurrences_other j (suc last) held d) ∙ z))

  taken_ones : (d last n : ℕ) (held : List ℕ) → last + d ≡ m → NoneFree held last → n ≤ length (ones_from (free held) d (suc last))
      → taken m held last n ≡ take n (ones_from (free held) d (suc last))
  taken_ones d last zero held whole none few = refl
  taken_ones zero last (suc n) held whole none few = absurd (omega (arith, ap length (ones_nil (free held) (suc last))))
  taken_ones (suc d) last (suc n) held whole none few =
      let more : List ℕ = suc last ∷ held in
      let ones : List ℕ = ones_from (free held) d (suc (suc last)) in
      same_or (occurrences (suc last) held) 0
      (λ z.
      let e : ones_from (free held) (suc d) (suc last) ≡ suc last ∷ ones = ones_here (free held) d (suc last) (free_one held (suc last) z) in
      let next : choose m held last ≡ suc last = next_free m last held (in_unit_in m (suc last) (omega arith) (omega arith)) z in
      let same : ones_from (free more) d (suc (suc last)) ≡ ones =
      ones_agree (free more) (free held) d (suc (suc last)) (λ j p q. ap one_if_none (occurrences_other j (suc last) held (λ w. omega arith))) in
      let rest = taken_ones d (suc last) n more (omega arith) (none_taken held last none) (omega (arith, ap length e, ap length same)) in
      ap (λ (x : ℕ). x ∷ taken m (x ∷ held) x n) next ∙ ap (λ (l : List ℕ). suc last ∷ l) (rest ∙ ap (take n) same) ∙ ap (take (suc n)) (sym e))
      (λ used.
      let e : ones_from (free held) (suc d) (suc last) ≡ ones = ones_skip (free held) d (suc last) (used_none held (suc last) used) in
      let rest = taken_ones d (suc last) (suc n) held (omega arith) (none_held held last none used) (omega (arith, ap length e)) in
      taken_on held last (suc n) (none_held held last none used) ∙ rest ∙ ap (take (suc n)) (sym e))

pub taken_free : (m : ℕ) (held : List ℕ) (n : ℕ) → n ≤ free_count m held → taken m held 0 n ≡ take n (free_in m held)
taken_free m held n few = taken_ones m m 0 n held (omega arith) (λ j p q. absurd (omega arith)) (omega (arith, length_free m held))

-- ---- the stretches of a new file

-- THE LAW: no more than the free slices have
pub for_file_count : (m : ℕ) (held : List ℕ) (n : ℕ) → n ≤ free_count m held → stretch_count (taken_for_file m held [] n) ≤ free_stretches_in m held
for_file_count m held zero few = omega (arith, ap stretch_count (for_file_none m held []))
for_file_count m held (suc n) few = go (lowest_stretch m held (suc n)) refl
  where
    go : (k : ℕ) → lowest_stretch m held (suc n) ≡ k → stretch_count (taken_for_file m held [] (suc n)) ≤ free_stretches_in m held
    go zero e =
        omega (
          arith,
          ap stretch_count (for_file_old m held (suc n) e ∙ taken_free m held (suc n) few),
          count-take (suc n) (free_in m held),
        )
    go (suc k) e =
        omega (
          arith,
          ap stretch_count (for_file_span m held (suc n) (suc k) (omega arith) e),
          ap length (stretches_span (suc k) (suc n) (omega arith)),
          count_some (free_in m held) (omega (arith, length_free m held)),
        )

module _ (m : ℕ) (held : List ℕ) where
  -- as many neighbours as are free at all are all that are free
  run_free : (k : ℕ) → 1 ≤ k → 1 ≤ free_count m held → FreeRun m held (free_count m held) k → free_in m held ≡ span k (free_count m held)
  run_free k a some run =
      let n : ℕ = free_count m held in
      let top = in_unit_out m (k + (n - 1)) (omega (arith, (run (k + (n - 1)) (omega arith) (omega arith)).0)) in
      let low : ℕ = k - 1 in
      let high : ℕ = m - (low + n) in
      let whole : m ≡ low + (n + high) = omega (arith, top.1) in
      let at : 1 + low ≡ k = omega arith in
      let before : List ℕ = ones_from (free held) low 1 in
      let past : List ℕ = ones_from (free held) high (k + n) in
      let split : free_in m held ≡ before ++ (span k n ++ past) =
      ap (λ (x : ℕ). ones_from (free held) x 1) whole ∙ ones_append (free held) low (n + high) 1
      ∙ ap (λ (j : ℕ). before ++ ones_from (free held) (n + high) j) at
      ∙ ap (λ (l : List ℕ). before ++ l) (ones_append (free held) n high k
      ∙ ap (λ (l : List ℕ). l ++ past) (ones_all (free held) n k (λ j p q. free_one held j (run j p q).1))) in
      let count = ap length split in
      let lengths = length-append before (span k n ++ past) in
      let inner = length-append (span k n) past in
      let none_before : before ≡ [] = none_left before (omega (arith, length_free m held, count, lengths, inner, length_span k n)) in
      let none_past : past ≡ [] = none_left past (omega (arith, length_free m held, count, lengths, inner, length_span k n)) in
      split ∙ ap₂ (λ (x y : List ℕ). x ++ (span k n ++ y)) none_before none_past ∙ append-nil (span k n)

  -- a file that takes all of them lies in as many stretches as they
  pub for_file_all : 2 ≤ free_stretches_in m held → stretch_count (taken_for_file m held [] (free_count m held)) ≡ free_stretches_in m held
  for_file_all many =
      let some : 1 ≤ free_count m held = omega (arith, length_free m held, count_le (free_in m held)) in
      let none = stretch_none m held (free_count m held) (λ k a run.
      omega (arith, ap stretch_count (run_free k a some run), ap length (stretches_span k (free_count m held) some))) in
      ap stretch_count (for_file_old m held (free_count m held) none ∙ taken_free m held (free_count m held) (omega arith) ∙ take_all (free_count m held) (free_in m held) (omega (arith, length_free m held)))

-- ---- the map

-- a slice's bit
free_bit_lem : (b t : ℕ) → b + t ≡ 1 → b ≡ one_if_none t
free_bit_lem b zero e = omega arith
free_bit_lem b (suc t) e = omega arith

pub map_free : (image : List ℕ) (m : ℕ) (held : List ℕ) → m ≤ 4096 → MapOf image m held → free_on_map image ≡ free_in m held
map_free image m held high map =
    let rest : ℕ = 4096 - m in
    let whole : 4096 ≡ m + rest = omega arith in
    ap (λ (n : ℕ). ones_from (map_bit image) n 1) whole ∙ ones_append (map_bit image) m rest 1
    ∙ ap₂ (λ (x y : List ℕ). x ++ y)
    (ones_agree (map_bit image) (free held) m 1 (λ j p q. free_bit_lem (map_bit image j) (occurrences j held) (map j p (omega arith) ∙ in_unit_in m j p (omega arith))))
    (ones_none (map_bit image) rest (1 + m) (λ j p q. omega (arith, map j (omega arith) (omega arith), in_unit_no m j (omega arith))))
    ∙ append-nil (free_in m held)

pub map_stretches : (image : List ℕ) (m : ℕ) (held : List ℕ) → m ≤ 4096 → MapOf image m held → free_stretches_on_map image ≡ free_stretches_in m held
map_stretches image m held high map = ap stretch_count (map_free image m held high map)
