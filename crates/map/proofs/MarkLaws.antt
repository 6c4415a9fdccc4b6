-- Laws of marked slices: the bits of the map, and the words outside it, after a slice or a list of slices was marked.
use mathlib.Core.Path.{◌≡◌, refl, sym, ap, ◌∙◌}
use mathlib.Core.Bool.{true, false}
use mathlib.Core.List.{List, [], ◌∷◌, ◌++◌}
use mathlib.Core.Logic.{◌≢◌}
use Prim.Native.Nat.{ℕ, ◌+◌, ◌-◌, ◌*◌, ◌/◌, ◌%◌, ◌≤◌, ◌<◌}
use native.Mathlib.Omega.{arith}
use lib.Dec.{eqb}
use lib.ListN.{length, get_or, length-set}
use lib.Seq.{get_or-set_same, get_or-set_other}
use borrow.Author.Tests.{eqb-true, eqb-false}
use Rattle.disc.specs.Words.{word, Words}
use Rattle.disc.specs.Kit.{map_sector}
use Rattle.disc.specs.Slices.{occurrences, InRangeOnce}
use Rattle.disc.specs.Map.{map_bit, MapOf}
use Rattle.disc.proofs.Compare.{same_or}
use Rattle.disc.proofs.SliceLaws.{in_unit_mono, in_unit_le, in_unit_out, occurrences_self, occurrences_other, occurrences_append}
use Rattle.map.specs.Marks.{marked, all_marked, all_used, all_free}
use Rattle.map.proofs.Digits.{digit, with_digit, with_same, with_other, with_lt}

pub map_bit_le : (image : List ℕ) (k : ℕ) → map_bit image k ≤ 1
unfolding map_bit
map_bit_le image k = omega arith

-- what the test of a bit says
pub free_test : (image : List ℕ) (k : ℕ) → eqb (map_bit image k) 1 ≡ true → map_bit image k ≡ 1
free_test image k e = eqb-true (map_bit image k) 1 e

pub used_test : (image : List ℕ) (k : ℕ) → eqb (map_bit image k) 1 ≡ false → map_bit image k ≡ 0
used_test image k e = let ne = eqb-false (map_bit image k) 1 e in omega (arith, map_bit_le image k)

-- the index of slice k's word in the image
abbrev index : ℕ → ℕ
index k = 2304 + (k - 1) / 16

-- the digit of slice k's bit in that word
abbrev place : ℕ → ℕ
place k = 15 - (k - 1) % 16

pub length_marked : (v : ℕ) (image : List ℕ) (k : ℕ) → length (marked v image k) ≡ length image
unfolding marked
length_marked v image k = length-set image (index k) _

-- ---- one slice

module _ (v : ℕ) (bit : v ≤ 1) (image : List ℕ) (k : ℕ) (low : 1 ≤ k) (high : k ≤ 4096) (long : 2560 ≤ length image) where
  word_at : get_or (marked v image k) (index k) 0 ≡ with_digit (place k) v (get_or image (index k) 0)
  unfolding marked
  word_at = get_or-set_same image (index k) _ 0 (omega arith)

  word_other : (i : ℕ) → i ≢ index k → get_or (marked v image k) i 0 ≡ get_or image i 0
  unfolding marked
  word_other i ne = get_or-set_other image (index k) i _ 0 ne

  pub marked_same : map_bit (marked v image k) k ≡ v
  unfolding map_bit
  marked_same = ap (λ (x : ℕ). digit x (place k)) word_at ∙ with_same v bit (place k) (get_or image (index k) 0)

  pub marked_other : (j : ℕ) → 1 ≤ j → j ≢ k → map_bit (marked v image k) j ≡ map_bit image j
  unfolding map_bit
  marked_other j a ne = same_or (index j) (index k)
      (λ e. ap (λ (i : ℕ). digit (get_or (marked v image k) i 0) (place j)) e ∙ ap (λ (x : ℕ). digit x (place j)) word_at
      ∙ with_other v bit (place k) (place j) (get_or image (index k) 0) (omega arith) ∙ ap (λ (i : ℕ). digit (get_or image i 0) (place j)) (sym e))
      (λ d. ap (λ (x : ℕ). digit x (place j)) (word_other (index j) d))

  pub marked_outside : (q b : ℕ) → q ≢ map_sector → b < 256 → word (marked v image k) q b ≡ word image q b
  marked_outside q b ne l = word_other (q * 256 + b) (omega arith)

  pub words_marked : Words image → Words (marked v image k)
  words_marked w = record {
    each = λ i. same_or i (index k)
        (λ e. rw (e, word_at) (with_lt v bit (place k) 16 (get_or image (index k) 0) (omega arith) (w.each (index k))))
        (λ d. rw (word_other i d) (w.each i));
  }

-- ---- a list of slices, all of them in the map

-- each is one of 1 to 4,096
abbrev pub InMap : List ℕ → Type 0
InMap l = (k : ℕ) → 1 ≤ occurrences k l → (1 ≤ k) × (k ≤ 4096)

in_head : (x : ℕ) (l : List ℕ) → InMap (x ∷ l) → (1 ≤ x) × (x ≤ 4096)
in_head x l h = h x (omega (arith, occurrences_self x l))

in_tail : (x : ℕ) (l : List ℕ) → InMap (x ∷ l) → InMap l
in_tail x l h k p = h k (omega arith)

pub in_map : (l : List ℕ) → InRangeOnce 4096 l → InMap l
in_map l h k p = in_unit_out 4096 k (omega (arith, h k))

pub length_all_marked : (v : ℕ) (l image : List ℕ) → length (all_marked v image l) ≡ length image
unfolding all_marked
length_all_marked v [] image = refl
length_all_marked v (x ∷ l) image = length_all_marked v l (marked v image x) ∙ length_marked v image x

pub all_marked_append : (v : ℕ) (l t image : List ℕ) → all_marked v image (l ++ t) ≡ all_marked v (all_marked v image l) t
unfolding all_marked
all_marked_append v [] t image = refl
all_marked_append v (x ∷ l) t image = all_marked_append v l t (marked v image x)

pub all_marked_one : (v : ℕ) (image : List ℕ) (k : ℕ) → all_marked v image (k ∷ []) ≡ marked v image k
unfolding all_marked
all_marked_one v image k = refl

module _ (v : ℕ) (bit : v ≤ 1) where
  long_next : (x : ℕ) (image : List ℕ) → 2560 ≤ length image → 2560 ≤ length (marked v image x)
  long_next x image long = omega (arith, length_marked v image x)

  pub all_marked_outside : (l image : List ℕ) → InMap l → 2560 ≤ length image → (q b : ℕ) → q ≢ map_sector → b < 256
      → word (all_marked v image l) q b ≡ word image q b
  unfolding all_marked
  all_marked_outside [] image inside long q b ne h = refl
  all_marked_outside (x ∷ l) image inside long q b ne h =
      let r = in_head x l inside in
      all_marked_outside l (marked v image x) (in_tail x l inside) (long_next x image long) q b ne h
      ∙ marked_outside v bit image x r.0 r.1 long q b ne h

  pub words_all_marked : (l image : List ℕ) → InMap l → 2560 ≤ length image → Words image → Words (all_marked v image l)
  unfolding all_marked
  words_all_marked [] image inside long w = w
  words_all_marked (x ∷ l) image inside long w =
      let r = in_head x l inside in
      words_all_marked l (marked v image x) (in_tail x l inside) (long_next x image long) (words_marked v bit image x r.0 r.1 long w)

  -- a slice that is not in the list keeps its bit
  pub all_marked_other : (l image : List ℕ) (k : ℕ) → InMap l → 2560 ≤ length image → 1 ≤ k → occurrences k l ≡ 0
      → map_bit (all_marked v image l) k ≡ map_bit image k
  unfolding all_marked
  all_marked_other [] image k inside long a none = refl
  all_marked_other (x ∷ l) image k inside long a none =
      let r = in_head x l inside in
      let d : k ≢ x = λ e. omega (arith, occurrences_self x l, ap (λ (j : ℕ). occurrences j (x ∷ l)) e) in
      all_marked_other l (marked v image x) k (in_tail x l inside) (long_next x image long) a (omega arith)
      ∙ marked_other v bit image x r.0 r.1 long k a d

  -- a slice of the list has the new bit
  pub all_marked_in : (l image : List ℕ) (k : ℕ) → InMap l → 2560 ≤ length image → 1 ≤ occurrences k l
      → map_bit (all_marked v image l) k ≡ v
  unfolding all_marked
  all_marked_in [] image k inside long some = absurd (omega arith)
  all_marked_in (x ∷ l) image k inside long some = same_or (occurrences k l) 0
      last
      (λ more. all_marked_in l (marked v image x) k (in_tail x l inside) (long_next x image long) (omega arith))
    where
      here : k ≡ x → map_bit (marked v image x) k ≡ v
      here e = let r = in_head x l inside in rw e (marked_same v bit image x r.0 r.1 long)

      last : occurrences k l ≡ 0 → map_bit (all_marked v (marked v image x) l) k ≡ v
      last none =
          all_marked_other l (marked v image x) k (in_tail x l inside) (long_next x image long) (inside k some).0 none
          ∙ same_or k x here (λ d. absurd (omega (arith, occurrences_other k x l d)))

-- ---- the equations: marking a list moves each bit by how often its slice stands in the list

-- slices marked used: each was free, and none stands in the list twice
pub all_used_bits : (l image : List ℕ) → InRangeOnce 4096 l → 2560 ≤ length image
    → ((k : ℕ) → 1 ≤ k → k ≤ 4096 → occurrences k l ≤ map_bit image k)
    → (k : ℕ) → 1 ≤ k → map_bit (all_used image l) k + occurrences k l ≡ map_bit image k
all_used_bits l image once long free k a = same_or (occurrences k l) 0
    (λ none. omega (arith, all_marked_other 0 (omega arith) l image k (in_map l once) long a none))
    (λ some. let p : 1 ≤ occurrences k l = omega arith in
    omega (arith, all_marked_in 0 (omega arith) l image k (in_map l once) long p, free k a (in_map l once k p).1, once k, in_unit_le 4096 k, map_bit_le image k))

-- slices marked free: each was used, and none stands in the list twice
pub all_free_bits : (l image : List ℕ) → InRangeOnce 4096 l → 2560 ≤ length image
    → ((k : ℕ) → 1 ≤ k → k ≤ 4096 → map_bit image k + occurrences k l ≤ 1)
    → (k : ℕ) → 1 ≤ k → map_bit (all_free image l) k ≡ map_bit image k + occurrences k l
all_free_bits l image once long used k a = same_or (occurrences k l) 0
    (λ none. omega (arith, all_marked_other 1 (omega arith) l image k (in_map l once) long a none))
    (λ some. let p : 1 ≤ occurrences k l = omega arith in
    omega (arith, all_marked_in 1 (omega arith) l image k (in_map l once) long p, used k a (in_map l once k p).1))

-- ---- the map of a unit's held slices, under taking and giving back

-- taking: the slices l join the held ones
pub map_taken : (m : ℕ) (l held image : List ℕ) → m ≤ 4096 → 2560 ≤ length image → MapOf image m held → InRangeOnce m (l ++ held)
    → MapOf (all_used image l) m (l ++ held)
map_taken m l held image few long is once k a b =
    omega (
      arith,
      occurrences_append k l held,
      is k a b,
      all_used_bits l image (λ j. omega (arith, once j, occurrences_append j l held, in_unit_mono m 4096 j few)) long
          (λ j p q. omega (arith, once j, occurrences_append j l held, is j p q)) k a,
    )

-- giving back: the held slices are l and the rest, by their counts
pub map_freed : (m : ℕ) (l rest held image : List ℕ) → m ≤ 4096 → 2560 ≤ length image → MapOf image m held → InRangeOnce m held
    → ((k : ℕ) → occurrences k held ≡ occurrences k l + occurrences k rest)
    → MapOf (all_free image l) m rest
map_freed m l rest held image few long is once both k a b =
    omega (
      arith,
      both k,
      is k a b,
      all_free_bits l image (λ j. omega (arith, once j, both j, in_unit_mono m 4096 j few)) long
          (λ j p q. omega (arith, both j, is j p q, in_unit_le m j)) k a,
    )
