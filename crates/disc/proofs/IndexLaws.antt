-- An index block's words and the stretches that its pairs describe, when the words are those of the slices that they
-- describe, and that the words have 16 bits.
use mathlib.Core.Path.{◌≡◌, refl, sym, ap, ◌∙◌}
use mathlib.Core.List.{List, [], ◌∷◌, ◌++◌}
use mathlib.Core.Logic.{◌≢◌, ◌↔◌}
use Prim.Native.Nat.{ℕ, zero, suc, ◌+◌, ◌*◌, ◌-◌, ◌/◌, ◌%◌, ◌≤◌, ◌<◌}
use native.Mathlib.Omega.{arith}
use native.Mathlib.Nat.{zero-add, add-zero, add-mul, mul-add, div-add-mod', mul-pos, mul-mod_left, mul-mod_right, mul-le-mul_right}
use lib.ListN.{length, get_or}
use lib.Seq.{get_or-append-add}
use Rattle.disc.specs.Numbers.{slice_start}
use Rattle.disc.specs.Words.{word, Words, Holds}
use Rattle.disc.specs.Stretches.{Stretch, stretches, stretch_count, pairs, index_words, span, expand, stretch_at, stretches_from, slices_at}
use Rattle.disc.specs.Pairs.{pair_length, pair_start, LegalPair, LegalPairs}
use Rattle.disc.proofs.WordLaws.{words_none, words_cons}
use Rattle.disc.proofs.StretchLaws.{expand_stretches, count_le}
use Rattle.disc.proofs.Longest.{Longest, end, last, next, longest_stretches, longest_head, longest_tail, stretches_expand}
use Rattle.disc.proofs.CutLaws.{length_span, length_expand}
use Rattle.disc.proofs.SectorLaws.{ends_before}
use Rattle.disc.proofs.IndexUnique as unique
use Rattle.disc.proofs.IndexUnique.{length_pairs, Firsts, firsts}

-- ---- the pairs in the words

-- the pairs j, j + 1, .. of the block in sector q describe the stretches, one each
pub data Described (image : List ℕ) (F s q : ℕ) : ℕ → List Stretch → Type 0 where
  none : {j : ℕ} → Described image F s q j []
  more : {j : ℕ} {r : Stretch} {rs : List Stretch} → pair_length image q j ≡ s * r.count → pair_start image q j ≡ slice_start F s r.first
      → Described image F s q (suc j) rs → Described image F s q j (r ∷ rs)

module _ (image : List ℕ) (F s q : ℕ) where
  from_words : (rs : List Stretch) (j : ℕ) → ((b : ℕ) → b < 2 * length rs → word image q (2 * j + 1 + b) ≡ get_or (pairs F s rs) b 0) → Described image F s q j rs
  from_words [] j h = none
  from_words (r ∷ rs) j h =
      let a : 2 * j + 1 ≡ 2 * j + 1 + 0 = omega arith in
      let b : 2 * j + 2 ≡ 2 * j + 1 + 1 = omega arith in
      more (ap (word image q) a ∙ h 0 (omega arith)) (ap (word image q) b ∙ h 1 (omega arith))
      (from_words rs (suc j) (λ i x. let c : 2 * suc j + 1 + i ≡ 2 * j + 1 + suc (suc i) = omega arith in ap (word image q) c ∙ h (suc (suc i)) (omega arith)))

  to_words : {rs : List Stretch} {j : ℕ} → Described image F s q j rs → (b : ℕ) → b < 2 * length rs → word image q (2 * j + 1 + b) ≡ get_or (pairs F s rs) b 0
  to_words none b h = absurd (omega arith)
  to_words (more {j = j} x y d) zero h = let a : 2 * j + 1 + 0 ≡ 2 * j + 1 = omega arith in ap (word image q) a ∙ x
  to_words (more {j = j} x y d) (suc zero) h = let a : 2 * j + 1 + 1 ≡ 2 * j + 2 = omega arith in ap (word image q) a ∙ y
  to_words (more {j = j} x y d) (suc (suc b)) h =
      let a : 2 * j + 1 + suc (suc b) ≡ 2 * suc j + 1 + b = omega arith in ap (word image q) a ∙ to_words d b (omega arith)

  pub described : (rs : List Stretch) → length rs ≤ 127 → Holds image q (length rs ∷ pairs F s rs) → Described image F s q 0 rs
  described rs few h =
      from_words rs 0 (λ b x. let a : 2 * 0 + 1 + b ≡ suc b = omega arith in ap (word image q) a ∙ h.at (suc b) (omega (arith, length_pairs F s rs)) (omega arith))

  pub holds_described : (rs : List Stretch) → word image q 0 ≡ length rs → Described image F s q 0 rs → Holds image q (length rs ∷ pairs F s rs)
  holds_described rs count d = record { at = at }
    where
      at : (b : ℕ) → b < length (length rs ∷ pairs F s rs) → b < 256 → word image q b ≡ get_or (length rs ∷ pairs F s rs) b 0
      at zero x y = count
      at (suc b) x y = let a : suc b ≡ 2 * 0 + 1 + b = omega arith in ap (word image q) a ∙ to_words d b (omega (arith, length_pairs F s rs))

-- ---- the slice list that is read

-- slices above 0 in stretches that begin above 0
span_above : (c x : ℕ) (l : List ℕ) → 1 ≤ x → ((j : ℕ) → j < length l → 1 ≤ get_or l j 0) → (j : ℕ) → j < length (span x c ++ l) → 1 ≤ get_or (span x c ++ l) j 0
span_above zero x l p h j y = h j y
span_above (suc c) x l p h zero y = p
span_above (suc c) x l p h (suc j) y = span_above c (suc x) l (omega arith) h j (omega arith)

expand_above : {rs : List Stretch} → Firsts rs → (j : ℕ) → j < length (expand rs) → 1 ≤ get_or (expand rs) j 0
expand_above unique.end j h = absurd (omega arith)
expand_above (unique.next {r = r} {rs = rs} p a) j h = span_above r.count r.first (expand rs) p (expand_above a) j h

module _ (image : List ℕ) (F s q : ℕ) where
  from_above : (n j : ℕ) → Firsts (stretches_from image F s q n j)
  from_above zero j = unique.end
  from_above (suc n) j = unique.next {r = stretch_at image F s q j} (omega arith) (from_above n (suc j))

  pub slices_at_above : (j : ℕ) → j < length (slices_at image F s q) → 1 ≤ get_or (slices_at image F s q) j 0
  slices_at_above = expand_above (from_above (word image q 0) 0)

  module _ (pos : 1 ≤ s) where
    -- ---- legal pairs

    quotient : (x : ℕ) → x % s ≡ 0 → x ≡ s * (x / s)
    quotient x z = omega (arith, div-add-mod' x s)

    start_again : (j : ℕ) → LegalPair image F s q j → pair_start image q j ≡ slice_start F s ((pair_start image q j - F) / s + 1)
    start_again j p =
        let x : ℕ = pair_start image q j - F in
        let e : x / s + 1 - 1 ≡ x / s = omega arith in
        omega (arith, quotient x p.aligned, ap (λ (n : ℕ). n * s) e, p.low)

    legal_described : (n j : ℕ) → ((i : ℕ) → j ≤ i → i < j + n → LegalPair image F s q i) → Described image F s q j (stretches_from image F s q n j)
    legal_described zero j h = none
    legal_described (suc n) j h =
        let p = h j (omega arith) (omega arith) in
        more (quotient (pair_length image q j) p.whole) (start_again j p) (legal_described n (suc j) (λ i a b. h i (omega arith) (omega arith)))

    -- a pair that is not empty, and the next one
    legal_count : (j : ℕ) → LegalPair image F s q j → 1 ≤ pair_length image q j / s
    legal_count j p = go (pair_length image q j / s) refl
      where
        go : (c : ℕ) → pair_length image q j / s ≡ c → 1 ≤ c
        go zero z = absurd (omega (arith, quotient (pair_length image q j) p.whole, ap (λ (n : ℕ). s * n) z, p.some))
        go (suc c) z = omega arith

    legal_apart : (j : ℕ) → LegalPair image F s q j → LegalPair image F s q (suc j) → pair_start image q j + pair_length image q j ≢ pair_start image q (suc j)
        → (stretch_at image F s q j).first + (stretch_at image F s q j).count ≢ (stretch_at image F s q (suc j)).first
    legal_apart j p r d e =
        let a : ℕ = (pair_start image q j - F) / s in
        let b : ℕ = pair_length image q j / s in
        let c : ℕ = (pair_start image q (suc j) - F) / s in
        let f : a + b ≡ c = omega arith in
        d (omega (arith, ap (λ (n : ℕ). n * s) f, add-mul a b s, quotient (pair_start image q j - F) p.aligned, quotient (pair_start image q (suc j) - F) r.aligned, quotient (pair_length image q j) p.whole))

    legal_longest : (n j : ℕ) → ((i : ℕ) → j ≤ i → i < j + n → LegalPair image F s q i)
        → ((i : ℕ) → j ≤ i → suc i < j + n → pair_start image q i + pair_length image q i ≢ pair_start image q (suc i)) → Longest (stretches_from image F s q n j)
    legal_longest zero j h d = end
    legal_longest (suc zero) j h d = last {r = stretch_at image F s q j} (legal_count j (h j (omega arith) (omega arith)))
    legal_longest (suc (suc n)) j h d =
        let p = h j (omega arith) (omega arith) in
        let r = h (suc j) (omega arith) (omega arith) in
        next {r = stretch_at image F s q j} {t = stretch_at image F s q (suc j)} (legal_count j p) (legal_apart j p r (d j (omega arith) (omega arith)))
        (legal_longest (suc n) (suc j) (λ i a b. h i (omega arith) (omega arith)) (λ i a b. d i (omega arith) (omega arith)))

    length_from : (n j : ℕ) → length (stretches_from image F s q n j) ≡ n
    length_from zero j = refl
    length_from (suc n) j = ap suc (length_from n (suc j))

    -- legal pairs are the index words of the slices that they describe
    pub legal_index : LegalPairs image F s q → Holds image q (index_words F s (slices_at image F s q))
    legal_index p =
        let n : ℕ = word image q 0 in
        let rs : List Stretch = stretches_from image F s q n 0 in
        let each : (i : ℕ) → 0 ≤ i → i < 0 + n → LegalPair image F s q i = λ i a b. p.each i (omega arith) in
        let l : Longest rs = legal_longest n 0 each (λ i a b. p.apart i (omega arith)) in
        let h : Holds image q (length rs ∷ pairs F s rs) = holds_described image F s q rs (sym (length_from n 0)) (legal_described n 0 each) in
        rw (ap (λ (x : List Stretch). length x ∷ pairs F s x) (sym (stretches_expand l))) at h

    -- the index words of a slice list have legal pairs
    described_legal : {rs : List Stretch} {j : ℕ} → Longest rs → Described image F s q j rs → (i : ℕ) → i < length rs → LegalPair image F s q (j + i)
    described_legal k (none {j = j}) i h = absurd (omega arith)
    described_legal k (more {j = j} {r = r} x y d) zero h =
        let c : 1 ≤ r.count = longest_head k in
        let e : F + (r.first - 1) * s - F ≡ (r.first - 1) * s = omega arith in
        let p : LegalPair image F s q j = record {
          some = omega (arith, x, mul-pos pos c);
          whole = ap (λ (n : ℕ). n % s) x ∙ mul-mod_right s r.count;
          low = omega (arith, y);
          aligned = ap (λ (n : ℕ). (n - F) % s) y ∙ ap (λ (n : ℕ). n % s) e ∙ mul-mod_left (r.first - 1) s;
        } in
        rw add-zero p
    described_legal k (more {j = j} x y d) (suc i) h =
        let g : j + suc i ≡ suc j + i = omega arith in rw g (described_legal (longest_tail k) d i (omega arith))

    described_apart : {rs : List Stretch} {j : ℕ} → Longest rs → Firsts rs → Described image F s q j rs → (i : ℕ) → suc i < length rs
        → pair_start image q (j + i) + pair_length image q (j + i) ≢ pair_start image q (suc (j + i))
    described_apart {j = j} end a d i h = absurd (omega arith)
    described_apart (last c) a (more x y none) i h = absurd (omega arith)
    described_apart (next {r = r} {t = t} c n k) (unique.next p (unique.next o a)) (more {j = j} x y (more u v d)) zero h =
        rw add-zero (λ e. n (ends_before F s r.first r.count t.first pos p o (omega (arith, x, y, v))))
    described_apart (next c n k) (unique.next p a) (more {j = j} x y d) (suc i) h =
        let g : j + suc i ≡ suc j + i = omega arith in rw g (described_apart k a d i (omega arith))

    pub index_legal : (l : List ℕ) → ((j : ℕ) → j < length l → 1 ≤ get_or l j 0) → 1 ≤ stretch_count l → stretch_count l ≤ 127 → Holds image q (index_words F s l) → LegalPairs image F s q
    index_legal l above some few h =
        let d = described image F s q (stretches l) few h in
        let count : word image q 0 ≡ stretch_count l = h.at 0 (omega arith) (omega arith) in
        let k = longest_stretches l in
        record {
          some = omega arith;
          few = omega arith;
          each = λ j x. rw zero-add at (described_legal k d j (omega arith));
          apart = λ j x. rw zero-add at (described_apart k (firsts l above) d j (omega arith));
        }

    -- what `sound` asks of an index block's words, and legal pairs
    pub index_pairs : LegalPairs image F s q ↔ ((1 ≤ word image q 0) × (word image q 0 ≤ 127) × Holds image q (index_words F s (slices_at image F s q)))
    index_pairs = (
      λ p. (p.some, p.few, legal_index p),
      λ h.
          let count : word image q 0 ≡ stretch_count (slices_at image F s q) = h.2.at 0 (omega arith) (omega arith) in
          index_legal (slices_at image F s q) slices_at_above (omega (arith, h.0)) (omega (arith, h.1)) h.2,
    )

-- ---- the words have 16 bits

-- the first slice of a stretch, and the slices after it
first_slice : (r : Stretch) (rs : List Stretch) → 1 ≤ r.count → get_or (expand (r ∷ rs)) 0 0 ≡ r.first
first_slice r rs h = go r.count h
  where
    go : (c : ℕ) → 1 ≤ c → get_or (span r.first c ++ expand rs) 0 0 ≡ r.first
    go zero x = absurd (omega arith)
    go (suc c) x = refl

later_slice : (r : Stretch) (rs : List Stretch) (j : ℕ) → get_or (expand (r ∷ rs)) (r.count + j) 0 ≡ get_or (expand rs) j 0
later_slice r rs j =
    ap (λ (n : ℕ). get_or (expand (r ∷ rs)) (n + j) 0) (sym (length_span r.first r.count)) ∙ get_or-append-add (span r.first r.count) (expand rs) j 0

words_pairs : (F s m : ℕ) (rs : List Stretch) → F + s * m < 65536 → s * length (expand rs) < 65536 → Longest rs → ((j : ℕ) → j < length (expand rs) → get_or (expand rs) j 0 ≤ m)
    → Words (pairs F s rs)
words_pairs F s m [] high some k le = words_none
words_pairs F s m (r ∷ rs) high some k le =
    let n = length_expand r rs in
    let w : s * length (expand (r ∷ rs)) ≡ s * r.count + s * length (expand rs) = ap (λ (k : ℕ). s * k) n ∙ mul-add s r.count (length (expand rs)) in
    let first : r.first ≤ m = rw (first_slice r rs (longest_head k)) at (le 0 (omega (arith, longest_head k))) in
    let l : r.first - 1 ≤ m = omega arith in
    words_cons (s * r.count) (slice_start F s r.first ∷ pairs F s rs) (omega arith)
    (words_cons (slice_start F s r.first) (pairs F s rs) (omega (arith, mul-le-mul_right s l))
    (words_pairs F s m rs high (omega arith) (longest_tail k) (λ j x. rw (later_slice r rs j) at (le (r.count + j) (omega arith)))))

pub words_index : (F s m : ℕ) (l : List ℕ) → 1 ≤ s → F + s * m < 65536 → s * length l < 65536 → ((j : ℕ) → j < length l → get_or l j 0 ≤ m) → Words (index_words F s l)
words_index F s m l pos high some le =
    let e = expand_stretches l in
    words_cons (stretch_count l) (pairs F s (stretches l)) (omega (arith, count_le l, mul-le-mul_right (length l) pos))
    (words_pairs F s m (stretches l) high (rw e some) (longest_stretches l) (rw e le))
