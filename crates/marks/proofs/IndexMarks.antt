-- Laws of marking the pairs of an index block one after the other: the pairs passed, each refusal, and the whole block.
use mathlib.Core.Path.{◌≡◌, refl, sym, ap, ◌∙◌}
use mathlib.Core.Bool.{false}
use mathlib.Core.List.{List, [], ◌∷◌, ◌++◌, append_assoc, append-nil}
use mathlib.Core.Logic.{◌≢◌}
use Prim.Native.Nat.{ℕ, zero, suc, ◌+◌, ◌-◌, ◌*◌, ◌/◌, ◌≤◌, ◌<◌}
use native.Mathlib.Nat.{add-zero, zero-add}
use native.Mathlib.Numerals.{add-one}
use native.Mathlib.Omega.{arith}
use lib.ListN.{length, get_or, length-append}
use Rattle.std.specs.Prelude.{Option, Some, None, is_some}
use Rattle.disc.specs.Numbers.{slice_start}
use Rattle.disc.specs.Words.{word}
use Rattle.disc.specs.Slices.{occurrences, InRangeOnce, first_of}
use Rattle.disc.specs.Stretches.{Stretch, span, expand, stretch_at, stretches_from, slices_at}
use Rattle.disc.specs.Pairs.{pair_length, pair_start, LegalPair, LegalPairs}
use Rattle.disc.proofs.Compare.{same_or}
use Rattle.disc.proofs.DecideLaws.{true≢false}
use Rattle.disc.proofs.SliceLaws.{occurrences_append, sum_law}
use Rattle.disc.proofs.CutLaws.{length_span}
use Rattle.disc.proofs.IndexLaws.{index_pairs}
use Rattle.disc.proofs.AppendLaws.{expand_append}
use Rattle.sound.specs.Places.{IndexBlock}
use Rattle.sound.specs.Parts.{MarksOf}
use Rattle.kit.specs.declared.Geometry.{Geometry}
use Rattle.kit.specs.Geometry.{UnitOf}
use Rattle.kit.proofs.KitLaws.{whole_product}
use Rattle.marks.specs.declared.Indexed.{Indexed}
use Rattle.marks.specs.Marked.{Marked, SomeMarked}
use Rattle.marks.specs.Indexed.{WholeSlices, PairMarking, IndexSector, of_sys, of_file, PairsMarking, IndexMarking}
use Rattle.marks.proofs.MarkLaws as laws
use Rattle.marks.proofs.PairLaws.{some_count}

module _ (image : List ℕ) (g : Geometry) (q : ℕ) where
  abbrev F : ℕ
  F = g.first.0

  abbrev s : ℕ
  s = g.slice

  -- the slices of pair j, and those of the first j pairs
  abbrev pair_slices : ℕ → List ℕ
  pair_slices j = span ((pair_start image q j - F) / s + 1) (pair_length image q j / s)

  abbrev passed : ℕ → List ℕ
  passed j = expand (stretches_from image F s q j 0)

  from_snoc : (n j : ℕ) → stretches_from image F s q (suc n) j ≡ stretches_from image F s q n j ++ (stretch_at image F s q (j + n) ∷ [])
  from_snoc zero j = ap (λ (i : ℕ). stretch_at image F s q i ∷ []) (sym (add-zero j))
  from_snoc (suc n) j =
      ap (λ (l : List Stretch). stretch_at image F s q j ∷ l) (from_snoc n (suc j)
      ∙ ap (λ (i : ℕ). stretches_from image F s q n (suc j) ++ (stretch_at image F s q i ∷ [])) (let e : suc j + n ≡ j + suc n = omega arith in e))

  passed_snoc : (j : ℕ) → passed (suc j) ≡ passed j ++ pair_slices j
  passed_snoc j =
      ap expand (from_snoc j 0)
      ∙ expand_append (stretches_from image F s q j 0) (stretch_at image F s q (0 + j) ∷ [])
      ∙ ap (λ (l : List ℕ). passed j ++ l) (append-nil (pair_slices (0 + j)) ∙ ap pair_slices (zero-add j))

  passed_le : (k j d : ℕ) → occurrences k (passed j) ≤ occurrences k (passed (j + d))
  passed_le k j zero = rw add-zero (omega arith)
  passed_le k j (suc d) =
      let e : j + suc d ≡ suc (j + d) = omega arith in
      rw (e, passed_snoc (j + d)) (omega (arith, passed_le k j d, occurrences_append k (passed (j + d)) (pair_slices (j + d))))

  -- pair j beside what was marked before it is part of the whole
  passed_once : (held : List ℕ) (j n : ℕ) → j < n → InRangeOnce g.slices (held ++ passed n) → InRangeOnce g.slices ((held ++ passed j) ++ pair_slices j)
  passed_once held j n below once k =
      let e : suc j + (n - suc j) ≡ n = omega arith in
      let le : occurrences k (passed (suc j)) ≤ occurrences k (passed n) = rw e at (passed_le k (suc j) (n - suc j)) in
      let next : occurrences k (passed (suc j)) ≡ occurrences k (passed j) + occurrences k (pair_slices j) =
      ap (occurrences k) (passed_snoc j) ∙ occurrences_append k (passed j) (pair_slices j) in
      omega (
        arith,
        once k,
        occurrences_append k held (passed n),
        occurrences_append k (held ++ passed j) (pair_slices j),
        occurrences_append k held (passed j),
      )

  -- the first j pairs are legal and their slices marked; the last of them ends at sector `end`, or at 0
  pub record Passed (before : List ℕ) (j slices end : ℕ) (marks : List ℕ) : Type 0 where
    pub legal : (i : ℕ) → i < j → LegalPair image F s q i
    pub apart : (i : ℕ) → suc i < j → pair_start image q i + pair_length image q i ≢ pair_start image q (suc i)
    pub ends : (i : ℕ) → suc i ≡ j → pair_start image q i + pair_length image q i ≡ end
    pub none : j ≡ 0 → end ≡ 0
    pub count : slices ≡ length (passed j)
    pub marked : (held : List ℕ) → Marked g.slices before held → Marked g.slices marks (held ++ passed j)

  pub passed_none : (before : List ℕ) → Passed before 0 0 0 before
  passed_none before = record {
    legal = λ i h. absurd (omega arith);
    apart = λ i h. absurd (omega arith);
    ends = λ i e. absurd (omega arith);
    none = λ e. refl;
    count = refl;
    marked = λ held k. rw append-nil k;
  }

  whole_legal : (j : ℕ) → WholeSlices F s (pair_length image q j) (pair_start image q j) → LegalPair image F s q j
  whole_legal j w = record { some = w.some; whole = w.whole; low = w.low; aligned = w.aligned }

  legal_whole : (j : ℕ) → LegalPair image F s q j → WholeSlices F s (pair_length image q j) (pair_start image q j)
  legal_whole j w = record { some = w.some; whole = w.whole; low = w.low; aligned = w.aligned }

  module _ {before : List ℕ} (some : SomeMarked g.slices before) {j slices end : ℕ} {marks : List ℕ} (pass : Passed before j slices end marks) where
    -- no more slices than the unit has
    pub passed_few : slices ≤ g.slices
    passed_few =
        let k = pass.marked some.slices some.marked in
        omega (arith, pass.count, sum_law g.slices (some.slices ++ passed j) k.once, length-append some.slices (passed j))

    pub passed_more : {after : List ℕ} (count : ℕ) → (pair_start image q j ≡ end → ⊥)
        → PairMarking g (pair_length image q j) (pair_start image q j) marks after (Some count)
        → Passed before (j + 1) (slices + count) (pair_start image q j + pair_length image q j) after
    passed_more {after} count fresh pair = rw (add-one j) (record {
      legal = λ i h. same_or i j (λ e. rw e (whole_legal j (answer some.slices some.marked).0)) (λ d. pass.legal i (omega arith));
      apart = λ i h. same_or (suc i) j
          (λ e c. fresh (ap (pair_start image q) (sym e) ∙ sym c ∙ pass.ends i e))
          (λ d. pass.apart i (omega arith));
      ends = λ i e. ap (λ (n : ℕ). pair_start image q n + pair_length image q n) (let f : i ≡ j = omega arith in f);
      none = λ e. absurd (omega arith);
      count = omega (
        arith,
        pass.count,
        pair.slices,
        ap length (passed_snoc j),
        length-append (passed j) (pair_slices j),
        length_span ((pair_start image q j - F) / s + 1) (pair_length image q j / s),
      );
      marked = λ held k.
          let r = answer held k in
          let both : Marked g.slices after ((held ++ passed j) ++ pair_slices j) = record { is = r.2; once = r.1 } in
          rw (passed_snoc j, ← append_assoc) both;
    })
      where
        answer : (held : List ℕ) → Marked g.slices before held
            → WholeSlices F s (pair_length image q j) (pair_start image q j) × InRangeOnce g.slices ((held ++ passed j) ++ pair_slices j) × MarksOf after ((held ++ passed j) ++ pair_slices j)
        answer held k = (pair.marking (held ++ passed j) (pass.marked held k)).yes refl

  -- the first sector of the first slice is the first pair's
  first_start : (n : ℕ) → 1 ≤ n → LegalPair image F s q 0 → pair_start image q 0 ≡ slice_start F s (first_of (passed n))
  first_start zero h legal = absurd (omega arith)
  first_start (suc n) h legal = go (pair_length image q 0 / s) (some_count g (pair_length image q 0) (pair_start image q 0) (legal_whole 0 legal))
    where
      at : ℕ
      at = (pair_start image q 0 - F) / s

      go : (c : ℕ) → 1 ≤ c → pair_start image q 0 ≡ slice_start F s (first_of (span (at + 1) c ++ expand (stretches_from image F s q n 1)))
      go zero k = absurd (omega arith)
      go (suc c) k =
          let e : at + 1 - 1 ≡ at = omega arith in
          omega (arith, whole_product (pair_start image q 0 - F) s legal.aligned, ap (λ (x : ℕ). x * s) e, legal.low)

  -- ---- the whole block

  pub refuse_index : {before after : List ℕ}
      → ((held : List ℕ) → Marked g.slices before held → IndexBlock image F s q → InRangeOnce g.slices (held ++ slices_at image F s q) → ⊥)
      → PairsMarking image g q before after None
  refuse_index no_way = record {
    marking = λ held is once. laws.refuses (no_way held (record { is = is; once = once }));
    slices = tt;
    start = tt;
  }

  -- the pairs are refused, and then no slice is left marked
  pub refused_index : {before between after : List ℕ} (r : Option Indexed) → is_some r ≡ false → PairsMarking image g q before between r → MarksOf after []
      → IndexMarking image g q before after r
  refused_index None e pairs none = record {
    pairs = refuse_index (λ held k. (pairs.marking held k.is k.once).not refl);
    refused = λ _. none;
  }
  refused_index (Some found) e pairs none = absurd (true≢false e)

  pub count_is : get_or image (q * 256) 0 ≡ word image q 0
  count_is = ap (λ (i : ℕ). get_or image i 0) (sym (add-zero (q * 256)))

  module _ (unit : UnitOf image g) where
    -- a sector that is read as an index block is in the image
    pub index_inside : IndexSector g q → q < g.sectors
    index_inside (of_sys e) = omega (arith, unit.limits.first, unit.limits.some_data)
    index_inside (of_file low high) = high

    positive : 1 ≤ s
    positive = omega (arith, unit.limits.slice_low)

    block_legal : IndexBlock image F s q → LegalPairs image F s q
    block_legal block = (index_pairs image F s q positive).1 (block.some, block.few, block.pairs)

    legal_block : LegalPairs image F s q → IndexBlock image F s q
    legal_block legal = let b = (index_pairs image F s q positive).0 legal in record { some = b.0; few = b.1; pairs = b.2 }

    -- a pair that starts where the one before it ends, or the first one at sector 0
    pub same_start : {before : List ℕ} {j slices end : ℕ} {marks : List ℕ} → Passed before j slices end marks → j < word image q 0
        → pair_start image q j ≡ end → IndexBlock image F s q → ⊥
    same_start {j = j} {end = end} pass below e block = go j refl
      where
        go : (i : ℕ) → j ≡ i → ⊥
        go zero z = omega (arith, ((block_legal block).each j below).low, unit.limits.first, pass.none z)
        go (suc i) z = (block_legal block).apart i (omega arith) (pass.ends i (sym z) ∙ sym e ∙ ap (pair_start image q) z)

    -- a pair that is refused
    pub no_pair : {before after : List ℕ} {j slices end : ℕ} {marks : List ℕ} → Passed before j slices end marks → j < word image q 0
        → PairMarking g (pair_length image q j) (pair_start image q j) marks after None
        → (held : List ℕ) → Marked g.slices before held → IndexBlock image F s q → InRangeOnce g.slices (held ++ slices_at image F s q) → ⊥
    no_pair {j = j} pass below pair held k block once =
        (pair.marking (held ++ passed j) (pass.marked held k)).not refl (legal_whole j ((block_legal block).each j below))
        (passed_once held j (word image q 0) below once)

    -- all pairs passed
    pub mark_index : {before : List ℕ} {j slices end : ℕ} {marks : List ℕ} (r : Indexed) → 1 ≤ word image q 0 → word image q 0 ≤ 127
        → j ≡ word image q 0 → Passed before j slices end marks → r.slices ≡ slices → r.start.0 ≡ pair_start image q 0
        → PairsMarking image g q before marks (Some r)
    mark_index {before} {j} {slices} {end} {marks} r some few all pass sized begins = record {
      marking = λ held is once.
          let k : Marked g.slices marks (held ++ passed j) = pass.marked held (record { is = is; once = once }) in
          let w : Marked g.slices marks (held ++ slices_at image F s q) = rw all at k in
          laws.marks (legal_block legal) w;
      slices = sized ∙ pass.count ∙ ap (λ (n : ℕ). length (passed n)) all;
      start = begins ∙ first_start (word image q 0) some (legal.each 0 some);
    }
      where
        legal : LegalPairs image F s q
        legal = record {
          some = some;
          few = few;
          each = λ i h. pass.legal i (omega arith);
          apart = λ i h. pass.apart i (omega arith);
        }
