-- The slices that a file takes: what the search of the map finds is the lowest stretch of the unit's free slices.
use Rattle.std.specs.Prelude.{Option, Some, None}
use mathlib.Core.Path.{◌≡◌, refl, sym, ap, ap₂, ◌∙◌}
use mathlib.Core.Bool.{Bool}
use mathlib.Core.List.{List, [], ◌∷◌, ◌++◌, append_assoc}
use mathlib.Core.Logic.{◌≢◌}
use Prim.Native.Nat.{ℕ, suc, ◌+◌, ◌-◌, ◌≤◌}
use native.Mathlib.Omega.{arith}
use lib.ListN.{length}
use Rattle.types.specs.declared.Slice.{Slice}
use Rattle.disc.specs.Slices.{taken, last_of}
use Rattle.disc.specs.Stretches.{stretch_count}
use Rattle.disc.specs.OneStretch.{lowest_stretch, taken_for_file, FreeRun}
use Rattle.disc.proofs.SliceLaws.{in_unit_le, in_unit_out, occurrences_append, once_cons, none_left, last_snoc}
use Rattle.disc.proofs.Compare.{same_or}
use Rattle.disc.proofs.StretchLaws.{count_some}
use Rattle.disc.proofs.OneStretchLaws.{stretch_is, stretch_none, for_file_none, for_file_last, for_file_old, for_file_first}
use Rattle.map.specs.Marks.{all_marked, all_used, marked_used}
use Rattle.map.specs.Stretch.{FreeFrom, FindsStretch}
use Rattle.map.proofs.MarkLaws.{all_marked_one}
use Rattle.index.specs.Block.{whole_index, pair_count, appended, Appendable}
use Rattle.slices.specs.FileBlock.{SliceBlock}
use Rattle.slices.specs.Take.{CanTakeFrom, TakenFrom}
use Rattle.slices.proofs.BlockLaws.{block_count}
use Rattle.slices.proofs.TakeLaws.{Fresh, can_fewer, can_after, longer_own, ready, appended_is, inside}

-- ---- whether the file has slices

module _ {block : List ℕ} {F s m : ℕ} {slices : List ℕ} (own : SliceBlock block F s m slices) where
  has_none : pair_count block 0 ≡ 0 → slices ≡ []
  has_none e = same_or (length slices) 0 (none_left slices) (λ d. absurd (omega (arith, e, block_count own, count_some slices (omega arith))))

  has_some : pair_count block 0 ≢ 0 → 1 ≤ length slices
  has_some d = same_or (length slices) 0 (λ z. absurd (d (block_count own ∙ ap stretch_count (none_left slices z)))) (λ h. omega arith)

-- ---- the search

module _ {image block : List ℕ} {F s m n : ℕ} {held slices : List ℕ} (can : CanTakeFrom image block F s m n held slices) where
  -- n free ones on the map are n free ones of the unit
  run_from : {k : ℕ} → FreeFrom image n k → FreeRun m held n k
  run_from free j p q =
      let bit = free.free j p q in
      let is = can.map j (omega (arith, free.low)) (omega (arith, free.high)) in
      (omega (arith, bit, is, in_unit_le m j), omega (arith, bit, is, in_unit_le m j))

  module _ (some : 1 ≤ n) where
    from_run : {k : ℕ} → 1 ≤ k → FreeRun m held n k → FreeFrom image n k
    from_run {k} a run =
        let last = in_unit_out m (k + (n - 1)) (omega (arith, (run (k + (n - 1)) (omega arith) (omega arith)).0)) in
        record {
          low = a;
          high = omega (arith, last.1, can.own.most);
          free = λ j p q. (let is = run j p q in omega (arith, is.0, is.1, can.map j (omega arith) (omega (arith, last.1, can.own.most))));
        }

    found_is : {k : Slice} {r : Option Slice} → FindsStretch image n r → r ≡ Some k → lowest_stretch m held n ≡ k.0
    found_is {k} finds e =
        let free = finds.found k e in
        let run = run_from free in
        stretch_is m held n k.0 free.low (in_unit_out m k.0 (omega (arith, (run k.0 (omega arith) (omega arith)).0))).1 run
        (λ j a other. finds.lowest k e j (from_run a other))

    none_is : {r : Option Slice} → FindsStretch image n r → r ≡ None → lowest_stretch m held n ≡ 0
    none_is finds e = stretch_none m held n (λ j a other. finds.none e j (from_run a other))

-- ---- by 01's choice

module _ {image block : List ℕ} {F s m n : ℕ} {held slices : List ℕ} (can : CanTakeFrom image block F s m n held slices) {after new : List ℕ} {r : Bool}
    (took : TakenFrom image F s slices (taken m held (last_of slices) n) after new r) where
  -- nothing is taken
  pub took_nothing : n ≡ 0 → TakenFrom image F s slices (taken_for_file m held slices n) after new r
  took_nothing z = rw (ap (taken_for_file m held slices) z ∙ for_file_none m held slices ∙ ap (taken m held (last_of slices)) (sym z)) took

  -- the file has slices
  pub took_last : pair_count block 0 ≢ 0 → TakenFrom image F s slices (taken_for_file m held slices n) after new r
  took_last d = rw (for_file_last m held slices n (has_some can.own d)) took

  -- no stretch is long enough
  pub took_old : 1 ≤ n → pair_count block 0 ≡ 0 → {c : Option Slice} → FindsStretch image n c → c ≡ None → TakenFrom image F s slices (taken_for_file m held slices n) after new r
  took_old some e finds is =
      let none = has_none can.own e in
      rw (ap (λ (l : List ℕ). taken_for_file m held l n) none ∙ for_file_old m held n (none_is can some finds is) ∙ ap (λ (l : List ℕ). taken m held (last_of l) n) (sym none)) took

-- ---- in one stretch

module _ {image block : List ℕ} {F s m n : ℕ} {held slices : List ℕ} (can : CanTakeFrom image block F s m n held slices) (some : 1 ≤ n) (e : pair_count block 0 ≡ 0)
    {k : Slice} {c : Option Slice} (finds : FindsStretch image n c) (is : c ≡ Some k) where
  none : slices ≡ []
  none = has_none can.own e

  first_run : FreeRun m held n k.0
  first_run = run_from can (finds.found k is)

  first_fresh : Fresh m 1 held (k.0 ∷ [])
  first_fresh =
      let here = first_run k.0 (omega arith) (omega arith) in
      record { once = once_cons m k.0 held can.once here.1 here.0; count = refl }

  one : CanTakeFrom image block F s m 1 held slices
  one = can_fewer can some

  first_few : stretch_count (slices ++ (k.0 ∷ [])) ≤ 127
  first_few = rw none (omega arith)

  pub first_inside : (1 ≤ k.0) × (k.0 ≤ 4096)
  first_inside = let i = inside one first_fresh in (i.0, omega (arith, i.1, can.own.most))

  pub first_ready : Appendable F s k.0 block
  first_ready = ready one first_fresh first_few

  module _ {marked words : List ℕ} (a : marked ≡ marked_used image k.0) (b : words ≡ appended F s k.0 block) where
    -- the rest is taken by 01's choice
    pub can_rest : CanTakeFrom marked words F s m (n - 1) (k.0 ∷ held) (slices ++ (k.0 ∷ []))
    can_rest =
        let own = longer_own one first_fresh first_few (b ∙ appended_is one first_fresh first_few) in
        rw (a ∙ sym (all_marked_one 0 image k.0))
        (can_after 1 (n - 1) (can_fewer can (omega arith)) first_fresh own (λ j. omega (arith, occurrences_append j slices (k.0 ∷ []), can.part j)))

    -- the slices after the first
    abbrev others : List ℕ
    others = taken m (k.0 ∷ held) k.0 (n - 1)

    all_taken : taken_for_file m held slices n ≡ k.0 ∷ others
    all_taken =
        let count : n ≡ suc (n - 1) = omega arith in
        ap (λ (l : List ℕ). taken_for_file m held l n) none ∙ ap (taken_for_file m held []) count
        ∙ for_file_first m held (n - 1) k.0 first_inside.0 (ap (lowest_stretch m held) (sym count) ∙ found_is can some finds is)

    pub took_rest : {after new : List ℕ} {r : Bool} → TakenFrom marked F s (slices ++ (k.0 ∷ [])) (taken m (k.0 ∷ held) (last_of (slices ++ (k.0 ∷ []))) (n - 1)) after new r
        → TakenFrom image F s slices (taken_for_file m held slices n) after new r
    unfolding all_marked
    took_rest rest =
        let last = ap (λ (x : ℕ). taken m (k.0 ∷ held) x (n - 1)) (last_snoc slices k.0) in
        let whole : (slices ++ (k.0 ∷ [])) ++ taken m (k.0 ∷ held) (last_of (slices ++ (k.0 ∷ []))) (n - 1) ≡ slices ++ taken_for_file m held slices n =
        ap (λ (l : List ℕ). (slices ++ (k.0 ∷ [])) ++ l) last ∙ append_assoc slices (k.0 ∷ []) others ∙ ap (λ (l : List ℕ). slices ++ l) (sym all_taken) in
        record {
          fits = rw whole at rest.fits;
          marked = λ t. rest.marked t ∙ ap₂ all_used a last ∙ ap (all_used image) (sym all_taken);
          words = λ t. rest.words t ∙ ap (whole_index F s) whole;
        }
