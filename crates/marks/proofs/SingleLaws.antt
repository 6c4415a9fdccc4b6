-- Laws of a file in one stretch of slices, whose index block has one pair: each refusal, and the slices that are marked.
use mathlib.Core.Path.{◌≡◌, refl, sym, ap, ◌∙◌}
use mathlib.Core.Bool.{Bool, true, false}
use mathlib.Core.List.{List}
use Prim.Native.Nat.{ℕ, ◌+◌, ◌-◌, ◌*◌, ◌/◌, ◌≤◌}
use native.Mathlib.Nat.{add-mul, mul-le-mul_right, mul-div_cancel, le_of_mul-le-mul_right}
use native.Mathlib.Omega.{arith}
use Rattle.std.specs.Prelude.{Some}
use Rattle.disc.specs.Numbers.{slice_start}
use Rattle.disc.proofs.DecideLaws.{true≢false}
use Rattle.kit.specs.declared.Geometry.{Geometry}
use Rattle.kit.specs.Geometry.{UnitOf}
use Rattle.kit.proofs.KitLaws.{whole_product, product_whole}
use Rattle.marks.specs.Marked.{SomeMarked, RunMarking, run_marks}
use Rattle.marks.specs.Indexed.{WholeSlices, PairMarking, PairsMarking, OnePair, SingleFile, SingleMarking}
use Rattle.marks.proofs.RunLaws.{run_marking, run_done}
use Rattle.marks.proofs.PairLaws.{mark_pair, some_count, unit_sectors}
use Rattle.marks.proofs.IndexMarks.{passed_none, passed_more, mark_index}

module _ (image : List ℕ) (g : Geometry) (q sectors : ℕ) where
  abbrev from : ℕ
  from = (q - g.first.0) / g.slice

  abbrev count : ℕ
  count = sectors / g.slice

  pub single_left : {before : List ℕ} → (SingleFile image g q sectors before → ⊥) → SingleMarking image g q sectors before before false
  single_left no_way = record { yes = λ e. absurd (true≢false (sym e)); not = λ _. (no_way, refl) }

  module _ (unit : UnitOf image g) where
    positive : 1 ≤ g.slice
    positive = omega (arith, unit.limits.slice_low)

    -- such a file has its slices in the unit
    pub single_fits : {before : List ℕ} → SingleFile image g q sectors before → from + count ≤ g.slices
    single_fits file =
        let all = unit_sectors g unit.limits unit.slices in
        let start = whole_product (q - g.first.0) g.slice file.slices.aligned in
        let size = whole_product sectors g.slice file.slices.whole in
        let product : (from + count) * g.slice ≤ g.slices * g.slice = omega (arith, add-mul from count g.slice, file.slices.low, file.high, unit.limits.some_data) in
        le_of_mul-le-mul_right product positive

    -- it starts where a slice does
    pub single_starts : {before : List ℕ} → SingleFile image g q sectors before → q ≡ slice_start g.first.0 g.slice (from + 1)
    single_starts file =
        let e : from + 1 - 1 ≡ from = omega arith in
        rw e (omega (arith, whole_product (q - g.first.0) g.slice file.slices.aligned, file.slices.low))

    pub single_count : {before : List ℕ} → SingleFile image g q sectors before → (sectors ≡ count * g.slice) × (1 ≤ count)
    single_count file = (sym (whole_product sectors g.slice file.slices.whole), some_count g sectors q file.slices)

    module _ (k n : ℕ) (one : 1 ≤ k) (starts : q ≡ slice_start g.first.0 g.slice k) (whole : n * g.slice ≡ sectors) (some : 1 ≤ n)
        (fits : k - 1 + n ≤ g.slices) where
      -- what is multiplied back are the quotients
      from_is : k - 1 ≡ from
      from_is =
          let e : (k - 1) * g.slice ≡ q - g.first.0 = omega arith in
          sym (ap (λ (m : ℕ). m / g.slice) (sym e) ∙ mul-div_cancel (k - 1) positive)

      count_is : n ≡ count
      count_is = sym (ap (λ (m : ℕ). m / g.slice) (sym whole) ∙ mul-div_cancel n positive)

      pub single_slices : WholeSlices g.first.0 g.slice sectors q
      single_slices = record {
        some = omega (arith, mul-le-mul_right g.slice some, positive);
        whole = product_whole sectors g.slice (ap (λ (m : ℕ). m * g.slice) (sym count_is) ∙ whole);
        low = omega arith;
        aligned = product_whole (q - g.first.0) g.slice (ap (λ (m : ℕ). m * g.slice) (sym from_is) ∙ (let e : (k - 1) * g.slice ≡ q - g.first.0 = omega arith in e));
      }

      pub single_high : q + sectors ≤ g.sectors
      single_high =
          let most : (k - 1 + n) * g.slice ≤ g.slices * g.slice = mul-le-mul_right g.slice fits in
          omega (arith, unit_sectors g unit.limits unit.slices, add-mul (k - 1) n g.slice, unit.limits.some_data)

      pub single_marked : {before after : List ℕ} {r : Bool} → OnePair image q sectors → RunMarking r (k - 1) n before after → SingleMarking image g q sectors before after r
      single_marked {before} {after} {r} pair run =
          let moved : RunMarking r from count before after = rw (← from_is, ← count_is) run in
          record {
            yes = λ e. let y = moved.yes e in (record { slices = single_slices; high = single_high; pair = pair; free = y.0 }, y.1);
            not = λ e. (λ file. (moved.not e).0 file.free, (moved.not e).1);
          }

  -- ---- what such a file's index block says

  module _ (unit : UnitOf image g) {before after : List ℕ} (held : SomeMarked g.slices before) (file : SingleFile image g q sectors before)
      (is : after ≡ run_marks before from count) where
    pub single_whole : count * g.slice ≡ sectors
    single_whole = whole_product sectors g.slice file.slices.whole

    pair : PairMarking g sectors q before after (Some count)
    pair =
        let fits = single_fits unit file in
        mark_pair g sectors q unit.limits unit.slices file.slices.low (whole_product (q - g.first.0) g.slice file.slices.aligned) single_whole fits (single_count unit file).1 true
        (run_marking from count (omega (arith, fits, unit.slices, unit.limits.slices_high)) (run_done from count file.free is))

    pub single_index : PairsMarking image g q before after (Some (record { slices = count; start = record { 0 = q } }))
    single_index =
        let block = file.pair in
        let pass = passed_more image g q held (passed_none image g q before) {after = after} count
        (λ z. omega (arith, block.start, file.slices.low, unit.limits.first)) (rw (block.length, block.start) pair) in
        mark_index image g q unit _ (omega (arith, block.count)) (omega (arith, block.count)) (sym block.count) pass (omega arith) (sym block.start)
