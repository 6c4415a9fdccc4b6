-- Laws of marking one pair of an index block: each refusal, and the pair that is marked.
use mathlib.Core.Path.{◌≡◌, refl, ap, ◌∙◌}
use mathlib.Core.Bool.{Bool, true, false}
use mathlib.Core.List.{List, ◌++◌}
use Prim.Native.Nat.{ℕ, zero, suc, ◌+◌, ◌-◌, ◌*◌, ◌/◌, ◌≤◌, ◌<◌}
use native.Mathlib.Nat.{add-mul, mul-pos, mul-le-mul_right}
use native.Mathlib.Omega.{arith}
use Rattle.std.specs.Prelude.{None}
use Rattle.std.specs.Bool.{then_some}
use Rattle.disc.specs.Numbers.{slice_count}
use Rattle.disc.specs.Slices.{InRangeOnce}
use Rattle.disc.specs.Stretches.{span}
use Rattle.disc.specs.Kit.{Limits}
use Rattle.disc.proofs.SliceLaws.{in_unit_no, occurrences_append}
use Rattle.disc.proofs.SpanLaws.{span_in}
use Rattle.sound.specs.Parts.{Marking}
use Rattle.kit.specs.declared.Geometry.{Geometry}
use Rattle.kit.proofs.KitLaws.{whole_product, product_whole}
use Rattle.marks.specs.Marked.{Marked}
use Rattle.marks.specs.Indexed.{WholeSlices, PairMarking}
use Rattle.marks.proofs.MarkLaws.{marks, refuses}

-- the unit's slices are all its data sectors
pub unit_sectors : (g : Geometry) → Limits g.keys g.slice g.first.0 g.sectors → g.slices ≡ slice_count g.slice g.first.0 g.sectors
    → g.slices * g.slice ≡ g.sectors - g.first.0
unit_sectors g limits unit =
    ap (λ (n : ℕ). n * g.slice) unit ∙ whole_product (g.sectors - g.first.0) g.slice limits.whole

module _ (g : Geometry) (sectors start : ℕ) where
  abbrev from : ℕ
  from = (start - g.first.0) / g.slice

  abbrev count : ℕ
  count = sectors / g.slice

  abbrev Whole : Type 0
  Whole = WholeSlices g.first.0 g.slice sectors start

  pub refuse_pair : {before after : List ℕ}
      → ((held : List ℕ) → Marked g.slices before held → Whole → InRangeOnce g.slices (held ++ span (from + 1) count) → ⊥)
      → PairMarking g sectors start before after None
  refuse_pair no_way = record {
    marking = λ held marked. refuses (no_way held marked);
    slices = tt;
    high = tt;
  }

  -- a pair that describes some slices has some count
  pub some_count : Whole → 1 ≤ count
  some_count whole = go count refl
    where
      go : (c : ℕ) → count ≡ c → 1 ≤ c
      go zero e = absurd (omega (arith, whole.some, whole_product sectors g.slice whole.whole, ap (λ (n : ℕ). n * g.slice) e))
      go (suc c) e = omega arith

  -- slices past the unit's last
  pub past_unit : (held : List ℕ) → g.slices < from + count → Whole → InRangeOnce g.slices (held ++ span (from + 1) count) → ⊥
  past_unit held past whole once =
      let k = from + count in
      let some = some_count whole in
      omega (
        arith,
        once k,
        in_unit_no g.slices k past,
        occurrences_append k held (span (from + 1) count),
        span_in count (from + 1) k (omega arith) (omega arith),
      )

  module _ (limits : Limits g.keys g.slice g.first.0 g.sectors) (unit : g.slices ≡ slice_count g.slice g.first.0 g.sectors)
      (low : g.first.0 ≤ start) (aligned : from * g.slice ≡ start - g.first.0) (whole : count * g.slice ≡ sectors) (fits : from + count ≤ g.slices)
      (some : 1 ≤ count) where
    pair_high : start + sectors ≤ g.sectors
    pair_high =
        let most : (from + count) * g.slice ≤ g.slices * g.slice = mul-le-mul_right g.slice fits in
        omega (arith, unit_sectors g limits unit, add-mul from count g.slice, limits.some_data)

    pub mark_pair : {before after : List ℕ} (r : Bool)
        → ((m : ℕ) (held : List ℕ) → from + count ≤ m → Marked m before held → Marking r (Unit {0}) m after held (span (from + 1) count))
        → PairMarking g sectors start before after (then_some r count)
    mark_pair false run = refuse_pair (λ held marked whole once. (run g.slices held fits marked).not refl tt once)
    mark_pair true run = record {
      marking = λ held marked.
          let k = (run g.slices held fits marked).yes refl in
          marks
          (record { some = positive; whole = product_whole sectors g.slice whole; low = low; aligned = product_whole (start - g.first.0) g.slice aligned })
          (record { is = k.2; once = k.1 });
      slices = (some, refl);
      high = pair_high;
    }
      where
        positive : 1 ≤ sectors
        positive = let c : 0 < count = omega arith in let t : 0 < g.slice = omega (arith, limits.slice_low) in omega (arith, mul-pos c t)
