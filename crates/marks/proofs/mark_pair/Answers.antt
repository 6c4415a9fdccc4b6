-- `marks::mark_pair` meets its contract: each test is what a pair of whole slices of the unit has. Assumes nothing.
use mathlib.Core.Path.{◌≡◌, sym, ap, ◌∙◌}
use mathlib.Core.Bool.{Bool}
use mathlib.Core.List.{List}
use Prim.Native.Nat.{ℕ, ◌+◌, ◌-◌, ◌*◌, ◌/◌, ◌≤◌}
use native.Mathlib.Omega.{arith}
use Rattle.std.proofs.lemmas.Grind.{common_steps}
use Rattle.disc.specs.Numbers.{slice_start}
use Rattle.kit.proofs.KitLaws.{whole_product}
use Rattle.marks.specs.Marked.{RunMarking}
use Rattle.marks.proofs.PairLaws.{refuse_pair, some_count, past_unit, mark_pair}
use Rattle.marks.proofs.RunLaws.{run_marking}
use Rattle.marks.proofs.mark_pair.Goals as goal
use Rattle.marks.proofs.mark_pair.Goals.{then-count-slice-via-then-count-slice, then-count-slice-via-else-count-slice+then-g-k, then-count-slice-via-else-count-slice+else-g-k+then-count-eq0}

-- the slices before the pair's, by its first sector
from_is : {k : ℕ} (n : ℕ) → k ≡ n + 1 → k - 1 ≡ n
from_is n e = omega arith

moved : {r : Bool} {k count : ℕ} {before after : List ℕ} (n : ℕ) → k ≡ n + 1 → RunMarking r (k - 1) count before after
    → RunMarking r n count before after
moved n e run = rw (← from_is n e) run

pub returns-then-not-starts_at : goal.returns-then-not-starts_at
returns-then-not-starts_at c =
    let a = c.args in
    refuse_pair _ _ _ (λ held marked whole once.
    let back = ap (λ (n : ℕ). n * a.g.slice) (from_is _ c.slice_of-k.ensures) ∙ whole_product (a.start.0 - a.g.first.0) a.g.slice whole.aligned in
    let e : a.start.0 ≡ slice_start a.g.first.0 a.g.slice c.slice_of-k.result.0 = omega (arith, back, whole.low) in
    c.starts_at.ensures.not c.if-not-starts_at.true e)

pub returns-then-count-slice : goal.returns-then-count-slice
returns-then-count-slice c =
    let a = c.args in
    elim c.then-count-slice.branch [
      | then-count-slice-via-then-count-slice w ↦
          refuse_pair _ _ _ (λ held marked whole once. w.if-count-slice.true (whole_product a.sectors a.g.slice whole.whole))
      | then-count-slice-via-else-count-slice+then-g-k w ↦
          refuse_pair _ _ _ (λ held marked. past_unit a.g a.sectors a.start.0 held (omega (arith, from_is _ c.slice_of-k.ensures, w.if-g-k.true)))
      | then-count-slice-via-else-count-slice+else-g-k+then-count-eq0 w ↦
          refuse_pair _ _ _ (λ held marked whole once. omega (arith, some_count a.g a.sectors a.start.0 whole, w.if-count-eq0.true))
    ]

pub returns : goal.returns
returns c =
    let a = c.args in
    let from : ℕ = (a.start.0 - a.g.first.0) / a.g.slice in
    let count : ℕ = a.sectors / a.g.slice in
    let low : a.g.first.0 ≤ a.start.0 = grind (arith, common_steps) in
    let fits : from + count ≤ a.g.slices = omega (arith, from_is _ c.slice_of-k.ensures, c.if-g-k.false) in
    let at : a.start.0 ≡ slice_start a.g.first.0 a.g.slice c.slice_of-k.result.0 = c.starts_at.ensures.yes c.if-not-starts_at.false in
    let back : from * a.g.slice ≡ a.start.0 - a.g.first.0 = ap (λ (n : ℕ). n * a.g.slice) (sym (from_is _ c.slice_of-k.ensures)) ∙ (let e : (c.slice_of-k.result.0 - 1) * a.g.slice ≡ a.start.0 - a.g.first.0 = omega arith in e) in
    rw c.then_some.ensures
    (mark_pair a.g a.sectors a.start.0 c.requires.0 c.requires.1 low back c.if-count-slice.false fits (omega arith) _
    (run_marking from count (omega (arith, fits, c.requires.1, c.requires.0.slices_high)) (moved _ c.slice_of-k.ensures c.mark_slices.ensures)))
