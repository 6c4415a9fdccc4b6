-- `marks::packed` meets its contract. The loop's invariant: the marks passed are packed. Assumes nothing.
use Rattle.std.proofs.Common.{◌≡◌, sym, ap, ap₂, ◌∙◌, ℕ, ◌+◌, ◌*◌, ◌^◌, arith}
use Rattle.std.proofs.lemmas.List.Edits.{length-between, get_or-between}
use Rattle.marks.specs.Packed.{packed}
use Rattle.marks.proofs.PackedLaws.{packed_none, packed_more, packed_bound}
use Rattle.marks.proofs.packed.Goals as goal

pub loop-mark-init : goal.loop-mark-init
loop-mark-init c = (sym (packed_none _ _), omega arith)

pub loop-mark-preserved : goal.loop-mark-preserved
loop-mark-preserved c =
    let l = c.loop-mark in
    let size = length-between c.args.marks.now c.args.at (c.args.at + 16) (omega arith) in
    let mark = get_or-between c.args.marks.now c.args.at (c.args.at + 16) l.mark-index 0 (omega arith) in (
      ap₂ (λ (a b : ℕ). 2 * a + b) l.invariant.0 mark ∙ sym (packed_more _ _ l.mark-index),
      rw mark (packed_bound l.word _ l.mark-index l.invariant.1 (omega arith)),
    )

pub returns : goal.returns
returns c =
    let l = c.loop-mark in
    let size = length-between c.args.marks.now c.args.at (c.args.at + 16) (omega arith) in
    let e : l.mark-index ≡ 16 = omega arith in
    (l.invariant.0 ∙ ap (packed _ _) e, omega (arith, ap (λ (n : ℕ). 2 ^ n) e))
