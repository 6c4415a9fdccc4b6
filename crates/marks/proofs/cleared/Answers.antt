-- `marks::cleared` meets its contract. The loop's invariant: the sum is 0 exactly if the words passed are 0. Assumes nothing.
use Rattle.std.proofs.Common.{◌∙◌, ap, ℕ, ◌+◌, get_or, add_assoc, arith}
use Rattle.std.proofs.lemmas.List.Edits.{length-between, get_or-between}
use Rattle.marks.proofs.WordTests.{zero_more, zero_cleared}
use Rattle.marks.proofs.cleared.Goals as goal

pub loop-word-preserved : goal.loop-word-preserved
loop-word-preserved c =
    let l = c.loop-word in
    let a = c.args in
    let size = length-between a.image.now (2304 + a.n) 2560 (omega arith) in
    let word = get_or-between a.image.now (2304 + a.n) 2560 l.word-index 0 (omega arith) in
    (omega (arith, c.type_inv.image (2304 + a.n + l.word-index)), zero_more (omega arith) (omega arith) (word ∙ ap (λ (i : ℕ). get_or a.image.now i 0) (add_assoc 2304 a.n l.word-index)) l.invariant.1)

pub returns : goal.returns
returns c =
    let size = length-between c.args.image.now (2304 + c.args.n) 2560 (omega arith) in
    zero_cleared (omega arith) c.loop-word.invariant.1
