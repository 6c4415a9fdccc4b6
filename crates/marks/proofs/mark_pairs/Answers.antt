-- `marks::mark_pairs` meets its contract. The loop's invariant: the pairs passed are legal, and their slices marked. Assumes nothing.
use Rattle.std.proofs.Common.{refl, sym, ◌∙◌, arith}
use borrow.Author.Tests.{eqb-true, eqb-false}
use Rattle.marks.proofs.IndexMarks.{passed_few, passed_more, refuse_index, count_is, same_start, no_pair, mark_index}
use Rattle.marks.proofs.mark_pairs.Goals as goal

pub overflow_add-slices : goal.overflow_add-slices
overflow_add-slices c =
    let a = c.args in
    let few = passed_few a.image.now a.g a.q.0 c.requires.1 (passed_more a.image.now a.g a.q.0 c.requires.1 c.loop-j.invariant c.in_ok-slices.field-0
    (eqb-false _ _ (sym c.eq.ensures ∙ c.if-eq.false)) c.in_ok-slices.ensures) in
    omega (arith, c.requires.0.slices, c.requires.0.limits.slices_high)

pub returns-then-eq : goal.returns-then-eq
returns-then-eq c =
    let a = c.args in
    refuse_index a.image.now a.g a.q.0 (λ held marked block once.
    same_start a.image.now a.g a.q.0 c.requires.0 c.loop-j.invariant (omega (arith, c.loop-j-test.true, count_is a.image.now a.g a.q.0))
    (eqb-true _ _ (sym c.eq.ensures ∙ c.if-eq.true)) block)

pub returns-in_err-slices : goal.returns-in_err-slices
returns-in_err-slices c =
    let a = c.args in
    rw c.from_residual.ensures (refuse_index a.image.now a.g a.q.0
    (no_pair a.image.now a.g a.q.0 c.requires.0 c.loop-j.invariant (omega (arith, c.loop-j-test.true, count_is a.image.now a.g a.q.0))
    c.in_err-slices.ensures))

pub loop-j-preserved : goal.loop-j-preserved
loop-j-preserved c =
    passed_more c.args.image.now c.args.g c.args.q.0 c.requires.1 c.loop-j.invariant c.in_ok-slices.field-0
    (eqb-false _ _ (sym c.eq.ensures ∙ c.if-eq.false)) c.in_ok-slices.ensures

pub returns : goal.returns
returns c =
    let a = c.args in
    let count = count_is a.image.now a.g a.q.0 in
    mark_index a.image.now a.g a.q.0 c.requires.0 _ (omega arith) (omega arith) (omega arith) c.loop-j.invariant refl refl
