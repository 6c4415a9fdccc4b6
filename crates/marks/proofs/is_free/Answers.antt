-- `marks::is_free` meets its contract: the sum of the marks passed is 0 exactly if they are free. Assumes nothing.
use Rattle.std.proofs.Common.{◌+◌, arith}
use Rattle.std.proofs.lemmas.List.Edits.{length-between, get_or-between}
use Rattle.marks.proofs.WordTests.{zero_more, zero_free}
use Rattle.marks.proofs.is_free.Goals as goal

pub loop-mark-preserved : goal.loop-mark-preserved
loop-mark-preserved c =
    let l = c.loop-mark in
    let a = c.args in
    let size = length-between a.marks.now a.from (a.from + a.count) (omega arith) in
    let mark = get_or-between a.marks.now a.from (a.from + a.count) l.mark-index 0 (omega arith) in
    (omega arith, zero_more (omega arith) (omega arith) mark l.invariant.1)

pub returns : goal.returns
returns c =
    let size = length-between c.args.marks.now c.args.from (c.args.from + c.args.count) (omega arith) in
    zero_free (omega arith) c.loop-mark.invariant.1
