-- `map::count_free` meets its contract. The loop's invariant: the ones of the words before w are summed. Assumes nothing.
use mathlib.Core.Path.{◌∙◌}
use Prim.Native.Nat.{◌+◌}
use native.Mathlib.Omega.{arith}
use lib.Count.{ones-le}
use Rattle.map.proofs.CountLaws.{ones_all, ones_more}
use Rattle.map.proofs.count_free.Goals as goal

pub overflow_cast-free : goal.overflow_cast-free
overflow_cast-free c =
    let l = c.loop-w in
    let few = ones-le 16 _ (c.type_inv.image (2304 + l.w)).fits in
    omega arith

pub overflow_add-free : goal.overflow_add-free
overflow_add-free c =
    let l = c.loop-w in
    let few = ones-le 16 _ (c.type_inv.image (2304 + l.w)).fits in
    omega arith

pub loop-w-preserved : goal.loop-w-preserved
loop-w-preserved c =
    let w = c.loop-w.w in
    let few = ones-le 16 _ (c.type_inv.image (2304 + w)).fits in
    omega (arith, ones_more c.args.image.now w)

pub returns : goal.returns
returns c = c.loop-w.invariant.0 ∙ ones_all _ c.loop-w.w (omega arith)
