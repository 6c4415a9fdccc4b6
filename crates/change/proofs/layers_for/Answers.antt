-- `change::layers_for` meets its contract. Assumes nothing.
use native.Mathlib.Omega.{arith}
use Rattle.change.proofs.LayerLaws.{some_layers, none_is, some_is, layers_kept, layers_same, layers_found, layers_more}
use Rattle.change.proofs.layers_for.Goals as goal
use Rattle.change.proofs.layers_for.Goals.{else-w-via-then-w+then-key+else-is_none, else-w-via-then-w+else-key, else-w-via-else-w}

pub overflow_add-result : goal.overflow_add-result
overflow_add-result c = omega (arith, (some_layers c.requires).1)

pub returns-then-is_none : goal.returns-then-is_none
returns-then-is_none c =
    let a = c.args in
    layers_more a.image.now a.unit _ a.w c.if-w.true c.key-key.ensures c.key.ensures c.if-key.true c.find_unused.ensures.found
    (none_is _ c.is_none.ensures c.if-is_none.true)

pub returns-else-w : goal.returns-else-w
returns-else-w c =
    let a = c.args in
    elim c.else-w.branch [
      | else-w-via-then-w+then-key+else-is_none w ↦
          layers_found a.image.now a.unit _ a.w w.if-w.true c.key-key.ensures w.key.ensures w.if-key.true w.find_unused.ensures.found
          (some_is _ w.is_none.ensures w.if-is_none.false).1
      | else-w-via-then-w+else-key w ↦ layers_same a.image.now a.unit _ a.w w.if-w.true c.key-key.ensures w.key.ensures w.if-key.false
      | else-w-via-else-w w ↦ layers_kept a.image.now a.unit _ a.w w.if-w.false
    ]
