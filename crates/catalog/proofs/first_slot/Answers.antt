-- `catalog::first_slot` meets its contract: what is sought is the first slot from i on. Assumes nothing.
use mathlib.Core.Path.{refl}
use native.Mathlib.Omega.{arith}
use borrow.Author.Tests.{lt-ltb}
use Rattle.catalog.proofs.WalkLaws.{slot_here, slot_next, slot_none}
use Rattle.catalog.proofs.first_slot.Goals as goal

pub returns-then-test : goal.returns-then-test
returns-then-test g c = λ t post.
    let i = c.loop-i.i in
    let low = c.loop-i-test.true in
    rw (← slot_here t i (c.loop-i.invariant t post) low (post i _ low c.test.ensures) c.if-test.true, lt-ltb i 16 low) refl

pub loop-i-preserved : goal.loop-i-preserved
loop-i-preserved g c = λ t post.
    let low = c.loop-i-test.true in
    slot_next t c.loop-i.i (c.loop-i.invariant t post) low (post c.loop-i.i _ low c.test.ensures) c.if-test.false

pub returns : goal.returns
returns g c = λ t post. rw (← slot_none t c.loop-i.i (c.loop-i.invariant t post) (omega arith) c.loop-i-test.false) refl
