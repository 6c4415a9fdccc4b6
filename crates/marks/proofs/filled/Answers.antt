-- `marks::filled` meets its contract. The loop's invariant: the words passed and their marks add up to FFFFh. Assumes nothing.
use Rattle.std.proofs.Common.{refl, arith}
use Rattle.disc.proofs.DecideLaws.{holds, fails}
use Rattle.marks.proofs.WordTests.{filled_more, filled_fails, filled_all}
use Rattle.marks.proofs.filled.Goals as goal

pub returns-then-image-w-ne65535 : goal.returns-then-image-w-ne65535
returns-then-image-w-ne65535 c =
    fails (filled_fails c.loop-w.w _ _ _ c.loop-w-test.true refl c.packed.ensures.0 c.if-image-w-ne65535.true)

pub loop-w-preserved : goal.loop-w-preserved
loop-w-preserved c = filled_more c.loop-w.w _ _ refl c.packed.ensures.0 c.if-image-w-ne65535.false c.loop-w.invariant

pub returns : goal.returns
returns c = holds (filled_all c.loop-w.w _ (omega arith) c.loop-w.invariant)
