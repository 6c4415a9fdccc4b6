-- `format::map_word` meets its contract: after b turns the word is made of its first b bits. Assumes nothing.
use native.Mathlib.Omega.{arith}
use Rattle.disc.specs.Stretches.{span}
use Rattle.format.proofs.MapLaws.{bits_more, bits_fit, bits_next}
use Rattle.format.proofs.map_word.Goals as goal

pub overflow_mul-word : goal.overflow_mul-word
overflow_mul-word c =
    let a = c.args in
    let l = c.loop-b in
    omega (arith, bits_fit a.slices (span 1 a.used) a.w _ _ (bits_more a.slices (span 1 a.used) a.w l.b l.word c.loop-b-test.true l.invariant))

pub overflow_add-word : goal.overflow_add-word
overflow_add-word c =
    let a = c.args in
    let l = c.loop-b in
    omega (arith, bits_fit a.slices (span 1 a.used) a.w _ _ (bits_next a.slices (span 1 a.used) a.w l.b l.word c.loop-b-test.true l.invariant c.slice_at.ensures c.map_bit.ensures))

pub loop-b-preserved : goal.loop-b-preserved
loop-b-preserved c =
    let a = c.args in
    let l = c.loop-b in
    bits_next a.slices (span 1 a.used) a.w l.b l.word c.loop-b-test.true l.invariant c.slice_at.ensures c.map_bit.ensures
