-- `map::with_bit` meets its contract: no step leaves the words. Assumes nothing.

use native.Mathlib.Omega.{arith}
use lib.Pow.{pow_pos}
use Rattle.map.proofs.Digits.{with_lt}
use Rattle.map.proofs.with_bit.Goals as goal

pub nonzero_div-result : goal.nonzero_div-result
nonzero_div-result c = rw c.bit_word-bit.ensures (pow_pos _)

pub overflow_add-result : goal.overflow_add-result
overflow_add-result c =
    record { fits = rw c.bit_word-bit.ensures (with_lt _ (omega arith) _ 16 _ (omega arith) c.ranges.word.fits) }
