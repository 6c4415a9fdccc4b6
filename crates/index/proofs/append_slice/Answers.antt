-- `index::append_slice` meets its contract: the slice joins the last pair or makes one more. Assumes nothing.
use mathlib.Core.Path.{◌≡◌, ap}
use Prim.Native.Nat.{ℕ, ◌-◌, ◌*◌}
use native.Mathlib.Omega.{arith}
use lib.ListN.{get_or}
use Rattle.disc.specs.Pairs.{pair_length}
use Rattle.index.specs.Block.{pair_count, extended}
use Rattle.index.proofs.CaseLaws.{joins_pair, pair_le, lengthened_last, appended_joined, appended_apart}
use Rattle.index.proofs.append_slice.Goals as goal

pub overflow_sub-words : goal.overflow_sub-words
overflow_sub-words c =
    let a = c.args in
    omega (arith, joins_pair a.first.0 a.s a.words.now 0 _ c.pair_count-n.ensures a.k.0 _ c.joins_at.ensures c.if-joins_at.true)

pub overflow_add-words : goal.overflow_add-words
overflow_add-words c =
    let n = c.pair_count-n in
    let a = c.args in
    let w = a.words.now in
    let some = joins_pair a.first.0 a.s w 0 _ n.ensures a.k.0 _ c.joins_at.ensures c.if-joins_at.true in
    let last : get_or w (2 * n.result - 1) 0 ≡ pair_length w 0 (n.result - 1) = ap (λ (k : ℕ). get_or w k 0) (omega (arith, some)) in
    omega (arith, last, n.ensures, pair_le w 0 (pair_count w 0) 0 (n.result - 1) (omega arith) (omega (arith, some, n.ensures)), c.requires.1.sectors)

pub returns-then-joins_at : goal.returns-then-joins_at
returns-then-joins_at c =
    let n = c.pair_count-n in
    let a = c.args in
    let some = joins_pair a.first.0 a.s a.words.now 0 _ n.ensures a.k.0 _ c.joins_at.ensures c.if-joins_at.true in
    appended_joined a.first.0 a.s a.k.0 a.words.now n.result n.ensures _ c.joins_at.ensures _ c.if-joins_at.true
    (lengthened_last a.s a.words.now n.result (2 * n.result - 1) (omega (arith, some)))

pub returns-else-joins_at : goal.returns-else-joins_at
unfolding extended
returns-else-joins_at c =
    let n = c.pair_count-n in
    let a = c.args in
    appended_apart a.first.0 a.s a.k.0 a.words.now n.result n.ensures _ c.joins_at.ensures _ _
    c.if-joins_at.false c.slice_start.ensures c.set_pair.ensures
