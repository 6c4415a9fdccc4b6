-- `index::sector_at` meets its contract: what is sought is the sector `rest` of the stretches from pair j on. Assumes nothing.
use mathlib.Core.Path.{sym, ap, ◌∙◌}
use Prim.Native.Nat.{ℕ, ◌+◌, ◌%◌}
use native.Mathlib.Omega.{arith}
use Rattle.index.proofs.WalkLaws.{sector_none, sector_here, sector_next}
use Rattle.index.proofs.sector_at.Goals as goal

pub returns-then-rest-length : goal.returns-then-rest-length
returns-then-rest-length c =
    let n = c.pair_count-n.result in
    let a = c.args in
    c.sector_after.ensures
    ∙ ap (λ (w : ℕ). (w + c.loop-j.rest) % 65536) c.pair_start.ensures
    ∙ sym (sector_here a.image.now a.q.0 n c.loop-j.j c.loop-j.rest c.loop-j-test.true (omega (arith, c.pair_length-length.ensures)))
    ∙ c.loop-j.invariant

pub loop-j-preserved : goal.loop-j-preserved
loop-j-preserved c =
    let n = c.pair_count-n.result in
    let a = c.args in
    let e = c.pair_length-length.ensures in
    rw e (sym (sector_next a.image.now a.q.0 n c.loop-j.j c.loop-j.rest c.loop-j-test.true (omega (arith, e))) ∙ c.loop-j.invariant)

pub returns : goal.returns
returns c =
    let n = c.pair_count-n.result in
    let a = c.args in
    sym (sector_none a.image.now a.q.0 n c.loop-j.j c.loop-j.rest c.loop-j-test.false) ∙ c.loop-j.invariant
