-- `slices::zero_sectors` meets its contract. The loop's invariant: j sectors are zeroed, for every slice list that fits, and the walk along the
-- block has not passed the next.
use mathlib.Core.Path.{◌≡◌, ap, ◌∙◌}
use Prim.Native.Nat.{◌<◌}
use native.Mathlib.Omega.{arith}
use Rattle.index.proofs.AlongLaws.{along_start}
use Rattle.refine.specs.Writes.{zeroed_sectors}
use Rattle.slices.proofs.ZeroLaws.{zero_none, zero_next, zero_inside}
use Rattle.slices.proofs.zero_sectors.Goals as goal

pub loop-j-init : goal.loop-j-init
loop-j-init c = record { zeroed = λ F s m slices can. zero_none _ F s slices _; behind = omega arith; along = along_start _ }

pub clear_sector-requires : goal.clear_sector-requires
clear_sector-requires c =
    zero_inside c.requires.can c.loop-j.image c.loop-j.j c.sector_along-at.result.sector.0 (omega arith)
    c.sector_along-at.ensures.sector c.loop-j.auto.image

pub loop-j-preserved : goal.loop-j-preserved
loop-j-preserved c =
    let lt : c.loop-j.j < c.args.n = omega arith in
    let reaches = c.sector_along-at.ensures in
    record {
      zeroed = λ F s m slices can.
          zero_next can c.loop-j.image c.loop-j.j c.sector_along-at.result.sector.0 lt reaches.sector
          (c.loop-j.invariant.zeroed F s m slices can) c.clear_sector.ensures;
      behind = omega (arith, reaches.behind);
      along = reaches.along;
    }

pub returns : goal.returns
returns c =
    let a = c.args in
    let e : c.loop-j.j ≡ a.n = omega arith in
    record { all = λ F s m slices can. c.loop-j.invariant.zeroed F s m slices can ∙ ap (zeroed_sectors a.image.now F s slices a.from) e }
