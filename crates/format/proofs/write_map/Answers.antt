-- `format::write_map` meets its contract: after w turns the first w words of the map are stored. Assumes nothing.
use mathlib.Core.Path.{◌∙◌}
use native.Mathlib.Omega.{arith}
use Rattle.disc.specs.Stretches.{span}
use Rattle.format.proofs.MapLaws.{map_none, map_more, map_done}
use Rattle.format.proofs.write_map.Goals as goal

pub loop-w-init : goal.loop-w-init
loop-w-init c = let a = c.args in map_none a.image.now a.slices (span 1 a.used)

pub loop-w-preserved : goal.loop-w-preserved
loop-w-preserved c =
    let a = c.args in
    map_more a.image.now a.slices (span 1 a.used) c.loop-w.w _ _ _ c.map_word.ensures c.loop-w.invariant c.set_word.ensures

pub returns : goal.returns
returns c =
    let a = c.args in
    c.loop-w.invariant ∙ map_done a.image.now a.slices (span 1 a.used) c.loop-w.w (omega arith)
