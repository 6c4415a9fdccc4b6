-- `export::format_step` meets its contract. Assumes nothing.
use mathlib.Core.Path.{sym, ap, ◌∙◌}
use Rattle.sound.specs.State.{Shaped}
use Rattle.format.proofs.FormatUnit.{format_shaped}
use Rattle.export.specs.Mirror.{remirrored}
use Rattle.export.proofs.ShapeLaws.{arrays}
use Rattle.export.proofs.MirrorLaws.{state_shaped, mirror_kept}
use Rattle.export.proofs.CallLaws.{formats}
use Rattle.export.proofs.format_step.Goals as goal

pub returns-in-Ok : goal.returns-in-Ok
returns-in-Ok c =
    let shaped : Shaped c.from.result = rw c.from.ensures (state_shaped c.args.state) in
    formats (arrays c.args.state _ c.well_formed.0) c.from.ensures (format_shaped shaped c.in-Ok.ensures) c.remirror.ensures c.in-Ok.ensures

-- a mirror refused is the one that stands for the same state
pub returns-in-Err : goal.returns-in-Err
returns-in-Err c =
    let shape = arrays c.args.state _ c.well_formed.0 in
    let same = sym (ap (remirrored c.args.state) c.from.ensures ∙ mirror_kept c.args.state shape) in
    rw c.word.ensures (formats shape c.from.ensures (rw c.from.ensures (state_shaped c.args.state)) same c.in-Err.ensures)
