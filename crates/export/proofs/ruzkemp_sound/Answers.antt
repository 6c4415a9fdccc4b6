-- `export::ruzkemp_sound` meets its contract. Assumes nothing.
use mathlib.Core.Path.{subst}
use Rattle.types.specs.declared.State.{State}
use Rattle.disc.specs.Decide.{Decides}
use Rattle.sound.specs.Sound.{SoundUnit}
use Rattle.export.proofs.ruzkemp_sound.Goals as goal

pub returns : goal.returns
returns c =
    let args = c.args in
    subst (λ (s : State). Decides c.sound.result (SoundUnit args.image.now s)) c.from.ensures c.sound.ensures
