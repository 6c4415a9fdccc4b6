-- `sound_users::users_sound` meets its contract. The invariant: each open descriptor before j is legal. Assumes nothing.
use mathlib.Core.Path.{sym, ◌∙◌}
use native.Mathlib.Omega.{arith}
use Rattle.disc.proofs.DecideLaws.{holds, fails}
use Rattle.sound_users.proofs.ShapeLaws.{shaped}
use Rattle.sound_users.proofs.AreaLaws.{each_area, all_areas}
use Rattle.sound_users.proofs.users_sound.Goals as goal

pub returns-then-not-area_legal : goal.returns-then-not-area_legal
returns-then-not-area_legal c =
    let shape = shaped c.args.state _ c.well_formed.0 in
    (fails (λ s. c.area_legal.ensures.not c.if-not-area_legal.true (each_area _ shape s _ c.loop-j-test.true (sym c.is_open.ensures ∙ c.if-is_open.true))), shape)

pub returns : goal.returns
returns c =
    (holds (all_areas _ (λ j h. c.loop-j.invariant j (omega arith))), shaped c.args.state _ c.well_formed.0)
