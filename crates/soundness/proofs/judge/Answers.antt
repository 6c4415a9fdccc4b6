-- `soundness::judge` meets its contract: the answers of the steps are joined. Assumes nothing.
use Rattle.std.proofs.Common.{refl}
use Rattle.disc.specs.Decide.{Decides}
use Rattle.sound.specs.Sound.{SoundUnit}
use Rattle.kit.specs.Geometry.{SoundByKit}
use Rattle.kit.proofs.KitLaws.{sound_unit}
use Rattle.marks.proofs.MarkLaws.{mark_none}
use Rattle.soundness.proofs.TopLaws.{unit_users, unit_kit, sys_known, no_layers, decides_unit, numbers_by, not_sound, is_sound}
use Rattle.soundness.proofs.judge.Goals as goal
use Rattle.soundness.proofs.judge.Goals.{then-not-users_sound-via-then-not-users_sound, then-not-users_sound-via-else-not-users_sound+then-not-kit_sound}

pub returns-then-not-users_sound : goal.returns-then-not-users_sound
returns-then-not-users_sound c = elim c.then-not-users_sound.branch [
  | then-not-users_sound-via-then-not-users_sound w ↦ not_sound (λ u. c.users_sound.ensures.0.not w.if-not-users_sound.true (unit_users u))
  | then-not-users_sound-via-else-not-users_sound+then-not-kit_sound w ↦ not_sound (λ u. w.kit_sound.ensures.not w.if-not-kit_sound.true (unit_kit u))
]

pub mark_sys-requires : goal.mark_sys-requires
mark_sys-requires c =
    let kit : SoundByKit c.args.image.now = c.kit_sound.ensures.yes c.if-not-kit_sound.false in
    (sound_unit c.geometry_of-g.ensures kit, mark_none _ 4096 refl)

pub returns-in_default : goal.returns-in_default
returns-in_default c = not_sound (no_layers c.geometry_of-g.ensures (rw c.in_default.is at c.mark_sys.ensures))

pub layers_sound-requires : goal.layers_sound-requires
layers_sound-requires c =
    let kit : SoundByKit c.args.image.now = c.kit_sound.ensures.yes c.if-not-kit_sound.false in
    let known = c.in-Some.ensures.known in
    rw c.sys-sys.ensures (sys_known c.geometry_of-g.ensures kit known.0 known.1, refl)

pub returns-then-not-layers_sound : goal.returns-then-not-layers_sound
returns-then-not-layers_sound c =
    let kit : SoundByKit c.args.image.now = c.kit_sound.ensures.yes c.if-not-kit_sound.false in
    -- the last step decides
    let whole : Decides c.layers_sound.result (SoundUnit c.args.image.now c.args.state) = decides_unit
    c.geometry_of-g.ensures
    _
    (record { each = λ k. (c.type_inv.image k).fits })
    c.users_sound.ensures.1
    (c.users_sound.ensures.0.yes c.if-not-users_sound.false)
    kit
    c.in-Some.ensures
    c.in-Some.ensures.known.0
    (rw c.sys-sys.ensures at c.layers_sound.ensures) in
    not_sound (whole.not c.if-not-layers_sound.true)

pub returns : goal.returns
returns c =
    let kit : SoundByKit c.args.image.now = c.kit_sound.ensures.yes c.if-not-kit_sound.false in
    let whole : Decides c.layers_sound.result (SoundUnit c.args.image.now c.args.state) = decides_unit
    c.geometry_of-g.ensures
    _
    (record { each = λ k. (c.type_inv.image k).fits })
    c.users_sound.ensures.1
    (c.users_sound.ensures.0.yes c.if-not-users_sound.false)
    kit
    c.in-Some.ensures
    c.in-Some.ensures.known.0
    (rw c.sys-sys.ensures at c.layers_sound.ensures) in
    is_sound (whole.yes c.if-not-layers_sound.false)
    (λ u. rw c.sys-sys.ensures (numbers_by c.geometry_of-g.ensures c.in-Some.ensures u))
