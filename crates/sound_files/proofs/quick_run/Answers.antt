-- `sound_files::quick_run` meets its contract: the places before place i are legal if no area process of an unopened name is open, and
-- their slices marked. Assumes nothing.
use Rattle.std.proofs.Common.{◌≡◌, refl, subst, arith}
use Rattle.sound_files.specs.Live.{Unopened}
use Rattle.sound_files.specs.Walk.{places_from}
use Rattle.sound_files.proofs.PlainLaws.{closed_none, closed_some, closed_more, closed_end}
use Rattle.sound_files.proofs.quick_run.Goals as goal
use Rattle.sound_files.proofs.quick_run.Goals.{else-this-ne0-via-then-this-ne0+else-may_have, else-this-ne0-via-else-this-ne0}

pub loop-i-init : goal.loop-i-init
loop-i-init g c = closed_none c.args.image.now c.args.g (places_from c.args.image.now c.args.at) c.args.files.now _

pub returns-then-may_have : goal.returns-then-may_have
returns-then-may_have g c =
    closed_end c.args.image.now c.args.g (places_from c.args.image.now c.args.at) c.args.files.now c.loop-i.i c.requires.1 c.loop-i.invariant _ (omega arith) refl

pub plain_place-requires : goal.plain_place-requires
plain_place-requires g c = (
  c.requires.0,
  closed_some c.args.image.now c.args.g (places_from c.args.image.now c.args.at) c.args.files.now c.loop-i.i c.requires.1 c.loop-i.invariant,
  omega arith,
  c.reciprocal-reciprocal.ensures.0,
  c.requires.3 c.loop-i.i (omega arith),
)

pub returns-then-not-plain_place : goal.returns-then-not-plain_place
returns-then-not-plain_place g c =
    closed_end c.args.image.now c.args.g (places_from c.args.image.now c.args.at) c.args.files.now c.loop-i.i c.requires.1 c.loop-i.invariant _ (omega arith)
    (c.plain_place.ensures.not c.if-not-plain_place.true)

pub loop-i-preserved : goal.loop-i-preserved
loop-i-preserved g c =
    closed_more c.args.image.now c.args.g (places_from c.args.image.now c.args.at) c.args.files.now c.loop-i.i c.requires.1 c.loop-i.invariant c.plain_place.ensures c.if-not-plain_place.false
    (elim c.else-this-ne0.branch [
      | else-this-ne0-via-then-this-ne0+else-may_have w ↦ subst (Unopened c.args.files.now) w.name_at.ensures (w.may_have.ensures w.if-may_have.false)
      | else-this-ne0-via-else-this-ne0 w ↦ λ d. absurd (d (c.requires.4 (rw w.if-this-ne0.false refl)))
    ])

pub returns : goal.returns
returns g c =
    let e : c.loop-i.i ≡ c.args.count = omega arith in
    rw (← e) (closed_end c.args.image.now c.args.g (places_from c.args.image.now c.args.at) c.args.files.now c.loop-i.i c.requires.1 c.loop-i.invariant _ (omega arith) refl)
