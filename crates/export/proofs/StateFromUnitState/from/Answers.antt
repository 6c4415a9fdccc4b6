-- `State::from` of a mirror meets its contract: each of the eight areas is that of its mirror. Assumes nothing.
use Rattle.std.proofs.Common.{◌≡◌, arith}
use Rattle.types.specs.State.{past_area}
use Rattle.std.proofs.lemmas.Grind.{common_steps}
use Rattle.export.proofs.MirrorLaws.{eight_are}
use Rattle.export.proofs.StateFromUnitState.from.Goals as goal

pub returns : goal.returns
returns c =
    let items = c.map.ensures.items in
    let each = items.each in
    let l : c.map.result ≡ _ = eight_are past_area c.map.result items.long in
    rw l (grind (arith, common_steps))
