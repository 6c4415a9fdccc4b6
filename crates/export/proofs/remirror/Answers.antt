-- `export::remirror` meets its contract: each of the eight areas is mirrored in its place. Assumes nothing.
use Rattle.std.proofs.Common.{◌≡◌, arith}
use Rattle.std.proofs.lemmas.Grind.{common_steps}
use Rattle.export.proofs.MirrorLaws.{eight_are, past_mirror}
use Rattle.export.proofs.remirror.Goals as goal

pub returns : goal.returns
returns c =
    let items = c.from_fn.ensures.items in
    let each = items.each in
    let l : c.from_fn.result ≡ _ = eight_are past_mirror c.from_fn.result items.long in
    rw l (grind (arith, common_steps))
