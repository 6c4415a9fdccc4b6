-- `soundness::areas_entered` meets its contract. The invariant: the name of each open descriptor passed is entered. Assumes nothing.
use Rattle.std.proofs.Common.{sym, ◌∙◌, below_more}
use Rattle.types.specs.State.{area_at, IsOpen}
use Rattle.sound.specs.State.{area_name}
use Rattle.disc.specs.Entries.{place_count}
use Rattle.disc.proofs.DecideLaws.{true≢false}
use Rattle.sound_entries.specs.Sys.{places_in}
use Rattle.soundness.specs.Areas.{OrdinaryEntered}
use Rattle.soundness.proofs.areas_entered.Goals as goal
use Rattle.soundness.proofs.areas_entered.Goals.{else-is_open-via-then-is_open+else-not-name_entered, else-is_open-via-else-is_open}

pub loop-area-preserved : goal.loop-area-preserved
loop-area-preserved c =
    let a = c.args in
    below_more
    (λ k. IsOpen a.state k → OrdinaryEntered (places_in a.image.now a.g) (place_count a.g.keys a.sys.layers) (area_name (area_at a.state k)))
    c.loop-area.area-index
    c.loop-area.invariant
    (λ o. elim c.else-is_open.branch [
      | else-is_open-via-then-is_open+else-not-name_entered w ↦ w.name_entered.ensures.yes w.if-not-name_entered.false
      | else-is_open-via-else-is_open w ↦ absurd (true≢false (sym o ∙ sym c.is_open.ensures ∙ w.if-is_open.false))
    ])
