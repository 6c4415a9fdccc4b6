use Rattle.std.proofs.Common.{ℕ, ◌<◌}
use Rattle.types.specs.State.{area_at, IsOpen}
use Rattle.sound.specs.State.{area_name}
use Rattle.disc.specs.Entries.{place_count}
use Rattle.sound_entries.specs.Sys.{places_in}
use Rattle.soundness.specs.Areas.{OrdinaryEntered}
use Rattle.soundness.proofs.areas_entered.Given as goal

abbrev pub invariant-loop-area : goal.invariant-loop-area
invariant-loop-area l =
    (k : ℕ) → k < l.area-index → IsOpen l.fn.state k → OrdinaryEntered (places_in l.image l.g) (place_count l.g.keys l.sys.layers) (area_name (area_at l.fn.state k))
