-- The numbers that the soundness check hands on are those of every plain unit that image and state represent.
use mathlib.Core.Path.{◌∙◌}
use mathlib.Core.List.{List}
use Prim.Native.Nat.{ℕ}
use Rattle.types.specs.declared.State.{State}
use Rattle.sound.specs.Sound.{SoundUnit}
use Rattle.catalog.specs.declared.Unit.{Unit}
use Rattle.plain.specs.Unit.{Plain}
use Rattle.plain.specs.Good.{Good}
use Rattle.soundness.specs.Judged.{NumbersBy}
use Rattle.refine.specs.Represents.{Represents}
use Rattle.refine.proofs.SoundRepresents.{represents_sound, represents_layers}
use Rattle.lookup.specs.Unit.{NumbersOf}

pub numbers_of : {image : List ℕ} {state : State} {p : Plain} {u : Unit} → Good p → Represents image state p
    → ((unit : SoundUnit image state) → NumbersBy image state unit u) → NumbersOf u p
numbers_of g r by =
    let n = by (represents_sound g r) in
    let kit = r.layout.kit in
    record {
      slice = n.slice ∙ kit.slice;
      first = n.first ∙ kit.first;
      slices = rw (← kit.slice, ← kit.first, ← kit.sectors) n.slices;
      catalog = record {
        index = n.catalog.index;
        from = n.catalog.from;
        keys = n.catalog.keys ∙ kit.keys;
        layers = n.catalog.layers ∙ represents_layers g r;
      };
    }
