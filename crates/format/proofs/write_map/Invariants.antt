use mathlib.Core.Path.{◌≡◌}
use Prim.Native.Nat.{◌*◌}
use Rattle.disc.specs.Kit.{map_sector}
use Rattle.disc.specs.Stretches.{span}
use Rattle.words.specs.Store.{store}
use Rattle.refine.specs.Format.{map_words}
use Rattle.format.proofs.write_map.Given as goal

abbrev pub invariant-loop-w : goal.invariant-loop-w
invariant-loop-w l = l.image ≡ store l.initial.image (map_sector * 256) (map_words l.slices (span 1 l.used) 0 l.w)
