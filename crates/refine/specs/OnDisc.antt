-- A good plain unit on an image: what every message finds there and leaves there. The state's part is `SameAreas`.
use Rattle.std.specs.Prelude.{List, ℕ}
use Rattle.disc.specs.Words.{Words}
use Rattle.plain.specs.Unit.{Plain, held, free_sectors, entry}
use Rattle.plain.specs.Good.{Good}
use Rattle.refine.specs.Represents.{Layout}

pub record OnDisc (image : List ℕ) (p : Plain) : Type 0 where
  pub good : Good p
  pub words : Words image
  pub layout : Layout image p (free_sectors p) (held p) (entry p)
