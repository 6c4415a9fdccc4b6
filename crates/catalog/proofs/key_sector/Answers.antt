-- `catalog::key_sector` meets its contract. Assumes nothing.
use mathlib.Core.Path.{ap, ◌∙◌}
use Rattle.index.specs.Block.{joint_sector}
use Rattle.catalog.specs.Catalog.{key_sector}
use Rattle.catalog.proofs.key_sector.Goals as goal

pub returns : goal.returns
unfolding key_sector
returns c =
    let a = c.args in
    c.sector_at.ensures ∙ ap (joint_sector a.image.now a.c.index.0) c.key_joined-joined.ensures
