-- `kit::map_index` meets its contract: the comparison is one of the three words at their places. Assumes nothing.
use Rattle.std.proofs.Common.{[], ◌∷◌, arith}
use Rattle.kit.proofs.KitLaws.{part_holds}
use Rattle.kit.proofs.map_index.Goals as goal

pub returns : goal.returns
returns c = part_holds c.args.image.now (1 ∷ 1 ∷ 9 ∷ []) 7 _ (omega arith) (omega arith) c.eq.ensures
