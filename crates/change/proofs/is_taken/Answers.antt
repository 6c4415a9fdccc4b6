-- `change::is_taken` meets its contract. Assumes nothing.
use Rattle.change.proofs.LayerLaws.{taken_by}
use Rattle.change.proofs.is_taken.Goals as goal

pub returns-then-w : goal.returns-then-w
returns-then-w c = taken_by c.args.image.now c.args.unit 0 c.args.w c.if-w.true c.find_name.ensures c.is_some.ensures
