-- `marks::unmark_all` meets its contract: a list of zeros has no slice marked. Assumes nothing.
use mathlib.Core.Path.{refl}
use Rattle.marks.proofs.MarkLaws.{mark_none}
use Rattle.marks.proofs.unmark_all.Goals as goal

pub returns : goal.returns
returns c = (mark_none 0 4096 refl).is
