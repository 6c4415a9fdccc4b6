-- `names::classes` meets its contract. Assumes nothing.
use Rattle.names.proofs.TableLaws.{table_classes}
use Rattle.names.proofs.classes.Goals as goal

pub returns : goal.returns
returns c =
    rw (c.fill-3.ensures.after (λ y e. e), c.fill-2.ensures.after (λ y e. e), c.fill.ensures.after (λ y e. e)) table_classes
