-- `output::extend` meets its contract. Assumes nothing.
use Rattle.output.proofs.AppendLaws.{can_lengthen, can_count, extended_is, index_is}
use Rattle.output.proofs.extend.Goals as goal

pub take_more-longer-requires : goal.take_more-longer-requires
take_more-longer-requires c = let pre = c.requires in can_lengthen pre.can

pub count_free-requires : goal.count_free-requires
count_free-requires c =
    can_count c.requires.can c.take_more-longer.ensures

pub returns : goal.returns
returns c =
    record { all = λ p n users f can. (extended_is can c.take_more-longer.ensures c.count_free.ensures, index_is can c.take_more-longer.ensures c.block_sector.ensures) }
