-- `change::resize::resize` meets its contract. Assumes nothing.
use Rattle.change.proofs.ResizeLaws.{block_is, resized_shorter, resized_longer, can_zero, zeroed}
use Rattle.change.proofs.resize.resize.Goals as goal

pub zero_sectors-requires : goal.zero_sectors-requires
zero_sectors-requires c = can_zero c.requires.can c.reslice-after.ensures c.if-had-has.true

pub returns-then-had-has : goal.returns-then-had-has
returns-then-had-has c =
    let r = c.reslice-after.ensures in
    record {
      all = λ p n f can f' is size. (
        resized_longer can r f' is size (zeroed can r c.if-had-has.true c.zero_sectors.ensures),
        block_is can r f' is size,
      );
    }

pub returns-else-had-has : goal.returns-else-had-has
returns-else-had-has c =
    let r = c.reslice-after.ensures in
    record { all = λ p n f can f' is size. (resized_shorter can r f' is size c.if-had-has.false, block_is can r f' is size) }
