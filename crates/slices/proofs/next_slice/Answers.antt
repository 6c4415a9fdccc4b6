-- `slices::next_slice` meets its contract: the slice that the map offers is the one to take.
use Rattle.slices.proofs.TakeLaws.{next_none, next_crowded, next_at}
use Rattle.slices.proofs.next_slice.Goals as goal

pub returns-in_default : goal.returns-in_default
returns-in_default c =
    record { all = λ held slices can. next_none can c.last_slice_at-last.ensures c.choose_slice.ensures.slice c.in_default.is }

pub returns-then-stretches_with_at-gt127 : goal.returns-then-stretches_with_at-gt127
returns-then-stretches_with_at-gt127 c =
    let many = c.if-stretches_with_at-gt127.true in
    record {
      all = λ held slices can.
          next_crowded can c.last_slice_at-last.ensures c.choose_slice.ensures.slice c.in-Some.is (rw c.stretches_with_at.ensures at many);
    }

pub returns : goal.returns
returns c =
    let few = c.if-stretches_with_at-gt127.false in
    record {
      all = λ held slices can.
          next_at can c.last_slice_at-last.ensures c.choose_slice.ensures.slice c.in-Some.is (rw c.stretches_with_at.ensures at few);
    }
