-- `slices::give_back` meets its contract.
use mathlib.Core.Path.{ap, ◌∙◌}
use Prim.Native.Nat.{ℕ, ◌≤◌, ◌<◌}
use native.Mathlib.Omega.{arith}
use Rattle.refine.specs.Writes.{cut_image}
use Rattle.slices.proofs.GiveLaws.{can_free, gave_none, cut_words, gave_all, gave_some, gave_first, gave_room}
use Rattle.slices.proofs.give_back.Goals as goal

pub returns-then-total-keep : goal.returns-then-total-keep
returns-then-total-keep c = let a = c.args in record { all = λ m slices can. gave_none can a.keep _ c.if-total-keep.true }

pub free_slices-requires : goal.free_slices-requires
free_slices-requires c = can_free c.requires

pub returns-else-keep-gt0 : goal.returns-else-keep-gt0
returns-else-keep-gt0 c =
    let a = c.args in
    let fewer : a.keep < a.total = omega arith in
    record {
      all = λ m slices can. (
        gave_all can a.keep fewer c.free_slices.ensures _ (omega arith),
        cut_words can a.keep c.cut_block-cut.ensures,
      );
    }

pub store_block-requires : goal.store_block-requires
store_block-requires c =
    gave_room c.requires.can c.args.keep (omega arith) c.free_slices.ensures _ c.block_sector-q.ensures

pub returns-then-keep-gt0 : goal.returns-then-keep-gt0
returns-then-keep-gt0 c =
    let a = c.args in
    let fewer : a.keep < a.total = omega arith in
    let some : 1 ≤ a.keep = omega arith in
    record {
      all = λ m slices can. (
        gave_some can a.keep fewer c.free_slices.ensures _ some c.cut_block-cut.ensures c.store_block.ensures
            ∙ ap (λ (k : ℕ). cut_image a.image.now k a.unit.first.0 a.unit.slice slices a.keep) (c.block_sector-q.ensures ∙ gave_first can a.keep fewer some),
        cut_words can a.keep c.cut_block-cut.ensures,
      );
    }
