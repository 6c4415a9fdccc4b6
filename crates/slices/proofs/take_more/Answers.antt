-- `slices::take_more` meets its contract: the block goes into the first sector of the longer file.
use mathlib.Core.Path.{ap, ◌∙◌}
use mathlib.Core.List.{List}
use Prim.Native.Nat.{ℕ}
use native.Mathlib.Omega.{arith}
use Rattle.disc.specs.OneStretch.{taken_for_file}
use Rattle.refine.specs.Writes.{taken_image}
use Rattle.slices.proofs.StoreLaws.{file_fresh, can-take, took_none, took_some, took_first, took_room, longer_words}
use Rattle.slices.proofs.take_more.Goals as goal

pub returns-then-n-eq0 : goal.returns-then-n-eq0
returns-then-n-eq0 c = record { all = λ held slices can. took_none can (file_fresh can) _ c.if-n-eq0.true }

pub store_block-requires : goal.store_block-requires
store_block-requires c =
    let can = c.requires.can in
    took_room can (file_fresh can) (c.take_for_file.ensures.all _ _ (can-take can)) (omega arith) _ c.block_sector-q.ensures

pub returns : goal.returns
returns c =
    let a = c.args in
    record {
      all = λ held slices can.
          let from = c.take_for_file.ensures.all held slices (can-take can) in
          let fresh = file_fresh can in
          let more : List ℕ = taken_for_file a.unit.slices held slices a.n in (
            took_some can fresh from (omega arith) c.block_sector-q.result.0 c.store_block.ensures
                ∙ ap (λ (k : ℕ). taken_image a.image.now k a.unit.first.0 a.unit.slice slices more) (c.block_sector-q.ensures ∙ took_first can fresh from (omega arith)),
            longer_words can fresh from,
          );
    }
