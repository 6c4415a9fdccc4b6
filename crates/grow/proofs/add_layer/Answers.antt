-- `grow::add_layer` meets its contract. Assumes nothing.
use native.Mathlib.Omega.{arith}
use Rattle.grow.proofs.BlockLaws.{slice_low_lem, had_small}
use Rattle.grow.proofs.GrowLaws.{layers_small, from_small, more_is, more_small, can_lengthen, index_inside, can_zero, layer_added}
use Rattle.grow.proofs.add_layer.Goals as goal

pub overflow_add-unit : goal.overflow_add-unit
overflow_add-unit c = omega (arith, layers_small c.requires.can)

pub slices_more-more-requires : goal.slices_more-more-requires
slices_more-more-requires c =
    let at = c.requires.can.catalog in
    (omega (arith, slice_low_lem at), had_small at c.read_block-block.ensures)

pub overflow_cast-more : goal.overflow_cast-more
overflow_cast-more c =
    let can = c.requires.can in
    omega (arith, more_is can c.read_block-block.ensures c.slices_more-more.ensures, more_small can)

pub take_at-longer-requires : goal.take_at-longer-requires
take_at-longer-requires c =
    let can = c.requires.can in
    (index_inside can, can_lengthen can c.read_block-block.ensures (more_is can c.read_block-block.ensures c.slices_more-more.ensures))

pub overflow_mul-unit : goal.overflow_mul-unit
overflow_mul-unit c =
    omega (arith, from_small c.requires.can)

pub overflow_add-unit-2 : goal.overflow_add-unit-2
overflow_add-unit-2 c =
    omega (arith, from_small c.requires.can)

pub zero_sectors-requires : goal.zero_sectors-requires
zero_sectors-requires c =
    let can = c.requires.can in
    can_zero can c.read_block-block.ensures (more_is can c.read_block-block.ensures c.slices_more-more.ensures) c.take_at-longer.ensures

pub returns : goal.returns
returns c =
    record {
      all = λ p own can.
          layer_added can c.read_block-block.ensures (more_is can c.read_block-block.ensures c.slices_more-more.ensures) c.take_at-longer.ensures c.zero_sectors.ensures;
    }
