-- `grow::room` meets its contract. Assumes nothing.
use mathlib.Core.Path.{ap}
use mathlib.Core.Bool.{not}
use native.Mathlib.Omega.{arith}
use Rattle.grow.proofs.BlockLaws.{slice_low_lem, had_small}
use Rattle.grow.proofs.RoomLaws.{for_small, answer_few, free_enough, can_fit, answer_no, answer_yes}
use Rattle.grow.proofs.room.Goals as goal

pub slices_more-for_catalog-requires : goal.slices_more-for_catalog-requires
slices_more-for_catalog-requires c =
    let pre = c.requires in
    let at = pre.asked.catalog in
    (omega (arith, slice_low_lem at), had_small at c.read_block-block.ensures)

pub overflow_add-for_catalog : goal.overflow_add-for_catalog
overflow_add-for_catalog c =
    omega (arith, for_small c.requires.asked c.read_block-block.ensures c.args.layers c.slices_more-for_catalog.ensures c.args.more (omega arith))

pub returns-then-free-for_catalog : goal.returns-then-free-for_catalog
returns-then-free-for_catalog c =
    let a = c.args in
    record {
      all = λ p own slices asked.
          answer_few asked c.read_block-block.ensures a.layers c.slices_more-for_catalog.ensures a.more c.count_free-free.ensures c.if-free-for_catalog.true;
    }

pub fits-requires : goal.fits-requires
fits-requires c =
    let asked = c.requires.asked in
    let r = c.read_block-block.ensures in
    let m = c.slices_more-for_catalog.ensures in
    can_fit asked r c.args.layers m c.args.more (free_enough asked r c.args.layers m c.args.more c.count_free-free.ensures (omega (arith, c.if-free-for_catalog.false)))

pub returns-then-not-fits : goal.returns-then-not-fits
returns-then-not-fits c =
    let a = c.args in
    let r = c.read_block-block.ensures in
    let m = c.slices_more-for_catalog.ensures in
    record {
      all = λ p own slices asked lent files.
          let enough = free_enough asked r a.layers m a.more c.count_free-free.ensures (omega (arith, c.if-free-for_catalog.false)) in
          answer_no asked r a.layers m a.more enough c.fits.ensures lent files (ap not c.if-not-fits.true);
    }

pub returns : goal.returns
returns c =
    let a = c.args in
    let r = c.read_block-block.ensures in
    let m = c.slices_more-for_catalog.ensures in
    record {
      all = λ p own slices asked lent files.
          let enough = free_enough asked r a.layers m a.more c.count_free-free.ensures (omega (arith, c.if-free-for_catalog.false)) in
          answer_yes asked r a.layers m a.more enough c.fits.ensures lent files (ap not c.if-not-fits.false);
    }
