-- `slices::take_at` meets its contract.
use native.Mathlib.Omega.{arith}
use Rattle.slices.proofs.StoreLaws.{catalog_fresh, can-take, took_none, took_some, longer_words}
use Rattle.slices.proofs.take_at.Goals as goal

pub returns-then-n-eq0 : goal.returns-then-n-eq0
returns-then-n-eq0 c = let a = c.args in record { all = λ held slices can. took_none can (catalog_fresh can) a.q.0 c.if-n-eq0.true }

pub returns : goal.returns
returns c =
    let a = c.args in
    let q = a.q.0 in
    record {
      all = λ held slices can.
          let from = c.take_slices.ensures.all held slices (can-take can) in (
            took_some can (catalog_fresh can) from (omega arith) q c.store_block.ensures,
            longer_words can (catalog_fresh can) from,
          );
    }
