-- `format::format` meets its contract. Assumes nothing.
use mathlib.Core.Path.{refl}
use lib.ListN.{get_or}
use Rattle.format.specs.Format.{lent_keys, lent_slice, lent_first, lent_sectors, written}
use Rattle.format.proofs.WriteLaws.{format_written_lem}
use Rattle.format.proofs.format.Goals as goal

pub returns : goal.returns
returns c =
    let a = c.args in
    let l = a.lent.now in
    written (record { count = c.if-bytes-ne18.false; words = c.if-lent-lt9.false }) (c.accepts.ensures.yes c.if-not-accepts.false) (record {
      word = refl;
      whole = format_written_lem a.image.now _ _ (lent_keys l) (lent_slice l) (lent_first l) (lent_sectors l) (get_or l 7 0) (get_or l 8 0)
          c.write_system.ensures c.write_catalog.ensures;
      left = c.with_initialized.ensures;
    })
