-- `sound_files::own_index` meets its contract. Assumes nothing.
use Rattle.sound_files.proofs.FileLaws.{own_outside, own_refused, own_some}
use Rattle.sound_files.proofs.own_index.Goals as goal

pub returns-then-not-is_data_sector : goal.returns-then-not-is_data_sector
returns-then-not-is_data_sector c = own_outside c.args.q.0 c.requires.0 c.if-q-eq0.false (c.is_data_sector.ensures.not c.if-not-is_data_sector.true)

pub returns-in_err-found : goal.returns-in_err-found
returns-in_err-found c = rw c.from_residual.ensures (own_refused c.args.q.0 c.if-q-eq0.false c.in_err-found.ensures)

pub returns : goal.returns
returns c = rw c.then_some.ensures (own_some c.args.q.0 _ c.eq.ensures c.if-q-eq0.false c.in_ok-found.ensures.pairs)
