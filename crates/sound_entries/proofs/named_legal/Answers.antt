-- `sound_entries::named_legal` meets its contract. Assumes nothing.
use Rattle.sound_entries.proofs.PlaceLaws.{judged_sys}
use Rattle.sound_entries.proofs.named_legal.Goals as goal

pub returns-then-same_name : goal.returns-then-same_name
returns-then-same_name c = judged_sys c.requires c.same_name.ensures c.args.expected c.sys_name.ensures c.if-same_name.true c.is_entry.ensures
