-- `sound_files::plain_file` meets its contract. Assumes nothing.
use Rattle.sound_files.proofs.PlainLaws.{closed_marked}
use Rattle.sound_files.proofs.plain_file.Goals as goal

pub returns-then-plain_numbers : goal.returns-then-plain_numbers
returns-then-plain_numbers c =
    let pre = c.requires in
    rw (← c.entry_at-entry.ensures)
    (closed_marked c.entry_at-entry.result pre.0 (c.plain_numbers.ensures.yes c.if-plain_numbers.true) pre.1 c.mark_single.ensures)
