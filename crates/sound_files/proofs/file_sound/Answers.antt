-- `sound_files::file_sound` meets its contract. Assumes nothing.
use Rattle.std.proofs.Common.{ap, ◌∙◌}
use Rattle.sound_files.specs.declared.Entry.{Entry}
use Rattle.sound_files.specs.Live.{index_by}
use Rattle.sound_files.specs.Rules.{entry_at}
use Rattle.sound_files.proofs.FileLaws.{file_refused, file_judged}
use Rattle.sound_files.proofs.file_sound.Goals as goal

pub returns-in_default : goal.returns-in_default
returns-in_default c =
    let a = c.args in
    file_refused (entry_at a.image.now a.at) a.live (c.live_index.ensures ∙ ap (λ (e : Entry). index_by a.live e.index.0) c.entry_at-entry.ensures)
    (rw c.in_default.is at c.own_index.ensures)

pub returns : goal.returns
returns c =
    let a = c.args in
    file_judged (entry_at a.image.now a.at) a.live (c.live_index.ensures ∙ ap (λ (e : Entry). index_by a.live e.index.0) c.entry_at-entry.ensures)
    c.in-Some.ensures (rw c.entry_at-entry.ensures at c.numbers_legal.ensures)
