-- `sound_entries::is_entry` meets its contract. Assumes nothing.
use Rattle.std.proofs.Common.{eqb, refl, ap, ◌∙◌}
use lib.Pointwise.{pointwise}
use Rattle.sound_entries.proofs.PlaceLaws.{words_are}
use Rattle.sound_entries.proofs.is_entry.Goals as goal

pub returns : goal.returns
returns c =
    let place = c.args.place.now in
    words_are place _ c.told-place refl (c.eq.ensures ∙ ap (pointwise eqb place) c.system_entry.ensures)
