-- `sound_files::place_sound` meets its contract. Assumes nothing.
use Rattle.sound_files.proofs.PlaceLaws.{place_unused_lem, place_system, place_file}
use Rattle.sound_files.proofs.place_sound.Goals as goal
use Rattle.sound_files.proofs.place_sound.Goals.{then-name-eq0-via-then-name-eq0, then-name-eq0-via-else-name-eq0+then-is_system_number}

pub returns-then-name-eq0 : goal.returns-then-name-eq0
returns-then-name-eq0 c = elim c.then-name-eq0.branch [
  | then-name-eq0-via-then-name-eq0 w ↦ place_unused_lem c.name_at-name.result c.name_at-name.ensures w.if-name-eq0.true
  | then-name-eq0-via-else-name-eq0+then-is_system_number w ↦
      place_system c.name_at-name.result c.name_at-name.ensures w.is_system_number.ensures w.if-is_system_number.true
]

pub returns : goal.returns
returns c =
    place_file c.name_at-name.result c.name_at-name.ensures c.if-name-eq0.false c.is_system_number.ensures c.if-is_system_number.false c.live_of.ensures c.file_sound.ensures
