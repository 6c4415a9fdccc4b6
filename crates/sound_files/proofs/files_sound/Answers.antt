-- `sound_files::files_sound` meets its contract. Assumes nothing.
use Rattle.state.proofs.ShapeLaws.{areas-length}
use Rattle.sound_files.proofs.SoundLaws.{ordinary_known, files_marked}
use Rattle.disc.proofs.DecideLaws.{true≢false}
use Rattle.marks.proofs.MarkLaws.{marks, refuses}
use Rattle.sound_files.proofs.files_sound.Goals as goal

pub stretches_sound-requires : goal.stretches_sound-requires
stretches_sound-requires c = (c.requires.0, ordinary_known c.requires.1)

pub returns-then-not-stretches_sound : goal.returns-then-not-stretches_sound
returns-then-not-stretches_sound c =
    let a = c.args in
    let judged = files_marked a.image.now a.state a.g (areas-length a.state _ c.well_formed.1.0) c.of-files.ensures a.sys.layers c.requires.1 c.stretches_sound.ensures c.requires.0.known.marked in
    record {
      refused = λ _. c.unmark_all.ensures;
      marking = refuses (judged.not (c.if-not-stretches_sound.true));
    }

pub returns : goal.returns
returns c =
    let a = c.args in
    let judged = files_marked a.image.now a.state a.g (areas-length a.state _ c.well_formed.1.0) c.of-files.ensures a.sys.layers c.requires.1 c.stretches_sound.ensures c.requires.0.known.marked in
    let y = judged.yes (c.if-not-stretches_sound.false) in
    record {
      refused = λ e. absurd (true≢false e);
      marking = marks y.0 (record { is = y.2; once = y.1 });
    }
