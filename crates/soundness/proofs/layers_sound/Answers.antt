-- `soundness::layers_sound` meets its contract. Assumes nothing.
use Rattle.std.proofs.Common.{sym, ◌∙◌}
use Rattle.disc.proofs.DecideLaws.{true≢false}
use Rattle.sound_entries.specs.Sys.{SysIn}
use Rattle.sound_files.proofs.SysLaws.{known_sys}
use Rattle.soundness.proofs.LayerLaws.{names_known, map_decides}
use Rattle.soundness.proofs.layers_sound.Goals as goal
use Rattle.soundness.proofs.layers_sound.Goals.{then-names_sound, else-names_sound, then-areas_entered, else-areas_entered}

pub names_sound-requires : goal.names_sound-requires
names_sound-requires c = record { sys = known_sys c.requires.0; is = c.requires.1; room = c.requires.0.room }

pub areas_entered-requires : goal.areas_entered-requires
areas_entered-requires c =
    -- SYS as a catalog
    let sys : SysIn c.args.image.now c.args.g c.args.sys = record { sys = known_sys c.requires.0; is = c.requires.1; room = c.requires.0.room } in
    record { catalog = sys; legal = (c.names_sound.ensures.yes c.if-names_sound.true).legal }

pub files_sound-requires : goal.files_sound-requires
files_sound-requires c =
    let pre = c.requires in
    elim c.if-names_sound.branch [
      | then-names_sound w ↦ (record { known = pre.0; is = pre.1 }, names_known pre.0 (c.names_sound.ensures.yes w.if-names_sound.true))
      | else-names_sound w ↦ absurd (true≢false (sym c.if-areas_entered.true ∙ w.value-is ∙ w.if-names_sound.false))
    ]

pub returns-then-files_sound : goal.returns-then-files_sound
returns-then-files_sound c = elim c.if-areas_entered.branch [
  | then-areas_entered w ↦ elim c.if-names_sound.branch [
    | then-names_sound v ↦ map_decides w.files_sound.ensures.marking (sym w.value-is ∙ c.if-files_sound.true)
        (c.names_sound.ensures.yes v.if-names_sound.true) (v.areas_entered.ensures.yes (sym v.value-is ∙ w.if-areas_entered.true)) (rw w.marks-is at c.map_agrees.ensures)
    | else-names_sound v ↦ absurd (true≢false (sym w.if-areas_entered.true ∙ v.value-is ∙ v.if-names_sound.false))
  ]
  | else-areas_entered w ↦ absurd (true≢false (sym c.if-files_sound.true ∙ w.value-is ∙ w.if-areas_entered.false))
]
