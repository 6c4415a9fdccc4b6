-- `sound_files::cells_of` meets its contract: the cells of the names passed are filled. Assumes nothing.
use Rattle.std.proofs.Common.{refl, ◌∙◌, subst, List, arith, length-set, take_all}
use Rattle.sound_files.specs.declared.files.OpenFile.{OpenFile}
use Rattle.sound_files.specs.Cells.{CellsOf}
use Rattle.sound_files.proofs.PlainLaws.{cells_more}
use Rattle.sound_files.proofs.cells_of.Goals as goal

pub loop-file-init : goal.loop-file-init
loop-file-init c = (refl, record { each = λ k d h. absurd (omega arith) })

pub loop-file-preserved : goal.loop-file-preserved
loop-file-preserved c =
    let l = c.loop-file in
    let e = c.name_cell.ensures in
    (length-set l.cells c.name_cell.result 1 ∙ l.invariant.0, cells_more c.args.list.now l.file-index c.name_cell.result _ c.loop-file-test.true e.0 (omega arith) l.invariant.1)

pub returns : goal.returns
returns c =
    subst (λ (list : List OpenFile). CellsOf list c.loop-file.cells) (take_all c.loop-file.file-index c.args.list.now c.loop-file-test.false) c.loop-file.invariant.1
