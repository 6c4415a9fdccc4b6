use Rattle.std.proofs.Common.{◌≡◌, take, length}
use Rattle.sound_files.specs.Cells.{CellsOf}
use Rattle.sound_files.proofs.cells_of.Given as goal

abbrev pub invariant-loop-file : goal.invariant-loop-file
invariant-loop-file l = (length l.cells ≡ 256) × CellsOf (take l.file-index l.list) l.cells
