-- The files of descriptors, and the cells of their names in the table of open names.
use Rattle.std.specs.Prelude.{◌≡◌, cond, List, ℕ, ◌+◌, ◌/◌, ◌%◌, ◌≤◌, map, get_or, All}
use Rattle.std.specs.List.{AllWithin}
use Rattle.types.specs.declared.Area.{Area}
use Rattle.types.specs.declared.State.{State}
use Rattle.types.specs.State.{is_open}
use Rattle.sound.specs.State.{area_name}
use Rattle.sound_files.specs.declared.files.OpenFile.{OpenFile}

-- The name of an open descriptor, else 0.
abbrev pub open_name : Area → ℕ
open_name a = cond (is_open a) (area_name a) 0

-- What a descriptor says.
abbrev pub open_file : Area → OpenFile
open_file a = record { name = open_name a; live = record { index = a.index; length = a.length } }

-- "Eight area processes": the list holds what the state's descriptors say.
abbrev pub FlatOf : State → List OpenFile → Type 0
FlatOf state list = list ≡ map open_file state.areas

-- No descriptor from descriptor n on is open.
pub record OpenUpto (list : List OpenFile) (n : ℕ) : Type 0 where
  pub eight : n ≤ 8
  pub none : AllWithin (λ f. f.name ≡ 0) list n 8

-- The cell of a name in a table of open names.
abbrev pub name_cell : ℕ → ℕ
name_cell name = (name / 4294967296 + name / 65536 % 65536 + name % 65536) % 251

-- The cells of the files' names are not 0.
pub record CellsOf (list : List OpenFile) (cells : List ℕ) : Type 0 where
  pub each : All (λ f. get_or cells (name_cell f.name) 0 ≡ 1) list
