-- The open area processes by name: what is known of a file's, and where none can be open.
use Rattle.std.specs.Prelude.{◌≡◌, cond, List, [], ◌∷◌, ℕ, Option, Some, None, take, get_or, eqb}
use Rattle.std.proofs.Math.Option as maybe
use Rattle.std.proofs.Math.Option.{none, some}
use Rattle.types.specs.declared.Area.{Area}
use Rattle.types.specs.declared.State.{State}
use Rattle.sound_files.specs.declared.files.Live.{Live}
use Rattle.sound_files.specs.declared.files.OpenFile.{OpenFile}
use Rattle.sound_files.specs.declared.files.OpenFiles.{OpenFiles}
use Rattle.sound_files.specs.Cells.{FlatOf, OpenUpto, name_cell}

-- "Where an area process is open, index sector and length are the process's".
abbrev pub live_of : maybe.Option Area → Option Live
live_of none = None
live_of (some a) = Some (record { index = a.index; length = a.length })

-- The index sector and the length that count, beside those that the entry says.
abbrev pub index_by : Option Live → ℕ → ℕ
index_by None booked = booked
index_by (Some live) booked = live.index.0

abbrev pub length_by : Option Live → ℕ → ℕ
length_by None booked = booked
length_by (Some live) booked = live.length

-- What the first of the files that has the name says.
unfoldable pub live_in : List OpenFile → ℕ → Option Live
live_in [] name = None
live_in (f ∷ list) name = cond (eqb f.name name) (Some f.live) (live_in list name)

-- What is known of the area process of a name.
abbrev pub lives : OpenFiles → ℕ → Option Live
lives files = live_in (take files.upto files.list)

-- The files are those of the state's area processes.
pub record OpenOf (state : State) (files : OpenFiles) : Type 0 where
  pub flat : FlatOf state files.list
  pub upto : OpenUpto files.list files.upto

-- What is looked at in a name: nothing if no area process is open, else that its cell is 0.
abbrev pub Unopened : OpenFiles → ℕ → Type 0
Unopened files name = (files.upto ≡ 0 → ⊥) → get_or files.cells (name_cell name) 0 ≡ 0
