-- The rules of an ordinary file, over the words of its entry and what is known of its area process.
use Rattle.std.specs.Prelude.{◌≡◌, Bool, true, false, List, ℕ, ◌+◌, ◌*◌, ◌≤◌, ◌<◌, length, get_or, T, Option, None, is_some, IfSome, MatchOption}
use Rattle.disc.specs.Numbers.{need}
use Rattle.disc.specs.Attributes.{legal_attributes, legal_with, entry_only}
use Rattle.sound.specs.Places.{slices_from, OwnIndex, Booked}
use Rattle.sound.specs.Parts.{Marking}
use Rattle.kit.specs.declared.Geometry.{Geometry}
use Rattle.marks.specs.Marked.{Marked}
use Rattle.sound_files.specs.declared.files.Live.{Live}
use Rattle.sound_files.specs.declared.Entry.{Entry}
use Rattle.sound_files.specs.Live.{index_by, length_by}

-- "6 attributes, 7 length, 8 index sector (0 if none), 9 reserved", of sixteen words.
abbrev pub entry_of : (ℕ → ℕ) → Entry
entry_of w = record { attributes = w 6; size = w 7; index = record { 0 = w 8 }; reserved = w 9 }

-- The words that stand at an index of the image, and the entry in them.
abbrev pub words_at : List ℕ → ℕ → ℕ → ℕ
words_at image at w = get_or image (at + w) 0

abbrev pub entry_at : List ℕ → ℕ → Entry
entry_at image at = entry_of (words_at image at)

-- The rules on the numbers of a file with `count` slices: "legal attributes, length at most 32,767, at least need(length)
-- slices"; "13 only with no slices"; "9 reserved = s times slices". Where its area process is open, the entry may lag: "neither
-- above the live ones, the slices at least need of the length".
pub record FileNumbers (s : ℕ) (entry : Entry) (live : Option Live) (count : ℕ) : Type 0 where
  pub allowed : T (legal_attributes entry.attributes)
  pub entry_only : T (legal_with entry.attributes count)
  pub short : length_by live entry.size ≤ 32767
  pub covered : need s (length_by live entry.size) ≤ count
  pub booked : MatchOption live (entry.reserved ≡ s * count) (λ process.
      Booked s entry.size entry.index.0 entry.reserved process.length process.index.0 count)

-- "An ordinary file's index block is the first sector of its first slice"; a file without slices has none.
abbrev pub OwnIfAny : List ℕ → ℕ → ℕ → ℕ → Type 0
OwnIfAny image F s q = (q ≡ 0 → ⊥) → OwnIndex image F s q

-- The slices of the file, and all its rules.
abbrev pub file_slices : List ℕ → ℕ → ℕ → Entry → Option Live → List ℕ
file_slices image F s entry live = slices_from image F s (index_by live entry.index.0)

pub record FileRules (image : List ℕ) (F s : ℕ) (entry : Entry) (live : Option Live) : Type 0 where
  pub index : OwnIfAny image F s (index_by live entry.index.0)
  pub numbers : FileNumbers s entry live (length (file_slices image F s entry live))

-- "Sectors 0 to 5 are never read or written": a file's index block is read in a data sector only.
pub record DataSector (g : Geometry) (q : ℕ) : Type 0 where
  pub low : g.first.0 ≤ q
  pub high : q < g.sectors

-- The index block of a file is legal and its own, and its slices beside those marked before are the unit's and stand once; then
-- they are marked, and the answer is their number.
pub record OwnMarking (image : List ℕ) (g : Geometry) (q : ℕ) (before after : List ℕ) (answer : Option ℕ) : Type 0 where
  pub marking : (held : List ℕ) → Marked g.slices before held
      → Marking (is_some answer) (OwnIfAny image g.first.0 g.slice q) g.slices after held
      (slices_from image g.first.0 g.slice q)
  pub slices : IfSome answer (λ n. n ≡ length (slices_from image g.first.0 g.slice q))

-- The same of the file with all its rules.
pub record FileMarking (image : List ℕ) (g : Geometry) (entry : Entry) (live : Option Live) (before after : List ℕ) (answer : Bool) : Type 0 where
  pub marking : (held : List ℕ) → Marked g.slices before held
      → Marking answer (FileRules image g.first.0 g.slice entry live) g.slices after held
      (file_slices image g.first.0 g.slice entry live)

-- What the numbers of the entry of a closed file with some slices say beside its index block.
pub record PlainNumbers (entry : Entry) : Type 0 where
  pub allowed : legal_attributes entry.attributes ≡ true
  pub slices : entry_only entry.attributes ≡ false
  pub short : entry.size < entry.reserved

-- The answer true says that the file keeps all rules if no area process of it is open, and that its slices are marked now; false
-- says only that nothing was changed.
pub record ClosedMarking (image : List ℕ) (g : Geometry) (entry : Entry) (before after : List ℕ) (answer : Bool) : Type 0 where
  pub yes : answer ≡ true → FileMarking image g entry None before after true
  pub not : answer ≡ false → after ≡ before
