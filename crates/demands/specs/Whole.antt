-- "In the image an emptied place is zeroed and an index block is written whole when its file's slices change", as a type over the
-- contract of the one call.
use Rattle.std.specs.Prelude.{◌≡◌, true, List, ℕ, ◌≤◌, ◌<◌, length}
use Rattle.std.proofs.Math.Option.{none, some}
use Rattle.types.specs.declared.State.{State}
use Rattle.types.specs.declared.Message.{Message}
use Rattle.disc.specs.Words.{Words, Holds}
use Rattle.disc.specs.Stretches.{sector_in}
use Rattle.disc.specs.Kit.{sys_index_sector}
use Rattle.disc.specs.Entries.{place_count, name_at}
use Rattle.index.specs.Block.{whole_index}
use Rattle.plain.specs.Table.{table_find}
use Rattle.plain.specs.Unit.{Plain, File, entry}
use Rattle.plain.specs.Step.{step}
use Rattle.plain.specs.Good.{Good}
use Rattle.sound.specs.Places.{Unused}
use Rattle.refine.specs.Represents.{Represents}
use Rattle.refine.specs.Demands.{Performed, Contract}
use Rattle.lookup.specs.Unit.{unit_places}

-- "An emptied place is zeroed": a place of SYS in which no name of the unit stands is 16 zero words, nothing of an old entry is left.
abbrev pub EmptiedZero : Plain → List ℕ → Type 0
EmptiedZero p image = (t : ℕ) → t < place_count p.H p.layers → entry p (name_at (unit_places image p) t) ≡ none
    → Unused (unit_places image p) t

-- "An index block is written whole when its file's slices change": after a call from the unit p to the unit p', the index block of every
-- file with slices that no file of p had, and SYS's if it has others, holds its 256 words, "words past the count .. zero".
pub record IndexWhole (p p' : Plain) (after : List ℕ) : Type 0 where
  pub file : (n : ℕ) (f : File) → table_find n p'.files ≡ some f → 0 < length f.slices
      → ((m : ℕ) (a : File) → table_find m p.files ≡ some a → a.slices ≡ f.slices → ⊥)
      → Holds after (sector_in p'.F p'.s f.slices 0) (whole_index p'.F p'.s f.slices)
  pub sys : (p'.sys ≡ p.sys → ⊥) → Holds after sys_index_sector (whole_index p'.F p'.s p'.sys)

-- One call to an initialized unit.
pub record WrittenWhole (C : Contract) : Type 0 where
  pub emptied : {image : List ℕ} {state : State} {message : Message} {lent : List ℕ} {r : Performed} (p : Plain) → Good p
      → Represents image state p → state.unit ≤ 3 → state.initialized ≡ true → Words lent → C image state message lent r
      → EmptiedZero (step p message lent).unit r.image
  pub index : {image : List ℕ} {state : State} {message : Message} {lent : List ℕ} {r : Performed} (p : Plain) → Good p
      → Represents image state p → state.unit ≤ 3 → state.initialized ≡ true → Words lent → C image state message lent r
      → IndexWhole p (step p message lent).unit r.image
