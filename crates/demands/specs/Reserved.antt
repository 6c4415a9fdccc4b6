-- "Sectors 0 to 5 are never read or written", as a type over the contracts of the one call and of Format.
use Rattle.std.specs.Prelude.{◌≡◌, List, ◌↔◌, ℕ, ◌*◌, ◌≤◌, ◌<◌, length, get_or}
use Rattle.types.specs.declared.State.{State}
use Rattle.types.specs.declared.Message.{Message}
use Rattle.disc.specs.Words.{Words}
use Rattle.disc.specs.Kit.{sys_index_sector}
use Rattle.sound.specs.Sound.{SoundUnit}
use Rattle.refine.specs.Demands.{Performed, Contract}
use Rattle.format.specs.Format.{Formatted}
use Rattle.demands.specs.FormatContract.{FormatContract}

-- The words of sectors 0 to 5: those in front of "sector 6 .. the index block of SYS", words 0 to 1,535.
abbrev pub reserved_words : ℕ
reserved_words = sys_index_sector * 256

-- Two images of one length with the same words in sectors 0 to 5.
pub record SameReserved (a b : List ℕ) : Type 0 where
  pub size : length a ≡ length b
  pub words : (k : ℕ) → k < reserved_words → get_or a k 0 ≡ get_or b k 0

-- Two images of one length with the same words in all other sectors.
pub record SameOthers (a b : List ℕ) : Type 0 where
  pub size : length a ≡ length b
  pub words : (k : ℕ) → reserved_words ≤ k → get_or a k 0 ≡ get_or b k 0

-- Two results of one call: the same answer, state and lent words, and images that may differ in sectors 0 to 5 alone.
pub record SameButReserved (r q : Performed) : Type 0 where
  pub image : SameOthers r.image q.image
  pub state : r.state ≡ q.state
  pub answer : r.answer ≡ q.answer
  pub words : r.lent ≡ q.lent

-- "Sectors 0 to 5 are never read or written", whatever image, state, message and lent words are.
pub record ReservedSectors (C : Contract) (F : FormatContract) : Type 0 where
  -- never written: they are after a call as before
  pub written : {image : List ℕ} {state : State} {message : Message} {lent : List ℕ} {r : Performed} → C image state message lent r
      → SameReserved image r.image
  -- never read: whatever words they hold, the unit is sound or is not, and a call does the same
  pub sound : {a b : List ℕ} {state : State} → SameOthers a b → Words a → Words b → SoundUnit a state ↔ SoundUnit b state
  pub read : {a b : List ℕ} {state : State} {message : Message} {lent : List ℕ} {r q : Performed} → SameOthers a b → Words a → Words b
      → C a state message lent r → C b state message lent q → SameButReserved r q
  -- Format
  pub format_written : {image : List ℕ} {state : State} {bytes : ℕ} {lent after : List ℕ} {r : Formatted} → F image state bytes lent after r
      → SameReserved image after
  pub format_read : {a b : List ℕ} {state : State} {bytes : ℕ} {lent after_a after_b : List ℕ} {r q : Formatted} → SameOthers a b
      → F a state bytes lent after_a r → F b state bytes lent after_b q → SameOthers after_a after_b × (r ≡ q)
