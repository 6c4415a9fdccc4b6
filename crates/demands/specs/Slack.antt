-- "Slack, freed and free sectors keep their words", as a type over the contract of the one call.
use Rattle.std.specs.Prelude.{◌≡◌, true, List, [], ◌∷◌, ◌⊎◌, ℕ, ◌+◌, ◌*◌, ◌/◌, ◌≤◌, ◌<◌, length}
use Rattle.std.proofs.Math.Option.{some}
use Rattle.types.specs.declared.State.{State}
use Rattle.types.specs.declared.Message.{Message}
use Rattle.disc.specs.Numbers.{slice_start}
use Rattle.disc.specs.Words.{word, Words}
use Rattle.disc.specs.Slices.{occurrences}
use Rattle.disc.specs.Stretches.{sector_in, block_sector, sys_from, file_from}
use Rattle.disc.specs.Kit.{sys_index_sector, map_sector}
use Rattle.plain.specs.Table.{table_find}
use Rattle.plain.specs.Unit.{Plain, File, M, held}
use Rattle.plain.specs.Step.{Call, Reply, step}
use Rattle.plain.specs.Good.{Good}
use Rattle.plain.specs.Claims.{LentWords}
use Rattle.refine.specs.Represents.{Represents}
use Rattle.refine.specs.Demands.{Performed, Contract, Run}

-- ---- the sectors that a unit uses, and the others

-- Sector q is in use: "Sector 6 is the index block of SYS, 7 of MAP, 8 the kit, 9 the map", or it is a block of SYS, a file's index block
-- or one of a file's blocks below the live length.
pub data InUse (p : Plain) (q : ℕ) : Type 0 where
  system : sys_index_sector ≤ q → q ≤ map_sector → InUse p q
  catalog : (b : ℕ) → b < p.H * p.layers → q ≡ block_sector p.F p.s p.sys sys_from b → InUse p q
  index : (n : ℕ) (f : File) → table_find n p.files ≡ some f → 0 < length f.slices → q ≡ sector_in p.F p.s f.slices 0
      → InUse p q
  block : (n : ℕ) (f : File) → table_find n p.files ≡ some f → (b : ℕ) → b < length f.sectors
      → q ≡ block_sector p.F p.s f.slices file_from b → InUse p q

-- Every other sector.
abbrev pub Idle : Plain → ℕ → Type 0
Idle p q = InUse p q → ⊥

-- Slack: a sector of SYS's or a file's slices past its blocks.
pub data Slack (p : Plain) (q : ℕ) : Type 0 where
  of_sys : (b : ℕ) → p.H * p.layers ≤ b → (b + sys_from) / p.s < length p.sys → q ≡ block_sector p.F p.s p.sys sys_from b
      → Slack p q
  of_file : (n : ℕ) (f : File) → table_find n p.files ≡ some f → (b : ℕ) → length f.sectors ≤ b
      → (b + file_from) / p.s < length f.slices → q ≡ block_sector p.F p.s f.slices file_from b → Slack p q

-- Sector q is one of slice k's s sectors.
pub record SectorOf (p : Plain) (k q : ℕ) : Type 0 where
  pub low : 1 ≤ k
  pub high : k ≤ M p
  pub j : ℕ
  pub inside : j < p.s
  pub at : q ≡ slice_start p.F p.s k + j

-- Free: a sector of a slice that is in no list.
pub record Free (p : Plain) (q : ℕ) : Type 0 where
  pub k : ℕ
  pub of : SectorOf p k q
  pub unheld : occurrences k (held p) ≡ 0

-- Freed: a sector of a slice that is in a list of the unit p, and in none of the unit p' after the call.
pub record Freed (p p' : Plain) (q : ℕ) : Type 0 where
  pub k : ℕ
  pub of : SectorOf p' k q
  pub was : 1 ≤ occurrences k (held p)
  pub unheld : occurrences k (held p') ≡ 0

-- A sector that a call leaves alone: "slack, freed and free sectors", and those below F that are none of 6 to 9.
pub data LeftAlone (p p' : Plain) (q : ℕ) : Type 0 where
  slack : Slack p' q → LeftAlone p p' q
  freed : Freed p p' q → LeftAlone p p' q
  free : Free p' q → LeftAlone p p' q
  below : q < p'.F → (q < sys_index_sector) ⊎ (map_sector < q) → LeftAlone p p' q

-- ---- they keep their words

-- The words of sector q are after as before.
pub record SectorKept (image after : List ℕ) (q : ℕ) : Type 0 where
  pub at : (b : ℕ) → b < 256 → word after q b ≡ word image q b

-- A sector that is idle after every call of a list.
abbrev pub IdleAfterEach : Plain → List Call → ℕ → Type 0
IdleAfterEach p [] q = Unit {0}
IdleAfterEach p (c ∷ calls) q = let after : Plain = (step p c.message c.lent).unit in Idle after q × IdleAfterEach after calls q

-- "Slack, freed and free sectors keep their words", through one call and through a list.
pub record SlackKept (C : Contract) : Type 0 where
  -- every sector that the unit does not use after a call, and so those of the four kinds
  pub idle : {image : List ℕ} {state : State} {message : Message} {lent : List ℕ} {r : Performed} (p : Plain) → Good p
      → Represents image state p → Words lent → C image state message lent r → (q : ℕ) → Idle (step p message lent).unit q
      → SectorKept image r.image q
  pub call : {image : List ℕ} {state : State} {message : Message} {lent : List ℕ} {r : Performed} (p : Plain) → Good p
      → Represents image state p → Words lent → C image state message lent r → (q : ℕ) → LeftAlone p (step p message lent).unit q
      → SectorKept image r.image q
  -- a list of calls to an initialized unit
  pub list : {image end : List ℕ} {state stop : State} {calls : List Call} {replies : List Reply} (p : Plain) → Good p
      → Represents image state p → state.unit ≤ 3 → state.initialized ≡ true → LentWords calls → Run C image state calls replies end stop
      → (q : ℕ) → IdleAfterEach p calls q → SectorKept image end q
