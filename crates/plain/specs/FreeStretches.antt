-- Document 02, R-12: "Where the free slices form at most 127 unbroken stretches, a Create or Set that doesn't lengthen SYS is not refused
-- with 1008h, whichever files are there." Said of the plain unit.
use Rattle.std.specs.Prelude.{◌≡◌, List, ◌≢◌, ℕ, ◌-◌, ◌≤◌}
use Rattle.types.specs.declared.Name.{Name}
use Rattle.types.specs.declared.Message.{Message}
use Rattle.types.specs.declared.Message.TheVariants.{Set, Create}
use Rattle.disc.specs.Names.{named}
use Rattle.disc.specs.FreeStretches.{free_stretches_in}
use Rattle.plain.specs.Unit.{Plain, M, held, free_sectors, sys_of}
use Rattle.plain.specs.Taking.{layers_for}
use Rattle.plain.specs.Step.{step}
use Rattle.plain.specs.Good.{Good}

-- "The free slices form .. unbroken stretches": how many.
abbrev pub free_stretches : Plain → ℕ
free_stretches p = free_stretches_in (M p) (held p)

-- A file with the name n "doesn't lengthen SYS": no layer is added for its name, not even one for which SYS needs no slice more.
abbrev pub AddsNoLayer : Plain → ℕ → Type 0
AddsNoLayer p n = layers_for p.H (sys_of p) n p.files ≡ p.layers

-- "A Create or Set" of a name.
pub data MakesFile (name : Name) : Message → Type 0 where
  create : {size attributes : ℕ} → MakesFile name (Create name size attributes)
  set : MakesFile name (Set name)

-- The length of a file that needs every free slice: all free sectors but one for its index block.
abbrev pub length_of_all : Plain → ℕ
length_of_all p = free_sectors p - 1

pub record NoCrowdedIndex : Type 0 where
  -- "Where the free slices form at most 127 unbroken stretches, a Create or Set .. is not refused with 1008h"
  pub fits : (p : Plain) (name : Name) (message : Message) (lent : List ℕ) → Good p → MakesFile name message → free_stretches p ≤ 127
      → AddsNoLayer p (named name) → (step p message lent).answer.result ≢ 0x1008
  -- and with more stretches one can be, on every unit: a file of all free slices, with a name and attributes with which one of no block
  -- is created
  pub highest : (p : Plain) (name : Name) (attributes : ℕ) (words lent : List ℕ) → Good p → 128 ≤ free_stretches p
      → AddsNoLayer p (named name) → (step p (Create name 0 attributes) words).answer.result ≡ 0
      → (step p (Create name (length_of_all p) attributes) lent).answer.result ≡ 0x1008
