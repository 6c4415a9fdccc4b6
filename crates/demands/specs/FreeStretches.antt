-- Document 02, R-12: "Where the free slices form at most 127 unbroken stretches, a Create or Set that doesn't lengthen SYS is not refused
-- with 1008h, whichever files are there." Said of the contract of the one call; of the plain unit it is `plain/FreeStretches`.
use Rattle.std.specs.Prelude.{◌≡◌, List, ◌≢◌, ◌↔◌, ℕ, ◌-◌, ◌≤◌}
use Rattle.types.specs.declared.Name.{Name}
use Rattle.types.specs.declared.State.{State}
use Rattle.types.specs.declared.Message.{Message}
use Rattle.types.specs.declared.Message.TheVariants.{Create}
use Rattle.disc.specs.Words.{word}
use Rattle.disc.specs.Names.{named, key_of}
use Rattle.disc.specs.Kit.{kit_sector}
use Rattle.disc.specs.FreeStretches.{free_stretches_on_map}
use Rattle.plain.specs.Unit.{Plain, sys_of}
use Rattle.plain.specs.Good.{Good}
use Rattle.plain.specs.FreeStretches.{free_stretches, AddsNoLayer, MakesFile}
use Rattle.refine.specs.Represents.{Represents}
use Rattle.refine.specs.Demands.{Performed, Contract}
use Rattle.lookup.specs.Find.{FirstUnused}

-- A file with this name adds no layer to SYS, in the plain unit that image and state represent.
abbrev pub AddsNoLayerOn : List ℕ → State → Name → Type 0
AddsNoLayerOn image state name = (p : Plain) → Good p → Represents image state p → AddsNoLayer p (named name)

-- The length of a file that needs every free slice: the kit's free sectors but one for its index block.
abbrev pub length_of_all_on : List ℕ → ℕ
length_of_all_on image = word image kit_sector 3 - 1

pub record NoCrowdedIndexOf (C : Contract) : Type 0 where
  -- the stretches of free slices on the map are those in the plain unit
  pub counted : {image : List ℕ} {state : State} (p : Plain) → Good p → Represents image state p
      → free_stretches_on_map image ≡ free_stretches p
  -- no layer is added exactly if a place of the name's key is unused
  pub layers : {image : List ℕ} {state : State} (p : Plain) (n : ℕ) → Good p → Represents image state p
      → AddsNoLayer p n ↔ ((place : ℕ) × FirstUnused image p (sys_of p) (key_of p.H n) place)
  -- for every image, state and lent words, "a Create or Set .. is not refused with 1008h"
  pub fits : {image : List ℕ} {state : State} {name : Name} {message : Message} {lent : List ℕ} {r : Performed} → C image state message lent r
      → MakesFile name message → free_stretches_on_map image ≤ 127 → AddsNoLayerOn image state name → r.answer.result ≢ 0x1008
  -- and with more stretches one can be, on every image: a file of all free slices, with a name and attributes with which one of no block
  -- is created
  pub highest : {image : List ℕ} {state : State} {name : Name} {attributes : ℕ} {words lent : List ℕ} {q r : Performed}
      → C image state (Create name 0 attributes) words q → q.answer.result ≡ 0
      → C image state (Create name (length_of_all_on image) attributes) lent r
      → 128 ≤ free_stretches_on_map image → AddsNoLayerOn image state name → r.answer.result ≡ 0x1008
