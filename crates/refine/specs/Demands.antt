-- Demand 3 of the letter, as a type over an implementation that is given by its contract.
use Rattle.std.specs.Prelude.{◌≡◌, true, List, [], ◌∷◌, ◌++◌, ℕ, ◌+◌, ◌*◌, ◌≤◌, length}
use Rattle.types.specs.declared.Answer.{Answer}
use Rattle.types.specs.declared.State.{State}
use Rattle.types.specs.declared.Message.{Message}
use Rattle.types.specs.State.{NoneOpen, UnitKnown}
use Rattle.disc.specs.Words.{word}
use Rattle.disc.specs.Slices.{InRangeOnce}
use Rattle.disc.specs.Stretches.{slices_at}
use Rattle.disc.specs.Kit.{kit_sector, sys_index_sector}
use Rattle.disc.specs.Map.{ones_in_map}
use Rattle.plain.specs.Unit.{Plain, M, held}
use Rattle.plain.specs.Step.{Call, Reply, after, answers}
use Rattle.plain.specs.Good.{Good}
use Rattle.plain.specs.Claims.{LentWords}
use Rattle.sound.specs.Sound.{SoundUnit}
use Rattle.refine.specs.Represents.{Represents}

-- What a call leaves: image, state, answer and lent words.
pub record Performed : Type 0 where
  pub image : List ℕ
  pub state : State
  pub answer : Answer
  pub lent : List ℕ

-- An implementation, by the contract of its one call: what may come of an image, a state, a message and lent words.
abbrev pub Contract : Type 1
Contract = List ℕ → State → Message → List ℕ → Performed → Type 0

-- "Each call gets image and state as the one before left them, and nobody else writes them meanwhile": a list of calls
-- from the first image and state, with its replies, to the last image and state.
pub data Run (C : Contract) : List ℕ → State → List Call → List Reply → List ℕ → State → Type 0 where
  empty : {image : List ℕ} {state : State} → Run C image state [] [] image state
  then : {image end : List ℕ} {state stop : State} {call : Call} {calls : List Call} {replies : List Reply} {r : Performed}
      → C image state call.message call.lent r → Run C r.image r.state calls replies end stop
      → Run C image state (call ∷ calls) (record { answer = r.answer; lent = r.lent } ∷ replies) end stop

-- "With no area process open, and the state that Init left on accepting it": a known unit, initialized.
pub record AcceptedState (state : State) : Type 0 where
  pub known : UnitKnown state state.unit
  pub initialized : state.initialized ≡ true
  pub closed : NoneOpen state

-- SYS on a sound image: its number of blocks, "H times L", where L is the one with which the rules are met, and its slices as its index
-- block in sector 6 describes them.
abbrev pub sys_blocks : {image : List ℕ} {state : State} → SoundUnit image state → ℕ
sys_blocks {image} unit = word image kit_sector 0 * unit.layers

abbrev pub sys_slices_on : List ℕ → List ℕ
sys_slices_on image = slices_at image (word image kit_sector 4) (word image kit_sector 1) sys_index_sector

-- "It never shrinks": at the end SYS has no fewer blocks, and the slices that it had are the first of those that it has.
pub record SysNeverShrinks (image : List ℕ) (state : State) (end : List ℕ) (stop : State) : Type 0 where
  pub blocks : (before : SoundUnit image state) (after : SoundUnit end stop) → sys_blocks before ≤ sys_blocks after
  pub new : List ℕ
  pub slices : sys_slices_on end ≡ sys_slices_on image ++ new

-- What holds after a list of calls.
pub record Demand3After (image : List ℕ) (state : State) (calls : List Call) (replies : List Reply)
    (end : List ℕ) (stop : State) : Type 0 where
  -- the plain unit: "its start is read from the accepted image", which determines it
  pub start : Plain
  pub good : Good start
  pub read : Represents image state start
  pub only : (other : Plain) → Good other → Represents image state other → other ≡ start
  -- "the free slices on the map and the slices that all names hold in the plain unit, SYS among them, add up to the
  -- unit's number of slices"
  pub sum : ones_in_map end + length (held (after start calls)) ≡ M (after start calls)
  -- "No slice stands under two names, or twice under one."
  pub once : InRangeOnce (M (after start calls)) (held (after start calls))
  -- "All answers and words handed back equal those of the plain unit for the same list"
  pub same : replies ≡ answers start calls
  -- "Entries, files and open areas at the end are the plain unit's too."
  pub represented : Represents end stop (after start calls)
  -- the plain unit at the end keeps the rules of a sound unit, too
  pub good_after : Good (after start calls)
  -- "[SYS] never shrinks."
  pub sys_stays : SysNeverShrinks image state end stop

-- "One claim holds for every list, the empty one too": from "any image that is sound by document 01, with no area process
-- open, and the state that Init left on accepting it just before".
pub record Demand3 (C : Contract) : Type 0 where
  pub holds : (image end : List ℕ) (state stop : State) (calls : List Call) (replies : List Reply)
      → SoundUnit image state → AcceptedState state → LentWords calls → Run C image state calls replies end stop
      → Demand3After image state calls replies end stop
