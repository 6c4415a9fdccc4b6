-- Document 02, R-12, worked by hand: the bound of 127 free stretches is the highest, and that SYS is not lengthened is needed.
use Rattle.std.specs.Prelude.{◌≡◌, List, [], ◌∷◌, ℕ}
use Rattle.types.specs.declared.Message.TheVariants.{Set, Create}
use Rattle.disc.specs.Names.{named}
use Rattle.plain.specs.Unit.{Plain, free_slices, sys_of}
use Rattle.plain.specs.Taking.{layers_for}
use Rattle.plain.specs.Good.{Good}
use Rattle.plain.specs.FreeStretches.{free_stretches, AddsNoLayer}
use Rattle.examples.specs.Cases.{Case, gives, Shows}
use Rattle.examples.specs.ExampleUnits.{c_name, crowd_name, set_entry, free127, free128, crowded}

-- A good unit with so many free slices in so many stretches, on which a file 'C' adds no layer to SYS and the calls are answered so.
pub record Tried (p : Plain) (n m : ℕ) (cases : List Case) : Type 0 where
  pub good : Good p
  pub slices : free_slices p ≡ n
  pub counted : free_stretches p ≡ m
  pub no_layer : AddsNoLayer p (named c_name)
  pub answered : Shows p cases

-- 128 stretches of one slice: 255 blocks need them all, 253 blocks need 127 of them.
abbrev pub cases128 : List Case
cases128 =
    gives (Create c_name 255 0) [] 0x1008  -- 8
    ∷ gives (Set c_name) (set_entry 0 255) 0x1008  -- 8
    ∷ gives (Create c_name 253 0) [] 0
    ∷ []

-- 127 stretches of one slice: 253 blocks need them all, 254 blocks one more.
abbrev pub cases127 : List Case
cases127 = gives (Create c_name 254 0) [] 0x1100 ∷ gives (Create c_name 253 0) [] 0 ∷ []  -- 7

pub record FreeStretches : Type 0 where
  pub refused : Tried free128 128 128 cases128
  pub accepted : Tried free127 127 127 cases127
  -- 'CAXZ' adds a layer to SYS, the fourth, for which SYS would lie in 128 stretches: refused, for SYS's index
  pub sys_counted : free_stretches crowded ≡ 127
  pub sys_layers : layers_for crowded.H (sys_of crowded) (named crowd_name) crowded.files ≡ 4
  pub sys_refused : Shows crowded (gives (Create crowd_name 0 0) [] 0x1008 ∷ [])  -- 8
