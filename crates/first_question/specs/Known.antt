-- The first question of every call: the class of a message and the unit that it names, and whether that unit is known and ready; the words
-- of the first two questions.
use Rattle.std.specs.Prelude.{◌≡◌, true, ℕ}
use Rattle.types.specs.declared.Name.{Name}
use Rattle.types.specs.declared.State.{State}
use Rattle.types.specs.declared.Message.{Message}
use Rattle.types.specs.declared.Message.TheVariants.{Init, Set, Create, LookUp, Change, Remove}
use Rattle.types.specs.declared.Message.TheVariants.{CreateArea, RemoveArea, AreaMessage, UnitDescription, Listing}
use Rattle.types.specs.State.{NoneOpen, UnitKnown}
use Rattle.disc.specs.Names.{unit_in}
use Rattle.first_question.specs.declared.Class.{Class}
use Rattle.first_question.specs.declared.Class.TheVariants as class
use Rattle.first_question.specs.declared.Classified.{Classified}

-- A message of a class that names its unit itself, or in a name: "in a message's name the sixth is the unit number".
abbrev pub by_unit : Class → ℕ → Classified
by_unit kind unit = record { class = kind; unit = unit }

abbrev pub by_name : Class → Name → Classified
by_name kind name = by_unit kind (unit_in name)

-- Each message's class, as the questions of document 01 are put ("Catalog", "Area create and remove", "Area messages", "Listing and unit
-- description"), and the unit that it names.
abbrev pub classified : Message → Classified
classified (Init unit) = by_unit class.Init unit
classified (Set name) = by_name class.Catalog name
classified (Create name size attributes) = by_name class.Catalog name
classified (LookUp name) = by_name class.Catalog name
classified (Change name) = by_name class.Catalog name
classified (Remove name) = by_name class.Catalog name
classified (CreateArea name) = by_name class.Area name
classified (RemoveArea name) = by_name class.Area name
classified (AreaMessage name sender operation) = by_name class.Area name
classified (UnitDescription unit bytes) = by_unit class.Report unit
classified (Listing unit) = by_unit class.Report unit

-- The number of the unit that a message means.
abbrev pub unit_meant : Message → ℕ
unit_meant message = (classified message).unit

-- The words of the first two questions: catalog "1. .. 1200h 2. .. 9000h"; area create and remove, and area messages, "known,
-- initialized? 0A00h; sound? 8800h"; listing and unit description "ask catalog questions 1 and 2 first".
abbrev pub unknown_to : Class → ℕ
unknown_to class.Init = 0x1200
unknown_to class.Catalog = 0x1200
unknown_to class.Area = 0x0A00
unknown_to class.Report = 0x1200

abbrev pub unsound_to : Class → ℕ
unsound_to class.Init = 0x9000
unsound_to class.Catalog = 0x9000
unsound_to class.Area = 0x8800
unsound_to class.Report = 0x9000

abbrev pub unknown_word : Message → ℕ
unknown_word message = unknown_to (classified message).class

abbrev pub unsound_word : Message → ℕ
unsound_word message = unsound_to (classified message).class

-- "And (but for Init) initialized? Init: no area process?"
abbrev pub Ready : State → Class → Type 0
Ready state class.Init = NoneOpen state
Ready state class.Catalog = state.initialized ≡ true
Ready state class.Area = state.initialized ≡ true
Ready state class.Report = state.initialized ≡ true

-- "1. Unit known (the state's, 0 to 3) and (but for Init) initialized? Init: no area process?"
pub record Known (state : State) (message : Message) : Type 0 where
  pub unit : UnitKnown state (unit_meant message)
  pub ready : Ready state (classified message).class
