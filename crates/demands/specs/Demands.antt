-- The letter's demands, as types over the contracts of the one call and of Format. Demand 3 is `Rattle.refine.specs.Demands.Demand3`.
use Rattle.std.specs.Prelude.{◌≡◌, List, ◌≢◌, ◌⊎◌, ◌↔◌, ℕ, Some}
use Rattle.types.specs.declared.Name.{Name}
use Rattle.types.specs.declared.State.{State}
use Rattle.types.specs.declared.Operation.{Operation}
use Rattle.types.specs.declared.Message.{Message}
use Rattle.types.specs.declared.Message.TheVariants.{Init, AreaMessage}
use Rattle.types.specs.State.{area_at}
use Rattle.disc.specs.Words.{Words}
use Rattle.disc.specs.Names.{named}
use Rattle.state.specs.Areas.{area_named, entry_of}
use Rattle.plain.specs.Unit.{Plain}
use Rattle.plain.specs.Step.{Call, Reply, step}
use Rattle.plain.specs.Good.{Good}
use Rattle.plain.specs.Claims.{LentWords, Moves, OnlyMoved}
use Rattle.sound.specs.State.{Shaped}
use Rattle.sound.specs.Sound.{SoundUnit}
use Rattle.refine.specs.Represents.{Represents}
use Rattle.refine.specs.Demands.{Performed, Contract, Run, AcceptedState, Demand3After, Demand3}
use Rattle.area_users.specs.AreaUsers.{at_position}
use Rattle.first_question.specs.Known.{unknown_word, unsound_word, Known}
use Rattle.format.specs.Format.{Formatted, FormatAnswer}
use Rattle.perform.specs.Perform.{Untouched, Obeyed, Performs}
use Rattle.demands.specs.FormatContract.{FormatContract}
use Rattle.demands.specs.Listing.{ListedByName}
use Rattle.demands.specs.Reserved.{ReservedSectors}
use Rattle.demands.specs.Slack.{SlackKept}
use Rattle.demands.specs.Whole.{WrittenWhole}

-- ---- demand 1

-- The plain unit of a sound image and state: "its start is read from the accepted image", which determines it.
pub record ReadFrom (image : List ℕ) (state : State) (p : Plain) : Type 0 where
  pub good : Good p
  pub represents : Represents image state p
  pub only : (other : Plain) → Good other → Represents image state other → other ≡ p

-- The state `next` is the state but for the position of the message's sender in the message's area, which is k.
pub record PositionIs (state : State) (name : Name) (sender k : ℕ) (next : State) : Type 0 where
  pub j : ℕ
  pub u : ℕ
  pub is_open : area_named (named name) state ≡ Some j
  pub is_user : entry_of sender (area_at state j) ≡ Some u
  pub left : next ≡ at_position state j u k

-- "No word of .. state .. changes, save the sender's position where document 01 says so": Position and transput 5 and 7 leave the
-- position at which they leave it in the plain unit, which is q then.
pub data StateLeft (p q : Plain) (state next : State) : Message → Type 0 where
  everything : {message : Message} → q ≡ p → next ≡ state → StateLeft p q state next message
  but_position : {name : Name} {sender : ℕ} {operation : Operation} → Moves operation → (m : OnlyMoved p name sender q)
      → PositionIs state name sender m.to next → StateLeft p q state next (AreaMessage name sender operation)

-- A later question has the answer no: the answer is that of the plain unit, whose step asks the questions from the top, "and no word of
-- image, state or lent record changes, save the sender's position"; "returned byte counts are 0".
pub record RefusedLater (p : Plain) (image : List ℕ) (state : State) (message : Message) (lent : List ℕ) (r : Performed) : Type 0 where
  pub answered : r.answer ≡ (step p message lent).answer
  pub bytes : r.answer.bytes ≡ 0
  pub entries : r.answer.entries ≡ 0
  pub same_image : r.image ≡ image
  pub same_lent : r.lent ≡ lent
  pub same_state : StateLeft p (step p message lent).unit state r.state message

-- "Where a question that document 01 puts to a call has the answer no .., the first such question gives the result word": the first
-- question, the second, or a later one; "where none has, the word is 0 and the call does what document 01 says of it".
pub data Answered (image : List ℕ) (state : State) (message : Message) (lent : List ℕ) (r : Performed) : Type 0 where
  unknown : (Known state message → ⊥) → Untouched (unknown_word message) image state lent r → Answered image state message lent r
  unsound : Known state message → (SoundUnit image state → ⊥) → Untouched (unsound_word message) image state lent r
      → Answered image state message lent r
  refused : Known state message → SoundUnit image state → (p : Plain) → ReadFrom image state p → r.answer.result ≢ 0
      → RefusedLater p image state message lent r → Answered image state message lent r
  done : Known state message → SoundUnit image state → (p : Plain) → ReadFrom image state p → r.answer.result ≡ 0
      → Obeyed p image state message lent r → Answered image state message lent r

-- "Every call ends with a result word", whatever image, state, message and lent words are; Format's questions and what it writes are
-- those of `FormatAnswer`.
pub record Demand1 (C : Contract) (F : FormatContract) : Type 0 where
  pub call : {image : List ℕ} {state : State} {message : Message} {lent : List ℕ} {r : Performed} → C image state message lent r
      → Answered image state message lent r
  pub format : {image : List ℕ} {state : State} {bytes : ℕ} {lent after : List ℕ} {r : Formatted} → F image state bytes lent after r
      → FormatAnswer image state bytes lent after r
  -- every word of answer, image, state and lent words is determined; a listing's order too, by document 02, R-1
  pub determined : {image : List ℕ} {state : State} {message : Message} {lent : List ℕ} {r q : Performed} → C image state message lent r
      → C image state message lent q → r ≡ q
  pub format_determined : {image : List ℕ} {state : State} {bytes : ℕ} {lent a b : List ℕ} {r q : Formatted} → F image state bytes lent a r
      → F image state bytes lent b q → (a ≡ b) × (r ≡ q)

-- ---- demand 2

-- Calls one after the other, Format among them, each on image and state as the one before left them.
pub data Later (C : Contract) (F : FormatContract) : List ℕ → State → List ℕ → State → Type 0 where
  here : {image : List ℕ} {state : State} → Later C F image state image state
  call : {image end : List ℕ} {state stop : State} {message : Message} {lent : List ℕ} {r : Performed} → Words lent
      → C image state message lent r → Later C F r.image r.state end stop → Later C F image state end stop
  format : {image end : List ℕ} {state stop : State} {bytes : ℕ} {lent after : List ℕ} {r : Formatted} → Words lent
      → F image state bytes lent after r → Later C F after r.state end stop → Later C F image state end stop

pub record Demand2 (C : Contract) (F : FormatContract) : Type 0 where
  -- "Init, on a known unit with no area process, accepts exactly the images that meet document 01's rules of a sound unit"
  pub exactly : {image : List ℕ} {state : State} {unit : ℕ} {lent : List ℕ} {r : Performed} → C image state (Init unit) lent r
      → Known state (Init unit) → (r.answer.result ≡ 0) ↔ SoundUnit image state
  -- and no other unit
  pub only : {image : List ℕ} {state : State} {unit : ℕ} {lent : List ℕ} {r : Performed} → C image state (Init unit) lent r
      → r.answer.result ≡ 0 → Known state (Init unit)
  -- refused, it leaves everything as it was
  pub refused : {image : List ℕ} {state : State} {unit : ℕ} {lent : List ℕ} {r : Performed} → C image state (Init unit) lent r
      → r.answer.result ≢ 0 → (r.image ≡ image) × (r.state ≡ state) × (r.lent ≡ lent)
  -- on accepting it leaves the image, and the state with which demand 3's list begins
  pub accepted : {image : List ℕ} {state : State} {unit : ℕ} {lent : List ℕ} {r : Performed} → C image state (Init unit) lent r
      → r.answer.result ≡ 0 → (r.image ≡ image) × AcceptedState r.state × SoundUnit r.image r.state
  -- "and every image that Format .. writes meets them again", whatever stood there before: Init of the same unit accepts it
  pub format : {image : List ℕ} {state : State} {bytes : ℕ} {lent after : List ℕ} {r : Formatted} → Words image → Words lent → Shaped state
      → F image state bytes lent after r → r.result ≡ 0 → SoundUnit after r.state × Known r.state (Init r.state.unit)
  -- "or a later call writes meets them again, together with the open area processes": after every list of calls, Format among them,
  -- refused ones included
  pub later : {image end : List ℕ} {state stop : State} → SoundUnit image state → Later C F image state end stop → SoundUnit end stop
  -- and whatever stood there before, sound or not: after every such list nothing has changed, or the rules are met
  pub written : {image end : List ℕ} {state stop : State} → Words image → Shaped state → Later C F image state end stop
      → ((end ≡ image) × (stop ≡ state)) ⊎ SoundUnit end stop

-- ---- demand 3

-- Demand 3's list "begins with any image that is sound .. and the state that Init left on accepting it just before": the same said of an
-- accepted Init, without a word about the state that it left.
pub record AfterInit (C : Contract) : Type 0 where
  pub holds : {image end words : List ℕ} {state stop : State} {unit : ℕ} {r : Performed} {calls : List Call} {replies : List Reply}
      → C image state (Init unit) words r → r.answer.result ≡ 0 → LentWords calls → Run C r.image r.state calls replies end stop
      → Demand3After r.image r.state calls replies end stop

-- ---- the three demands, and what documents 01 and 02 say of the calls beside them

pub record Demands (C : Contract) (F : FormatContract) : Type 0 where
  pub first : Demand1 C F
  pub second : Demand2 C F
  pub third : Demand3 C
  pub after_init : AfterInit C
  -- "Sectors 0 to 5 are never read or written."
  pub reserved : ReservedSectors C F
  -- "Slack, freed and free sectors keep their words."
  pub slack : SlackKept C
  -- "In the image an emptied place is zeroed and an index block is written whole when its file's slices change."
  pub whole : WrittenWhole C
  -- Document 02, R-1: "The listing shall come by name".
  pub listing : ListedByName C

-- The same of the very contracts of `perform::perform` and `format::format`.
abbrev pub TheDemands : Type 0
TheDemands = Demands Performs FormatAnswer
