-- The messages to an area process, said of the plain unit: the answer, and the lent words, image and state that are left.
use Rattle.std.specs.Prelude.{◌≡◌, Bool, false, not, cond, ◌&&◌, List, [], ◌∷◌, ◌≢◌, ℕ, zero, suc, eqb, length, Some, None, Option as Maybe}
use Rattle.std.proofs.Math.Option.{Option, none, some}
use Rattle.types.specs.declared.Name.{Name}
use Rattle.types.specs.declared.Answer.{Answer}
use Rattle.types.specs.declared.Area.{Area}
use Rattle.types.specs.declared.State.{State}
use Rattle.types.specs.declared.Operation.{Operation}
use Rattle.types.specs.declared.Operation.TheVariants.{Reserve, Position, Sense, Transput, Other}
use Rattle.types.specs.State.{area_at}
use Rattle.disc.specs.Names.{named}
use Rattle.catalog.specs.declared.Unit.{Unit}
use Rattle.state.specs.declared.Kind.TheVariants.{Exclusive}
use Rattle.state.specs.Areas.{set_area, area_named, entry_of, any_other, reserved, released}
use Rattle.plain.specs.Table.{table_find}
use Rattle.plain.specs.Unit.{Plain, File}
use Rattle.plain.specs.Questions.{Outcome}
use Rattle.plain.specs.Transput.{one_of}
use Rattle.plain.specs.Step.{is_known, reserve_count, user_step, operation_step, step_area}
use Rattle.plain.specs.Good.{Good}
use Rattle.refine.specs.Represents.{Represents}
use Rattle.lookup.specs.Unit.{NumbersOf}
use Rattle.area_users.specs.declared.AreaReply.{AreaReply}
use Rattle.area_users.specs.AreaUsers.{at_position, position_reached}
use Rattle.refine.specs.Leaves.{Leaves, StandFor}
use Rattle.area_users.specs.Seat.{Seat, area_users, area_user}
use Rattle.transput.specs.Transput.{transput_image, transput_state}

-- "Known operation (Reserve 0, 2, 3, 4; .. transput 1, 3, 5, 7, 19)".
abbrev pub known_count : ℕ → Bool
known_count count = one_of count (0 ∷ 2 ∷ 3 ∷ 4 ∷ [])

abbrev pub known_transput : ℕ → Bool
known_transput operation = one_of operation (1 ∷ 3 ∷ 5 ∷ 7 ∷ 19 ∷ [])

-- The count of a Reserve; 0 for Release and every other operation.
abbrev pub reserve_word : Operation → ℕ
reserve_word (Reserve count) = count
reserve_word (Position block) = 0
reserve_word Sense = 0
reserve_word (Transput operation bytes block) = 0
reserve_word (Other operation) = 0

-- ---- image and state by the answer

-- The image after an operation on file f: only output writes.
unfoldable pub message_image : Plain → List ℕ → Operation → Answer → List ℕ → Option File → List ℕ
message_image p image operation a lent none = image
message_image p image (Reserve count) a lent (some f) = image
message_image p image (Position block) a lent (some f) = image
message_image p image Sense a lent (some f) = image
message_image p image (Transput operation bytes block) a lent (some f) = transput_image p image f operation a.result a.block.0 lent
message_image p image (Other operation) a lent (some f) = image

-- The state after a user's operation: Release, Position, and the position, index sector and live length that transput leaves.
unfoldable pub user_state : Plain → File → State → ℕ → ℕ → Operation → Answer → State
user_state p f state j u (Reserve count) a = set_area state j (released (area_at state j) u)
user_state p f state j u (Position block) a = at_position state j u (position_reached block (length f.sectors))
user_state p f state j u Sense a = state
user_state p f state j u (Transput operation bytes block) a = transput_state p f state j u operation a.result a.block.0
user_state p f state j u (Other operation) a = state

-- "Reserve 2 to 4"; "Release and all else: sender a user?", by the count of a Reserve and where the sender's entry is found.
unfoldable pub operation_state : Plain → File → State → ℕ → ℕ → Operation → Answer → ℕ → Maybe ℕ → State
operation_state p f state j sender operation a (suc count) found = set_area state j (reserved (area_at state j) sender (suc count)).area
operation_state p f state j sender operation a zero (Some u) = user_state p f state j u operation a
operation_state p f state j sender operation a zero None = state

-- "No other exclusive user? 0200h; sender not 0? 0810h; known operation? 0A00h."
abbrev pub admitted : Area → ℕ → Operation → Bool
admitted area sender operation = not (any_other Exclusive sender area) && (not (eqb sender 0) && is_known operation)

-- "The first no decides; nothing changes", by the descriptor of the name and its file.
unfoldable pub message_state : Plain → State → ℕ → Operation → Answer → Maybe ℕ → Option File → State
message_state p state sender operation a None f = state
message_state p state sender operation a (Some j) none = state
message_state p state sender operation a (Some j) (some f) =
    cond (admitted (area_at state j) sender operation)
    (operation_state p f state j sender operation a (reserve_word operation) (entry_of sender (area_at state j))) state

-- ---- a user's operation

-- Answer and lent words are the outcome's; image and state are those of its unit, and determined by the answer.
pub record UserLeaves (x : Outcome) (image : List ℕ) (state : State) (p : Plain) (f : File) (j u : ℕ) (operation : Operation)
    (lent : List ℕ) (r : AreaReply) (filled after : List ℕ) : Type 0 where
  pub leaves : Leaves x r.answer filled (StandFor after r.state)
  pub written : after ≡ message_image p image operation r.answer lent (some f)
  pub reached : r.state ≡ user_state p f state j u operation r.answer

pub record UserSteps (image : List ℕ) (state : State) (o : Unit) (j sender u : ℕ) (operation : Operation) (lent : List ℕ)
    (r : AreaReply) (filled after : List ℕ) : Type 0 where
  pub all : (p : Plain) (n : ℕ) (f : File) → Seat image state p n j sender u f → NumbersOf o p
      → UserLeaves (user_step p n sender (area_users state j) (area_user state j u) f operation lent)
      image state p f j u operation lent r filled after

-- ---- the operation

-- Descriptor j is that of name n, whose file is f; the sender is not 0, and no other user is exclusive.
pub record OperatesFrom (image : List ℕ) (state : State) (o : Unit) (j sender : ℕ) (p : Plain) (n : ℕ) (f : File) : Type 0 where
  pub good : Good p
  pub represents : Represents image state p
  pub numbers : NumbersOf o p
  pub named : area_named n state ≡ Some j
  pub file : table_find n p.files ≡ some f
  pub nonzero : sender ≢ 0
  pub alone : any_other Exclusive sender (area_at state j) ≡ false

pub record CanOperate (image : List ℕ) (state : State) (o : Unit) (j sender : ℕ) : Type 0 where
  pub p : Plain
  pub n : ℕ
  pub f : File
  pub can : OperatesFrom image state o j sender p n f

pub record OperationLeaves (x : Outcome) (image : List ℕ) (state : State) (p : Plain) (f : File) (j sender : ℕ) (operation : Operation)
    (lent : List ℕ) (r : AreaReply) (filled after : List ℕ) : Type 0 where
  pub leaves : Leaves x r.answer filled (StandFor after r.state)
  pub written : after ≡ message_image p image operation r.answer lent (some f)
  pub reached : r.state ≡ operation_state p f state j sender operation r.answer (reserve_word operation) (entry_of sender (area_at state j))

pub record Operates (image : List ℕ) (state : State) (o : Unit) (j sender : ℕ) (operation : Operation) (lent : List ℕ)
    (r : AreaReply) (filled after : List ℕ) : Type 0 where
  pub all : (p : Plain) (n : ℕ) (f : File) → OperatesFrom image state o j sender p n f
      → OperationLeaves (operation_step p n sender (area_users state j) operation (reserve_count operation) lent) image state p f j sender
      operation lent r filled after

-- ---- the message

-- Answer and lent words are the plain unit's; image and state are those of its unit, and determined by the answer.
pub record AreaLeaves (image : List ℕ) (state : State) (p : Plain) (name : Name) (sender : ℕ) (operation : Operation) (lent : List ℕ)
    (r : AreaReply) (filled after : List ℕ) : Type 0 where
  pub leaves : Leaves (step_area p name sender operation lent) r.answer filled (StandFor after r.state)
  pub written : after ≡ message_image p image operation r.answer lent (table_find (named name) p.files)
  pub reached : r.state
      ≡ message_state p state sender operation r.answer (area_named (named name) state) (table_find (named name) p.files)

-- The same of every unit that image and state represent.
pub record AreaMessages (image : List ℕ) (state : State) (o : Unit) (name : Name) (sender : ℕ) (operation : Operation) (lent : List ℕ)
    (r : AreaReply) (filled after : List ℕ) : Type 0 where
  pub all : (p : Plain) → Good p → Represents image state p → NumbersOf o p
      → AreaLeaves image state p name sender operation lent r filled after
