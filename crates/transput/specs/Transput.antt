-- Transput by a user of an open area, said of the plain unit: its answer, and the lent words, image and state that it leaves.
use Rattle.std.specs.Prelude.{◌≡◌, cond, ◌&&◌, List, ℕ, suc, leb, eqb}
use Rattle.std.proofs.Math.Option.{some}
use Rattle.types.specs.declared.Area.{Area}
use Rattle.types.specs.declared.State.{State}
use Rattle.disc.specs.Attributes.{write_protected}
use Rattle.catalog.specs.declared.Unit.{Unit}
use Rattle.state.specs.declared.Kind.TheVariants.{Writer}
use Rattle.disc.specs.Names.{packed}
use Rattle.state.specs.Areas.{any_other}
use Rattle.plain.specs.Table.{table_find}
use Rattle.plain.specs.Unit.{Plain, File}
use Rattle.plain.specs.Questions.{Outcome, either}
use Rattle.plain.specs.Areas.{moved}
use Rattle.plain.specs.Transput.{is_output, input, output, step_transput}
use Rattle.refine.specs.OnDisc.{OnDisc}
use Rattle.lookup.specs.Unit.{NumbersOf}
use Rattle.area_users.specs.declared.AreaReply.{AreaReply}
use Rattle.area_users.specs.AreaUsers.{at_position}
use Rattle.refine.specs.Leaves.{Leaves, StandFor}
use Rattle.area_users.specs.Seat.{Seat, area_users, area_user}
use Rattle.output.specs.Output.{Placed, output_image, output_state}

-- ---- the questions before the position is moved

-- "512 bytes and at least 256 words lent? 0880h; output: no other exclusive writer? 0A00h; not write protected? 0C00h": 0, or the
-- word of the first no.
unfoldable pub refusal_word : Area → ℕ → ℕ → ℕ → ℕ → ℕ → ℕ
refusal_word area attributes sender operation bytes count =
    cond (eqb bytes 512 && leb 256 count)
    (cond (is_output operation) (cond (any_other Writer sender area) 0x0A00 (cond (write_protected attributes) 0x0C00 0)) 0) 0x0880

-- The same with the attributes of the area's file, of every unit on the image.
pub record RefusalFor (image : List ℕ) (o : Unit) (area : Area) (sender operation bytes count r : ℕ) : Type 0 where
  pub all : (p : Plain) → OnDisc image p → NumbersOf o p → (f : File) → table_find (packed area.name) p.files ≡ some f
      → r ≡ refusal_word area f.attributes sender operation bytes count

-- ---- input

-- "Add 1 to the position", where Input is not refused.
unfoldable pub input_state : State → ℕ → ℕ → ℕ → ℕ → State
input_state state j u result k = at_position state j u (cond (eqb result 0) (suc k) k)

-- Answer and lent words are the plain unit's, the block is the position; the image stays, and the state is determined.
pub record InputLeaves (image : List ℕ) (state : State) (p q : Plain) (n j sender u : ℕ) (f : File) (k : ℕ) (lent : List ℕ)
    (r : AreaReply) (after : List ℕ) : Type 0 where
  pub leaves : Leaves (input q (moved p n sender (area_users state j) (area_user state j u)) f k lent)
      r.answer after (StandFor image r.state)
  pub block : r.answer.block.0 ≡ k
  pub reached : r.state ≡ input_state state j u r.answer.result k

pub record Inputs (image : List ℕ) (state : State) (o : Unit) (j u k : ℕ) (lent : List ℕ) (r : AreaReply) (after : List ℕ) : Type 0 where
  pub all : (p q : Plain) (n sender : ℕ) (f : File) → Placed image state o p q n j sender u f k
      → InputLeaves image state p q n j sender u f k lent r after

-- ---- input or output

-- Transput at position k, where q is the unit once the position is k.
abbrev pub transput_from : State → Plain → Plain → ℕ → ℕ → ℕ → ℕ → File → ℕ → ℕ → List ℕ → Outcome
transput_from state p q n j sender u f operation k lent =
    either (is_output operation) (output p q (moved p n sender (area_users state j) (area_user state j u)) n f k lent)
    (input q (moved p n sender (area_users state j) (area_user state j u)) f k lent)

-- The image and the state after a result word at position k: Input leaves the image.
unfoldable pub transput_image : Plain → List ℕ → File → ℕ → ℕ → ℕ → List ℕ → List ℕ
transput_image p image f operation result k lent = cond (is_output operation) (output_image p image f result k lent) image

unfoldable pub transput_state : Plain → File → State → ℕ → ℕ → ℕ → ℕ → ℕ → State
transput_state p f state j u operation result k =
    cond (is_output operation) (output_state p f state j u result k) (input_state state j u result k)

-- The outcome's answer and lent words; image and state are those of its unit, and determined by result word and block.
pub record TransputLeaves (x : Outcome) (image : List ℕ) (state : State) (p : Plain) (f : File) (j u operation : ℕ) (lent : List ℕ)
    (r : AreaReply) (filled after : List ℕ) : Type 0 where
  pub leaves : Leaves x r.answer filled (StandFor after r.state)
  pub written : after ≡ transput_image p image f operation r.answer.result r.answer.block.0 lent
  pub reached : r.state ≡ transput_state p f state j u operation r.answer.result r.answer.block.0

pub record TransputsAt (image : List ℕ) (state : State) (o : Unit) (j u operation k : ℕ) (lent : List ℕ)
    (r : AreaReply) (filled after : List ℕ) : Type 0 where
  pub all : (p q : Plain) (n sender : ℕ) (f : File) → Placed image state o p q n j sender u f k
      → TransputLeaves (transput_from state p q n j sender u f operation k lent) image state p f j u operation lent r filled after

-- ---- transput

-- What it starts from: the sender is a user of the area.
pub record Seated (image : List ℕ) (state : State) (o : Unit) (j sender u : ℕ) : Type 0 where
  pub p : Plain
  pub n : ℕ
  pub f : File
  pub seat : Seat image state p n j sender u f
  pub numbers : NumbersOf o p

pub record Transputs (image : List ℕ) (state : State) (o : Unit) (j sender u operation bytes block : ℕ) (lent : List ℕ)
    (r : AreaReply) (filled after : List ℕ) : Type 0 where
  pub all : (p : Plain) (n : ℕ) (f : File) → Seat image state p n j sender u f → NumbersOf o p
      → TransputLeaves (step_transput p n sender (area_users state j) (area_user state j u) f operation bytes block lent)
      image state p f j u operation lent r filled after
