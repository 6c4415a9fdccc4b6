-- Output at a position, said of the plain unit: what it finds, its answer, and the image and the state that it leaves; first all but
-- the words of its block.
use Rattle.std.specs.Prelude.{◌≡◌, cond, ◌||◌, List, ◌++◌, ℕ, suc, ◌≤◌, leb, ltb, eqb, length, take, Result, Ok, Err}
use Rattle.std.proofs.Math.Option.{some}
use Rattle.types.specs.declared.State.{State}
use Rattle.types.specs.declared.Refusal.{Refusal}
use Rattle.types.specs.Words.{refusal_word}
use Rattle.types.specs.State.{area_at}
use Rattle.disc.specs.Attributes.{extendable}
use Rattle.disc.specs.Stretches.{stretch_count}
use Rattle.disc.specs.Entries.{index_sector}
use Rattle.index.specs.Block.{whole_index}
use Rattle.catalog.specs.declared.Unit.{Unit}
use Rattle.state.specs.Areas.{set_area, moved, with_live}
use Rattle.plain.specs.Table.{Table, table_find}
use Rattle.plain.specs.Unit.{Plain, File, AreaUser, free_slices}
use Rattle.plain.specs.Areas as plain
use Rattle.plain.specs.Transput.{slices_to_take, output}
use Rattle.plain.specs.Good.{Good}
use Rattle.refine.specs.Represents.{Represents}
use Rattle.refine.specs.OnDisc.{OnDisc}
use Rattle.refine.specs.Writes.{replaced_image, appended_image, extended_image}
use Rattle.lookup.specs.Unit.{NumbersOf}
use Rattle.area_users.specs.declared.AreaReply.{AreaReply}
use Rattle.area_users.specs.AreaUsers.{at_position, area_reply}
use Rattle.refine.specs.Leaves.{Leaves, StandFor}
use Rattle.area_users.specs.Seat.{Seat, area_users, area_user}
use Rattle.preservation.specs.Units.{append_slices}

-- ---- appending

-- "Where a slice is needed: one free? 0900h; at most 127 stretches with it? 0808h": 0, or the word of the first no.
unfoldable pub room_word : Plain → File → ℕ
room_word p f =
    cond (leb (slices_to_take p.s f) (free_slices p))
    (cond (eqb (slices_to_take p.s f) 0 || leb (stretch_count (f.slices ++ append_slices p f)) 127) 0 0x0808) 0x0900

-- The same of every file, of every unit on the image, that has this index block and takes so many slices.
pub record RoomFor (image : List ℕ) (o : Unit) (words : List ℕ) (more r : ℕ) : Type 0 where
  pub all : (p : Plain) → OnDisc image p → NumbersOf o p → (n : ℕ) (f : File) → table_find n p.files ≡ some f
      → words ≡ whole_index p.F p.s f.slices → more ≡ slices_to_take p.s f → r ≡ room_word p f

-- Output at position k, "Appending: extendable? 0A00h" before it: 0, or the word of the first no.
unfoldable pub output_word : Plain → File → ℕ → ℕ
output_word p f k = cond (ltb k (length f.sectors)) 0 (cond (extendable f.attributes) (room_word p f) 0x0A00)

-- An open file with this index block, of which every question of an append is answered yes.
pub record CanExtendFrom (image : List ℕ) (o : Unit) (block : List ℕ) (count : ℕ) (p : Plain) (n : ℕ) (users : Table AreaUser)
    (f : File) : Type 0 where
  pub on : OnDisc image p
  pub numbers : NumbersOf o p
  pub file : table_find n p.files ≡ some f
  pub live : table_find n p.areas ≡ some users
  pub words : block ≡ whole_index p.F p.s f.slices
  pub more : count ≡ slices_to_take p.s f
  pub yes : output_word p f (length f.sectors) ≡ 0

pub record CanExtend (image : List ℕ) (o : Unit) (words : List ℕ) (more : ℕ) : Type 0 where
  pub p : Plain
  pub n : ℕ
  pub users : Table AreaUser
  pub f : File
  pub can : CanExtendFrom image o words more p n users f

-- The image with the slices taken, and the file's index sector then.
pub record ExtendedBy (image : List ℕ) (o : Unit) (words : List ℕ) (more : ℕ) (after : List ℕ) (index : ℕ) : Type 0 where
  pub all : (p : Plain) (n : ℕ) (users : Table AreaUser) (f : File) → CanExtendFrom image o words more p n users f
      → let slices = f.slices ++ append_slices p f in
      (after ≡ extended_image p image f (append_slices p f)) × (index ≡ index_sector p.F p.s (length slices) slices)

-- ---- a user at a position

-- The sender, a user of the area, at position k; q is the unit once its position is k.
pub record Placed (image : List ℕ) (state : State) (o : Unit) (p q : Plain) (n j sender u : ℕ) (f : File) (k : ℕ) : Type 0 where
  pub seat : Seat image state p n j sender u f
  pub numbers : NumbersOf o p
  pub low : k ≤ length f.sectors
  pub good : Good q
  pub represents : Represents image (at_position state j u k) q

-- What Input and Output start from, beside "at least 256 words lent".
pub record SomePlaced (image : List ℕ) (state : State) (o : Unit) (j u k : ℕ) : Type 0 where
  pub p : Plain
  pub q : Plain
  pub n : ℕ
  pub sender : ℕ
  pub f : File
  pub placed : Placed image state o p q n j sender u f k

-- "Output replaces it or, at the live length, appends": the image after a result word; where Output is refused nothing is written.
unfoldable pub output_image : Plain → List ℕ → File → ℕ → ℕ → List ℕ → List ℕ
output_image p image f result k lent =
    cond (eqb result 0)
    (cond (ltb k (length f.sectors)) (replaced_image p image f k (take 256 lent))
    (appended_image p image f (append_slices p f) (take 256 lent)))
    image

-- The state after it: "add 1 to the position", and after an append index sector and live length are the longer file's.
unfoldable pub output_state : Plain → File → State → ℕ → ℕ → ℕ → ℕ → State
output_state p f state j u result k =
    let slices : List ℕ = f.slices ++ append_slices p f in
    cond (eqb result 0)
    (cond (ltb k (length f.sectors)) (at_position state j u (suc k))
    (set_area state j (with_live (moved (area_at state j) u (record { 0 = suc k }))
    (record { 0 = index_sector p.F p.s (length slices) slices }) (suc (length f.sectors)))))
    (at_position state j u k)

-- ---- before the block is stored

-- The image then: at the live length the slices are taken.
unfoldable pub prepared_image : Plain → List ℕ → File → ℕ → List ℕ
prepared_image p image f k =
    cond (eqb (output_word p f k) 0) (cond (ltb k (length f.sectors)) image (extended_image p image f (append_slices p f))) image

-- The reply is Output's already: "both hand back 512 bytes and that block".
abbrev pub output_reply : Plain → File → State → ℕ → ℕ → ℕ → AreaReply
output_reply p f state j u k =
    area_reply (output_state p f state j u (output_word p f k) k) (output_word p f k) (cond (eqb (output_word p f k) 0) 512 0) k

-- The same by what is known before the block is stored: the reply, or the refusal.
abbrev pub reply_of : State → ℕ → ℕ → ℕ → Result AreaReply Refusal → AreaReply
reply_of state j u k (Ok reply) = reply
reply_of state j u k (Err refusal) = area_reply (at_position state j u k) (refusal_word refusal) 0 k

pub record Prepares (image : List ℕ) (state : State) (o : Unit) (j u k : ℕ) (r : AreaReply) (after : List ℕ) : Type 0 where
  pub all : (p q : Plain) (n sender : ℕ) (f : File) → Placed image state o p q n j sender u f k
      → (r ≡ output_reply p f state j u k) × (after ≡ prepared_image p image f k)

-- ---- output

-- Answer and lent words are the plain unit's, the block is the position, image and state are those of its unit, and both are
-- determined.
pub record OutputLeaves (image : List ℕ) (state : State) (p q : Plain) (n j sender u : ℕ) (f : File) (k : ℕ) (lent : List ℕ)
    (r : AreaReply) (after : List ℕ) : Type 0 where
  pub leaves : Leaves (output p q (plain.moved p n sender (area_users state j) (area_user state j u)) n f k lent)
      r.answer lent (StandFor after r.state)
  pub block : r.answer.block.0 ≡ k
  pub written : after ≡ output_image p image f r.answer.result k lent
  pub reached : r.state ≡ output_state p f state j u r.answer.result k

pub record Outputs (image : List ℕ) (state : State) (o : Unit) (j u k : ℕ) (lent : List ℕ) (r : AreaReply) (after : List ℕ) : Type 0 where
  pub all : (p q : Plain) (n sender : ℕ) (f : File) → Placed image state o p q n j sender u f k
      → OutputLeaves image state p q n j sender u f k lent r after
