-- Reserve, Release and Position on the state: the answer, and the descriptor that each sets.
use Rattle.std.specs.Prelude.{cond, ℕ, leb}
use Rattle.types.specs.declared.State.{State}
use Rattle.types.specs.State.{area_at}
use Rattle.disc.specs.Numbers.{negative}
use Rattle.state.specs.Areas.{set_area, reserved, released, moved}
use Rattle.plain.specs.Questions.{answer}
use Rattle.area_users.specs.declared.AreaReply.{AreaReply}

-- A result word with a byte count and a block, and a state.
abbrev pub area_reply : State → ℕ → ℕ → ℕ → AreaReply
area_reply state word bytes block = record { answer = answer word bytes block 0; state = state }

-- "Reserve 2, 3, 4": where it is refused the descriptor stays.
abbrev pub reserved_reply : State → ℕ → ℕ → ℕ → AreaReply
reserved_reply state j sender count =
    area_reply (set_area state j (reserved (area_at state j) sender count).area) (reserved (area_at state j) sender count).word 0 0

-- "Release (0) takes 1; at zero the user and role go."
abbrev pub released_reply : State → ℕ → ℕ → AreaReply
released_reply state j u = area_reply (set_area state j (released (area_at state j) u)) 0 0 0

-- "Position sets the sender's position": that of user entry u of descriptor j.
abbrev pub at_position : State → ℕ → ℕ → ℕ → State
at_position state j u k = set_area state j (moved (area_at state j) u (record { 0 = k }))

-- "Position: not negative? 0A00h (becomes 0); not past the length? 0810h (becomes the length)."
abbrev pub position_word : ℕ → ℕ → ℕ
position_word block len = cond (negative block) 0x0A00 (cond (leb block len) 0 0x0810)

abbrev pub position_reached : ℕ → ℕ → ℕ
position_reached block len = cond (negative block) 0 (cond (leb block len) block len)

abbrev pub position_reply : State → ℕ → ℕ → ℕ → AreaReply
position_reply state j u block =
    area_reply (at_position state j u (position_reached block (area_at state j).length)) (position_word block (area_at state j).length) 0 0
