-- No message to an area process changes the unit's number or whether it is initialized.
use Rattle.std.specs.Prelude.{Some, None, Option as Maybe}
use mathlib.Core.Path.{◌≡◌, refl}
use mathlib.Core.Bool.{Bool, true, false, cond}
use mathlib.Core.List.{List, ◌++◌}
use mathlib.Core.Option.{Option, none, some}
use Prim.Native.Nat.{ℕ, zero, suc}
use lib.Dec.{eqb, ltb}
use lib.ListN.{length}
use Rattle.types.specs.declared.Answer.{Answer}
use Rattle.types.specs.declared.Area.{Area}
use Rattle.types.specs.declared.State.{State}
use Rattle.types.specs.declared.Operation.{Operation}
use Rattle.types.specs.declared.Operation.TheVariants.{Reserve, Position, Sense, Transput, Other}
use Rattle.types.specs.State.{area_at}
use Rattle.disc.specs.Entries.{index_sector}
use Rattle.state.specs.Areas.{set_area, moved, with_live, released, reserved, entry_of}
use Rattle.plain.specs.Transput.{is_output}
use Rattle.area_users.specs.AreaUsers.{at_position, position_reached}
use Rattle.plain.specs.Unit.{Plain, File}
use Rattle.preservation.specs.Units.{append_slices}
use Rattle.output.specs.Output.{output_state}
use Rattle.transput.specs.Transput.{input_state, transput_state}
use Rattle.area_messages.specs.AreaMessages.{reserve_word, user_state, operation_state, admitted, message_state}

pub record Kept (state next : State) : Type 0 where
  pub unit : next.unit ≡ state.unit
  pub initialized : next.initialized ≡ state.initialized

-- the same state, and one with another descriptor
same : (state : State) → Kept state state
same state = record { unit = refl; initialized = refl }

pub kept_same : {state next : State} → next ≡ state → Kept state next
kept_same {state} e = rw e (same state)

other : (state : State) (j : ℕ) (area : Area) → Kept state (set_area state j area)
other state j area = record { unit = refl; initialized = refl }

-- one of three states with another descriptor, one of two, and of two that are kept
kept_three : (state : State) (j : ℕ) (x y z : Area) (b c : Bool) → Kept state (cond b (cond c (set_area state j x) (set_area state j y)) (set_area state j z))
kept_three state j x y z true true = other state j x
kept_three state j x y z true false = other state j y
kept_three state j x y z false c = other state j z

kept_either : (state x y : State) (b : Bool) → Kept state x → Kept state y → Kept state (cond b x y)
kept_either state x y true k l = k
kept_either state x y false k l = l

output_kept : (p : Plain) (f : File) (state : State) (j u result k : ℕ) → Kept state (output_state p f state j u result k)
unfolding output_state
output_kept p f state j u result k =
    let slices : List ℕ = f.slices ++ append_slices p f in
    let next : Area = moved (area_at state j) u (record { 0 = suc k }) in
    kept_three state j next (with_live next (record { 0 = index_sector p.F p.s (length slices) slices }) (suc (length f.sectors)))
    (moved (area_at state j) u (record { 0 = k })) (eqb result 0) (ltb k (length f.sectors))

transput_kept : (p : Plain) (f : File) (state : State) (j u operation result k : ℕ) → Kept state (transput_state p f state j u operation result k)
unfolding transput_state input_state
transput_kept p f state j u operation result k =
    kept_either state (output_state p f state j u result k) (at_position state j u (cond (eqb result 0) (suc k) k)) (is_output operation) (output_kept p f state j u result k)
    (other state j (moved (area_at state j) u (record { 0 = cond (eqb result 0) (suc k) k })))

user_kept : (p : Plain) (f : File) (state : State) (j u : ℕ) (operation : Operation) (a : Answer) → Kept state (user_state p f state j u operation a)
unfolding user_state
user_kept p f state j u (Reserve count) a = other state j (released (area_at state j) u)
user_kept p f state j u (Position block) a = other state j (moved (area_at state j) u (record { 0 = position_reached block (length f.sectors) }))
user_kept p f state j u Sense a = same state
user_kept p f state j u (Transput operation bytes block) a = transput_kept p f state j u operation a.result a.block.0
user_kept p f state j u (Other operation) a = same state

operation_kept : (p : Plain) (f : File) (state : State) (j sender : ℕ) (operation : Operation) (a : Answer) (count : ℕ) (found : Maybe ℕ)
    → Kept state (operation_state p f state j sender operation a count found)
unfolding operation_state
operation_kept p f state j sender operation a (suc count) found = other state j (reserved (area_at state j) sender (suc count)).area
operation_kept p f state j sender operation a zero (Some u) = user_kept p f state j u operation a
operation_kept p f state j sender operation a zero None = same state

pub state_kept : (p : Plain) (state : State) (sender : ℕ) (operation : Operation) (a : Answer) (found : Maybe ℕ) (f : Option File) → Kept state (message_state p state sender operation a found f)
unfolding message_state
state_kept p state sender operation a None f = same state
state_kept p state sender operation a (Some j) none = same state
state_kept p state sender operation a (Some j) (some f) =
    let next : State = operation_state p f state j sender operation a (reserve_word operation) (entry_of sender (area_at state j)) in
    kept_either state next state (admitted (area_at state j) sender operation)
    (operation_kept p f state j sender operation a (reserve_word operation) (entry_of sender (area_at state j))) (same state)
