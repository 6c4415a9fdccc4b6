-- What a message to an area process finds.
use Rattle.std.specs.Prelude.{◌≡◌, List, ◌≢◌, ℕ, Some}
use Rattle.std.proofs.Math.Option.{some}
use Rattle.types.specs.declared.State.{State}
use Rattle.types.specs.State.{area_at, user_at}
use Rattle.state.specs.Areas.{area_named, entry_of}
use Rattle.plain.specs.Table.{Table, table_find}
use Rattle.plain.specs.Unit.{Plain, File, AreaUser}
use Rattle.plain.specs.Good.{Good}
use Rattle.refine.specs.Represents.{users_in, Represents}

-- "Sender a user?": descriptor j of the state is that of name n, whose file is f, and its user entry u is the sender's.
pub record Seat (image : List ℕ) (state : State) (p : Plain) (n j sender u : ℕ) (f : File) : Type 0 where
  pub good : Good p
  pub represents : Represents image state p
  pub named : area_named n state ≡ Some j
  pub nonzero : sender ≢ 0
  pub entry : entry_of sender (area_at state j) ≡ Some u
  pub file : table_find n p.files ≡ some f

-- The users of descriptor j, and that of its entry u, as the plain unit has them.
abbrev pub area_users : State → ℕ → Table AreaUser
area_users state j = users_in (area_at state j).users

abbrev pub area_user : State → ℕ → ℕ → AreaUser
area_user state j u =
    let user = user_at (area_at state j) u in record { role = user.role; opens = user.opens; position = user.position.0 }
