-- What a value of the declared types is known to have: the lengths of its arrays, and names of words.
use mathlib.Core.Path.{◌≡◌}
use mathlib.Core.List.{List}
use lib.ListN.{length}
use mir.Val.{Val}
use denote.Laws.{Is}
use denote.Struct.Laws as LL
use Rattle.types.specs.declared.Area.{Area}
use Rattle.types.specs.declared.State.{State}
use Rattle.types.specs.contracts.Area as A
use Rattle.types.proofs.Area.TheLaws as A'
use Rattle.types.specs.contracts.State as S
use Rattle.types.proofs.State.TheLaws as S'

pub areas-length : (state : State) (vs : List Val) → Is S.the_row state vs → length state.areas ≡ 8
areas-length state vs g = (LL.owed S.the_type S'.the_laws state vs g).1.1.0.1.0.1

pub users-length : (area : Area) (vs : List Val) → Is A.the_row area vs → length area.users ≡ 3
users-length area vs g = (LL.owed A.the_type A'.the_laws area vs g).1.1.1.1.0.1.0.1
