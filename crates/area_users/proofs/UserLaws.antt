-- Reserve, Release and Position on the state are those of the plain unit: what each leaves beside the outcome.
use Rattle.std.specs.Prelude.{Some}
use mathlib.Core.Path.{◌≡◌, refl, sym, ap, ◌∙◌}
use mathlib.Core.Bool.{Bool, true, false, not, cond}
use mathlib.Core.List.{List}
use mathlib.Core.Logic.{◌≢◌}
use mathlib.Core.Option.{some}
use Prim.Native.Nat.{ℕ, ◌≤◌, ◌<◌}
use native.Mathlib.Omega.{arith}
use lib.Dec.{leb}
use lib.ListN.{length}
use lib.Seq.{set-get_or}
use borrow.Author.Tests.{leb-true}
use Rattle.types.specs.declared.User.{User}
use Rattle.types.specs.declared.State.{State}
use Rattle.types.specs.declared.Operation.TheVariants.{Reserve}
use Rattle.types.specs.State.{vacant_user, area_at, user_at}
use Rattle.disc.specs.Numbers.{negative}
use Rattle.state.specs.Areas.{set_area, area_named, reserved, released, moved}
use Rattle.plain.specs.Table.{Table, table_find}
use Rattle.plain.specs.Unit.{Plain, File, AreaUser}
use Rattle.plain.specs.Questions.{Outcome, answer, asks}
use Rattle.plain.specs.Areas as plain
use Rattle.plain.specs.Step.{user_step}
use Rattle.plain.specs.Good.{Good}
use Rattle.refine.specs.Represents.{users_in, SameAreas, Represents}
use Rattle.refine.specs.OnDisc.{OnDisc}
use Rattle.refine.proofs.UserLaws.{plain_user}
use Rattle.refine.specs.Leaves.{Leaves, StandFor}
use Rattle.refine.proofs.LeavesLaws.{leaves_by}
use Rattle.refine.proofs.StateLaws.{same_size}
use Rattle.preservation.proofs.Whole.{on_disc, stand_for_lem}
use Rattle.preservation.proofs.AreaMessages.{area-set_same, area_low, area_found, reserve_outcome, reserve_areas, sender_found, release_areas, move_areas, position_low, reserve_on, release_on, move_on}
use Rattle.preservation.proofs.AreaUnit.{user_release}
use Rattle.area_users.specs.AreaUsers.{at_position, position_word, position_reached}
use Rattle.area_users.specs.Seat.{Seat}

-- ---- Reserve

module _ {image : List ℕ} {state : State} {p : Plain} (g : Good p) (r : Represents image state p) (n j : ℕ) (e : area_named n state ≡ Some j) (sender : ℕ) (h : sender ≢ 0)
    (alone : plain.other plain.is_exclusive sender (users_in (area_at state j).users) ≡ false) where
  pub reserve_leaves : (count : ℕ) (lent : List ℕ)
      → Leaves (plain.step_reserve p n sender (users_in (area_at state j).users) count lent) (answer (reserved (area_at state j) sender count).word 0 0 0) lent
      (StandFor image (set_area state j (reserved (area_at state j) sender count).area))
  reserve_leaves count lent =
      let a = r.areas in
      let x = reserve_outcome a n j e sender h count lent in
      record {
        answered = x ∙ ap (λ (y : Outcome). record { unit = y.unit; answer = answer (reserved (area_at state j) sender count).word 0 0 0; lent = lent }) (sym x);
        left = stand_for_lem (reserve_on (on_disc g r) n sender (area_found a n j e) count lent h alone) (reserve_areas a n j e sender h count lent);
      }

-- ---- a user of the area

module _ {image : List ℕ} {state : State} {p : Plain} {n j sender u : ℕ} {f : File} (seat : Seat image state p n j sender u f) where
  abbrev users : Table AreaUser
  users = users_in (area_at state j).users

  abbrev pu : AreaUser
  pu = plain_user (user_at (area_at state j) u)

  same : SameAreas state p
  same = seat.represents.areas

  on : OnDisc image p
  on = on_disc seat.good seat.represents

  live : table_find n p.areas ≡ some (users_in (area_at state j).users)
  live = area_found same n j seat.named

  user : table_find sender (users_in (area_at state j).users) ≡ some (plain_user (user_at (area_at state j) u))
  user = sender_found same n j seat.named sender seat.nonzero u seat.entry

  pub seat_low : j < 8
  seat_low = area_low same n j seat.named

  -- the live length
  pub seat_size : (area_at state j).length ≡ length f.sectors
  seat_size = same_size state p same n j f seat.named seat.file

  pub position_inside : (user_at (area_at state j) u).position.0 ≤ length f.sectors
  position_inside = omega (arith, position_low same n j seat.named sender seat.nonzero u seat.entry seat.good, seat_size)

  -- ---- Release

  pub release_leaves : (count : ℕ) (lent : List ℕ)
      → Leaves (user_step p n sender (users_in (area_at state j).users) (plain_user (user_at (area_at state j) u)) f (Reserve count) lent) (answer 0 0 0 0) lent (StandFor image (set_area state j (released (area_at state j) u)))
  release_leaves count lent =
      leaves_by (user_release p n sender users pu f lent count)
      (stand_for_lem (release_on on n sender live user) (release_areas same n j seat.named sender seat.nonzero u seat.entry))

  -- ---- positions

  -- the unit with the sender's position k, and the state with it
  pub moved_stands : (k : ℕ) → k ≤ length f.sectors
      → StandFor image (at_position state j u k) (plain.moved p n sender (users_in (area_at state j).users) (plain_user (user_at (area_at state j) u)) k)
  moved_stands k x = stand_for_lem (move_on on n sender live user seat.file k x) (move_areas same n j seat.named sender seat.nonzero u seat.entry (record { 0 = k }))

  -- its own position moves nothing
  pub own_position : (k : ℕ) → k ≡ (user_at (area_at state j) u).position.0 → at_position state j u k ≡ state
  own_position k e =
      let a = area_at state j in
      let own : moved a u (record { 0 = k }) ≡ a =
      ap (λ (x : ℕ). moved a u (record { 0 = x })) e
      ∙ ap (λ (l : List User). record { live = a.live; name = a.name; index = a.index; length = a.length; users = l }) (set-get_or a.users u vacant_user) in
      ap (set_area state j) own ∙ area-set_same state j

-- ---- Position first

pub reached_low : (block len : ℕ) → position_reached block len ≤ len
reached_low block len = go (negative block) (leb block len) (leb-true block len)
  where
    go : (b c : Bool) → (c ≡ true → block ≤ len) → cond b 0 (cond c block len) ≤ len
    go true c h = omega arith
    go false true h = h refl
    go false false h = omega arith

module _ (move : ℕ → Plain) (block len : ℕ) (refusal : Plain → ℕ → ℕ → Outcome) (next : Plain → ℕ → Outcome) where
  pub record Positioned (word reached : ℕ) (o : Outcome) : Type 0 where
    pub refused : word ≢ 0 → o ≡ refusal (move reached) word reached
    pub done : word ≡ 0 → (o ≡ next (move block) block) × (block ≤ len) × (reached ≡ block)

  pub positioned_by : Positioned (position_word block len) (position_reached block len) (plain.positioned move block len refusal next)
  unfolding plain.positioned asks
  positioned_by = go (negative block) (leb block len) (leb-true block len)
    where
      go : (b c : Bool) → (c ≡ true → block ≤ len) → Positioned (cond b 0x0A00 (cond c 0 0x0810)) (cond b 0 (cond c block len))
          (asks (not b) (refusal (move 0) 0x0A00 0) (asks c (refusal (move len) 0x0810 len) (next (move block) block)))
      go true c low = record { refused = λ d. refl; done = λ z. absurd (omega arith) }
      go false false low = record { refused = λ d. refl; done = λ z. absurd (omega arith) }
      go false true low = record { refused = λ d. absurd (d refl); done = λ z. (refl, low refl, refl) }
