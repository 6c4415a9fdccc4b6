-- The messages to an area process beside the image: the descriptor that each sets is the area of the plain unit after it, and a
-- unit whose users alone change stays on its image.
use Rattle.std.specs.Prelude.{Option, Some, None}
use mathlib.Core.Path.{◌≡◌, refl, sym, ap, ap₂, ◌∙◌, subst}
use mathlib.Core.Bool.{Bool, true, false, cond}
use mathlib.Core.List.{List, []}
use mathlib.Core.Logic.{◌≢◌}
use mathlib.Core.Option.{none, some}
use Prim.Native.Nat.{ℕ, ◌≤◌, ◌<◌}
use native.Mathlib.Omega.{arith}
use lib.Dec.{eqb, ltb}
use lib.ListN.{length}
use lib.Seq.{get_or-set_same, set-get_or}
use Rattle.types.specs.declared.Block.{Block}
use Rattle.types.specs.declared.Sector.{Sector}
use Rattle.types.specs.declared.Area.{Area}
use Rattle.types.specs.declared.State.{State}
use Rattle.types.specs.State.{past_area, area_at, user_at}
use Rattle.disc.specs.Entries.{index_sector}
use Rattle.disc.proofs.DecideLaws.{true≢false}
use Rattle.state.specs.declared.Kind.{Kind}
use Rattle.state.specs.Areas.{Reserved, set_area, set_user, area_named, entry_of, any_other, opened_again, answered, placed_at, shut_out, reserved, released, moved, with_live}
use Rattle.plain.specs.Table.{Table, table_find, table_put}
use Rattle.plain.specs.Unit.{Plain, File, AreaUser, with_areas}
use Rattle.plain.specs.Questions.{Outcome}
use Rattle.plain.specs.Areas as plain
use Rattle.plain.specs.Transput.{rewritten, with_file}
use Rattle.plain.specs.Good.{Good}
use Rattle.plain.proofs.TableLaws.{find_put, find_put_other}
use Rattle.plain.proofs.QuestionLaws.{asks_law}
use Rattle.plain.proofs.KeepsAreas.{reserve_keeps, release_keeps, move_good}
use Rattle.refine.specs.Represents.{users_in, area_of_state, area_of_unit, SameAreas}
use Rattle.refine.specs.OnDisc.{OnDisc}
use Rattle.refine.proofs.UserLaws.{plain_user, DistinctUsers, weight_of, entry_inside, user_found, user_absent, other_law, live_users}
use Rattle.refine.proofs.ReserveLaws.{outcome_of, reserve_law, only_users, reserve_users, reserve_distinct, move_law, release_law, move_distinct, release_distinct}
use Rattle.refine.proofs.StateLaws.{unit_area, named_inside, named_open, named_name, same_found, same_index, same_size, same_users, same_set, same_put}
use Rattle.preservation.proofs.AreaSteps.{areas_on}

-- ---- descriptors set twice, and set to what they are

pub area_set : (state : State) (j : ℕ) (new : Area) → j < length state.areas → area_at (set_area state j new) j ≡ new
area_set state j new h = get_or-set_same state.areas j new past_area h

pub area-set_same : (state : State) (j : ℕ) → set_area state j (area_at state j) ≡ state
area-set_same state j = ap (λ (l : List Area). record { unit = state.unit; initialized = state.initialized; areas = l }) (set-get_or state.areas j past_area)

-- ---- a Reserve that is refused leaves the descriptor

module _ (a : Area) (sender count : ℕ) where
  abbrev Refuses : Reserved → Type 0
  Refuses x = eqb x.word 0 ≡ false → x.area ≡ a

  one_of : (b : Bool) (x y : Reserved) → Refuses x → Refuses y → Refuses (cond b x y)
  one_of true x y f g = f
  one_of false x y f g = g

  placed_refuses : (own vacant : Option ℕ) → Refuses (placed_at a sender count own vacant)
  placed_refuses (Some u) vacant =
      one_of (ltb (user_at a u).opens 65535) (answered 0 (set_user a u (opened_again count (user_at a u)))) (answered 0x0808 a) (λ z. absurd (true≢false z)) (λ z. refl)
  placed_refuses None (Some v) = λ z. absurd (true≢false z)
  placed_refuses None None = λ z. refl

  pub reserve_refused : eqb (reserved a sender count).word 0 ≡ false → (reserved a sender count).area ≡ a
  reserve_refused = one_of (shut_out a sender count) (answered 0x0A00 a) (placed_at a sender count (entry_of sender a) (entry_of 0 a)) (λ z. refl) (placed_refuses (entry_of sender a) (entry_of 0 a))

-- ---- the state

module _ {state : State} {p : Plain} (r : SameAreas state p) (n j : ℕ) (e : area_named n state ≡ Some j) where
  abbrev a : Area
  a = area_at state j

  pub area_low : j < 8
  area_low = omega (arith, named_inside state n j e, r.shaped.eight)

  pub area_distinct : DistinctUsers (area_at state j)
  area_distinct = same_users state p r j area_low (named_open state n j e)

  -- the area is open in the unit, with these users
  pub area_found : table_find n p.areas ≡ some (users_in (area_at state j).users)
  area_found = same_found state p r n j e

  -- is another user than the sender of a kind?
  pub area_other : (kind : Kind) (sender : ℕ) → plain.other (weight_of kind) sender (users_in (area_at state j).users) ≡ any_other kind sender (area_at state j)
  area_other kind sender = sym (other_law kind sender (area_at state j) area_distinct)

  module _ (sender : ℕ) (h : sender ≢ 0) where
    -- ---- Reserve

    pub reserve_outcome : (count : ℕ) (lent : List ℕ)
        → plain.step_reserve p n sender (users_in (area_at state j).users) count lent ≡ outcome_of p n (reserved (area_at state j) sender count) lent
    reserve_outcome count lent = reserve_law p n a sender count lent area_distinct h

    pub reserve_areas : (count : ℕ) (lent : List ℕ)
        → SameAreas (set_area state j (reserved (area_at state j) sender count).area) (plain.step_reserve p n sender (users_in (area_at state j).users) count lent).unit
    reserve_areas count lent =
        subst (λ (x : Outcome). SameAreas (set_area state j new) x.unit) (sym (reserve_outcome count lent)) (go (eqb (reserved a sender count).word 0) refl)
      where
        new : Area
        new = (reserved (area_at state j) sender count).area

        go : (b : Bool) → eqb (reserved (area_at state j) sender count).word 0 ≡ b
            → SameAreas (set_area state j (reserved (area_at state j) sender count).area) (cond b (with_areas p (table_put n (users_in (reserved (area_at state j) sender count).area.users) p.areas)) p)
        go true q = same_put state p r n j new e (reserve_users a sender count) (reserve_distinct a sender count area_distinct)
        go false q = subst (λ (s : State). SameAreas s p) (sym (ap (set_area state j) (reserve_refused a sender count q) ∙ area-set_same state j)) r

    -- ---- a user of the area

    pub sender_absent : entry_of sender (area_at state j) ≡ None → table_find sender (users_in (area_at state j).users) ≡ none
    sender_absent w = user_absent a sender h w

    module _ (u : ℕ) (w : entry_of sender (area_at state j) ≡ Some u) where
      pub sender_found : table_find sender (users_in (area_at state j).users) ≡ some (plain_user (user_at (area_at state j) u))
      sender_found = user_found a sender u h w

      pub user_low : u < 3
      user_low = omega (arith, entry_inside a sender u w, area_distinct.three)

      -- ---- Release

      pub release_areas : SameAreas (set_area state j (released (area_at state j) u))
          (with_areas p (table_put n (plain.released sender (user_at (area_at state j) u).opens (plain_user (user_at (area_at state j) u)) (users_in (area_at state j).users)) p.areas))
      release_areas =
          subst (λ (t : Table AreaUser). SameAreas (set_area state j (released a u)) (with_areas p (table_put n t p.areas))) (release_law a sender u h w area_distinct)
          (same_put state p r n j (released a u) e (record { live = refl; name = refl; index = refl; size = refl }) (release_distinct a u area_distinct user_low))

      -- ---- positions

      pub move_areas : (position : Block)
          → SameAreas (set_area state j (moved (area_at state j) u position)) (plain.moved p n sender (users_in (area_at state j).users) (plain_user (user_at (area_at state j) u)) position.0)
      move_areas position =
          subst (λ (t : Table AreaUser). SameAreas (set_area state j (moved a u position)) (with_areas p (table_put n t p.areas))) (move_law a sender u h w position)
          (same_put state p r n j (moved a u position) e (only_users a u _) (move_distinct a u area_distinct user_low position))

      -- ---- Output: the position, and the index sector and live length of the file

      pub output_areas : (f : File) (slices : List ℕ) (sectors : List (List ℕ)) (position : Block) (index : Sector) (size : ℕ)
          → index.0 ≡ index_sector p.F p.s (length slices) slices → size ≡ length sectors
          → SameAreas (set_area state j (with_live (moved (area_at state j) u position) index size))
          (with_file n (rewritten f slices sectors) (plain.moved p n sender (users_in (area_at state j).users) (plain_user (user_at (area_at state j) u)) position.0))
      output_areas f slices sectors position index size at long =
          same_set state p r n j (with_live (moved a u position) index size) after e (named_open state n j e) (named_name state n j e)
          (live_users (moved a u position) index size (move_distinct a u area_distinct user_low position)) refl own rest
        where
          after : Plain
          after = with_file n (rewritten f slices sectors) (plain.moved p n sender (users_in (area_at state j).users) (plain_user (user_at (area_at state j) u)) position.0)

          users : Table AreaUser
          users = table_put sender (plain.at_position (plain_user (user_at (area_at state j) u)) position.0) (users_in (area_at state j).users)

          own : area_of_state (some (with_live (moved (area_at state j) u position) index size)) ≡ unit_area after n
          own =
              rw (find_put n users p.areas, find_put n (rewritten f slices sectors) p.files)
              (λ i. some (record { index = at i; size = long i; users = move_law a sender u h w position i }))

          rest : (m : ℕ) → m ≢ n → unit_area after m ≡ unit_area p m
          rest m d = ap₂ (area_of_unit p.F p.s) (find_put_other m n users p.areas d) (find_put_other m n (rewritten f slices sectors) p.files d)

      -- with the slices kept and a block replaced, the descriptor's index sector and live length stay
      pub replace_areas : (f : File) → table_find n p.files ≡ some f → (sectors : List (List ℕ)) → length sectors ≡ length f.sectors → (position : Block)
          → SameAreas (set_area state j (moved (area_at state j) u position))
          (with_file n (rewritten f f.slices sectors) (plain.moved p n sender (users_in (area_at state j).users) (plain_user (user_at (area_at state j) u)) position.0))
      replace_areas f found sectors long position =
          output_areas f f.slices sectors position a.index a.length (same_index state p r n j f e found) (same_size state p r n j f e found ∙ sym long)

      -- the position is at most the live length
      pub position_low : Good p → (user_at (area_at state j) u).position.0 ≤ (area_at state j).length
      position_low g =
          let area = g.areas n (users_in (area_at state j).users) area_found in
          let inside = (area.each sender (plain_user (user_at (area_at state j) u)) sender_found).inside in
          omega (arith, inside, same_size state p r n j area.file e area.entered)

-- ---- the unit: an open area has a file, and its users' positions are in it

pub area_file : {p : Plain} → Good p → (n : ℕ) {users : Table AreaUser} → table_find n p.areas ≡ some users → (f : File) × (table_find n p.files ≡ some f)
area_file g n {users} live = let a = g.areas n users live in (a.file, a.entered)

-- ---- the image stays

module _ {i : List ℕ} {p : Plain} (o : OnDisc i p) (n sender : ℕ) {users : Table AreaUser} (live : table_find n p.areas ≡ some users) where
  -- the unit after it is on the image if it is good
  abbrev Stays : Outcome → Type 0
  Stays x = Good x.unit → OnDisc i x.unit

  reserve_stays_lem : (count : ℕ) (lent : List ℕ) → Stays (plain.step_reserve p n sender users count lent)
  unfolding plain.step_reserve
  reserve_stays_lem count lent =
      asks_law Stays _ (λ g. o) λ _.
      asks_law Stays _ (λ g. o) λ _.
      asks_law Stays _ (λ g. o) λ _.
      asks_law Stays _ (λ g. o) λ _.
      λ g. areas_on _ o g

  pub reserve_on : (count : ℕ) (lent : List ℕ) → sender ≢ 0 → plain.other plain.is_exclusive sender users ≡ false → OnDisc i (plain.step_reserve p n sender users count lent).unit
  reserve_on count lent h q = reserve_stays_lem count lent (reserve_keeps p n sender users o.good live count lent (omega arith) (rw q tt))

  module _ {u : AreaUser} (w : table_find sender users ≡ some u) where
    pub release_on : OnDisc i (with_areas p (table_put n (plain.released sender u.opens u users) p.areas))
    unfolding plain.step_release
    release_on = areas_on _ o (release_keeps p n sender users o.good live u [] w)

    pub move_on : {f : File} → table_find n p.files ≡ some f → (k : ℕ) → k ≤ length f.sectors → OnDisc i (plain.moved p n sender users u k)
    move_on {f} found k le = areas_on _ o (move_good p n sender users o.good live u f k w found le)

-- Output on the image, and the sender's position after it.
pub output_on : {i : List ℕ} (p : Plain) (n sender : ℕ) {users : Table AreaUser} {u : AreaUser} (f : File) (k : ℕ) → table_find n p.areas ≡ some users → table_find sender users ≡ some u
    → k ≤ length f.sectors → OnDisc i (with_file n f p) → OnDisc i (with_file n f (plain.moved p n sender users u k))
output_on p n sender f k live w le o = move_on o n sender live w (find_put n f p.files) k le
