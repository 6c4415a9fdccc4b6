-- The area descriptors of the state and the plain unit's table of areas: the open area of a name after a descriptor is set,
-- distinct names, numbers of open areas, and the state of a unit that represents a plain unit.
use Rattle.std.specs.Prelude.{Some, None}
use mathlib.Core.Path.{◌≡◌, refl, sym, ap, ◌∙◌}
use mathlib.Core.List.{List, [], ◌∷◌}
use mathlib.Core.Bool.{true, false, cond, not-not}
use mathlib.Core.Logic.{◌≢◌, ◌↔◌}
use mathlib.Core.Option.{Option, none, some}
use Prim.Native.Nat.{ℕ, ◌<◌}
use native.Mathlib.Omega.{arith}
use lib.ListN.{length, set, length-set}
use lib.Seq.{get_or-set_same, get_or-set_other}
use borrow.Author.Tests.{eq-eqb, eqb-false, not-true}
use Rattle.types.specs.declared.Sector.{Sector}
use Rattle.types.specs.declared.Name.{Name}
use Rattle.types.specs.declared.Area.{Area}
use Rattle.types.specs.declared.State.{State}
use Rattle.types.specs.State.{vacant_area, past_area, area_at, is_open, IsOpen, NoneOpen}
use Rattle.disc.specs.Entries.{index_sector}
use Rattle.disc.proofs.Compare.{same_or}
use Rattle.plain.specs.Table.{Table, table_find, table_put, SortedFrom, is_some}
use Rattle.plain.specs.Unit.{Plain, File, AreaUser, with_areas}
use Rattle.plain.proofs.TableLaws.{find_put, find_put_other, some_inj}
use Rattle.disc.specs.Names.{packed}
use Rattle.state.specs.Areas.{count_of, is_vacant, is_named, area_named, vacant_area_of, set_area, area_closed}
use Rattle.state.proofs.SearchLaws.{first_at, first_nowhere, first_that, that_at, that_nowhere, that_set, that_set_other, that_set_none, count_none, none_count, count_full, count_room}
use Rattle.state.proofs.DistinctLaws.{Distinct, keyed_test, keyed_key, keyed_other, distinct_first, distinct_rest, distinct-set}
use Rattle.sound.specs.State.{Shaped, area_name, first_open, open_area, DistinctAreas}
use Rattle.refine.specs.Represents.{LiveArea, users_in, area_of_state, area_of_unit, SameAreas}
use Rattle.refine.proofs.TableCount.{table_count}
use Rattle.refine.proofs.UserLaws.{DistinctUsers}
use Rattle.refine.proofs.ReserveLaws.{OnlyUsers}

-- ---- the open area of a name, by where `find_area` finds it

first_open_lem : (n : ℕ) (l : List Area) → first_open n l ≡ first_that (is_named n) l
unfolding first_that
first_open_lem n [] = refl
first_open_lem n (a ∷ l) = ap (λ (r : Option Area). cond (is_named n a) (some a) r) (first_open_lem n l)

module _ (state : State) (n : ℕ) where
  pub open_found : (j : ℕ) → area_named n state ≡ Some j → open_area state n ≡ some (area_at state j)
  open_found j e = first_open_lem n state.areas ∙ that_at (is_named n) past_area state.areas j (first_at (is_named n) past_area state.areas j e)

  pub open_absent : area_named n state ≡ None → open_area state n ≡ none
  open_absent e = first_open_lem n state.areas ∙ that_nowhere (is_named n) past_area state.areas (first_nowhere (is_named n) past_area 0 state.areas e)

  -- what is found is an open descriptor of the name
  pub named_inside : (j : ℕ) → area_named n state ≡ Some j → j < length state.areas
  named_inside j e = (first_at (is_named n) past_area state.areas j e).inside

  pub named_open : (j : ℕ) → area_named n state ≡ Some j → IsOpen state j
  named_open j e = keyed_test is_open area_name n (area_at state j) (first_at (is_named n) past_area state.areas j e).passes

  pub named_name : (j : ℕ) → area_named n state ≡ Some j → area_name (area_at state j) ≡ n
  named_name j e = keyed_key is_open area_name n (area_at state j) (first_at (is_named n) past_area state.areas j e).passes

-- ---- distinct names

by_names : (state : State) → Shaped state → DistinctAreas state → Distinct is_open area_name past_area state.areas
by_names state s o = record { only = λ j k hj hk tj tk e. o j k (omega (arith, s.eight)) (omega (arith, s.eight)) tj tk e }

from_names : (state : State) → length state.areas ≡ 8 → Distinct is_open area_name past_area state.areas → DistinctAreas state
from_names state s o j k hj hk tj tk e = o.only j k (omega arith) (omega arith) tj tk e

-- an open descriptor is the one that is found under its name
pub own_area : (state : State) (j : ℕ) → Shaped state → DistinctAreas state → j < 8 → IsOpen state j → area_named (area_name (area_at state j)) state ≡ Some j
own_area state j s o h t = distinct_first is_open area_name past_area state.areas j (by_names state s o) (omega (arith, s.eight)) t

-- ---- a descriptor set

module _ (state : State) (j : ℕ) (new : Area) where
  pub shaped-set : Shaped state → length new.users ≡ 3 → Shaped (set_area state j new)
  shaped-set s h = record { eight = length-set state.areas j new ∙ s.eight; three = at }
    where
      at : (k : ℕ) → k < 8 → length (area_at (set_area state j new) k).users ≡ 3
      at k hk =
          same_or
          k
          j
          (λ e. rw (e, get_or-set_same state.areas j new past_area (omega (arith, s.eight))) h)
          (λ d. rw (get_or-set_other state.areas j k new past_area d) (s.three k hk))

  distinct_names : Shaped state → DistinctAreas state → (new.live ≡ true → (k : ℕ) → k < 8 → k ≢ j → IsOpen state k → area_name (area_at state k) ≡ area_name new → ⊥) → DistinctAreas (set_area state j new)
  distinct_names s o fresh =
      from_names (set_area state j new) (length-set state.areas j new ∙ s.eight) (distinct-set is_open area_name past_area state.areas j new (by_names state s o) (λ t k h d tk e. fresh t k (omega (arith, s.eight)) d tk e))

  open_new : (n : ℕ) → j < length state.areas → ((k : ℕ) → k < j → is_named n (area_at state k) ≡ false) → new.live ≡ true → area_name new ≡ n → open_area (set_area state j new) n ≡ some new
  open_new n h below t e = first_open_lem n (set state.areas j new) ∙ that_set (is_named n) past_area state.areas j new h below (rw (t, eq-eqb (area_name new) n e))

  open_past : (m : ℕ) → is_named m (area_at state j) ≡ false → is_named m new ≡ false → open_area (set_area state j new) m ≡ open_area state m
  open_past m e t = first_open_lem m (set state.areas j new) ∙ that_set_other (is_named m) past_area state.areas j new e t ∙ sym (first_open_lem m state.areas)

  -- the descriptor that a name has
  module _ (n : ℕ) (e : area_named n state ≡ Some j) where
    pub open_set : new.live ≡ true → area_name new ≡ n → open_area (set_area state j new) n ≡ some new
    open_set t q = let first = first_at (is_named n) past_area state.areas j e in open_new n first.inside first.before t q

    pub open_set_other : area_name new ≡ n → (m : ℕ) → m ≢ n → open_area (set_area state j new) m ≡ open_area state m
    open_set_other q m d =
        open_past m (keyed_other is_open area_name m (area_at state j) (λ z. d (sym z ∙ named_name state n j e))) (keyed_other is_open area_name m new (λ z. d (sym z ∙ q)))

    pub distinct-set_name : Shaped state → DistinctAreas state → area_name new ≡ n → DistinctAreas (set_area state j new)
    distinct-set_name s o q =
        distinct_names s o (λ t k h d tk z. d (o k j h (omega (arith, named_inside state n j e, s.eight)) tk (named_open state n j e) (z ∙ q ∙ sym (named_name state n j e))))

  -- the lowest vacant descriptor, for a name that has none
  module _ (n : ℕ) (v : vacant_area_of state ≡ Some j) (q : area_name new ≡ n) where
    vacant_here : (area_at state j).live ≡ false
    vacant_here = not-true (area_at state j).live (first_at is_vacant past_area state.areas j v).passes

    pub open_created : area_named n state ≡ None → new.live ≡ true → open_area (set_area state j new) n ≡ some new
    open_created e t =
        let inside = (first_at is_vacant past_area state.areas j v).inside in
        open_new n inside (λ k h. (first_nowhere (is_named n) past_area 0 state.areas e).fails k (omega arith)) t q

    pub open_created_other : (m : ℕ) → m ≢ n → open_area (set_area state j new) m ≡ open_area state m
    open_created_other m d = open_past m (rw vacant_here) (keyed_other is_open area_name m new (λ z. d (sym z ∙ q)))

    pub distinct_created : area_named n state ≡ None → Shaped state → DistinctAreas state → DistinctAreas (set_area state j new)
    distinct_created e s o =
        distinct_names s o (λ t k h d tk z. let absent = (first_nowhere (is_named n) past_area 0 state.areas e).fails k (omega (arith, s.eight)) in eqb-false (area_name (area_at state k)) n (rw tk at absent) (z ∙ q))

-- a descriptor that is vacant again
module _ (state : State) (n j : ℕ) (e : area_named n state ≡ Some j) where
  pub open_closed : Shaped state → DistinctAreas state → open_area (area_closed state j) n ≡ none
  open_closed s o =
      let rest = distinct_rest is_open area_name past_area state.areas j (by_names state s o) (named_inside state n j e) (named_open state n j e) in
      first_open_lem n (set state.areas j vacant_area) ∙ that_set_none (is_named n) past_area state.areas j vacant_area (rw (named_name state n j e) at rest) refl

  pub open_closed_other : (m : ℕ) → m ≢ n → open_area (area_closed state j) m ≡ open_area state m
  open_closed_other m d = open_past state j vacant_area m (keyed_other is_open area_name m (area_at state j) (λ z. d (sym z ∙ named_name state n j e))) refl

pub distinct_closed : (state : State) (j : ℕ) → Shaped state → DistinctAreas state → DistinctAreas (area_closed state j)
distinct_closed state j s o = distinct_names state j vacant_area s o (λ t k h d tk z. let clash : ◌≡◌ {A = ℕ} 0 1 = cc in omega arith)

-- ---- numbers of open areas

-- a sorted table of areas that has the names of the open ones
module _ {B : Type 0} (state : State) (b : ℕ) (t : Table B) (s : Shaped state) (o : DistinctAreas state) (ok : SortedFrom b t) (same : (n : ℕ) → is_some (table_find n t) ≡ is_some (open_area state n)) where
  pub areas_count : length t ≡ count_of is_open state.areas
  areas_count = table_count is_open area_name past_area state.areas b t ok (by_names state s o) (λ n. same n ∙ ap is_some (first_open_lem n state.areas))

  -- fewer than eight exactly if a descriptor is vacant
  pub areas_room : (j : ℕ) → vacant_area_of state ≡ Some j → length t < 8
  areas_room j e = omega (arith, areas_count, count_room is_open is_vacant (λ a. sym (not-not a.live)) 0 state.areas j e, s.eight)

  pub areas_full : vacant_area_of state ≡ None → length t ≡ 8
  areas_full e = omega (arith, areas_count, count_full is_open is_vacant (λ a. sym (not-not a.live)) 0 state.areas e, s.eight)

  -- none exactly if no descriptor is open
  pub areas_none : NoneOpen state ↔ (length t ≡ 0)
  areas_none = (
    λ none. areas_count ∙ none_count is_open past_area state.areas (λ v h. none v (omega (arith, s.eight))),
    λ e j h. count_none is_open past_area state.areas (sym areas_count ∙ e) j (omega (arith, s.eight)),
  )

-- ---- the state of a plain unit

is_some_state : (o : Option Area) → is_some (area_of_state o) ≡ is_some o
is_some_state none = refl
is_some_state (some a) = refl

is_some_unit : (F s : ℕ) (users : Option (Table AreaUser)) (f : Option File) → is_some (area_of_unit F s users f) ≡ is_some users
is_some_unit F s none f = refl
is_some_unit F s (some users) none = refl
is_some_unit F s (some users) (some f) = refl

-- the users of an area of the unit
abbrev pub users_of_area : Option LiveArea → Option (Table AreaUser)
users_of_area none = none
users_of_area (some l) = some l.users

pub users_of_unit : (F s : ℕ) (users : Option (Table AreaUser)) (f : Option File) → users_of_area (area_of_unit F s users f) ≡ users
users_of_unit F s none f = refl
users_of_unit F s (some users) none = refl
users_of_unit F s (some users) (some f) = refl

pub users_of_lem : (F s : ℕ) (users : Option (Table AreaUser)) (f : Option File) {o : Option LiveArea} → o ≡ area_of_unit F s users f → users ≡ users_of_area o
users_of_lem F s users f e = sym (users_of_unit F s users f) ∙ ap users_of_area (sym e)

-- an area as the unit has it, and as the state has it
abbrev pub unit_area : Plain → ℕ → Option LiveArea
unit_area p n = area_of_unit p.F p.s (table_find n p.areas) (table_find n p.files)

abbrev live_area : Area → LiveArea
live_area a = record { index = a.index.0; size = a.length; users = users_in a.users }

-- an area of the unit with other users
other_users : (F s : ℕ) (f : Option File) (a b : LiveArea) → b.index ≡ a.index → b.size ≡ a.size → some a ≡ area_of_unit F s (some a.users) f → some b ≡ area_of_unit F s (some b.users) f
other_users F s none a b i l e =
    let q = some_inj e in
    λ k. some (record { index = (i ∙ ap (λ (x : LiveArea). x.index) q) k; size = (l ∙ ap (λ (x : LiveArea). x.size) q) k; users = b.users })
other_users F s (some f) a b i l e =
    let q = some_inj e in
    λ k. some (record { index = (i ∙ ap (λ (x : LiveArea). x.index) q) k; size = (l ∙ ap (λ (x : LiveArea). x.size) q) k; users = b.users })

module _ (state : State) (p : Plain) (r : SameAreas state p) where
  pub same_names : (n : ℕ) → is_some (table_find n p.areas) ≡ is_some (open_area state n)
  same_names n = sym (is_some_unit p.F p.s (table_find n p.areas) (table_find n p.files)) ∙ ap is_some (sym (r.each n)) ∙ is_some_state (open_area state n)

  pub same_found : (n j : ℕ) → area_named n state ≡ Some j → table_find n p.areas ≡ some (users_in (area_at state j).users)
  same_found n j e =
      users_of_lem p.F p.s (table_find n p.areas) (table_find n p.files)
      (ap area_of_state (sym (open_found state n j e)) ∙ r.each n)

  pub same_absent : (n : ℕ) → area_named n state ≡ None → table_find n p.areas ≡ none
  same_absent n e = users_of_lem p.F p.s (table_find n p.areas) (table_find n p.files) (ap area_of_state (sym (open_absent state n e)) ∙ r.each n)

  -- the index sector and live length of an open area whose file is entered
  live_of : (n j : ℕ) (f : File) → area_named n state ≡ Some j → table_find n p.files ≡ some f
      → area_of_state (some (area_at state j)) ≡ area_of_unit p.F p.s (some (users_in (area_at state j).users)) (some f)
  live_of n j f e q = ap area_of_state (sym (open_found state n j e)) ∙ r.each n ∙ rw (same_found n j e, q)

  pub same_index : (n j : ℕ) (f : File) → area_named n state ≡ Some j → table_find n p.files ≡ some f → (area_at state j).index.0 ≡ index_sector p.F p.s (length f.slices) f.slices
  same_index n j f e q = ap (λ (x : LiveArea). x.index) (some_inj (live_of n j f e q))

  pub same_size : (n j : ℕ) (f : File) → area_named n state ≡ Some j → table_find n p.files ≡ some f → (area_at state j).length ≡ length f.sectors
  same_size n j f e q = ap (λ (x : LiveArea). x.size) (some_inj (live_of n j f e q))

  pub same_users : (j : ℕ) → j < 8 → IsOpen state j → DistinctUsers (area_at state j)
  same_users j h t = record { three = r.shaped.three j h; only = λ u v hu hv. r.distinct_users j u v h t hu hv }

  -- the number of open areas
  pub same_room : (j : ℕ) → SortedFrom 0 p.areas → vacant_area_of state ≡ Some j → length p.areas < 8
  same_room j ok = areas_room state 0 p.areas r.shaped r.distinct ok same_names j

  pub same_full : SortedFrom 0 p.areas → vacant_area_of state ≡ None → length p.areas ≡ 8
  same_full ok = areas_full state 0 p.areas r.shaped r.distinct ok same_names

  pub same_none : SortedFrom 0 p.areas → NoneOpen state ↔ (length p.areas ≡ 0)
  same_none ok = areas_none state 0 p.areas r.shaped r.distinct ok same_names

  -- ---- the state and the unit after a step

  each_users : (j : ℕ) (new : Area) → (new.live ≡ true → DistinctUsers new) → (k : ℕ) → k < 8 → IsOpen (set_area state j new) k → DistinctUsers (area_at (set_area state j new) k)
  each_users j new users k h =
      same_or k j (λ e. rw (e, get_or-set_same state.areas j new past_area (omega (arith, r.shaped.eight))) users) (λ d. rw (get_or-set_other state.areas j k new past_area d) (same_users k h))

  -- descriptor j set, and another unit q: `opens` and `past` say what the descriptor's name n and every other name then have
  after-set : (n j : ℕ) (new : Area) (q : Plain) → length new.users ≡ 3 → (new.live ≡ true → DistinctUsers new) → DistinctAreas (set_area state j new) → q.unit ≡ p.unit
      → area_of_state (open_area (set_area state j new) n) ≡ unit_area q n
      → ((m : ℕ) → m ≢ n → open_area (set_area state j new) m ≡ open_area state m)
      → ((m : ℕ) → m ≢ n → unit_area q m ≡ unit_area p m)
      → SameAreas (set_area state j new) q
  after-set n j new q three users distinct unit opens past rest = record {
    shaped = shaped-set state j new r.shaped three;
    number = r.number ∙ sym unit;
    distinct = distinct;
    distinct_users = λ k u v h t hu hv. (each_users j new users k h t).only u v hu hv;
    each = λ m. same_or m n (λ e. rw e opens) (λ d. ap area_of_state (past m d) ∙ r.each m ∙ sym (rest m d));
  }

  -- an open area has changed, in the state and in the unit
  pub same_set : (n j : ℕ) (new : Area) (q : Plain) → area_named n state ≡ Some j → new.live ≡ true → area_name new ≡ n → DistinctUsers new → q.unit ≡ p.unit
      → area_of_state (some new) ≡ unit_area q n
      → ((m : ℕ) → m ≢ n → unit_area q m ≡ unit_area p m)
      → SameAreas (set_area state j new) q
  same_set n j new q e t name users unit own rest =
      after-set n j new q users.three (λ t. users) (distinct-set_name state j new n e r.shaped r.distinct name) unit
      (ap area_of_state (open_set state j new n e t name) ∙ own) (open_set_other state j new n e name) rest

  -- an area process is created in the lowest vacant descriptor
  pub same_created : (n j : ℕ) (new : Area) (q : Plain) → area_named n state ≡ None → vacant_area_of state ≡ Some j → new.live ≡ true → area_name new ≡ n → DistinctUsers new → q.unit ≡ p.unit
      → area_of_state (some new) ≡ unit_area q n
      → ((m : ℕ) → m ≢ n → unit_area q m ≡ unit_area p m)
      → SameAreas (set_area state j new) q
  same_created n j new q e v t name users unit own rest =
      after-set n j new q users.three (λ t. users) (distinct_created state j new n v name e r.shaped r.distinct) unit
      (ap area_of_state (open_created state j new n v name e t) ∙ own) (open_created_other state j new n v name) rest

  -- an area process is removed
  pub same_closed : (n j : ℕ) (q : Plain) → area_named n state ≡ Some j → q.unit ≡ p.unit → table_find n q.areas ≡ none
      → ((m : ℕ) → m ≢ n → unit_area q m ≡ unit_area p m)
      → SameAreas (area_closed state j) q
  same_closed n j q e unit gone rest =
      after-set n j vacant_area q refl (λ t. absurd (let clash : ◌≡◌ {A = ℕ} 0 1 = cc in omega arith))
      (distinct_closed state j r.shaped r.distinct) unit (rw (open_closed state n j e r.shaped r.distinct, gone)) (open_closed_other state n j e) rest

  -- only the users of an open area have changed: Reserve, Release and positions
  pub same_put : (n j : ℕ) (new : Area) → area_named n state ≡ Some j → OnlyUsers (area_at state j) new → DistinctUsers new
      → SameAreas (set_area state j new) (with_areas p (table_put n (users_in new.users) p.areas))
  same_put n j new e only users =
      same_set n j new (with_areas p (table_put n (users_in new.users) p.areas)) e
      (only.live ∙ named_open state n j e) (ap (λ (x : Name). packed x) only.name ∙ named_name state n j e) users refl own rest
    where
      old : area_of_state (some (area_at state j)) ≡ area_of_unit p.F p.s (some (users_in (area_at state j).users)) (table_find n p.files)
      old = ap area_of_state (sym (open_found state n j e)) ∙ r.each n ∙ rw (same_found n j e)

      own : area_of_state (some new) ≡ unit_area (with_areas p (table_put n (users_in new.users) p.areas)) n
      own =
          rw (find_put n (users_in new.users) p.areas)
          (other_users p.F p.s (table_find n p.files) (live_area (area_at state j)) (live_area new) (ap (λ (x : Sector). x.0) only.index) only.size old)

      rest : (m : ℕ) → m ≢ n → unit_area (with_areas p (table_put n (users_in new.users) p.areas)) m ≡ unit_area p m
      rest m d = rw (find_put_other m n (users_in new.users) p.areas d)
