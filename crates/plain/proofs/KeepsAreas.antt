-- Area create and remove, Reserve, Release and Position keep a unit good.
use mathlib.Core.Path.{◌≡◌, refl, sym, ap, ◌∙◌}
use mathlib.Core.Bool.{not, ◌&&◌, ◌||◌}
use mathlib.Core.List.{List, [], ◌++◌}
use mathlib.Core.Logic.{◌≢◌}
use mathlib.Core.Option.{Option, none, some}
use Prim.Native.Nat.{ℕ, zero, suc, ◌+◌, ◌≤◌, ◌<◌}
use native.Mathlib.Omega.{arith}
use lib.ListN.{length}
use lib.Dec.{T, ltb, eqb, leb→le, ltb→lt}
use Rattle.types.specs.declared.Name.{Name}
use Rattle.types.specs.declared.Role.TheVariants.{Sharing}
use Rattle.disc.specs.Slices.{occurrences, in_unit, InRangeOnce}
use Rattle.disc.specs.Catalog.{Catalog}
use Rattle.plain.specs.Table.{Table, table_find, table_put, table_remove, is_some, SortedFrom, Every}
use Rattle.plain.specs.Unit.{Plain, File, AreaUser, sys_of, M, held, slices_of, with_tables, with_areas}
use Rattle.plain.specs.Questions.{Outcome}
use Rattle.plain.specs.Areas.{step_create_area, step_remove_area, step_reserve, step_release, step_position, positioned, book_live, is_exclusive, is_writer, is_user, other, opened, opens_of, released, at_position, moved}
use Rattle.plain.specs.Good.{Good, GoodFile, GoodArea, GoodUser, GoodRoles}
use Rattle.plain.proofs.TableLaws.{some≢none, some_inj, find_put_other, find_remove_other, find_above, sorted_put, sorted_remove, total_put, weight_at, every_put, remove_some, none_put, length_put_new, length_put_old, length_remove}
use Rattle.plain.proofs.QuestionLaws.{asks_law, given_law}
use Rattle.plain.proofs.UnitLaws.{entry_file, holds, occurrences_held}
use Rattle.plain.proofs.CatalogLaws.{catalog_beside, catalog_changed}
use Rattle.plain.proofs.RoleLaws.{users_found, users-length, roles_remove, roles_same, roles_raised}

-- The unit after a call is good.
abbrev pub Keeps : Outcome → Type 0
Keeps o = Good o.unit

-- ---- an area beside other files

-- an area beside other files, where its own is no shorter
pub area_beside : {old new : Table File} {n : ℕ} {users : Table AreaUser} (a : GoodArea old n users) (f : File) → table_find n new ≡ some f → length a.file.sectors ≤ length f.sectors
    → GoodArea new n users
area_beside {users = users} a f e le =
    let each : Every (λ sender u. GoodUser (length f.sectors) u) users = λ sender u h. (let b = a.each sender u h in search arith) in
    search

-- ---- another file in the place of one

-- the slices that are held
pub occurrences_put : (p : Plain) (n : ℕ) (f new : File) (k : ℕ) → table_find n p.files ≡ some f
    → occurrences k (p.sys ++ slices_of (table_put n new p.files)) + occurrences k f.slices ≡ occurrences k (held p) + occurrences k new.slices
occurrences_put p n f new k h =
    omega (
      arith,
      occurrences_held k p.sys p.files,
      occurrences_held k p.sys (table_put n new p.files),
      total_put (holds k) n new p.files,
      ap (weight_at (holds k) n) h,
    )

-- The new file is good, its slices are the old ones or were free, and the areas of other names stay.
pub file_put_good : (p : Plain) (n : ℕ) (f new : File) (areas : Table (Table AreaUser)) → Good p → table_find n p.files ≡ some f
    → GoodFile (sys_of p) p.s areas n new → ((k : ℕ) → occurrences k (held p) + occurrences k new.slices ≤ in_unit (M p) k + occurrences k f.slices)
    → ((k : ℕ) → k ≢ n → table_find k areas ≡ table_find k p.areas) → SortedFrom 0 areas → length areas ≤ 8 → Every (GoodArea (table_put n new p.files)) areas
    → Good (with_tables p p.layers p.sys (table_put n new p.files) areas)
file_put_good p n f new areas g h good room others sorted eight each =
    let once : InRangeOnce (M p) (p.sys ++ slices_of (table_put n new p.files)) = λ k. omega (arith, room k, occurrences_put p n f new k h) in
    search (catalog_changed g.catalog n f new areas)

-- ---- the users of one area

-- an area with other users, or a new one
pub area_put_good : (p : Plain) (n : ℕ) (users : Table AreaUser) → Good p → 0 < n → GoodArea p.files n users → length (table_put n users p.areas) ≤ 8
    → Good (with_areas p (table_put n users p.areas))
area_put_good p n users g positive a le =
    search (
      catalog_beside g.catalog (table_put n users p.areas) (λ k e. (none_put k n users p.areas e).1),
      sorted_put 0 n users p.areas,
      every_put (GoodArea p.files) n users p.areas,
    )

-- ---- Create area

-- the unit with a new area
pub opened_good : (p : Plain) (n : ℕ) (f : File) → Good p → table_find n p.files ≡ some f → length p.areas < 8 → Good (with_areas p (table_put n [] p.areas))
opened_good p n f g found room =
    area_put_good p n [] g (find_above n 0 f p.files g.catalog.names found)
    (record {
      file = f;
      entered = found;
      sorted = tt;
      three = omega arith;
      roles = record { one_writer = omega arith; alone = λ q. omega arith };
      each = λ k a e. absurd (some≢none (sym e));
    })
    (omega (arith, length_put_new n [] p.areas))

pub create_area_keeps : (p : Plain) (name : Name) (lent : List ℕ) → Good p → Keeps (step_create_area p name lent)
create_area_keeps p name lent g =
    asks_law Keeps _ g λ _.
    asks_law Keeps _ g λ t.
    asks_law Keeps _ g λ u.
    asks_law Keeps _ g λ _.
    asks_law Keeps _ g λ v.
    let f = entry_file p _ t u in
    opened_good p _ f.0 g f.1 (ltb→lt (length p.areas) 8 v)

-- ---- Remove area

-- a file whose live length and slices are booked, open or not
book_good : {c : Catalog} {s : ℕ} {old new : Table (Table AreaUser)} {n : ℕ} {f : File} → GoodFile c s old n f → GoodFile c s new n (book_live f)
book_good g = search arith

-- the area goes, and the file is booked
pub remove_area_good : (p : Plain) (n : ℕ) (f : File) → Good p → table_find n p.files ≡ some f
    → Good (with_tables p p.layers p.sys (table_put n (book_live f) p.files) (table_remove n p.areas))
remove_area_good p n f g h =
    file_put_good p n f (book_live f) (table_remove n p.areas) g h (book_good (g.catalog.files n f h)) (λ k. omega (arith, g.once k))
    (λ k d. find_remove_other k n 0 p.areas g.area_names d) (sorted_remove 0 n p.areas g.area_names)
    (omega (arith, length_remove n p.areas, g.eight)) areas
  where
    areas : Every (GoodArea (table_put n (book_live f) p.files)) (table_remove n p.areas)
    areas k users e =
        let r = remove_some k n 0 p.areas users g.area_names e in
        let a = g.areas k users r.1 in
        area_beside a a.file (find_put_other k n (book_live f) p.files r.0 ∙ a.entered) (omega arith)

pub remove_area_keeps : (p : Plain) (name : Name) (lent : List ℕ) → Good p → Keeps (step_remove_area p name lent)
remove_area_keeps p name lent g =
    asks_law Keeps _ g λ _.
    asks_law Keeps _ g λ _.
    given_law Keeps _ g λ users _.
    asks_law Keeps _ g λ _.
    given_law Keeps _ g λ f h.
    remove_area_good p _ f g h

-- ---- Position first

-- Whether Position refuses or goes on, the position is at most the length.
pub positioned_keeps : (move : ℕ → Plain) (block len : ℕ) (refusal : Plain → ℕ → ℕ → Outcome) (next : Plain → ℕ → Outcome)
    → ((k : ℕ) → k ≤ len → Good (move k)) → ((q : Plain) (word k : ℕ) → Good q → Keeps (refusal q word k)) → ((k : ℕ) → k ≤ len → Keeps (next (move k) k))
    → Keeps (positioned move block len refusal next)
unfolding positioned
positioned_keeps move block len refusal next good refused goes =
    asks_law Keeps _ (refused (move 0) 0x0A00 0 (good 0 (omega arith))) λ _.
    asks_law Keeps _ (refused (move len) 0x0810 len (good len (omega arith))) λ t.
    goes block (leb→le block len t)

-- ---- one user of an open area

module _ (p : Plain) (n sender : ℕ) (users : Table AreaUser) (g : Good p) (e : table_find n p.areas ≡ some users) where
  abbrev open_area_lem : GoodArea p.files n users
  open_area_lem = g.areas n users e

  -- the users of an open area change
  users_good : (new : Table AreaUser) → GoodArea p.files n new → Good (with_areas p (table_put n new p.areas))
  users_good new a =
      area_put_good p n new g (find_above n 0 users p.areas g.area_names e) a
      (omega (arith, length_put_old n new users p.areas e, g.eight))

  -- a user changes or comes
  user_put_good : (v : AreaUser) → 0 < sender → GoodUser (length open_area_lem.file.sectors) v → length (table_put sender v users) ≤ 3 → GoodRoles (table_put sender v users)
      → Good (with_areas p (table_put n (table_put sender v users) p.areas))
  user_put_good v positive good three roles =
      let a = open_area_lem in
      users_good (table_put sender v users) (search (sorted_put 0 sender v users, every_put (λ k u. GoodUser (length a.file.sectors) u) sender v users))

  -- a user that is there changes, and keeps its role
  user_change_good : (u v : AreaUser) → table_find sender users ≡ some u → v.role ≡ u.role → GoodUser (length open_area_lem.file.sectors) v
      → Good (with_areas p (table_put n (table_put sender v users) p.areas))
  user_change_good u v w r good =
      let a = open_area_lem in
      user_put_good v (find_above sender 0 u users a.sorted w) good (omega (arith, length_put_old sender v u users w, a.three)) (roles_same sender u v users w r a.roles)

  -- a user goes
  user_remove_good : Good (with_areas p (table_put n (table_remove sender users) p.areas))
  user_remove_good =
      let a = open_area_lem in
      let each : Every (λ k u. GoodUser (length a.file.sectors) u) (table_remove sender users) = λ k v q. a.each k v (remove_some k sender 0 users v a.sorted q).1 in
      let three : length (table_remove sender users) ≤ 3 = omega (arith, length_remove sender users, a.three) in
      users_good (table_remove sender users) (search (sorted_remove 0 sender users, roles_remove sender users))

  -- ---- Release

  release_good : (u : AreaUser) → table_find sender users ≡ some u → Good (with_areas p (table_put n (released sender u.opens u users) p.areas))
  release_good u w = go u.opens b.opens_high
    where
      b : GoodUser (length open_area_lem.file.sectors) u
      b = open_area_lem.each sender u w

      go : (opens : ℕ) → opens ≤ 65535 → Good (with_areas p (table_put n (released sender opens u users) p.areas))
      go zero le = user_remove_good
      go (suc zero) le = user_remove_good
      go (suc (suc k)) le = user_change_good u _ w refl (record { opens_low = omega arith; opens_high = omega arith; inside = b.inside })

  pub release_keeps : (u : AreaUser) (lent : List ℕ) → table_find sender users ≡ some u → Keeps (step_release p n sender users u lent)
  unfolding step_release
  release_keeps u lent w = release_good u w

  -- ---- Reserve

  reserve_good : (count : ℕ) → 0 < sender
      → T (not (other is_exclusive sender users)) → T (not (eqb count 2 && other is_writer sender users)) → T (not (eqb count 4 && other is_user sender users))
      → T (is_some (table_find sender users) || ltb (length users) 3) → T (ltb (opens_of (table_find sender users)) 65535)
      → Good (with_areas p (table_put n (table_put sender (opened count (table_find sender users)) users) p.areas))
  reserve_good count positive q₁ q₂ q₃ t v = go (table_find sender users) refl t v
    where
      a : GoodArea p.files n users
      a = open_area_lem

      go : (o : Option AreaUser) → table_find sender users ≡ o → T (is_some o || ltb (length users) 3) → T (ltb (opens_of o) 65535)
          → Good (with_areas p (table_put n (table_put sender (opened count o) users) p.areas))
      go none w t v =
          user_put_good (opened count none) positive (record { opens_low = omega arith; opens_high = omega arith; inside = omega arith })
          (omega (arith, length_put_new sender (opened count none) users, ltb→lt (length users) 3 t))
          (roles_raised sender count users Sharing (opened count none) refl a.roles q₁ q₂ q₃ (λ y. absurd (omega arith)) (λ y. absurd (omega arith)))
      go (some u) w t v =
          let b = a.each sender u w in
          user_put_good (opened count (some u)) positive (record { opens_low = omega arith; opens_high = omega (arith, ltb→lt u.opens 65535 v); inside = b.inside })
          (omega (arith, length_put_old sender (opened count (some u)) u users w, a.three))
          (roles_raised sender count users u.role (opened count (some u)) refl a.roles q₁ q₂ q₃
          (λ y. omega (arith, users_found is_writer sender u users w, a.roles.one_writer))
          (λ y. omega (
            arith,
            a.roles.alone (omega (arith, users_found is_exclusive sender u users w)),
            users_found is_user sender u users w,
            users-length users,
            users-length (table_remove sender users),
          )))

  pub reserve_keeps : (count : ℕ) (lent : List ℕ) → 0 < sender → T (not (other is_exclusive sender users)) → Keeps (step_reserve p n sender users count lent)
  unfolding step_reserve
  reserve_keeps count lent positive q₁ =
      asks_law Keeps _ g λ q₂.
      asks_law Keeps _ g λ q₃.
      asks_law Keeps _ g λ t.
      asks_law Keeps _ g λ v.
      reserve_good count positive q₁ q₂ q₃ t v

  -- ---- Position

  pub move_good : (u : AreaUser) (f : File) (k : ℕ) → table_find sender users ≡ some u → table_find n p.files ≡ some f → k ≤ length f.sectors → Good (moved p n sender users u k)
  move_good u f k w h le =
      let b = open_area_lem.each sender u w in
      let z : f ≡ open_area_lem.file = some_inj (sym h ∙ open_area_lem.entered) in
      user_change_good u (at_position u k) w refl (record { opens_low = b.opens_low; opens_high = b.opens_high; inside = rw (← z) le })

  pub position_keeps : (u : AreaUser) (f : File) (block : ℕ) (lent : List ℕ) → table_find sender users ≡ some u → table_find n p.files ≡ some f
      → Keeps (step_position p n sender users u f block lent)
  position_keeps u f block lent w h =
      let good : (k : ℕ) → k ≤ length f.sectors → Good (moved p n sender users u k) = λ k le. move_good u f k w h le in
      positioned_keeps (moved p n sender users u) block (length f.sectors) _ _ good (λ q word k ok. ok) good
