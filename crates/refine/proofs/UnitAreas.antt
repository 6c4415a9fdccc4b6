-- The open areas of a represented plain unit meet the rules of a sound unit.
use Rattle.std.specs.Prelude.{Some}
use mathlib.Core.Path.{◌≡◌, sym, ap, ◌∙◌}
use mathlib.Core.List.{List}
use mathlib.Core.Logic.{◌≢◌}
use mathlib.Core.Option.{some}
use Prim.Native.Nat.{ℕ, ◌<◌}
use native.Mathlib.Omega.{arith}
use lib.ListN.{length}
use lib.Dec.{T, T_not}
use Rattle.types.specs.declared.Area.{Area}
use Rattle.types.specs.declared.State.{State}
use Rattle.types.specs.State.{area_at, user_at, IsOpen}
use Rattle.disc.specs.Names.{is_system}
use Rattle.disc.specs.Entries.{name_at}
use Rattle.disc.proofs.Compare.{same_or}
use Rattle.state.specs.Areas.{area_named}
use Rattle.plain.specs.Table.{Row, table_find}
use Rattle.plain.specs.Unit.{Plain, File, AreaUser, sys_of, file_entry, entry}
use Rattle.plain.specs.Areas.{is_exclusive, is_writer, is_user}
use Rattle.plain.specs.Good.{Good, GoodArea}
use Rattle.plain.proofs.TableLaws.{total_one, total_two}
use Rattle.plain.proofs.RoleLaws.{users-length}
use Rattle.plain.proofs.UnitLaws.{entry_of}
use Rattle.sound.specs.Places.{Used}
use Rattle.sound.specs.State.{area_name, IsTaken, LegalUsers}
use Rattle.sound.specs.Sound.{SoundAreas}
use Rattle.refine.specs.Represents.{users_in, Represents}
use Rattle.refine.proofs.CatalogLaws.{name_zero, no_zero}
use Rattle.refine.proofs.Ground.{entry_named}
use Rattle.refine.proofs.UserLaws.{plain_user, DistinctUsers, own_entry_lem, user_found, users_sorted}
use Rattle.refine.proofs.StateLaws.{own_area, same_found, same_size, same_users}
use Rattle.refine.proofs.UnitFiles.{P, count}

module _ {image : List ℕ} {state : State} {p : Plain} (g : Good p) (r : Represents image state p) where
  abbrev Q : ℕ → ℕ → ℕ
  Q = P g r

  module _ (j : ℕ) (inside : j < 8) (live : IsOpen state j) where
    abbrev a : Area
    a = area_at state j

    abbrev n : ℕ
    n = area_name (area_at state j)

    found : area_named n state ≡ Some j
    found = own_area state j r.areas.shaped r.areas.distinct inside live

    -- the unit has the area, with the descriptor's users
    unit_area_lem : table_find n p.areas ≡ some (users_in a.users)
    unit_area_lem = same_found state p r.areas n j found

    good : GoodArea p.files n (users_in a.users)
    good = g.areas n (users_in a.users) unit_area_lem

    -- the live length is the file's
    length_file : length good.file.sectors ≡ a.length
    length_file = sym (same_size state p r.areas n j good.file found good.entered)

    distinct : DistinctUsers a
    distinct = same_users state p r.areas j inside live

    -- a taken entry is in the table
    in_table : (u : ℕ) → u < 3 → IsTaken a u → table_find (user_at a u).id (users_in a.users) ≡ some (plain_user (user_at a u))
    in_table u x t = user_found a (user_at a u).id u t (own_entry_lem a u distinct x t)

    -- two different taken entries have different identifications
    apart : (u v : ℕ) → u < 3 → v < 3 → IsTaken a u → u ≢ v → (user_at a v).id ≢ (user_at a u).id
    apart u v x y t d e = d (distinct.only u v x y t (sym e))

    legal_users : LegalUsers a
    legal_users = record {
      distinct = λ u v x y t e. distinct.only u v x y t e;
      opens_low = λ u x t. (good.each (user_at a u).id (plain_user (user_at a u)) (in_table u x t)).opens_low;
      opens_high = λ u x t. (good.each (user_at a u).id (plain_user (user_at a u)) (in_table u x t)).opens_high;
      inside = λ u x t. omega (arith, (good.each (user_at a u).id (plain_user (user_at a u)) (in_table u x t)).inside, length_file);
      alone = λ u v x y t s role. same_or u v (λ e. e) (λ d. absurd (
          let one : is_exclusive (user_at a u).role ≡ 1 = ap is_exclusive role in
          let two = total_two (λ (w : Row AreaUser). is_user w.val.role) (user_at a u).id (user_at a v).id (plain_user (user_at a u)) (plain_user (user_at a v)) (users_in a.users) (users_sorted a.users) (in_table u x t) (in_table v y s) (apart u v x y t d) in
          let some-exclusive = total_one (λ (w : Row AreaUser). is_exclusive w.val.role) (user_at a u).id (plain_user (user_at a u)) (users_in a.users) (in_table u x t) in
          omega (arith, good.roles.alone (omega arith), users-length (users_in a.users))));
      one_writer = λ u v x y t s role role'. same_or u v (λ e. e) (λ d. absurd (
          let one : is_writer (user_at a u).role ≡ 1 = ap is_writer role in
          let other : is_writer (user_at a v).role ≡ 1 = ap is_writer role' in
          omega (
            arith,
            total_two (λ (w : Row AreaUser). is_writer w.val.role) (user_at a u).id (user_at a v).id (plain_user (user_at a u)) (plain_user (user_at a v)) (users_in a.users) (users_sorted a.users) (in_table u x t) (in_table v y s) (apart u v x y t d),
            good.roles.one_writer,
          )));
    }

    -- the name is entered
    area_entered : (t : ℕ) × (t < count g r) × Used Q t × (name_at Q t ≡ n)
    area_entered =
        let f : File = good.file in
        let e : entry p n ≡ some (file_entry p.F p.s n f) = entry_of p n f (g.catalog.files n f good.entered).ordinary good.entered in
        let there = r.layout.sys.places.there n (file_entry p.F p.s n f) e in
        (there.0, there.1, (λ z. no_zero r.layout.sys.places (entry_named p g.catalog.names) n (file_entry p.F p.s n f) e (sym there.2 ∙ name_zero Q there.0 z)), there.2)

    area_ordinary : T (is_system n) → ⊥
    area_ordinary t = T_not (is_system n) (g.catalog.files n good.file good.entered).ordinary t

  pub sound_areas : SoundAreas image state p.H p.s p.F (sys_of p)
  sound_areas = record {
    distinct = r.areas.distinct;
    entered = area_entered;
    ordinary = area_ordinary;
    users = legal_users;
  }
