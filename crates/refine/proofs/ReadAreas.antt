-- The open area processes of a state, collected by name: what the state's search finds, the tables find.
use Rattle.std.specs.Prelude.{Some, None, Option as Maybe}
use mathlib.Core.Path.{◌≡◌, refl, sym, ap, ◌∙◌}
use mathlib.Core.List.{List}
use mathlib.Core.Option.{Option, none, some}
use Prim.Native.Nat.{ℕ, ◌≤◌, ◌<◌}
use native.Mathlib.Omega.{arith}
use lib.ListN.{length}
use lib.Dec.{T}
use Rattle.types.specs.declared.Area.{Area}
use Rattle.types.specs.declared.State.{State}
use Rattle.types.specs.State.{area_at, IsOpen}
use Rattle.disc.specs.Entries.{name_at, index_sector}
use Rattle.disc.specs.Catalog.{Catalog, is_reserved, places_of, places_in}
use Rattle.state.specs.Areas.{area_named}
use Rattle.plain.specs.Table.{Row, Table, table_find, SortedFrom}
use Rattle.plain.specs.Unit.{File, AreaUser}
use Rattle.plain.specs.Good.{GoodArea}
use Rattle.plain.proofs.TableLaws.{some≢none, some_inj, never_some, one, total-length}
use Rattle.plain.proofs.UnitLaws.{legal_positive}
use Rattle.plain.proofs.Collect.{collect, row_if, IsRow, row_some, row_is, weight_if, sorted_collect, collect_find, find_collect, total_collect}
use Rattle.sound.specs.Places.{Used}
use Rattle.sound.specs.State.{Shaped, area_name, open_area, live_index, live_length, DistinctAreas}
use Rattle.sound.specs.Sound.{index_of, SoundEntries, SoundAreas}
use Rattle.refine.specs.Represents.{users_in, area_of_state, area_of_unit}
use Rattle.refine.proofs.KeyPlaces.{sum_most}
use Rattle.refine.proofs.ReadFile.{read_file, length_sectors, index_from}
use Rattle.refine.proofs.ReadFiles.{files_below, file_find}
use Rattle.refine.proofs.UserLaws.{users_sorted}
use Rattle.refine.proofs.ReadUsers.{three_users_lem, good_roles, good_user}
use Rattle.refine.proofs.StateLaws.{open_found, open_absent, named_inside, named_open, named_name, own_area}

-- ---- the areas by name

module _ (state : State) where
  abbrev row_at : ℕ → Option (Row (Table AreaUser))
  row_at j = row_if (area_at state j).live (area_name (area_at state j)) (users_in (area_at state j).users)

  unfoldable pub read_areas : Table (Table AreaUser)
  read_areas = collect row_at 8

  row_of : (j : ℕ) (r : Row (Table AreaUser)) → row_at j ≡ some r → IsRow (area_at state j).live (area_name (area_at state j)) (users_in (area_at state j).users) r
  row_of j r e = row_some (area_at state j).live (area_name (area_at state j)) (users_in (area_at state j).users) r e

  positive_key : (j : ℕ) (r : Row (Table AreaUser)) → row_at j ≡ some r → 0 < r.key
  positive_key j r e = let q = row_of j r e in omega (arith, q.key, q.positive)

  pub sorted_areas : SortedFrom 0 read_areas
  unfolding read_areas
  sorted_areas = sorted_collect row_at positive_key 8

  -- what the table finds is an open descriptor
  row_there : (n : ℕ) (users : Table AreaUser) → table_find n read_areas ≡ some users
      → (j : ℕ) × (j < 8) × IsRow (area_at state j).live (area_name (area_at state j)) (users_in (area_at state j).users) (record { key = n; val = users })
  unfolding read_areas
  row_there n users e = let c = collect_find row_at positive_key 8 n users e in (c.0, c.1, row_of c.0 (record { key = n; val = users }) c.2)

  module _ (shaped : Shaped state) (distinct : DistinctAreas state) where
    one_row : (j k : ℕ) (x y : Row (Table AreaUser)) → j < 8 → k < 8 → row_at j ≡ some x → row_at k ≡ some y → x.key ≡ y.key → j ≡ k
    one_row j k x y a b e f z =
        let q = row_of j x e in
        let v = row_of k y f in
        distinct j k a b q.given v.given (q.key ∙ z ∙ sym v.key)

    pub eight_areas : length read_areas ≤ 8
    unfolding read_areas
    eight_areas = omega (arith, total-length read_areas, total_collect row_at positive_key 8 one_row one 8 (omega arith), sum_most 8 1 (λ t. weight_if one (row_at t)) (λ t x. go (row_at t)))
      where
        go : (o : Option (Row (Table AreaUser))) → weight_if one o ≤ 1
        go none = omega arith
        go (some r) = omega arith

    -- an open descriptor is the one that the search finds
    pub open_at : (j : ℕ) → j < 8 → IsOpen state j → open_area state (area_name (area_at state j)) ≡ some (area_at state j)
    open_at j h live = open_found state (area_name (area_at state j)) j (own_area state j shaped distinct h live)

    -- and the table of areas finds its users
    area_find : (j : ℕ) → j < 8 → IsOpen state j → 0 < area_name (area_at state j) → table_find (area_name (area_at state j)) read_areas ≡ some (users_in (area_at state j).users)
    unfolding read_areas
    area_find j h live p =
        find_collect row_at positive_key 8 one_row 8 (omega arith) j
        (record { key = area_name (area_at state j); val = users_in (area_at state j).users }) h
        (row_is (area_at state j).live (area_name (area_at state j)) (users_in (area_at state j).users) live p)

    pub area_none : (n : ℕ) → open_area state n ≡ none → table_find n read_areas ≡ none
    area_none n e = never_some (table_find n read_areas) (λ users h.
        let c = row_there n users h in
        some≢none (sym (open_at c.0 c.1 c.2.given) ∙ ap (open_area state) c.2.key ∙ e))

-- ---- with the entries

module _ (image : List ℕ) (state : State) (H s F : ℕ) (c : Catalog)
    (en : SoundEntries image state H s F c) (shaped : Shaped state) (sa : SoundAreas image state H s F c) where
  abbrev P : ℕ → ℕ → ℕ
  P = places_in image F s c

  abbrev count : ℕ
  count = places_of H c

  abbrev files : Table File
  files = files_below image state F s c count

  -- an open area with its descriptor and its file's place
  record Open (n : ℕ) : Type 0 where
    pub area : ℕ
    pub below : area < 8
    pub live : IsOpen state area
    pub name : area_name (area_at state area) ≡ n
    pub place : ℕ
    pub inside : place < count
    pub used : Used P place
    pub ordinary : T (is_reserved c (name_at P place)) → ⊥
    pub entered : name_at P place ≡ n
    pub users : table_find n (read_areas state) ≡ some (users_in (area_at state area).users)
    pub found : open_area state n ≡ some (area_at state area)
    pub file : table_find n files ≡ some (read_file image state F s P place)

  opened : (j : ℕ) → j < 8 → IsOpen state j → (n : ℕ) → area_name (area_at state j) ≡ n → Open n
  opened j h live n e =
      let t = sa.entered j h live in
      let named : name_at P t.0 ≡ n = t.3 ∙ e in
      let p : 0 < name_at P t.0 = legal_positive (name_at P t.0) (en.legal t.0 t.1 t.2).name in
      let ord : T (is_reserved c (name_at P t.0)) → ⊥ = λ y. sa.ordinary j h live (rw t.3 at y) in
      record {
        area = j;
        below = h;
        live = live;
        name = e;
        place = t.0;
        inside = t.1;
        used = t.2;
        ordinary = ord;
        entered = named;
        users = rw e at (area_find state shaped sa.distinct j h live (omega (arith, t.3)));
        found = rw e at (open_at state shaped sa.distinct j h live);
        file = ap (λ (m : ℕ). table_find m files) (sym named) ∙ file_find image state F s c H en t.0 t.1 p ord;
      }

  by_users : (n : ℕ) (users : Table AreaUser) → table_find n (read_areas state) ≡ some users → Open n
  by_users n users e =
      let w = row_there state n users e in
      opened w.0 w.1 w.2.given n w.2.key

  by_search : (n : ℕ) (a : Area) → open_area state n ≡ some a → Open n
  by_search n a e = go (area_named n state) refl
    where
      go : (o : Maybe ℕ) → area_named n state ≡ o → Open n
      go (Some j) q = opened j (omega (arith, named_inside state n j q, shaped.eight)) (named_open state n j q) n (named_name state n j q)
      go None q = absurd (some≢none (sym e ∙ open_absent state n q))

  -- a name without users in the tables is not open
  pub not_open : (n : ℕ) → table_find n (read_areas state) ≡ none → open_area state n ≡ none
  not_open n h = never_some (open_area state n) (λ a e. some≢none (sym (by_search n a e).users ∙ h))

  module _ (n : ℕ) (o : Open n) where
    live_index_lem : index_of state P o.place ≡ (area_at state o.area).index.0
    live_index_lem = ap (λ (m : ℕ). live_index (open_area state m) (P o.place 8)) o.entered ∙ ap (λ (x : Option Area). live_index x (P o.place 8)) o.found

    live-length : length (read_file image state F s P o.place).sectors ≡ (area_at state o.area).length
    live-length =
        length_sectors image state F s P o.place
        ∙ ap (λ (m : ℕ). live_length (open_area state m) (P o.place 7)) o.entered ∙ ap (λ (x : Option Area). live_length x (P o.place 7)) o.found

  pub good_area : (n : ℕ) (users : Table AreaUser) → table_find n (read_areas state) ≡ some users → GoodArea files n users
  good_area n users e =
      let o = by_users n users e in
      let a : Area = area_at state o.area in
      let ok = sa.users o.area o.below o.live in
      let three = shaped.three o.area o.below in
      rw (some_inj (sym e ∙ o.users)) (record {
        file = read_file image state F s P o.place;
        entered = o.file;
        sorted = users_sorted a.users;
        three = three_users_lem a three ok;
        roles = good_roles a three ok;
        each = λ sender u h. rw (live-length n o) (good_user a three ok sender u h);
      })

  -- what the state shows of a name is what the tables show
  pub same_area : (n : ℕ) → area_of_state (open_area state n) ≡ area_of_unit F s (table_find n (read_areas state)) (table_find n files)
  same_area n = go (open_area state n) refl
    where
      go : (x : Option Area) → open_area state n ≡ x → area_of_state x ≡ area_of_unit F s (table_find n (read_areas state)) (table_find n files)
      go none e = sym (ap (λ (x : Option (Table AreaUser)). area_of_unit F s x (table_find n files)) (area_none state shaped sa.distinct n e))
      go (some a) e =
          let o = by_search n a e in
          let same : a ≡ area_at state o.area = some_inj (sym e ∙ o.found) in
          let f : File = read_file image state F s P o.place in
          let i : (area_at state o.area).index.0 ≡ index_sector F s (length f.slices) f.slices =
          sym (live_index_lem n o) ∙ sym (index_from image F s (index_of state P o.place) (en.files o.place o.inside o.used o.ordinary).legal.index) in
          let l : (area_at state o.area).length ≡ length f.sectors = sym (live-length n o) in
          ap (λ (x : Area). area_of_state (some x)) same
          ∙ (λ z. some (record { index = i z; size = l z; users = users_in (area_at state o.area).users }))
          ∙ sym (ap (λ (x : Option (Table AreaUser)). area_of_unit F s x (some f)) o.users)
          ∙ sym (ap (area_of_unit F s (table_find n (read_areas state))) o.file)
