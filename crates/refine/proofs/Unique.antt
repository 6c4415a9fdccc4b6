-- One image and one state represent one plain unit.
use mathlib.Core.Path.{◌≡◌, refl, sym, ap, ap₂, ◌∙◌, subst}
use mathlib.Core.List.{List, [], ◌∷◌, ◌++◌}
use mathlib.Core.Logic.{◌≢◌, ⊎_elim}
use mathlib.Core.Option.{Option, none, some}
use Prim.Native.Nat.{ℕ, ◌+◌, ◌*◌, ◌/◌, ◌<◌}
use native.Mathlib.Omega.{arith}
use native.Mathlib.Nat.{mul-div_cancel_left, mul-le-mul_left}
use lib.ListN.{length, get_or}
use lib.Seq.{ext_get_or}
use Rattle.types.specs.declared.State.{State}
use Rattle.disc.specs.Words.{Holds}
use Rattle.disc.specs.Names.{SYS, name_words}
use Rattle.disc.specs.Stretches.{sector_in, sys_from}
use Rattle.disc.specs.Entries.{place_word, name_at, index_sector, sys_entry}
use Rattle.disc.proofs.Compare.{below_or}
use Rattle.disc.proofs.IndexUnique.{index_unique}
use Rattle.disc.proofs.EntryLaws.{sector_first, index_zero, index_none, no_slices}
use Rattle.plain.specs.Table.{Table, table_find}
use Rattle.plain.specs.Unit.{Plain, File, AreaUser, held, file_entry, entry, free_sectors, with_tables, with_files}
use Rattle.plain.specs.Good.{Good}
use Rattle.plain.proofs.TableLaws.{some≢none, never_some, some_inj, find_ext}
use Rattle.plain.proofs.UnitLaws.{entry_sys, not_system, entry_of, entry_cases}
use Rattle.sound.specs.Places.{Unused}
use Rattle.refine.specs.Represents.{PlaceOf, Layout, LiveArea, area_of_unit, Represents}
use Rattle.refine.proofs.CatalogLaws.{At, at, Named, name_zero, no_zero}
use Rattle.refine.proofs.StateLaws.{users_of_area, users_of_unit}
use Rattle.refine.proofs.Ground.{Ground, ground, entry_named, entry_length, positive, catalog_slices_lem, sys_ground, file_slices_lem}

-- ---- entries

append_inj : (o u r t : List ℕ) → length o ≡ length u → o ++ r ≡ u ++ t → (o ≡ u) × (r ≡ t)
append_inj [] [] r t h e = (refl, e)
append_inj [] (x ∷ u) r t h e = absurd (omega arith)
append_inj (x ∷ o) [] r t h e = absurd (omega arith)
append_inj (x ∷ o) (y ∷ u) r t h e =
    let a : x ≡ y = cc in
    let b : o ++ r ≡ u ++ t = cc in
    let q = append_inj o u r t (omega arith) b in
    (ap₂ (λ (z : ℕ) (l : List ℕ). z ∷ l) a q.0, q.1)

-- what an entry says of a file
record Told (F s : ℕ) (f k : File) : Type 0 where
  pub optional : f.optional ≡ k.optional
  pub attributes : f.attributes ≡ k.attributes
  pub booked : f.booked ≡ k.booked
  pub index : index_sector F s f.booked_slices f.slices ≡ index_sector F s k.booked_slices k.slices
  pub reserved : s * f.booked_slices ≡ s * k.booked_slices
  pub tail : f.tail ≡ k.tail

told : (F s n : ℕ) (f k : File) → length f.optional ≡ length k.optional → file_entry F s n f ≡ file_entry F s n k → Told F s f k
told F s n f k three e =
    let x = append_inj (name_words n) (name_words n) _ _ refl e in
    let y = append_inj f.optional k.optional _ _ three x.1 in
    rest y.0 y.1
  where
    rest : f.optional ≡ k.optional
        → f.attributes ∷ f.booked ∷ index_sector F s f.booked_slices f.slices ∷ (s * f.booked_slices) ∷ f.tail
        ≡ k.attributes ∷ k.booked ∷ index_sector F s k.booked_slices k.slices ∷ (s * k.booked_slices) ∷ k.tail
        → Told F s f k
    rest o z = record { optional = o; attributes = cc; booked = cc; index = cc; reserved = cc; tail = cc }

-- ---- two units of one image

record Is (image : List ℕ) (p : Plain) : Type 0 where
  pub good : Good p
  pub layout : Layout image p (free_sectors p) (held p) (entry p)

module _ {image : List ℕ} {p : Plain} (a : Is image p) where
  gr : Ground p
  gr = ground p a.good

  nm : Named (entry p)
  nm = entry_named p a.good.catalog.names

-- SYS's slices
module _ (image : List ℕ) (p : Plain) (L : ℕ) (y : List ℕ) (fs : Table File) (a : Is image p) (b : Is image (with_tables p L y fs p.areas)) where
  sys_unique : y ≡ p.sys
  sys_unique =
      index_unique p.F p.s y p.sys (positive p (gr a)) (catalog_slices_lem (sys_ground (gr b))) (catalog_slices_lem (sys_ground (gr a))) b.good.catalog.few a.good.catalog.few
      b.layout.sys.index a.layout.sys.index

-- the layers: SYS's own entry has them
module _ (image : List ℕ) (p : Plain) (L : ℕ) (fs : Table File) (a : Is image p) (b : Is image (with_tables p L p.sys fs p.areas)) where
  abbrev P : ℕ → ℕ → ℕ
  P = place_word image p.F p.s p.sys sys_from

  abbrev q : Plain
  q = with_tables p L p.sys fs p.areas

  at_a : At a.layout.sys.places (nm a) SYS (sys_entry p.H p.s p.layers p.sys)
  at_a = at a.layout.sys.places (nm a) SYS (sys_entry p.H p.s p.layers p.sys) (entry_sys p)

  at_b : At b.layout.sys.places (nm b) SYS (sys_entry p.H p.s L p.sys)
  at_b = at b.layout.sys.places (nm b) SYS (sys_entry p.H p.s L p.sys) (entry_sys q)

  same_place : at_a.place ≡ at_b.place
  same_place =
      let e : name_at P at_a.place ≡ name_at P at_b.place = at_a.name ∙ sym at_b.name in
      let z : name_at P at_a.place ≢ 0 = λ x. (let y : SYS ≡ 0 = sym at_a.name ∙ x in omega arith) in
      below_or p.layers L
      (λ l. b.layout.sys.places.alone at_a.place at_b.place (omega (arith, at_a.inside, mul-le-mul_left p.H l)) at_b.inside e z)
      (λ l. a.layout.sys.places.alone at_a.place at_b.place at_a.inside (omega (arith, at_b.inside, mul-le-mul_left p.H l)) e z)

  layers_unique : L ≡ p.layers
  layers_unique =
      let e : p.H * p.layers ≡ p.H * L = sym (at_a.holds 7 (omega arith)) ∙ ap (λ (t : ℕ). P t 7) same_place ∙ at_b.holds 7 (omega arith) in
      let h = a.good.limits.keys_low in
      below_or p.layers L
      (λ l. absurd (omega (arith, mul-le-mul_left p.H l)))
      (λ l. below_or L p.layers (λ m. absurd (omega (arith, mul-le-mul_left p.H m))) (λ m. omega arith))

-- the entries
module _ (image : List ℕ) (p : Plain) (fs : Table File) (a : Is image p) (b : Is image (with_files p fs)) where
  entry_there : (n : ℕ) (e : List ℕ) → entry p n ≡ some e → entry (with_files p fs) n ≡ some e
  entry_there n e h =
      let w : At a.layout.sys.places (nm a) n e = at a.layout.sys.places (nm a) n e h in
      ⊎_elim
      (λ (z : Unused (place_word image p.F p.s p.sys sys_from) w.place).
      absurd (no_zero a.layout.sys.places (nm a) n e h (sym w.name ∙ name_zero (place_word image p.F p.s p.sys sys_from) w.place z)))
      (λ (u : PlaceOf (place_word image p.F p.s p.sys sys_from) p.H (entry (with_files p fs)) w.place).
      let k : entry (with_files p fs) n ≡ some u.words = ap (entry (with_files p fs)) (sym w.name) ∙ u.entered in
      let la : length e ≡ 16 = entry_length p a.good n e h in
      let lb : length u.words ≡ 16 = entry_length (with_files p fs) b.good n u.words k in
      let s : u.words ≡ e = ext_get_or 0 u.words e (lb ∙ sym la) (λ j x. sym (u.holds j (omega arith)) ∙ w.holds j (omega arith)) in
      k ∙ ap some s)
      (b.layout.sys.places.each w.place w.inside)

-- two files with the same live index sector and length
abbrev SameLive : ℕ → ℕ → File → File → Type 0
SameLive F s f k = (index_sector F s (length f.slices) f.slices ≡ index_sector F s (length k.slices) k.slices) × (length f.sectors ≡ length k.sectors)

module _ (image : List ℕ) (p : Plain) (fs : Table File) (a : Is image p) (b : Is image (with_files p fs)) where
  file_there : (n : ℕ) (f : File) → table_find n p.files ≡ some f → (k : File) × (table_find n fs ≡ some k) × (file_entry p.F p.s n f ≡ file_entry p.F p.s n k)
  file_there n f h =
      let d = not_system n (a.good.catalog.files n f h).ordinary in
      entry_cases (with_files p fs) n (entry_there image p fs a b n (file_entry p.F p.s n f) (entry_of p n f (a.good.catalog.files n f h).ordinary h))
      (λ q z. absurd (d.0 q)) (λ q z. absurd (d.1 q)) (λ k q z. (k, q, z))

  module _ (n : ℕ) (f k : File) (h : table_find n p.files ≡ some f) (j : table_find n fs ≡ some k) (same_entry : file_entry p.F p.s n f ≡ file_entry p.F p.s n k)
      (live : (users : Table AreaUser) → table_find n p.areas ≡ some users → SameLive p.F p.s f k) where
    s_pos : 0 < p.s
    s_pos = positive p (gr a)

    t : Told p.F p.s f k
    t = told p.F p.s n f k ((a.good.catalog.files n f h).optional.count ∙ sym (b.good.catalog.files n k j).optional.count) same_entry

    booked_slices_lem : f.booked_slices ≡ k.booked_slices
    booked_slices_lem = sym (mul-div_cancel_left f.booked_slices s_pos) ∙ ap (λ (x : ℕ). x / p.s) t.reserved ∙ mul-div_cancel_left k.booked_slices s_pos

    both : SameLive p.F p.s f k
    both = go (table_find n p.areas) refl
      where
        go : (o : Option (Table AreaUser)) → table_find n p.areas ≡ o → SameLive p.F p.s f k
        go (some users) e = live users e
        go none e =
            let x = (a.good.catalog.files n f h).closed e in
            let y = (b.good.catalog.files n k j).closed e in
            (ap (λ (c : ℕ). index_sector p.F p.s c f.slices) (sym x.1) ∙ t.index ∙ ap (λ (c : ℕ). index_sector p.F p.s c k.slices) y.1, sym x.0 ∙ t.booked ∙ y.0)

    slices_same : f.slices ≡ k.slices
    slices_same = below_or 0 (length f.slices)
        (λ x. below_or 0 (length k.slices)
        (λ y.
        let e : sector_in p.F p.s f.slices 0 ≡ sector_in p.F p.s k.slices 0 =
        sector_first p.F p.s f.slices x ∙ both.0 ∙ sym (sector_first p.F p.s k.slices y) in
        index_unique p.F p.s f.slices k.slices s_pos (file_slices_lem p (gr a) n f h) (file_slices_lem (with_files p fs) (gr b) n k j)
        (a.good.catalog.files n f h).few (b.good.catalog.files n k j).few (rw e at ((a.layout.files n f h).index x)) ((b.layout.files n k j).index y))
        (λ y.
        let e : f.slices ≡ [] = index_zero p.F p.s f.slices (omega (arith, a.good.limits.first)) (both.0 ∙ index_none p.F p.s k.slices y) in
        absurd (omega (arith, ap length e))))
        (λ x. no_slices f.slices x ∙ sym (index_zero p.F p.s k.slices (omega (arith, a.good.limits.first)) (sym both.0 ∙ index_none p.F p.s f.slices x)))

    sectors_same : f.sectors ≡ k.sectors
    sectors_same = ext_get_or [] f.sectors k.sectors both.1 (λ c x.
        let y : c < length k.sectors = omega (arith, both.1) in
        let la = ((a.good.catalog.files n f h).sectors c x).count in
        let lb = ((b.good.catalog.files n k j).sectors c y).count in
        let ha : Holds image (sector_in p.F p.s k.slices (c + 1)) (get_or f.sectors c []) = rw slices_same at ((a.layout.files n f h).blocks c x) in
        let hb = (b.layout.files n k j).blocks c y in
        ext_get_or 0 (get_or f.sectors c []) (get_or k.sectors c []) (la ∙ sym lb) (λ w z. sym (ha.at w z (omega arith)) ∙ hb.at w (omega arith) (omega arith)))

    file_same : f ≡ k
    file_same =
        λ z. record { attributes = t.attributes z; optional = t.optional z; tail = t.tail z; booked = t.booked z; booked_slices = booked_slices_lem z; slices = slices_same z; sectors = sectors_same z }

-- what the areas of the state say of two units' files
record Lives (p : Plain) (fs : Table File) : Type 0 where
  pub same : (n : ℕ) (f k : File) (users : Table AreaUser) → table_find n p.files ≡ some f → table_find n fs ≡ some k → table_find n p.areas ≡ some users → SameLive p.F p.s f k

module _ (image : List ℕ) (p : Plain) (fs : Table File) (a : Is image p) (b : Is image (with_files p fs)) (live : Lives p fs) where
  files_unique : fs ≡ p.files
  files_unique = find_ext 0 fs p.files b.good.catalog.names a.good.catalog.names (λ n. go n (table_find n p.files) refl)
    where
      back : (n : ℕ) → table_find n p.files ≡ none → table_find n fs ≡ none
      back n h = never_some (table_find n fs) (λ k e. some≢none (sym (file_there image (with_files p fs) p.files b a n k e).1 ∙ h))

      go : (n : ℕ) (o : Option File) → table_find n p.files ≡ o → table_find n fs ≡ table_find n p.files
      go n none h = back n h ∙ sym h
      go n (some f) h =
          let x = file_there image p fs a b n f h in
          x.1 ∙ ap some (sym (file_same image p fs a b n f x.0 h x.1 x.2 (λ users e. live.same n f x.0 users h x.1 e))) ∙ sym h

-- one image, unit number and areas: one unit
unit_unique : (image : List ℕ) (p q : Plain) → Is image p → Is image q → q.unit ≡ p.unit → q.areas ≡ p.areas → Lives p q.files → q ≡ p
unit_unique image p q a b u r live =
    let e_h : q.H ≡ p.H = sym b.layout.kit.keys ∙ a.layout.kit.keys in
    let es : q.s ≡ p.s = sym b.layout.kit.slice ∙ a.layout.kit.slice in
    let e_n : q.N ≡ p.N = sym b.layout.kit.sectors ∙ a.layout.kit.sectors in
    let e_f : q.F ≡ p.F = sym b.layout.kit.first ∙ a.layout.kit.first in
    let e₁ : q ≡ with_tables p q.layers q.sys q.files p.areas =
    λ z. record { unit = u z; H = e_h z; s = es z; F = e_f z; N = e_n z; layers = q.layers; sys = q.sys; files = q.files; areas = r z } in
    let b₁ : Is image (with_tables p q.layers q.sys q.files p.areas) = subst (λ (x : Plain). Is image x) e₁ b in
    let e₂ : q.sys ≡ p.sys = sys_unique image p q.layers q.sys q.files a b₁ in
    let b₂ : Is image (with_tables p q.layers p.sys q.files p.areas) = subst (λ (x : List ℕ). Is image (with_tables p q.layers x q.files p.areas)) e₂ b₁ in
    let e₃ : q.layers ≡ p.layers = layers_unique image p q.layers q.files a b₂ in
    let b₃ : Is image (with_files p q.files) = subst (λ (x : ℕ). Is image (with_tables p x p.sys q.files p.areas)) e₃ b₂ in
    let e₄ : q.files ≡ p.files = files_unique image p q.files a b₃ live in
    λ z. record { unit = u z; H = e_h z; s = es z; F = e_f z; N = e_n z; layers = e₃ z; sys = e₂ z; files = e₄ z; areas = r z }

-- ---- with the state

pub represents_unique : (image : List ℕ) (state : State) (p q : Plain) → Good p → Good q → Represents image state p → Represents image state q → q ≡ p
represents_unique image state p q gp gq a b =
    unit_unique image p q (record { good = gp; layout = a.layout }) (record { good = gq; layout = b.layout }) (sym b.areas.number ∙ a.areas.number)
    (find_ext 0 q.areas p.areas gq.area_names gp.area_names (λ n.
    sym (users_of_unit q.F q.s (table_find n q.areas) (table_find n q.files)) ∙ ap users_of_area (same n)
    ∙ users_of_unit p.F p.s (table_find n p.areas) (table_find n p.files)))
    (record { same = λ n f k users h j e. go n f k users (table_find n q.areas) h j e (at_name n f k users h j e) })
  where
    e_f : q.F ≡ p.F
    e_f = sym b.layout.kit.first ∙ a.layout.kit.first

    es : q.s ≡ p.s
    es = sym b.layout.kit.slice ∙ a.layout.kit.slice

    -- what the state says of a name, as both units have it
    same : (n : ℕ) → area_of_unit q.F q.s (table_find n q.areas) (table_find n q.files) ≡ area_of_unit p.F p.s (table_find n p.areas) (table_find n p.files)
    same n = sym (b.areas.each n) ∙ a.areas.each n

    at_name : (n : ℕ) (f k : File) (users : Table AreaUser) → table_find n p.files ≡ some f → table_find n q.files ≡ some k → table_find n p.areas ≡ some users
        → area_of_unit q.F q.s (table_find n q.areas) (some k) ≡ area_of_unit p.F p.s (some users) (some f)
    at_name n f k users h j e =
        ap (area_of_unit q.F q.s (table_find n q.areas)) (sym j) ∙ same n
        ∙ ap (λ (o : Option (Table AreaUser)). area_of_unit p.F p.s o (table_find n p.files)) e ∙ ap (area_of_unit p.F p.s (some users)) h

    go : (n : ℕ) (f k : File) (users : Table AreaUser) (x : Option (Table AreaUser)) → table_find n p.files ≡ some f → table_find n q.files ≡ some k → table_find n p.areas ≡ some users
        → area_of_unit q.F q.s x (some k) ≡ area_of_unit p.F p.s (some users) (some f) → SameLive p.F p.s f k
    go n f k users none h j e z = absurd (some≢none (sym z))
    go n f k users (some vs) h j e z =
        let x : index_sector q.F q.s (length k.slices) k.slices ≡ index_sector p.F p.s (length f.slices) f.slices = ap (λ (y : LiveArea). y.index) (some_inj z) in
        (sym (rw (e_f, es) at x), sym (ap (λ (y : LiveArea). y.size) (some_inj z)))
