-- Laws of the scan: one place more, by what its judgement, the filter and the search say of it.
use Rattle.std.specs.Prelude.{Option, Some, None}
use mathlib.Core.Path.{◌≡◌, refl, sym, ap, ◌∙◌, subst}
use mathlib.Core.Bool.{Bool, true, false}
use mathlib.Core.List.{List}
use Prim.Native.Nat.{ℕ, ◌+◌, ◌*◌, ◌/◌, ◌%◌, ◌≤◌, ◌<◌}
use native.Mathlib.Omega.{arith}
use native.Mathlib.Nat.{mul_comm}
use lib.ListN.{length}
use borrow.Author.Count.{below_more}
use Rattle.types.specs.declared.Name.{Name}
use Rattle.disc.specs.Decide.{Decides}
use Rattle.disc.specs.Names.{key_of, packed}
use Rattle.disc.specs.Stretches.{sector_in, sys_from}
use Rattle.disc.specs.Entries.{name_at}
use Rattle.disc.proofs.Compare.{below_or}
use Rattle.disc.proofs.Geometry.{quot, within}
use Rattle.disc.proofs.DecideLaws.{true≢false}
use Rattle.sound.specs.Places.{Used}
use Rattle.catalog.specs.declared.Catalog.{Catalog}
use Rattle.catalog.specs.declared.Place.{Place}
use Rattle.catalog.specs.Catalog.{NamePlace}
use Rattle.kit.specs.declared.Geometry.{Geometry}
use Rattle.sound_entries.specs.declared.Expected.{Expected}
use Rattle.sound_entries.specs.Legal.{NameIn, PlaceLegal, PlacesLegal, Judging}
use Rattle.sound_entries.specs.Names.{NamesAlone}
use Rattle.sound_entries.specs.Sys.{sys_slices, places_in, SysIn}
use Rattle.sound_entries.proofs.FindLaws.{FirstNamed, sys_at_lem, sys_none}
use Rattle.sound_entries.proofs.PlaceLaws.{name_packed, first_used}
use Rattle.sound_entries.proofs.NamesLaws.{named_used}
use Rattle.sound_names.specs.Filter.{Has, Noted}
use Rattle.sound_names.specs.Scan.{Standing, NoneBefore, Passed, Scanned}

module _ {P : ℕ → ℕ → ℕ} where
  alone_less : {t u : ℕ} → t ≤ u → NamesAlone P u → NamesAlone P t
  alone_less h a = record { alone = λ x y p q. a.alone x y (omega arith) (omega arith) }

  legal_less : {H t u : ℕ} {sys : List ℕ} → t ≤ u → PlacesLegal P H sys u → PlacesLegal P H sys t
  legal_less h l = record { each = λ x p. l.each x (omega arith) }

  -- one place more, whose name no place before it has
  alone_more : (t : ℕ) → NamesAlone P t → ((u : ℕ) → u < t → Used P u → Used P t → name_at P u ≡ name_at P t → ⊥) → NamesAlone P (t + 1)
  alone_more t a new = record { alone = go }
    where
      go : (x y : ℕ) → x < t + 1 → y < t + 1 → Used P x → Used P y → name_at P x ≡ name_at P y → x ≡ y
      go x y p q u v e =
          below_or x t
          (λ h. below_or y t
          (λ k. a.alone x y h k u v e)
          (λ k. let z : y ≡ t = omega arith in absurd (new x h u (subst (λ (i : ℕ). Used P i) z v) (e ∙ ap (name_at P) z))))
          (λ h. let w : x ≡ t = omega arith in
          below_or y t
          (λ k. absurd (new y k v (subst (λ (i : ℕ). Used P i) w u) (sym e ∙ ap (name_at P) w)))
          (λ k. omega arith))

  module _ {H : ℕ} {sys : List ℕ} where
    pub passed_none : (filter : List ℕ) → length filter ≡ 4096 → Passed P H sys filter 0
    passed_none filter size =
        record { legal = record { each = λ x p. absurd (omega arith) }; alone = record { alone = λ x y p. absurd (omega arith) }; size = size; has = λ u h. absurd (omega arith) }

    module _ {f : List ℕ} {t : ℕ} (p : Passed P H sys f t) (legal : PlaceLegal P H (t / 16 % H) sys t) where
      passed_more : {h : List ℕ} → length h ≡ 4096 → ((m : ℕ) → Has f m → Has h m) → (Used P t → Has h (name_at P t))
          → ((u : ℕ) → u < t → Used P u → Used P t → name_at P u ≡ name_at P t → ⊥) → Passed P H sys h (t + 1)
      passed_more {h} size kept now new =
          record {
            legal = record { each = below_more (λ u. PlaceLegal P H (u / 16 % H) sys u) t p.legal.each legal };
            alone = alone_more t p.alone new;
            size = size;
            has = below_more (λ u. Used P u → Has h (name_at P u)) t (λ u k used. kept (name_at P u) (p.has u k used)) now;
          }

      -- an unused place
      pub passed_unused : (Used P t → ⊥) → Passed P H sys f (t + 1)
      passed_unused none = passed_more p.size (λ m k. k) (λ u. absurd (none u)) (λ u l x used. absurd (none used))

      -- a name that is not in the filter
      pub passed_new : {n : ℕ} {h : List ℕ} → name_at P t ≡ n → Noted false f h n → Passed P H sys h (t + 1)
      passed_new {n} {h} e k =
          passed_more k.size k.kept (λ _. subst (λ (m : ℕ). Has h m) (sym e) k.has)
          (λ u l x _ same. k.new refl (subst (λ (m : ℕ). Has f m) (same ∙ e) (p.has u l x)))

      -- a name that the search finds nowhere before this place
      pub passed_first : {n : ℕ} {r : Bool} {h : List ℕ} → name_at P t ≡ n → Noted r f h n → NoneBefore P H n t → Passed P H sys h (t + 1)
      passed_first {n} {h = h} e k none =
          passed_more k.size k.kept (λ _. subst (λ (m : ℕ). Has h m) (sym e) k.has)
          (λ u l x _ same. none.none u l ((p.legal.each u l).key x ∙ ap (key_of H) (same ∙ e)) (same ∙ e))

  -- a name that it finds
  pub not_alone : {n H t : ℕ} → name_at P t ≡ n → 1 ≤ n → (NoneBefore P H n t → ⊥) → NamesAlone P (t + 1) → ⊥
  not_alone {n} {H} {t} e some found a =
      found (record {
        none = λ u l k s.
            omega (arith, a.alone u t (omega arith) (omega arith) (named_used P u (omega arith)) (named_used P t (omega arith)) (s ∙ sym e));
      })

module _ {P : ℕ → ℕ → ℕ} {H : ℕ} {sys : List ℕ} where
  pub scanned : {filter : List ℕ} {t : ℕ} → Passed P H sys filter t → Scanned true P H sys filter t
  scanned p = record { yes = λ _. p; not = λ e. absurd (true≢false e) }

  -- the same place, written otherwise
  pub passed_at : {filter : List ℕ} {t u : ℕ} → t ≡ u → Passed P H sys filter t → Passed P H sys filter u
  passed_at {filter} e p = subst (Passed P H sys filter) e p

  -- a place that is not legal
  pub not_legal : {r : Bool} {f : List ℕ} {t : ℕ} → Decides r (PlaceLegal P H (t / 16 % H) sys t) → r ≡ false → Scanned false P H sys f (t + 1)
  not_legal {r} {t = t} d e = record { yes = λ z. absurd (true≢false (sym z)); not = λ _ l a. d.not e (l.each t (omega arith)) }

  -- after `if !f(..)`: refused, here and further on, and granted
  pub refused : {r : Bool} {f h : List ℕ} {t u : ℕ} → Scanned r P H sys f t → r ≡ false → t ≤ u → Scanned false P H sys h u
  refused {r} s e h = record { yes = λ z. absurd (true≢false (sym z)); not = λ _ l a. s.not e (legal_less h l) (alone_less h a) }

  pub granted : {r : Bool} {f : List ℕ} {t : ℕ} → Scanned r P H sys f t → r ≡ true → Passed P H sys f t
  granted {r} s e = s.yes e

-- the sectors are in SYS's slices
pub in_slices : {image : List ℕ} {g : Geometry} {e : Expected} {n : ℕ} → Judging image g e n → n ≤ g.slice * length (sys_slices image g)
in_slices l = omega (arith, l.room, l.whole, l.catalog.room)

-- fewer sectors
pub fewer : {image : List ℕ} {g : Geometry} {e : Expected} {m n : ℕ} → m ≤ n → Judging image g e n → Judging image g e m
fewer h l = record { catalog = l.catalog; whole = l.whole; room = omega (arith, l.room) }

-- ---- one place, as the code meets it

-- `if !note(..)`
pub not_noted : {r : Bool} {f h : List ℕ} {n : ℕ} → r ≡ false → Noted r f h n → Noted false f h n
not_noted {r} {f} {h} {n} e k = subst (λ (x : Bool). Noted x f h n) e k

-- a place that is used is in a sector of its key
pub own_key : {P : ℕ → ℕ → ℕ} {t : ℕ} {name : Name} → NameIn P t name → {H k : ℕ} {sys : List ℕ} → PlaceLegal P H k sys t → (name.0 ≡ 0 → ⊥)
    → k ≡ key_of H (packed name)
own_key n {H} legal d = legal.key (first_used n d) ∙ ap (key_of H) (sym (name_packed n))

pub some_name : (name : Name) → (name.0 ≡ 0 → ⊥) → 1 ≤ packed name
some_name name d = omega arith

-- ---- what the search says of a place that has the name

module _ {image : List ℕ} {g : Geometry} {c : Catalog} (sys : SysIn image g c) {n q b i : ℕ} (at : Standing image g c.layers n q b i)
    {r : Option Place} (found : NamePlace image c n r) where
  abbrev t : ℕ
  t = 16 * b + i

  abbrev slices : List ℕ
  slices = sys_slices image g

  block : t / 16 ≡ b
  block = omega (arith, at.place)

  key : t / 16 % g.keys ≡ key_of g.keys n
  key = ap (λ (x : ℕ). x % g.keys) block ∙ at.key

  pub found_some : r ≡ None → ⊥
  found_some e = (sys_none sys refl found e).lacks t (omega (arith, at.inside, at.place)) key at.named

  module _ {p : Place} (e : r ≡ Some p) where
    first : FirstNamed image g c.layers n p
    first = sys_at_lem sys refl found e

    -- the place that was found is this one, by sector and slot: a sector is that of one block
    same_place : p.sector.0 ≡ q → p.slot ≡ i → first.place ≡ t
    same_place a d =
        let pos : 1 ≤ g.slice = omega (arith, sys.sys.unit.limits.slice_low) in
        let once = sys.sys.once in
        let inside : (x : ℕ) → x < g.keys * c.layers → x / g.slice < length slices = λ x h.
        quot g.first.0 g.slice g.slices slices pos once x (length slices) (omega (arith, sys.room, mul_comm g.slice (length slices))) in
        let x = within g.first.0 g.slice g.slices slices pos once slices (first.place / 16 + sys_from) b (λ k. omega arith)
        (inside (first.place / 16 + sys_from) (omega (arith, first.inside))) (inside b at.inside) (sym first.sector ∙ a ∙ at.sector) in
        omega (arith, x, first.slot)

    pub found_here : p.sector.0 ≡ q → p.slot ≡ i → NoneBefore (places_in image g) g.keys n t
    found_here a d = record { none = λ u l. first.earlier u (omega (arith, same_place a d)) }

    pub found_before : (p.sector.0 ≡ q → p.slot ≡ i → ⊥) → NoneBefore (places_in image g) g.keys n t → ⊥
    found_before d none = below_or first.place t
        (λ l. none.none first.place l first.key first.has)
        (λ ge. below_or t first.place
        (λ l. first.earlier t l key at.named)
        (λ le.
        let x : first.place / 16 + sys_from ≡ b = omega (arith, at.place) in
        d (first.sector ∙ ap (sector_in g.first.0 g.slice slices) x ∙ sym at.sector) (omega (arith, first.slot, at.place))))
