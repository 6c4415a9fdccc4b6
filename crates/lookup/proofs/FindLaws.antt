-- What a search through the blocks of SYS finds, said of the plain unit: a name's place and entry, or none.
use Rattle.std.specs.Prelude.{Option, Some, None}
use mathlib.Core.Path.{◌≡◌, refl, sym, ap, ◌∙◌}
use mathlib.Core.List.{List}
use mathlib.Core.Logic.{◌≢◌, ⊎_elim}
use mathlib.Core.Option.{none, some}
use Prim.Native.Nat.{ℕ, ◌+◌, ◌*◌, ◌/◌, ◌%◌, ◌≤◌, ◌<◌}
use native.Mathlib.Omega.{arith}
use native.Mathlib.Nat.{mul_comm}
use lib.ListN.{length, get_or}
use Rattle.disc.specs.Names.{key_of}
use Rattle.disc.specs.Stretches.{block_sector, sys_from}
use Rattle.disc.specs.Entries.{place_count, name_at}
use Rattle.disc.proofs.Geometry.{quot}
use Rattle.catalog.specs.declared.Catalog as catalog
use Rattle.catalog.specs.declared.Place.{Place}
use Rattle.catalog.specs.Catalog.{place_start, place_named, name_word, area_name_word}
use Rattle.catalog.specs.Value.{value_of}
use Rattle.catalog.proofs.PlaceLaws.{LiesIn, FirstWith, found_word, named_at, named_nothing}
use Rattle.plain.specs.Unit.{Plain, sys_of, M, held, entry}
use Rattle.plain.specs.Questions.{Outcome}
use Rattle.plain.proofs.TableLaws.{never_some}
use Rattle.plain.proofs.QuestionLaws.{asks_yes, asks_no}
use Rattle.sound.specs.Places.{Unused}
use Rattle.catalog.specs.declared.Unit.{Unit}
use Rattle.refine.specs.Represents.{PlaceOf}
use Rattle.refine.proofs.CatalogLaws.{at, name_zero}
use Rattle.refine.proofs.Ground.{positive, catalog_data, sys_ground, catalog_slices_lem, place_in}
use Rattle.lookup.specs.Unit.{CatalogOn, Searchable, unit_places}
use Rattle.lookup.specs.Find.{PlaceIs, NameAt, entered_word, NameFound, FindsName}
use Rattle.lookup.proofs.UnitLaws.{unit_ground, unit_named}

-- a unit has a key
pub some_key : {image : List ℕ} {o : Unit} → Searchable image o → 1 ≤ o.catalog.keys
some_key h = omega (arith, h.on.good.limits.keys_low, h.numbers.catalog.keys)

-- SYS as a value of the code
abbrev pub unit_sys : Plain → catalog.Catalog
unit_sys p = value_of p.H (sys_of p)

module _ {image : List ℕ} {p : Plain} (on : CatalogOn image p) where
  abbrev P : ℕ → ℕ → ℕ
  P = unit_places image p

  abbrev N : ℕ
  N = place_count p.H p.layers

  -- the sectors of its blocks
  abbrev place_block : Plain → ℕ → ℕ
  place_block p = block_sector p.F p.s p.sys sys_from

  -- the words of a place of SYS are in the image
  pub place_room : {t : ℕ} {place : Place} → PlaceIs p (sys_of p) t place → place_start place + 16 ≤ length image
  place_room {t} {place} is =
      let gr = unit_ground on in
      let d = catalog_data (sys_ground gr) (t / 16 + sys_from) (place_in (sys_ground gr) t is.inside) in
      let slot : t % 16 < 16 = omega arith in
      omega (arith, d.1, is.sector, is.slot, on.size)

  -- SYS is a catalog in its slices
  pub sys_lies : LiesIn image (unit_sys p) p.F p.s p.sys
  sys_lies =
      let gr = unit_ground on in
      record {
        pos = positive p gr;
        few = on.good.catalog.few;
        above = catalog_slices_lem (sys_ground gr);
        holds = on.sys.index;
        words = λ b x.
            let h : b < length p.sys * p.s = omega (arith, mul_comm p.s (length p.sys)) in
            let q = quot p.F p.s (M p) (held p) (positive p gr) on.good.once b (length p.sys) h in
            omega (arith, (catalog_data (sys_ground gr) b q).1, on.good.limits.sectors);
        room = omega (arith, gr.sys_cover, mul_comm p.s (length p.sys));
      }

  -- a place that a search found, by its number
  pub found_is : {Q : ℕ → Type 0} {k : ℕ} {place : Place} → (f : FirstWith Q (place_block p) p.H p.layers k place) → PlaceIs p (sys_of p) f.place place
  found_is f = record { inside = f.inside; sector = f.sector; slot = f.slot }

  -- ---- a name

  -- the entry in a place with a name
  entry_in_lem : (t n : ℕ) → t < N → name_at P t ≡ n → n ≢ 0 → (e : List ℕ) × (entry p n ≡ some e) × ((w : ℕ) → w < 16 → P t w ≡ get_or e w 0)
  entry_in_lem t n x q nz = ⊎_elim
      (λ (z : Unused P t). absurd (nz (sym q ∙ name_zero P t z)))
      (λ (u : PlaceOf P p.H (entry p) t). (u.words, ap (entry p) (sym q) ∙ u.entered, u.holds))
      (on.sys.places.each t x)

  -- no place of a name in the sectors of its key: no entry
  no_entry : (n : ℕ) → ((t : ℕ) → t < N → t / 16 % p.H ≡ key_of p.H n → name_at P t ≡ n → ⊥) → entry p n ≡ none
  no_entry n h = never_some (entry p n) (λ x e. let a = at on.sys.places (unit_named on) n x e in h a.place a.inside a.key a.name)

  -- the words of the question, by what was found
  entered_word_lem : {n : ℕ} (word : Option Place → ℕ) (refusal : ℕ) → ((place : Place) → word (Some place) ≡ 0) → word None ≡ refusal → (r : Option Place)
      → ((place : Place) → r ≡ Some place → NameAt image p n place) → (r ≡ None → entry p n ≡ none) → (lent : List ℕ) → word r ≡ entered_word p n refusal lent
  entered_word_lem word refusal zero_word none-word (Some place) at_place none_there lent =
      zero_word place ∙ sym (ap (λ (o : Outcome). o.answer.result) (asks_yes _ _ _ (rw (at_place place refl).entered tt)))
  entered_word_lem word refusal zero_word none-word None at_place none_there lent =
      none-word ∙ sym (ap (λ (o : Outcome). o.answer.result) (asks_no _ _ _ (rw (none_there refl) tt)))

  finds : {n : ℕ} {r : Option Place} → ((place : Place) → r ≡ Some place → NameAt image p n place) → (r ≡ None → entry p n ≡ none) → NameFound image p n r
  finds {n} {r} at_place none_there = record {
    at = at_place;
    nothing = none_there;
    word = entered_word_lem name_word 0x5000 (λ place. refl) refl r at_place none_there;
    area_word = entered_word_lem area_name_word 0x4800 (λ place. refl) refl r at_place none_there;
  }

  pub name_found : (n : ℕ) {r : Option Place} → n ≢ 0 → r ≡ place_named image (unit_sys p) n → NameFound image p n r
  name_found n {r} nz e = finds at_place none_there
    where
      at_place : (place : Place) → r ≡ Some place → NameAt image p n place
      at_place place q =
          let f = named_at image (unit_sys p) p.F p.s p.sys sys_lies n on.good.limits.keys_low place (sym e ∙ q) in
          let is = found_is f in
          let s = entry_in_lem f.place n is.inside f.has nz in
          record {
            number = f.place;
            is = is;
            named = f.has;
            words = s.0;
            entered = s.1;
            holds = λ w x. found_word image p.F p.s p.sys sys_from f w ∙ s.2 w x;
          }

      none_there : r ≡ None → entry p n ≡ none
      none_there q = no_entry n (named_nothing image (unit_sys p) p.F p.s p.sys sys_lies n on.good.limits.keys_low (sym e ∙ q)).lacks

  -- unused places have the name 0, which no entry has
  pub zero_found : (n : ℕ) {r : Option Place} → n ≡ 0 → r ≡ None → NameFound image p n r
  zero_found n z e = finds (λ place q. absurd (nothing≢at (sym e ∙ q))) (λ q. ap (entry p) z ∙ (unit_named on).zero)
    where
      nothing≢at : {place : Place} → None ≡ Some place → ⊥
      nothing≢at q = let z : ◌≡◌ {A = ℕ} 0 1 = cc in omega arith

-- the words of a name's place are in the image
pub name_room : {image : List ℕ} {o : Unit} {n : ℕ} {r : Option Place} {place : Place} → Searchable image o → FindsName image o n r → r ≡ Some place → place_start place + 16 ≤ length image
name_room {place = place} h finds e = place_room h.on ((finds.all h.unit h.on h.numbers).at place e).is
