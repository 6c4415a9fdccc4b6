-- The names are sound exactly if every place is legal, SYS and MAP were met, and every name is alone.
use Rattle.std.proofs.Common.{◌≡◌, ℕ, ◌/◌, ◌%◌, ◌<◌, ◌≤◌, List, sym, ap, ◌∙◌, arith, lit<, Option, Some, None}
use Rattle.disc.specs.Names.{key_of, SYS, MAP}
use Rattle.disc.specs.Entries.{place_count, name_at, sys_entry}
use Rattle.disc.specs.Catalog as disc
use Rattle.sound.specs.Places.{Used, Entered}
use Rattle.sound.specs.Parts.{SoundNames}
use Rattle.catalog.specs.declared.Catalog.{Catalog}
use Rattle.catalog.specs.declared.Place.{Place}
use Rattle.catalog.specs.Catalog.{NamePlace}
use Rattle.kit.specs.declared.Geometry.{Geometry}
use Rattle.sound_entries.specs.Sys.{places_in, SysIn}
use Rattle.sound_entries.specs.Legal.{HoldsEntry, PlacesLegal}
use Rattle.sound_entries.specs.Names.{Met, NamesLegal, NamesAlone}
use Rattle.sound_entries.proofs.PlaceLaws.{unused_name}
use Rattle.sound_entries.proofs.FindLaws.{sys_at_lem, sys_none}

-- a place with a name is used
pub named_used : (P : ℕ → ℕ → ℕ) (t : ℕ) → 1 ≤ name_at P t → Used P t
named_used P t h u = omega (arith, unused_name u)

module _ (image : List ℕ) (H s F : ℕ) (c : disc.Catalog) where
  abbrev P : ℕ → ℕ → ℕ
  P = disc.places_in image F s c

  abbrev count : ℕ
  count = disc.places_of H c

  abbrev own : List ℕ
  own = sys_entry H s c.layers c.slices

  module _ (n : SoundNames image H s F c) where
    -- the places in which SYS and MAP are entered have those names
    pub sound_sys : name_at P n.sys_entered.place ≡ SYS
    sound_sys = let e = n.sys_entered in omega (arith, e.holds 0 (lit< tt), e.holds 1 (lit< tt), e.holds 2 (lit< tt))

    pub sound-map : name_at P n.map_entered.place ≡ MAP
    sound-map = let e = n.map_entered in omega (arith, e.holds 0 (lit< tt), e.holds 1 (lit< tt), e.holds 2 (lit< tt))

    -- any place with the name of an entered one is that place
    same_words : {entry : List ℕ} {x : ℕ} (p : Entered P count entry) → name_at P p.place ≡ x → 1 ≤ x → (t : ℕ) → t < count → name_at P t ≡ x → HoldsEntry P t entry
    same_words p e some t h f =
        let same = n.alone p.place t p.inside h (named_used P p.place (omega arith)) (named_used P t (omega arith)) (e ∙ sym f) in
        record { at = λ w l. ap (λ (x : ℕ). P x w) (sym same) ∙ p.holds w l }

    pub sound_sys_words : (t : ℕ) → t < count → name_at P t ≡ SYS → HoldsEntry P t own
    sound_sys_words = same_words n.sys_entered sound_sys (lit< tt)

    pub sound_legal : NamesLegal P H own count
    sound_legal =
        record {
          places = record {
            each = λ t h.
                record {
                  name = λ u. (n.legal t h u).name;
                  key = λ u. (n.legal t h u).key;
                  system = record { sys_words = sound_sys_words t h; map_words = same_words n.map_entered sound-map (lit< tt) t h };
                };
          };
          sys_met = record { place = n.sys_entered.place; inside = n.sys_entered.inside; named = sound_sys };
          map_met = record { place = n.map_entered.place; inside = n.map_entered.inside; named = sound-map };
        }

    -- SYS stands in a sector of its key
    pub sound_key : n.sys_entered.place / 16 % H ≡ key_of H SYS
    sound_key =
        let p = n.sys_entered in
        (n.legal p.place p.inside (named_used P p.place (omega (arith, sound_sys)))).key ∙ ap (key_of H) sound_sys

  pub names_sound : NamesLegal P H own count → NamesAlone P count → SoundNames image H s F c
  names_sound l a =
      let x = l.sys_met in
      let y = l.map_met in
      record {
        sys_entered = record { place = x.place; inside = x.inside; holds = ((l.places.each x.place x.inside).system.sys_words x.named).at };
        map_entered = record { place = y.place; inside = y.inside; holds = ((l.places.each y.place y.inside).system.map_words y.named).at };
        legal = λ t h u. record { name = (l.places.each t h).name u; key = (l.places.each t h).key u };
        alone = a.alone;
      }

-- ---- what the search for SYS or MAP says, where every place is legal

module _ {image : List ℕ} {g : Geometry} {c : Catalog} (sys : SysIn image g c) {count : ℕ} (all : count ≡ place_count g.keys c.layers)
    {n x : ℕ} (same : n ≡ x) {r : Option Place} (found : NamePlace image c n r) where
  abbrev places : ℕ → ℕ → ℕ
  places = places_in image g

  pub met : {p : Place} → r ≡ Some p → Met places x count
  met e = let f = sys_at_lem sys same found e in record { place = f.place; inside = omega (arith, f.inside); named = f.has }

  pub not_met : {own : List ℕ} → 1 ≤ x → PlacesLegal places g.keys own count → r ≡ None → Met places x count → ⊥
  not_met some l e m =
      let key = (l.each m.place m.inside).key (named_used places m.place (omega (arith, m.named))) in
      (sys_none sys same found e).lacks m.place (omega (arith, m.inside)) (key ∙ ap (key_of g.keys) m.named) m.named
