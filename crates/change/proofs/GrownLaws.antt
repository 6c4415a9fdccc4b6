-- A file as it stands once SYS has grown by a layer: its place keeps its words.
use mathlib.Core.Path.{◌≡◌, sym, ap, ap₂, ◌∙◌}
use mathlib.Core.List.{List}
use mathlib.Core.Logic.{◌≢◌}
use Prim.Native.Nat.{ℕ, suc, ◌+◌, ◌*◌, ◌/◌, ◌<◌}
use native.Mathlib.Omega.{arith}
use Rattle.disc.specs.Words.{word}
use Rattle.disc.specs.Names.{SYS}
use Rattle.disc.specs.Stretches.{sys_from}
use Rattle.disc.specs.Entries.{name_at}
use Rattle.catalog.specs.Catalog.{entry_word}
use Rattle.catalog.specs.declared.Place.{Place}
use Rattle.catalog.specs.declared.Unit.{Unit}
use Rattle.plain.specs.Unit.{Plain, File, sys_of}
use Rattle.plain.proofs.UnitLaws.{not_system}
use Rattle.plain.proofs.GrowUnit.{entry_but_sys}
use Rattle.refine.proofs.CatalogLaws.{name_cong}
use Rattle.refine.proofs.Ground.{ground, place_in, sys_ground}
use Rattle.refine.proofs.Writers.{grown_sector}
use Rattle.preservation.proofs.GrowStep.{grow_old}
use Rattle.preservation.specs.Units.{layer_slices, grown_unit}
use Rattle.lookup.specs.Unit.{NumbersOf, unit_places}
use Rattle.lookup.specs.Find.{PlaceIs, NameAt}
use Rattle.grow.specs.Grow.{CanGrowFrom, GrownFrom}
use Rattle.grow.proofs.GrowLaws.{grown_on}
use Rattle.change.specs.declared.rewrite.Standing.{Standing}
use Rattle.change.specs.Rewrite.{StandsAs}

-- a word of a place of the code is that of SYS's place
place_word_lem : (p : Plain) (image : List ℕ) {t : ℕ} {place : Place} → PlaceIs p (sys_of p) t place → (w : ℕ) → entry_word image place w ≡ unit_places image p t w
place_word_lem p image is w = ap₂ (λ (q slot : ℕ). word image q (slot * 16 + w)) is.sector is.slot

module _ {image : List ℕ} {o : Unit} {now : Standing} {p : Plain} {n : ℕ} {f : File} (s : StandsAs image o now p n f) (can : CanGrowFrom image o p (sys_of p))
    {after : List ℕ} (g : GrownFrom image p after) where
  no_sys : n ≢ SYS
  no_sys = (not_system n (s.on.good.catalog.files n f s.file).ordinary).0

  -- SYS stands in another place
  apart : s.at.number ≢ g.place
  apart e = no_sys (sym s.at.named ∙ ap (name_at (unit_places image p)) e ∙ g.named)

  kept : (w : ℕ) → w < 16 → unit_places after (grown_unit p) s.at.number w ≡ unit_places image p s.at.number w
  kept w x =
      ap (λ (i : List ℕ). unit_places i (grown_unit p) s.at.number w) g.written
      ∙ grow_old can.catalog.on can.room can.few g.place g.inside g.named s.at.number w s.at.is.inside apart x

  grown_is : PlaceIs (grown_unit p) (sys_of (grown_unit p)) s.at.number now.place
  grown_is =
      let gr = ground p s.on.good in
      let same = grown_sector p.F p.s p.sys (layer_slices p) (s.at.number / 16 + sys_from) (place_in (sys_ground gr) s.at.number s.at.is.inside) in
      record { inside = omega (arith, s.at.is.inside); sector = s.at.is.sector ∙ sym same; slot = s.at.is.slot }

  grown_at : NameAt after (grown_unit p) n now.place
  grown_at = record {
    number = s.at.number;
    is = grown_is;
    named = name_cong (unit_places image p) (unit_places after (grown_unit p)) s.at.number kept ∙ s.at.named;
    words = s.at.words;
    entered = entry_but_sys p (suc p.layers) n no_sys ∙ s.at.entered;
    holds = λ w x. place_word_lem (grown_unit p) after grown_is w ∙ kept w x ∙ sym (place_word_lem p image s.at.is w) ∙ s.at.holds w x;
  }

  pub grown_stands : {o' : Unit} → NumbersOf o' (grown_unit p) → StandsAs after o' now (grown_unit p) n f
  grown_stands num = record {
    on = grown_on can g;
    numbers = num;
    file = s.file;
    closed = s.closed;
    at = grown_at;
    attributes = s.attributes;
    size = s.size;
    slices = s.slices;
    words = s.words;
  }
