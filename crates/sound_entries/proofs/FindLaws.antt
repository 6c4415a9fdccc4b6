-- What a search of SYS finds, by the numbers of its places.
use Rattle.std.proofs.Common.{◌≡◌, ℕ, ◌*◌, ◌≤◌, List, length, sym, refl, ap, ◌∙◌, ap₂, arith, Option, Some, None}
use Rattle.disc.specs.Names.{key_of}
use Rattle.disc.specs.Stretches.{block_sector, sys_from}
use Rattle.disc.specs.Entries.{name_at}
use Rattle.disc.proofs.IndexLaws.{slices_at_above}
use Rattle.catalog.specs.declared.Catalog.{Catalog}
use Rattle.catalog.specs.declared.Place.{Place}
use Rattle.catalog.specs.Catalog.{sys_value, place_named, NamePlace}
use Rattle.catalog.proofs.PlaceLaws.{LiesIn, FirstWith, NoneWith, named_at, named_nothing}
use Rattle.kit.specs.declared.Geometry.{Geometry}
use Rattle.sound_entries.specs.Sys.{sys_slices, places_in, SysOf, SysIn}
use Rattle.sound_entries.proofs.SysLaws.{sys_few_lem, sys_inside}

-- SYS is a catalog in its slices
pub sys_lies : {image : List ℕ} {g : Geometry} {L : ℕ} → SysOf image g → g.keys * L ≤ g.slice * length (sys_slices image g)
    → LiesIn image (sys_value g.keys L) g.first.0 g.slice (sys_slices image g)
sys_lies {image} {g} sys room = record {
  pos = omega (arith, sys.unit.limits.slice_low);
  few = sys_few_lem sys;
  above = slices_at_above image g.first.0 g.slice 6;
  holds = sys.index.pairs;
  words = λ b h. omega (arith, sys_inside sys b h, sys.unit.limits.sectors);
  room = omega arith;
}

pub sys_in : {image : List ℕ} {g : Geometry} {c : Catalog} {L : ℕ} → SysOf image g → c ≡ sys_value g.keys L → g.keys * L ≤ g.slice * length (sys_slices image g)
    → SysIn image g c
sys_in sys e room = rw e (record { sys = sys; is = refl; room = room })

pub in_keys : {image : List ℕ} {g : Geometry} {c : Catalog} → SysIn image g c → c.keys ≡ g.keys
in_keys sys = ap (λ (x : Catalog). x.keys) sys.is

pub some_key : {image : List ℕ} {g : Geometry} {c : Catalog} → SysIn image g c → 1 ≤ c.keys
some_key sys = omega (arith, in_keys sys, sys.sys.unit.limits.keys_low)

-- the first place with the name n in the sectors of its key, and that there is none
abbrev pub FirstNamed : List ℕ → Geometry → ℕ → ℕ → Place → Type 0
FirstNamed image g L n p =
    FirstWith (λ t. name_at (places_in image g) t ≡ n) (block_sector g.first.0 g.slice (sys_slices image g) sys_from) g.keys L (key_of g.keys n) p

abbrev pub NoneNamed : List ℕ → Geometry → ℕ → ℕ → Type 0
NoneNamed image g L n = NoneWith (λ t. name_at (places_in image g) t ≡ n) g.keys L (key_of g.keys n)

module _ {image : List ℕ} {g : Geometry} {c : Catalog} (sys : SysIn image g c) {n m : ℕ} (same : n ≡ m) {r : Option Place} (found : NamePlace image c n r) where
  sought : {f : Option Place} → r ≡ f → place_named image (sys_value g.keys c.layers) m ≡ f
  sought e = sym (found.place ∙ ap₂ (place_named image) sys.is same) ∙ e

  pub sys_at_lem : {p : Place} → r ≡ Some p → FirstNamed image g c.layers m p
  sys_at_lem {p} e = named_at image (sys_value g.keys c.layers) g.first.0 g.slice (sys_slices image g) (sys_lies sys.sys sys.room) m sys.sys.unit.limits.keys_low p (sought e)

  pub sys_none : r ≡ None → NoneNamed image g c.layers m
  sys_none e = named_nothing image (sys_value g.keys c.layers) g.first.0 g.slice (sys_slices image g) (sys_lies sys.sys sys.room) m sys.sys.unit.limits.keys_low (sought e)
