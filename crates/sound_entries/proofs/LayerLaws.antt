-- The number of SYS's layers, from the first place named SYS.
use Rattle.std.proofs.Common.{◌≡◌, ℕ, ◌*◌, ◌/◌, ◌≤◌, eqb, List, [], ◌∷◌, length, sym, ap, ◌∙◌, ap₂, mul_comm, zero-mul, mul-le-mul_left, le-div_iff_mul-le, div-mul-le_self, arith, lit<, eq-eqb, ne_eqb}
use Rattle.std.specs.Prelude.{Option, Some, None}
use mathlib.Core.Bool.{and-false}
use native.Mathlib.Nat.{mul-div_cancel_left, eq_of_mul-eq-mul_right}
use Rattle.disc.specs.Numbers.{ceil_div}
use Rattle.disc.specs.Names.{SYS}
use Rattle.disc.specs.Words.{word, Holds}
use Rattle.disc.specs.Stretches.{index_words, sys_from}
use Rattle.disc.proofs.Compare.{same_or, below_or}
use Rattle.disc.proofs.NumberLaws.{ceil_div_le}
use Rattle.disc.proofs.Geometry.{ceil_cover}
use Rattle.catalog.specs.declared.Catalog.{Catalog}
use Rattle.catalog.specs.declared.Place.{Place}
use Rattle.catalog.specs.Catalog.{entry_word, place_named, NamePlace}
use Rattle.catalog.proofs.PlaceLaws.{found_word}
use Rattle.kit.specs.declared.Geometry.{Geometry}
use Rattle.sound_entries.specs.Sys.{sys_slices, SysNames, SysOf, SysIn}
use Rattle.sound_entries.specs.Names.{layers_by, full_sys, layers_in, LayersOf}
use Rattle.sound_entries.proofs.FindLaws.{FirstNamed, sys_in, sys_at_lem, sys_none}
use Rattle.sound_entries.proofs.NamesLaws.{sound_sys, sound_key, sound_sys_words}

-- an index block describes some slice
some_slice : {image : List ℕ} {q : ℕ} (F s : ℕ) (l : List ℕ) → Holds image q (index_words F s l) → 1 ≤ word image q 0 → 1 ≤ length l
some_slice F s [] holds some = absurd (omega (arith, holds.at 0 (omega arith) (omega arith)))
some_slice F s (x ∷ l) holds some = omega arith

-- all complete layers that fit SYS's slices were searched for its name
module _ {image : List ℕ} {g : Geometry} (sys : SysOf image g) {full : Catalog} (is : full ≡ full_sys image g) {n : ℕ} (same : n ≡ SYS)
    {r : Option Place} (found : NamePlace image full n r) where
  abbrev H : ℕ
  H = g.keys

  abbrev s : ℕ
  s = g.slice

  abbrev slices : List ℕ
  slices = sys_slices image g

  keys : 1 ≤ H
  keys = sys.unit.limits.keys_low

  pos : 1 ≤ s
  pos = omega (arith, sys.unit.limits.slice_low)

  all : SysIn image g full
  all = sys_in sys is (omega (arith, div-mul-le_self (s * length slices) H, mul_comm H (s * length slices / H)))

  -- L layers are among them
  within : (L : ℕ) → length slices ≡ ceil_div (H * L) s → H * L ≤ H * full.layers
  within L e =
      let c : H * L ≤ length slices * s = ceil_cover s (H * L) (length slices) pos (omega arith) in
      let d : L ≤ s * length slices / H = (le-div_iff_mul-le keys).1 (omega (arith, mul_comm L H, mul_comm s (length slices))) in
      mul-le-mul_left H (omega (arith, d, ap (λ (c : Catalog). c.layers) is))

  read_as : {f : Option Place} → r ≡ f → layers_in image g f ≡ layers_in image g (place_named image (full_sys image g) SYS)
  read_as e = ap (layers_in image g) (sym e ∙ found.place ∙ ap₂ (place_named image) is same)

  pub layers_none : r ≡ None → LayersOf image g None
  layers_none e = record {
    read = read_as e;
    fits = tt;
    only = λ L p f names.
        let t = names.sys_entered in
        absurd ((sys_none all same found e).lacks t.place (omega (arith, within L f, t.inside)) (sound_key _ _ _ _ _ names) (sound_sys _ _ _ _ _ names));
  }

  -- the length in the first entry of SYS
  module _ {p : Place} (e : r ≡ Some p) {size : ℕ} (word : size ≡ entry_word image p 7) where
    first : FirstNamed image g full.layers SYS p
    first = sys_at_lem all same found e

    read_by : {c : Option ℕ} → c ≡ layers_by H s (length slices) size → c ≡ layers_in image g (place_named image (full_sys image g) SYS)
    read_by f = f ∙ ap (layers_by H s (length slices)) word ∙ read_as e

    size_is : (L : ℕ) → SysNames image g L → size ≡ H * L
    size_is L names =
        let t = names.sys_entered in
        below_or t.place first.place
        (λ h. absurd (first.earlier t.place h (sound_key _ _ _ _ _ names) (sound_sys _ _ _ _ _ names)))
        (λ h. word ∙ found_word image g.first.0 s slices sys_from first 7 ∙ (sound_sys_words _ _ _ _ _ names first.place (omega (arith, t.inside)) first.has).at 7 (lit< tt))

    module _ {layers : ℕ} (quotient : layers ≡ size / H) where
      layers_is : (L : ℕ) → size ≡ H * L → layers ≡ L
      layers_is L f = quotient ∙ ap (λ (x : ℕ). x / H) f ∙ mul-div_cancel_left L keys

      pub layers_part : (layers * H ≡ size → ⊥) → LayersOf image g None
      layers_part d = record {
        read = read_by (rw (ne_eqb (size / H * H) size (λ w. d (ap (λ (x : ℕ). x * H) quotient ∙ w))));
        fits = tt;
        only = λ L p f names.
            let z = size_is L names in
            absurd (d (ap (λ (x : ℕ). x * H) (layers_is L z) ∙ mul_comm L H ∙ sym z));
      }

      module _ {reserved c : ℕ} (sectors : reserved ≡ s * length slices) (ceil : c ≡ ceil_div size s) where
        pub layers_other : (c * s ≡ reserved → ⊥) → LayersOf image g None
        layers_other d =
            let no : ceil_div size s ≡ length slices → ⊥ = λ w. d (ap (λ (x : ℕ). x * s) (ceil ∙ w) ∙ mul_comm (length slices) s ∙ sym sectors) in
            record {
              read = read_by (rw (ne_eqb (ceil_div size s) (length slices) no, and-false (eqb (size / H * H) size)));
              fits = tt;
              only = λ L p f names. absurd (no (ap (λ (x : ℕ). ceil_div x s) (size_is L names) ∙ sym f));
            }

        pub layers_found : layers * H ≡ size → c * s ≡ reserved → LayersOf image g (Some layers)
        layers_found w f =
            let e : c ≡ length slices = eq_of_mul-eq-mul_right s pos c (length slices) (f ∙ sectors ∙ mul_comm s (length slices)) in
            let whole : size / H * H ≡ size = ap (λ (x : ℕ). x * H) (sym quotient) ∙ w in
            record {
              read = read_by (rw (eq-eqb (size / H * H) size whole, eq-eqb (ceil_div size s) (length slices) (sym ceil ∙ e), ne_eqb (size / H) 0 (λ z. omega (arith, positive, quotient ∙ z))) (ap (λ (x : ℕ). Some x) quotient));
              fits = (positive, sym e ∙ ceil ∙ ap (λ (x : ℕ). ceil_div x s) (sym w ∙ mul_comm layers H));
              only = λ L p f names. ap (λ (x : ℕ). Some x) (layers_is L (size_is L names));
            }
          where
            positive : 1 ≤ layers
            positive = same_or layers 0
                (λ z.
                let none : size ≡ 0 = sym w ∙ ap (λ (x : ℕ). x * H) z ∙ zero-mul H in
                let few = (ceil_div_le size s 0 pos).1 (omega arith) in
                let e : c ≡ length slices = eq_of_mul-eq-mul_right s pos c (length slices) (f ∙ sectors ∙ mul_comm s (length slices)) in
                absurd (omega (arith, some_slice g.first.0 s slices sys.index.pairs sys.index.some)))
                (λ d. omega arith)
