-- Laws of the kit: whole slices by multiplying back, words compared as a part of the image, and the numbers of a sound kit.
use mathlib.Core.Path.{◌≡◌, refl, sym, ap, ap₂, ◌∙◌}
use mathlib.Core.List.{List, [], ◌∷◌}
use mathlib.Core.Bool.{Bool, true}
use Prim.Native.Nat.{ℕ, ◌+◌, ◌*◌, ◌/◌, ◌%◌, ◌≤◌, ◌<◌}
use native.Mathlib.Nat.{div-add-mod'}
use native.Mathlib.Omega.{arith}
use lib.Dec.{eqb}
use lib.ListN.{length, take, drop, get_or}
use lib.Pointwise.{pointwise}
use Rattle.std.proofs.lemmas.Bool.Decides.{Decides-eqb}
use Rattle.std.proofs.lemmas.Grind.{same_number_lists}
use Rattle.std.proofs.lemmas.List.{get_or-take, get_or-drop}
use Rattle.std.proofs.lemmas.Slice.Eq.{slice_eq-Decides}
use Rattle.std.proofs.Common.{length-take, length-drop}
use Rattle.disc.specs.Decide.{Decides}
use Rattle.disc.proofs.DecideLaws.{true≢false}
use Rattle.disc.specs.Words.{word, Holds}
use Rattle.disc.specs.Kit.{kit_sector, map_index_sector}
use Rattle.disc.specs.Map.{ones_in_map}
use Rattle.sound.specs.Parts.{SoundKit}
use Rattle.kit.specs.declared.Geometry.{Geometry}
use Rattle.kit.specs.Geometry.{GeometryOf, UnitOf, SoundByKit}

-- ---- whole slices

pub product_whole : (d s : ℕ) → d / s * s ≡ d → d % s ≡ 0
product_whole d s e = omega (arith, div-add-mod' d s)

pub whole_product : (d s : ℕ) → d % s ≡ 0 → d / s * s ≡ d
whole_product d s e = omega (arith, div-add-mod' d s)

-- ---- words compared as a part of the image

-- `==` of a part of the image and the words v asks whether each word of the part is that of v
pub part_is : (image v : List ℕ) (at : ℕ) (r : Bool) → at + length v ≤ length image → r ≡ pointwise eqb (take (length v) (drop at image)) v
    → Decides r ((b : ℕ) → b < length v → get_or image (at + b) 0 ≡ get_or v b 0)
part_is image v at r room e = record { yes = yes; not = λ f same. true≢false (sym ((slice_eq-Decides Decides-eqb _ _ r e).1 (all same)) ∙ f) }
  where
    yes : r ≡ true → (b : ℕ) → b < length v → get_or image (at + b) 0 ≡ get_or v b 0
    yes t b h =
        let same : take (length v) (drop at image) ≡ v = (slice_eq-Decides Decides-eqb _ _ r e).0 t in
        sym (get_or-drop at image b 0) ∙ sym (get_or-take (length v) (drop at image) b 0 h) ∙ ap (λ (l : List ℕ). get_or l b 0) same

    long : length (take (length v) (drop at image)) ≡ length v
    long = simp (length-take, length-drop) (omega arith)

    all : ((b : ℕ) → b < length v → get_or image (at + b) 0 ≡ get_or v b 0) → take (length v) (drop at image) ≡ v
    all same = same_number_lists _ _ long (λ k h. let l : k < length v = omega (arith, long) in get_or-take (length v) (drop at image) k 0 l ∙ get_or-drop at image k 0 ∙ same k l)

-- the same of a sector that begins with the words v
pub part_holds : (image v : List ℕ) (q : ℕ) (r : Bool) → q * 256 + length v ≤ length image → length v ≤ 256
    → r ≡ pointwise eqb (take (length v) (drop (q * 256) image)) v → Decides r (Holds image q v)
part_holds image v q r room few e = let d = part_is image v (q * 256) r room e in record {
  yes = λ t. record { at = λ b h k. d.yes t b h };
  not = λ f p. d.not f (λ b h. p.at b h (omega arith));
}

-- ---- a sound kit

-- the numbers of a sound kit are the geometry's, and the image holds every sector that they name
pub sound_unit : {image : List ℕ} {g : Geometry} {H s F N : ℕ} → GeometryOf image g → SoundKit image H s F N → UnitOf image g
sound_unit is kit =
    let k = kit.kit in
    record {
      size = rw (is.sectors ∙ k.sectors) kit.size;
      limits = rw (is.keys ∙ k.keys, is.slice ∙ k.slice, is.first ∙ k.first, is.sectors ∙ k.sectors) kit.limits;
      slices = is.slices;
    }
