-- The ones in the map are the bits of its slices, and in a sound map the number of free slices.
use mathlib.Core.Path.{◌≡◌, refl, sym, ap, ap₂, ◌∙◌}
use mathlib.Core.List.{List}
use Prim.Native.Nat.{ℕ, zero, suc, ◌+◌, ◌-◌, ◌*◌, ◌/◌, ◌%◌, ◌≤◌, ◌<◌}
use native.Mathlib.Numerals.{add-one}
use native.Mathlib.Omega.{arith}
use lib.Count.{ones}
use Rattle.disc.specs.Words.{word, Words}
use Rattle.disc.specs.Kit.{map_sector}
use Rattle.disc.specs.Slices.{occurrences, one_if_none, free_count}
use Rattle.disc.specs.Map.{map_bit, ones_below, ones_in_map, MapOf}
use Rattle.disc.proofs.SliceLaws.{in_unit_in, in_unit_no}
use Rattle.map.proofs.Digits.{digit, count_to, ones_count}

-- the slice of word w and bit b
pub map_bit_at : (image : List ℕ) (w b : ℕ) → b < 16 → map_bit image (16 * w + b + 1) ≡ digit (word image map_sector w) (15 - b)
unfolding map_bit
map_bit_at image w b h =
    let e : (16 * w + b + 1 - 1) / 16 ≡ w = omega arith in
    let f : (16 * w + b + 1 - 1) % 16 ≡ b = omega arith in
    ap₂ (λ (i j : ℕ). digit (word image map_sector i) (15 - j)) e f

-- the bit of a slice of word w
pub map_bit_in : (image : List ℕ) (w k : ℕ) → 16 * w < k → k ≤ 16 * w + 16
    → map_bit image k ≡ digit (word image map_sector w) (15 - (k - 1 - 16 * w))
map_bit_in image w k a b =
    let e : k ≡ 16 * w + (k - 1 - 16 * w) + 1 = omega arith in
    ap (map_bit image) e ∙ map_bit_at image w (k - 1 - 16 * w) (omega arith)

pub ones_below_lem : (image : List ℕ) → Words image → (w : ℕ) → ones_below image w ≡ count_to (map_bit image) (16 * w)
ones_below_lem image words zero = refl
ones_below_lem image words (suc w) =
    let next : 16 * suc w ≡ 16 * w + 16 = omega arith in
    let x = word image map_sector w in
    rw next (omega (arith, ones_below_lem image words w, ones_count (map_bit image) (16 * w) 16 x (words.each (map_sector * 256 + w)) (map_bit_at image w)))

-- one word more, and all words of the map
pub ones_more : (image : List ℕ) (w : ℕ) → ones_below image (w + 1) ≡ ones_below image w + ones (word image map_sector w)
ones_more image w = rw add-one

pub ones_all : (image : List ℕ) (n : ℕ) → n ≡ 256 → ones_below image n ≡ ones_in_map image
unfolding ones_in_map
ones_all image n e = ap (ones_below image) e

none_of : (x y : ℕ) → y + x ≡ 1 → y ≡ one_if_none x
none_of zero y e = omega arith
none_of (suc x) y e = omega arith

-- ---- in a sound map

module _ (m : ℕ) (held image : List ℕ) (few : m ≤ 4096) (is : MapOf image m held) where
  -- a slice of the unit is marked free exactly if no file has it
  pub bit_free : (k : ℕ) → 1 ≤ k → k ≤ m → map_bit image k ≡ one_if_none (occurrences k held)
  bit_free k a b = none_of (occurrences k held) (map_bit image k) (is k a (omega arith) ∙ in_unit_in m k a b)

  pub bit_past : (k : ℕ) → m < k → k ≤ 4096 → map_bit image k ≡ 0
  bit_past k a b = omega (arith, is k (omega arith) b, in_unit_no m k a)

  count_free : (n : ℕ) → n ≤ m → count_to (map_bit image) n ≡ free_count n held
  count_free zero h = refl
  count_free (suc n) h = omega (arith, count_free n (omega arith), bit_free (suc n) (omega arith) h)

  count_past : (n : ℕ) → m + n ≤ 4096 → count_to (map_bit image) (m + n) ≡ free_count m held
  count_past zero h = ap (count_to (map_bit image)) (let e : m + 0 ≡ m = omega arith in e) ∙ count_free m (omega arith)
  count_past (suc n) h =
      ap (count_to (map_bit image)) (let e : m + suc n ≡ suc (m + n) = omega arith in e)
      ∙ omega (arith, count_past n (omega arith), bit_past (suc (m + n)) (omega arith) (omega arith))

  -- "free sectors equals s times the ones in the map": the ones are the free slices
  pub ones_free : Words image → ones_in_map image ≡ free_count m held
  ones_free words = go 256 refl
    where
      go : (n : ℕ) → n ≡ 256 → ones_in_map image ≡ free_count m held
      go n e =
          sym (ones_all image n e) ∙ ones_below_lem image words n
          ∙ ap (count_to (map_bit image)) (let f : 16 * n ≡ m + (4096 - m) = omega arith in f) ∙ count_past (4096 - m) (omega arith)
