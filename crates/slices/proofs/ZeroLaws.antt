-- Sectors zeroed one after the other, and the free word.
use mathlib.Core.Path.{◌≡◌, refl, sym, ap, ap₂, ◌∙◌}
use mathlib.Core.List.{List}
use Prim.Native.Nat.{ℕ, ◌+◌, ◌*◌, ◌≤◌, ◌<◌}
use native.Mathlib.Omega.{arith}
use native.Mathlib.Nat.{mul-le-mul_left}
use native.Mathlib.Numerals.{add-one}
use lib.ListN.{length}
use Rattle.disc.specs.Words.{Words}
use Rattle.disc.specs.Slices.{InRangeOnce}
use Rattle.disc.specs.Map.{MapOf, ones_in_map}
use Rattle.disc.proofs.SliceLaws.{sum_law}
use Rattle.words.specs.Store.{store, zero_words}
use Rattle.map.proofs.CountLaws.{ones_free}
use Rattle.index.specs.Block.{joint_sector}
use Rattle.refine.specs.Writes.{zeroed_sectors}
use Rattle.slices.specs.Zero.{CanZeroFrom}
use Rattle.slices.proofs.BlockLaws.{sector_told, sector_room}

pub zero_none : (image : List ℕ) (F s : ℕ) (slices : List ℕ) (b : ℕ) → image ≡ zeroed_sectors image F s slices b 0
unfolding zeroed_sectors
zero_none image F s slices b = refl

module _ {image₀ block : List ℕ} {from n F s m : ℕ} {slices : List ℕ} (can : CanZeroFrom image₀ block from n F s m slices) (image : List ℕ) (j q : ℕ) (x : j < n)
    (e : q ≡ joint_sector block 0 (from + j)) where
  inside : from + j < s * length slices
  inside = omega (arith, can.room (omega arith))

  -- one sector more
  pub zero_next : {after : List ℕ} → image ≡ zeroed_sectors image₀ F s slices from j → after ≡ store image (q * 256) (zero_words 256) → after ≡ zeroed_sectors image₀ F s slices from (j + 1)
  unfolding zeroed_sectors
  zero_next f a =
      a ∙ ap₂ (λ (l : List ℕ) (k : ℕ). store l (k * 256) (zero_words 256)) f (e ∙ sector_told can.file.own (from + j) inside)
      ∙ ap (zeroed_sectors image₀ F s slices from) (sym (add-one j))

  pub zero_inside : length image ≡ length image₀ → q * 256 + 256 ≤ length image
  zero_inside l = omega (arith, sector_room can.file (from + j) q inside e)

-- the free sectors are a word
pub count_fits : (F s m : ℕ) (held image : List ℕ) → m ≤ 4096 → F + s * m < 65536 → MapOf image m held → InRangeOnce m held → Words image → s * ones_in_map image < 65536
count_fits F s m held image most top map once words =
    let few : ones_in_map image ≤ m = omega (arith, ones_free m held image most map words, sum_law m held once) in
    omega (arith, mul-le-mul_left s few)
