-- The parts of a fresh unit's image, put together from the stores that write them.
use mathlib.Core.Path.{◌≡◌, refl, sym, ap, ◌∙◌}
use mathlib.Core.List.{List, [], ◌∷◌}
use Prim.Native.Nat.{ℕ, ◌+◌, ◌-◌, ◌*◌, ◌%◌, ◌≤◌, ◌<◌, compare}
use native.Mathlib.Nat.{mul-le-mul_left, mod-eq_of_lt}
use native.Mathlib.Omega.{arith}
use lib.ListN.{length}
use mir.Syntax.{w16}
use mir.Val.{Fits}
use Rattle.disc.specs.Numbers.{ceil_div, slice_count}
use Rattle.disc.specs.Names.{SYS, MAP, key_of}
use Rattle.disc.specs.Slices.{one_if_same}
use Rattle.disc.specs.Stretches.{span}
use Rattle.disc.specs.Kit.{Limits, map_sector}
use Rattle.disc.specs.Entries.{system_entry}
use Rattle.words.specs.Store.{store, zero_words}
use Rattle.words.proofs.StoreLaws.{store_start}
use Rattle.refine.specs.Format.{store_block, sys_slices, fresh_free, map_index, map_words, system_sectors, clear_sys, enter_at, fresh_catalog, formatted}
use Rattle.refine.proofs.Format.{length_sys, free_slices_lem, data_sectors, sys_end}
use Rattle.refine.proofs.FormatImage.{key_lt, length_system}

-- the sector of a key is where the code has it, and lies in the image
pub key_sector_lem : (H s F N : ℕ) → Limits H s F N → (n k : ℕ) → k ≡ key_of H n → {q : ℕ} → q ≡ (F + k) % 65536 → (q ≡ F + k) × (F + k < N)
key_sector_lem H s F N lim n k e f =
    let inside : F + k < N = omega (arith, sys_end H s F N lim, key_lt H n lim.keys_low) in
    (f ∙ mod-eq_of_lt (omega (arith, lim.sectors)), inside)

-- the sectors of some of the unit's slices are a word
pub part_fits : (H s F N : ℕ) → Limits H s F N → {x : ℕ} → x ≤ slice_count s F N → Fits w16 (s * x)
part_fits H s F N lim h = omega (arith, mul-le-mul_left s h, data_sectors H s F N lim, lim.sectors)

module _ (H s F N : ℕ) (lim : Limits H s F N) (used : ℕ) (is : used ≡ ceil_div H s) where
  fresh_free_lem : s * (slice_count s F N - used) ≡ fresh_free H s F N
  fresh_free_lem = ap (λ (n : ℕ). s * n) (omega (arith, free_slices_lem H s F N lim))

  -- sectors 6 to 9
  pub system_written : (k6 k7 : ℕ) (image a b d after : List ℕ)
      → a ≡ store_block image 6 (1 ∷ (s * used) ∷ F ∷ [])
      → b ≡ store_block a 7 map_index
      → d ≡ store_block b 8 (H ∷ s ∷ N ∷ (s * (slice_count s F N - used)) ∷ F ∷ N ∷ k6 ∷ k7 ∷ [])
      → after ≡ store_block d map_sector (map_words (slice_count s F N) (span 1 used) 0 256)
      → after ≡ system_sectors image H s F N k6 k7
  unfolding system_sectors
  system_written k6 k7 image a b d after e f g h = rw (h, g, f, e, fresh_free_lem, is) refl

  -- SYS and its entries: its name's number and key, then MAP's and its place
  module _ (sys map sys_key map_key place : ℕ) (sys_is : sys ≡ SYS) (map_is : map ≡ MAP) (sys_key_is : sys_key ≡ key_of H sys) (map_key_is : map_key ≡ key_of H map) (place_is : place ≡ one_if_same (compare map_key sys_key)) where
    pub catalog_written : (image a b after : List ℕ) → a ≡ store image (F * 256 + 0) (zero_words (256 * H)) → {q : ℕ} → q ≡ F + sys_key
        → b ≡ store a (q * 256 + 16 * 0) (system_entry sys H 6 (s * used)) → {r : ℕ} → r ≡ F + map_key
        → after ≡ store b (r * 256 + 16 * place) (system_entry map 1 7 1) → after ≡ fresh_catalog image H s F
    unfolding fresh_catalog enter_at clear_sys
    catalog_written image a b after e {q} q_is f' {r} r_is g' =
        let size : H * 1 ≡ H = omega arith in
        let reserved : s * used ≡ s * length (sys_slices H s) = ap (λ (n : ℕ). s * n) (is ∙ sym (length_sys H s F N lim)) in
        rw (g', r_is, f', q_is, e, store_start image F (zero_words (256 * H)), place_is, map_key_is, sys_key_is, map_is, sys_is, size, reserved) refl

-- the whole image: sectors 6 to 9, then SYS
pub format_written_lem : (image a after : List ℕ) (H s F N k6 k7 : ℕ) → a ≡ system_sectors image H s F N k6 k7 → after ≡ fresh_catalog a H s F → after ≡ formatted image H s F N k6 k7
unfolding formatted
format_written_lem image a after H s F N k6 k7 e f = f ∙ ap (λ (l : List ℕ). fresh_catalog l H s F) e

pub length_written : (image a : List ℕ) (H s F N k6 k7 : ℕ) → a ≡ system_sectors image H s F N k6 k7 → length a ≡ length image
length_written image a H s F N k6 k7 e = ap length e ∙ length_system image H s F N k6 k7
