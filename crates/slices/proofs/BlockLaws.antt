-- What a file's block says of its slices, stretches and sectors.
use mathlib.Core.Path.{◌≡◌, ap, ap₂, ◌∙◌}
use mathlib.Core.List.{List, [], ◌∷◌, ◌++◌}
use Prim.Native.Nat.{ℕ, ◌+◌, ◌*◌, ◌-◌, ◌/◌, ◌%◌, ◌≤◌, ◌<◌}
use native.Mathlib.Omega.{arith}
use native.Mathlib.Nat.{div-mul-le_self, mul-le-mul_left, mul-le-mul_right, mul_comm, zero-div, zero-mod}
use lib.ListN.{length, get_or}
use Rattle.disc.specs.Numbers.{slice_start, slice_count}
use Rattle.disc.specs.Words.{Holds}
use Rattle.disc.specs.Slices.{InRangeOnce, last_of}
use Rattle.disc.specs.Stretches.{stretch_count, index_words, sector_in}
use Rattle.disc.specs.Kit.{Limits}
use Rattle.disc.specs.Entries.{index_sector}
use Rattle.disc.proofs.Geometry.{in_range}
use Rattle.disc.proofs.WalkLaws.{sector_inside}
use Rattle.index.specs.Block.{whole_index, pair_count, slice_total, last_slice, stretches_with, joint_sector, sector_from}
use Rattle.index.proofs.BlockLaws.{length-whole_index, holds-whole_index}
use Rattle.index.proofs.ReadLaws.{read_count, read_total, read_last, read_with, read_sector}
use Rattle.slices.specs.FileBlock.{SliceBlock, FileBlock}

-- ---- the block's own words

module _ {block : List ℕ} {F s m : ℕ} {slices : List ℕ} (own : SliceBlock block F s m slices) where
  pub positive : 0 < s
  positive = omega (arith, own.size)

  pub slice_in : (j : ℕ) → j < length slices → (1 ≤ get_or slices j 0) × (get_or slices j 0 ≤ m)
  slice_in j x = in_range F s m slices positive own.once slices j (λ k. omega arith) x

  above : (j : ℕ) → j < length slices → 1 ≤ get_or slices j 0
  above j x = (slice_in j x).0

  holds : Holds block 0 (index_words F s slices)
  holds = rw own.words (holds-whole_index F s slices)

  pub block-length : length block ≡ 256
  block-length = ap length own.words ∙ length-whole_index F s slices own.few

  pub block_count : pair_count block 0 ≡ stretch_count slices
  block_count = read_count block F s 0 slices own.few holds

  pub block_total : slice_total s block 0 ≡ length slices
  block_total = read_total block F s 0 slices own.few holds positive

  pub block_last : last_slice F s block 0 ≡ last_of slices
  block_last = read_last block F s 0 slices own.few holds positive above

  -- the stretches with one slice more
  pub block_with : (k : ℕ) → 1 ≤ k → stretches_with F s k block 0 ≡ stretch_count (slices ++ (k ∷ []))
  block_with = read_with block F s 0 slices own.few holds positive above

  -- the numbers of slices, and of their sectors, are words
  pub start_small : (k : ℕ) → k ≤ m → slice_start F s k < 65536
  start_small k x = let h : k - 1 ≤ m = omega arith in omega (arith, own.top, mul-le-mul_right s h, mul_comm s m)

  sector_below : (b : ℕ) → b < s * length slices → sector_in F s slices b < F + s * m
  sector_below b x = omega (arith, (sector_inside F s m slices positive own.once b x).1, mul_comm s m)

  -- a joined sector is the one that the block tells
  pub sector_told : (b : ℕ) → b < s * length slices → joint_sector block 0 b ≡ sector_in F s slices b
  sector_told b x = read_sector block F s 0 slices own.few holds positive above b x (omega (arith, sector_below b x, own.top))

  some_sectors : 1 ≤ length slices → 0 < s * length slices
  some_sectors x = omega (arith, mul-le-mul_left s x, own.size)

  -- the first sector of the first slice
  pub first_told : 1 ≤ length slices → joint_sector block 0 0 ≡ sector_in F s slices 0
  first_told x = sector_told 0 (some_sectors x)

-- "8 index sector (0 if none)": that of the block's file
pub index_told : {image block : List ℕ} {F s m : ℕ} {slices : List ℕ} → FileBlock image block F s m slices → joint_sector block 0 0 ≡ index_sector F s (length slices) slices
unfolding sector_from
index_told {block = block} {slices = []} file = ap (λ (n : ℕ). sector_from block 0 n 0 0) (block_count file.own)
index_told {F = F} {s = s} {slices = k ∷ slices} file =
    let z : 0 / s ≡ 0 = zero-div s in
    let r : 0 % s ≡ 0 = zero-mod s in
    let e : slice_start F s k + 0 ≡ slice_start F s k = omega arith in
    first_told file.own (omega arith) ∙ ap₂ (λ (a b : ℕ). slice_start F s (get_or (k ∷ slices) a 0) + b) z r ∙ e

-- ---- on an image

module _ {image block : List ℕ} {F s m : ℕ} {slices : List ℕ} (file : FileBlock image block F s m slices) where
  pub sector_room : (b q : ℕ) → b < s * length slices → q ≡ joint_sector block 0 b → q * 256 + 256 ≤ length image
  sector_room b q x e = omega (arith, e, sector_told file.own b x, sector_below file.own b x, file.sectors)

  pub first_room : (q : ℕ) → 1 ≤ length slices → q ≡ joint_sector block 0 0 → q * 256 + 256 ≤ length image
  first_room q x e = sector_room 0 q (some_sectors file.own x) e

  -- another block, on an image of the same length
  pub file_with_lem : {after other : List ℕ} {l : List ℕ} → length after ≡ length image → SliceBlock other F s m l → FileBlock after other F s m l
  file_with_lem e own = record { own = own; long = omega (arith, file.long); sectors = omega (arith, file.sectors) }

-- the sectors of all slices lie in a unit within its limits
pub unit_file : {H s F N : ℕ} (image block slices : List ℕ) → Limits H s F N → length image ≡ 256 * N → block ≡ whole_index F s slices → stretch_count slices ≤ 127 → InRangeOnce (slice_count s F N) slices
    → FileBlock image block F s (slice_count s F N) slices
unit_file {s = s} {F = F} {N = N} image block slices l size words few once =
    let m : ℕ = slice_count s F N in
    let top : F + s * m ≤ N = omega (arith, div-mul-le_self (N - F) s, l.some_data, mul_comm s m) in
    record {
      own = record {
        size = l.slice_low;
        most = l.slices_high;
        top = omega (arith, l.sectors);
        words = words;
        few = few;
        once = once;
      };
      long = omega (arith, l.first, l.some_data);
      sectors = omega arith;
    }
