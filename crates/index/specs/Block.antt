-- Index blocks: the whole block of a slice list, and what is read from a block's words and written to them.
-- A block is read in its sector of the image, or by itself, as sector 0 of its own 256 words.
use Rattle.std.specs.Prelude.{◌≡◌, Option, MatchOption, Bool, false, cond, List, [], ◌∷◌, ◌++◌, ℕ, zero, suc, ◌+◌, ◌-◌, ◌*◌, ◌/◌, ◌%◌, ◌≤◌, ◌<◌, min, eqb, ltb, length, set}
use Rattle.types.specs.declared.Sector.{Sector}
use Rattle.disc.specs.Numbers.{slice_start}
use Rattle.disc.specs.Words.{word}
use Rattle.disc.specs.Stretches.{index_words}
use Rattle.disc.specs.Pairs.{pair_length, pair_start}
use Rattle.words.specs.Store.{zero_words}

-- The words v as a sector: "Words past the count are not read; we write zero."
unfoldable pub whole : List ℕ → List ℕ
whole v = v ++ zero_words (256 - length v)

-- The index block of a slice list, all of its 256 words; they are all 0 if there is no slice.
unfoldable pub whole_index : ℕ → ℕ → List ℕ → List ℕ
whole_index F s slices = whole (index_words F s slices)

-- "Word 0 the count of descriptions, 1 to 127": of a larger count 127 pairs are read.
abbrev pub pair_count : List ℕ → ℕ → ℕ
pair_count l q = min (word l q 0) 127

-- The words of the n pairs from pair j on.
unfoldable pub pairs_from : List ℕ → ℕ → ℕ → ℕ → List ℕ
pairs_from l q zero j = []
pairs_from l q (suc n) j = pair_length l q j ∷ pair_start l q j ∷ pairs_from l q n (suc j)

-- The block in sector q: its words up to the count, and zeros past it.
unfoldable pub block_at : List ℕ → ℕ → List ℕ
block_at l q = whole (pair_count l q ∷ pairs_from l q (pair_count l q) 0)

-- The sectors of the n pairs from pair j on.
unfoldable pub sectors_from : List ℕ → ℕ → ℕ → ℕ → ℕ
sectors_from l q zero j = 0
sectors_from l q (suc n) j = pair_length l q j + sectors_from l q n (suc j)

-- The number of sectors and of slices that a block describes.
abbrev pub sector_total : List ℕ → ℕ → ℕ
sector_total l q = sectors_from l q (pair_count l q) 0

abbrev pub slice_total : ℕ → List ℕ → ℕ → ℕ
slice_total s l q = sector_total l q / s

-- The last slice of the last of n pairs; 0 if there is none.
unfoldable pub last_slice_of : ℕ → ℕ → List ℕ → ℕ → ℕ → ℕ
last_slice_of F s l q zero = 0
last_slice_of F s l q (suc j) = (pair_start l q j - F) / s + pair_length l q j / s

abbrev pub last_slice : ℕ → ℕ → List ℕ → ℕ → ℕ
last_slice F s l q = last_slice_of F s l q (pair_count l q)

-- Sector b of the joined stretches of the n pairs from pair j on, as a word; 0 past their end.
unfoldable pub sector_from : List ℕ → ℕ → ℕ → ℕ → ℕ → ℕ
sector_from l q zero j b = 0
sector_from l q (suc n) j b =
    let rest = sector_from l q n (suc j) (b - pair_length l q j) in
    cond (ltb b (pair_length l q j)) ((pair_start l q j + b) % 65536) rest

abbrev pub joint_sector : List ℕ → ℕ → ℕ → ℕ
joint_sector l q b = sector_from l q (pair_count l q) 0 b

-- The slice with number j in file order, counted from 0: that of the joined sector s times j.
abbrev pub slice_number : ℕ → ℕ → ℕ → List ℕ → ℕ → ℕ
slice_number F s j l q = (joint_sector l q (s * j) - F) / s + 1

-- The first sector and the length of the last pair, if there is one.
abbrev pub LastPair : List ℕ → ℕ → Option (Sector × ℕ) → Type 0
LastPair l q r =
    MatchOption r (pair_count l q ≡ 0)
    (λ p. (1 ≤ pair_count l q) × (p.0.0 ≡ pair_start l q (pair_count l q - 1)) × (p.1 ≡ pair_length l q (pair_count l q - 1)))

-- Whether slice k starts where the last of n pairs ends.
unfoldable pub joins_last : ℕ → ℕ → ℕ → List ℕ → ℕ → ℕ → Bool
joins_last F s k l q zero = false
joins_last F s k l q (suc j) = eqb (pair_start l q j + pair_length l q j) (slice_start F s k)

abbrev pub joins : ℕ → ℕ → ℕ → List ℕ → ℕ → Bool
joins F s k l q = joins_last F s k l q (pair_count l q)

-- The number of stretches with slice k at the end.
abbrev pub stretches_with : ℕ → ℕ → ℕ → List ℕ → ℕ → ℕ
stretches_with F s k l q = cond (joins F s k l q) (pair_count l q) (pair_count l q + 1)

-- A block with another pair j.
abbrev pub with_pair : List ℕ → ℕ → ℕ → ℕ → List ℕ
with_pair block j size start = set (set block (2 * j + 1) size) (2 * j + 2) start

-- The last of n pairs lengthened by s sectors; one pair more, of s sectors from `start` on, after the n that are there.
unfoldable pub lengthened : ℕ → List ℕ → ℕ → List ℕ
lengthened s block n = with_pair block (n - 1) (pair_length block 0 (n - 1) + s) (pair_start block 0 (n - 1))

unfoldable pub extended : ℕ → ℕ → List ℕ → ℕ → List ℕ
extended s start block n = with_pair (set block 0 (n + 1)) n s start

-- The block with slice k at the end.
unfoldable pub appended : ℕ → ℕ → ℕ → List ℕ → List ℕ
appended F s k block =
    cond (joins F s k block 0) (lengthened s block (pair_count block 0)) (extended s (slice_start F s k) block (pair_count block 0))

-- A slice for which a block has room: its stretches and numbers stay within 127 and 16 bits.
pub record Appendable (F s k : ℕ) (block : List ℕ) : Type 0 where
  pub slice : 1 ≤ k
  pub room : stretches_with F s k block 0 ≤ 127
  pub start : slice_start F s k < 65536
  pub sectors : sector_total block 0 + s < 65536

-- The pairs of the first b sectors of the n pairs from pair j on.
unfoldable pub cut_pair : ℕ → ℕ → ℕ → List ℕ → List ℕ
cut_pair zero size start rest = []
cut_pair (suc b) size start rest = min size (suc b) ∷ start ∷ rest

unfoldable pub cut_pairs : List ℕ → ℕ → ℕ → ℕ → List ℕ
cut_pairs block zero j b = []
cut_pairs block (suc n) j b =
    let rest = cut_pairs block n (suc j) (b - pair_length block 0 j) in cut_pair b (pair_length block 0 j) (pair_start block 0 j) rest

-- The block of the first n slices.
unfoldable pub cut_to : ℕ → ℕ → List ℕ → List ℕ
cut_to s n block = let pairs = cut_pairs block (pair_count block 0) 0 (s * n) in whole (length pairs / 2 ∷ pairs)
