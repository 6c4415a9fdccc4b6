-- Index blocks: "word 0 the count of descriptions, 1 to 127; then pairs, length in sectors and first sector, one
-- pair for each longest stretch of neighbouring slices in file order".
use Rattle.std.specs.Prelude.{List, [], ◌∷◌, ◌++◌, length, get_or}
use Prim.Native.Nat.{ℕ, zero, suc, ◌+◌, ◌*◌, ◌-◌, ◌/◌, ◌%◌, compare, Ordering}
use Rattle.disc.specs.Numbers.{slice_start}
use Rattle.disc.specs.Words.{word}

pub record Stretch : Type 0 where
  pub first : ℕ
  pub count : ℕ

abbrev pub join_by : Ordering → ℕ → Stretch → List Stretch → List Stretch
join_by Ordering.lt x r rs = record { first = x; count = 1 } ∷ r ∷ rs
join_by Ordering.eq x r rs = record { first = x; count = suc r.count } ∷ rs
join_by Ordering.gt x r rs = record { first = x; count = 1 } ∷ r ∷ rs

-- The stretches of a slice before those of the rest: joined where the next one begins right after it.
abbrev pub join : ℕ → List Stretch → List Stretch
join x [] = record { first = x; count = 1 } ∷ []
join x (r ∷ rs) = join_by (compare (suc x) r.first) x r rs

-- The longest stretches of neighbouring slices, in file order.
abbrev pub stretches : List ℕ → List Stretch
stretches [] = []
stretches (x ∷ l) = join x (stretches l)

abbrev pub stretch_count : List ℕ → ℕ
stretch_count l = length (stretches l)

-- The pairs of the stretches: length in sectors, first sector.
abbrev pub pairs : ℕ → ℕ → List Stretch → List ℕ
pairs F s [] = []
pairs F s (r ∷ rs) = (s * r.count) ∷ slice_start F s r.first ∷ pairs F s rs

-- The words of an index block up to its count.
abbrev pub index_words : ℕ → ℕ → List ℕ → List ℕ
index_words F s l = stretch_count l ∷ pairs F s (stretches l)

-- The slices x, x + 1, .. of a stretch.
abbrev pub span : ℕ → ℕ → List ℕ
span x zero = []
span x (suc n) = x ∷ span (suc x) n

-- The slices of stretches, in order.
abbrev pub expand : List Stretch → List ℕ
expand [] = []
expand (r ∷ rs) = span r.first r.count ++ expand rs

-- The stretch that pair j of the index block in sector q describes.
abbrev pub stretch_at : List ℕ → ℕ → ℕ → ℕ → ℕ → Stretch
stretch_at image F s q j = record { first = (word image q (2 * j + 2) - F) / s + 1; count = word image q (2 * j + 1) / s }

-- The stretches of the n pairs from pair j on.
abbrev pub stretches_from : List ℕ → ℕ → ℕ → ℕ → ℕ → ℕ → List Stretch
stretches_from image F s q zero j = []
stretches_from image F s q (suc n) j = stretch_at image F s q j ∷ stretches_from image F s q n (suc j)

-- The slices that the index block in sector q describes, in file order. "Words past the count are not read."
abbrev pub slices_at : List ℕ → ℕ → ℕ → ℕ → List ℕ
slices_at image F s q = expand (stretches_from image F s q (word image q 0) 0)

-- Sector b of the joined stretches of a slice list.
abbrev pub sector_in : ℕ → ℕ → List ℕ → ℕ → ℕ
sector_in F s slices b = slice_start F s (get_or slices (b / s) 0) + b % s

-- The sector of a file's block b: "An ordinary file's index block is the first sector of its first slice, so block b is
-- sector b + 1 of the joined stretches (b for SYS and MAP)." Its first block is sector `from` of them: 1, or 0 for SYS.
abbrev pub block_sector : ℕ → ℕ → List ℕ → ℕ → ℕ → ℕ
block_sector F s slices from b = sector_in F s slices (b + from)

-- The joined sector at which the blocks of SYS, and those of an ordinary file, begin.
abbrev pub sys_from : ℕ
sys_from = 0

abbrev pub file_from : ℕ
file_from = 1
