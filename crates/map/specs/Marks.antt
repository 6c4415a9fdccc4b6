-- Marks in the map: the image with slices marked used or free.
use Rattle.std.specs.Prelude.{List, [], ◌∷◌, ℕ, ◌+◌, ◌-◌, ◌*◌, ◌/◌, ◌%◌, set}
use Rattle.disc.specs.Numbers.{bit_word}
use Rattle.disc.specs.Words.{word}
use Rattle.disc.specs.Kit.{map_sector}

-- The word w with bit n made v, 1 or 0: the bit's share is taken off, and v times the bit's word added.
abbrev pub with_bit : ℕ → ℕ → ℕ → ℕ
with_bit n v w = w - w / bit_word n % 2 * bit_word n + v * bit_word n

-- "Map bit b of word w is slice 16 times w + b + 1": the image with slice k's bit made v.
unfoldable pub marked : ℕ → List ℕ → ℕ → List ℕ
marked v image k =
    set image (map_sector * 256 + (k - 1) / 16) (with_bit ((k - 1) % 16) v (word image map_sector ((k - 1) / 16)))

-- The image with a list of slices marked so, one after the other.
unfoldable pub all_marked : ℕ → List ℕ → List ℕ → List ℕ
all_marked v image [] = image
all_marked v image (k ∷ l) = all_marked v (marked v image k) l

-- "One is free": slices marked used have bit 0, slices marked free bit 1.
abbrev pub marked_used : List ℕ → ℕ → List ℕ
marked_used image k = marked 0 image k

abbrev pub marked_free : List ℕ → ℕ → List ℕ
marked_free image k = marked 1 image k

abbrev pub all_used : List ℕ → List ℕ → List ℕ
all_used image l = all_marked 0 image l

abbrev pub all_free : List ℕ → List ℕ → List ℕ
all_free image l = all_marked 1 image l
