-- The unbroken stretches that free slices form (document 02, R-12): of a unit's slices beside those that are held, and on the map.
use Rattle.std.specs.Prelude.{List, [], ◌∷◌, ℕ, zero, suc}
use Rattle.disc.specs.Slices.{occurrences, one_if_none}
use Rattle.disc.specs.Stretches.{stretch_count}
use Rattle.disc.specs.Map.{map_bit}

-- k before the others where its bit is not 0.
abbrev pub with_one : ℕ → ℕ → List ℕ → List ℕ
with_one zero k others = others
with_one (suc d) k others = k ∷ others

-- The numbers whose bit is not 0 among the n from k on, the lowest first.
unfoldable pub ones_from : (ℕ → ℕ) → ℕ → ℕ → List ℕ
ones_from bits zero k = []
ones_from bits (suc n) k = with_one (bits k) k (ones_from bits n (suc k))

-- The free slices of a unit with m slices, the lowest first: "Free means in no list."
abbrev pub free_in : ℕ → List ℕ → List ℕ
free_in m held = ones_from (λ k. one_if_none (occurrences k held)) m 1

-- Those on the map, the lowest first: "one is free". The map has 4,096 bits.
abbrev pub free_on_map : List ℕ → List ℕ
free_on_map image = ones_from (map_bit image) 4096 1

-- How many "unbroken stretches" the free slices form: as an index block has "one pair for each longest stretch of neighbouring slices".
abbrev pub free_stretches_in : ℕ → List ℕ → ℕ
free_stretches_in m held = stretch_count (free_in m held)

abbrev pub free_stretches_on_map : List ℕ → ℕ
free_stretches_on_map image = stretch_count (free_on_map image)
