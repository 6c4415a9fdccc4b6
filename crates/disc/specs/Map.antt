-- The map: "Map bit b of word w is slice 16 times w + b + 1; one is free."
use Rattle.std.specs.Prelude.{◌≡◌, List, ℕ, zero, suc, ◌+◌, ◌-◌, ◌*◌, ◌/◌, ◌%◌, ◌^◌, ◌≤◌}
use Rattle.std.specs.Int.Count.{ones}
use Rattle.disc.specs.Numbers.{bit_word}
use Rattle.disc.specs.Words.{word}
use Rattle.disc.specs.Slices.{in_unit, occurrences, one_if_none}
use Rattle.disc.specs.Kit.{map_sector}

-- Slice k's bit in the map, 1 or 0.
unfoldable pub map_bit : List ℕ → ℕ → ℕ
map_bit image k = word image map_sector ((k - 1) / 16) / bit_word ((k - 1) % 16) % 2

-- The ones in the first n words of the map.
abbrev pub ones_below : List ℕ → ℕ → ℕ
ones_below image zero = 0
ones_below image (suc n) = ones_below image n + ones (word image map_sector n)

-- "The ones in the map": the map is a sector of 256 words, 4,096 bits.
unfoldable pub ones_in_map : List ℕ → ℕ
ones_in_map image = ones_below image 256

-- The n bits of the map from slice k on, the highest first, of a unit with m slices of which some are held.
abbrev pub map_bits : ℕ → List ℕ → ℕ → ℕ → ℕ
map_bits m held zero k = 0
map_bits m held (suc n) k = in_unit m k * one_if_none (occurrences k held) * 2 ^ n + map_bits m held n (suc k)

-- Word w of that map. "Bits past M are 0."
abbrev pub map_word : ℕ → List ℕ → ℕ → ℕ
map_word m held w = map_bits m held 16 (16 * w + 1)

-- The map of a unit with m slices, of which some are held: "a slice is marked used exactly when a file has it", and
-- "Bits past M are 0." A slice of the unit is marked free or is held once; any other is neither.
abbrev pub MapOf : List ℕ → ℕ → List ℕ → Type 0
MapOf image m held = (k : ℕ) → 1 ≤ k → k ≤ 4096 → map_bit image k + occurrences k held ≡ in_unit m k
