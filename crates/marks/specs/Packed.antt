-- Marks packed sixteen to a word, as the map packs its bits.
use Rattle.std.specs.Prelude.{◌≡◌, List, ℕ, zero, suc, ◌+◌, ◌*◌, ◌≤◌, ◌<◌, get_or}
use Rattle.disc.specs.Words.{word}
use Rattle.disc.specs.Kit.{map_sector}

-- The n digits from digit `at` on as one number, the first of them highest.
unfoldable pub packed : (ℕ → ℕ) → ℕ → ℕ → ℕ
packed digits at zero = 0
packed digits at (suc n) = 2 * packed digits at n + digits (at + n)

-- "Map bit b of word w is slice 16 times w + b + 1": the marks of the slices of map word w, in the places of their bits.
abbrev pub packed_marks : List ℕ → ℕ → ℕ
packed_marks marks w = packed (λ i. get_or marks i 0) (16 * w) 16

-- In the first n words of the map every slice is free or marked, and not both.
pub record Filled (image marks : List ℕ) (n : ℕ) : Type 0 where
  pub each : (w : ℕ) → w < n → word image map_sector w + packed_marks marks w ≡ 0xFFFF

-- The words of the map from word n on are 0.
pub record Cleared (image : List ℕ) (n : ℕ) : Type 0 where
  pub each : (w : ℕ) → n ≤ w → w < 256 → word image map_sector w ≡ 0
