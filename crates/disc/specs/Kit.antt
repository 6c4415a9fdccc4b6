-- The kit: "Kit words 0 to 5: H (SYS size), s (sectors in a slice), N (sectors), free sectors, F (first data sector),
-- top = N", and its limits.
use Rattle.std.specs.Prelude.{◌≡◌, List, ℕ, ◌-◌, ◌%◌, ◌≤◌, ◌<◌}
use Rattle.disc.specs.Numbers.{ceil_div, slice_count}
use Rattle.disc.specs.Words.{word}

-- "Sector 6 is the index block of SYS, 7 of MAP, 8 the kit, 9 the map."
abbrev pub sys_index_sector : ℕ
sys_index_sector = 6

abbrev pub map_index_sector : ℕ
map_index_sector = 7

abbrev pub kit_sector : ℕ
kit_sector = 8

abbrev pub map_sector : ℕ
map_sector = 9

-- The kit's words.
pub record Kit (image : List ℕ) (H s N free F : ℕ) : Type 0 where
  pub keys : word image kit_sector 0 ≡ H
  pub slice : word image kit_sector 1 ≡ s
  pub sectors : word image kit_sector 2 ≡ N
  pub unused : word image kit_sector 3 ≡ free
  pub first : word image kit_sector 4 ≡ F
  pub top : word image kit_sector 5 ≡ N

-- "Limits: H 1 to 64; s 2 to 64; F from 10; F < N <= 32,767; s divides N - F; M = (N - F) / s is at most 4,096 and
-- at least H / s rounded up."
pub record Limits (H s F N : ℕ) : Type 0 where
  pub keys_low : 1 ≤ H
  pub keys_high : H ≤ 64
  pub slice_low : 2 ≤ s
  pub slice_high : s ≤ 64
  pub first : 10 ≤ F
  pub some_data : F < N
  pub sectors : N ≤ 32767
  pub whole : (N - F) % s ≡ 0
  pub slices_high : slice_count s F N ≤ 4096
  pub slices_low : ceil_div H s ≤ slice_count s F N
