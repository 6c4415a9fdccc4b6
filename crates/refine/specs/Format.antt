-- Format: the image that it writes: "It writes sectors 6 to 9 and SYS (L = 1, 'SYS' entered
-- before 'MAP'), kit words 6 and 7 as given, zeros elsewhere there". All other words stay.
use Rattle.std.specs.Prelude.{List, [], ◌∷◌, ◌++◌, length}
use Prim.Native.Nat.{ℕ, zero, suc, ◌+◌, ◌*◌, ◌-◌, compare}
use Rattle.disc.specs.Numbers.{ceil_div, slice_count}
use Rattle.disc.specs.Names.{SYS, MAP, key_of}
use Rattle.disc.specs.Slices.{one_if_same, free_count}
use Rattle.disc.specs.Kit.{sys_index_sector, map_index_sector, kit_sector, map_sector}
use Rattle.disc.specs.Map.{map_word}
use Rattle.disc.specs.Entries.{sys_entry, map_entry}
use Rattle.words.specs.Store.{store, zero_words}
-- The unit itself stands with the plain unit.
pub use Rattle.plain.specs.Fresh.{sys_slices, fresh_unit}

-- Sector q with the words vs from its start on, and zeros behind them.
unfoldable pub store_block : List ℕ → ℕ → List ℕ → List ℕ
store_block image q vs = store image (q * 256) (vs ++ zero_words (256 - length vs))

-- SYS's index block: one stretch, which begins with slice 1, at sector F.
abbrev pub sys_index : ℕ → ℕ → ℕ → List ℕ
sys_index H s F = 1 ∷ (s * ceil_div H s) ∷ F ∷ []

-- "MAP has .. the index 1, 1, 9."
abbrev pub map_index : List ℕ
map_index = 1 ∷ 1 ∷ 9 ∷ []

-- The free sectors of the fresh unit: "free is s times the free slices".
abbrev pub fresh_free : ℕ → ℕ → ℕ → ℕ → ℕ
fresh_free H s F N = s * free_count (slice_count s F N) (sys_slices H s)

-- "Kit words 0 to 5: H (SYS size), s (sectors in a slice), N (sectors), free sectors, F (first data sector), top = N";
-- "kit words 6 and 7 as given".
abbrev pub kit_words : ℕ → ℕ → ℕ → ℕ → ℕ → ℕ → List ℕ
kit_words H s F N k6 k7 = H ∷ s ∷ N ∷ fresh_free H s F N ∷ F ∷ N ∷ k6 ∷ k7 ∷ []

-- The n words of a map from word w on.
unfoldable pub map_words : ℕ → List ℕ → ℕ → ℕ → List ℕ
map_words m held w zero = []
map_words m held w (suc n) = map_word m held w ∷ map_words m held (suc w) n

-- Sectors 6 to 9.
unfoldable pub system_sectors : List ℕ → ℕ → ℕ → ℕ → ℕ → ℕ → ℕ → List ℕ
system_sectors image H s F N k6 k7 =
    store_block
    (store_block
    (store_block
    (store_block image sys_index_sector (sys_index H s F))
    map_index_sector map_index)
    kit_sector (kit_words H s F N k6 k7))
    map_sector (map_words (slice_count s F N) (sys_slices H s) 0 256)

-- SYS's H sectors, from sector F on, zeroed.
unfoldable pub clear_sys : List ℕ → ℕ → ℕ → List ℕ
clear_sys image H F = store image (F * 256) (zero_words (256 * H))

-- An entry in place j of SYS's sector k.
unfoldable pub enter_at : List ℕ → ℕ → ℕ → ℕ → List ℕ → List ℕ
enter_at image F k j entry = store image ((F + k) * 256 + 16 * j) entry

-- MAP's place in the sector of its key: "an entry takes the first unused place", and SYS has the first place of its own.
abbrev pub map_place : ℕ → ℕ
map_place H = one_if_same (compare (key_of H MAP) (key_of H SYS))

-- SYS with its two entries: "'SYS' entered before 'MAP'".
unfoldable pub fresh_catalog : List ℕ → ℕ → ℕ → ℕ → List ℕ
fresh_catalog image H s F =
    let with_sys : List ℕ = enter_at (clear_sys image H F) F (key_of H SYS) 0 (sys_entry H s 1 (sys_slices H s)) in
    enter_at with_sys F (key_of H MAP) (map_place H) map_entry

-- The image that Format writes.
unfoldable pub formatted : List ℕ → ℕ → ℕ → ℕ → ℕ → ℕ → ℕ → List ℕ
formatted image H s F N k6 k7 = fresh_catalog (system_sectors image H s F N k6 k7) H s F
