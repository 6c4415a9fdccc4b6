-- A catalog as a value: entries in places, sixteen to a sector, in the blocks of H keys, one block of each key to a layer. SYS is one.
use Rattle.std.specs.Prelude.{Bool, false, ◌||◌, List, [], ◌∷◌, ◌++◌, ℕ, zero, suc, ◌+◌, ◌*◌, ◌/◌, eqb}
use Rattle.disc.specs.Numbers.{ceil_div}
use Rattle.disc.specs.Names.{SYS, MAP}
use Rattle.disc.specs.Stretches.{block_sector, sys_from}
use Rattle.disc.specs.Kit.{sys_index_sector}
use Rattle.disc.specs.Entries.{place_word, place_count}

-- The sector of its index block, the joined sector at which its blocks begin, "L", its slices, and the names that are entered in it but are
-- none of its ordinary files. The files themselves stand beside it: as a table in the model, as entries in its places on the disc.
pub record Catalog : Type 0 where
  pub index : ℕ
  pub from : ℕ
  pub layers : ℕ
  pub slices : List ℕ
  pub reserved : List ℕ

-- SYS: "Sector 6 is the index block of SYS", "block b is sector .. (b for SYS and MAP)", and 'SYS' and 'MAP' are entered in it.
abbrev pub sys_catalog : ℕ → List ℕ → Catalog
sys_catalog layers slices = record { index = sys_index_sector; from = sys_from; layers = layers; slices = slices; reserved = SYS ∷ MAP ∷ [] }

-- Whether a name is one of some names.
abbrev pub is_one_of : List ℕ → ℕ → Bool
is_one_of [] n = false
is_one_of (m ∷ []) n = eqb n m
is_one_of (m ∷ k ∷ l) n = eqb n m || is_one_of (k ∷ l) n

-- Whether a name is reserved in a catalog: "SYS or MAP".
abbrev pub is_reserved : Catalog → ℕ → Bool
is_reserved c n = is_one_of c.reserved n

-- The number of its places: "SYS has H times L sectors", sixteen entries to a sector.
abbrev pub places_of : ℕ → Catalog → ℕ
places_of H c = place_count H c.layers

-- The sector of place t, and word w of place t.
abbrev pub place_sector : ℕ → ℕ → Catalog → ℕ → ℕ
place_sector F s c t = block_sector F s c.slices c.from (t / 16)

abbrev pub places_in : List ℕ → ℕ → ℕ → Catalog → ℕ → ℕ → ℕ
places_in image F s c = place_word image F s c.slices c.from

-- The slices of n blocks that begin at joined sector `from`: "H times L / s slices, rounded up" for SYS; (n + 1) / s, rounded up, where
-- the index block is the first sector.
abbrev pub slices_for : ℕ → ℕ → ℕ → ℕ
slices_for zero s n = ceil_div n s
slices_for (suc from) s n = ceil_div (n + suc from) s

-- The slices of a catalog with so many layers.
abbrev pub slices_needed : ℕ → ℕ → Catalog → ℕ → ℕ
slices_needed H s c layers = slices_for c.from s (H * layers)

-- A catalog with one layer more, for which it took the slices `new`.
abbrev pub with_layer : Catalog → List ℕ → Catalog
with_layer c new = record {
  index = c.index;
  from = c.from;
  layers = suc c.layers;
  slices = c.slices ++ new;
  reserved = c.reserved;
}
