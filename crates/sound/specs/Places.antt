-- What the places of SYS hold, by the words of the image.
use Rattle.std.specs.Prelude.{◌≡◌, List, [], ℕ, zero, suc, ◌≤◌, ◌<◌, ◌*◌, ◌/◌, ◌%◌, length, get_or, T}
use Rattle.disc.specs.Numbers.{slice_start, need}
use Rattle.disc.specs.Words.{word, Holds}
use Rattle.disc.specs.Names.{legal_name, key_of}
use Rattle.disc.specs.Attributes.{legal_attributes, legal_with}
use Rattle.disc.specs.Slices.{first_of}
use Rattle.disc.specs.Stretches.{index_words, slices_at}
use Rattle.disc.specs.Entries.{name_at}

-- "An entry takes the first unused place (16 zero words)"; any other place is used.
pub record Unused (P : ℕ → ℕ → ℕ) (t : ℕ) : Type 0 where
  pub zero : (w : ℕ) → w < 16 → P t w ≡ 0

abbrev pub Used : (ℕ → ℕ → ℕ) → ℕ → Type 0
Used P t = Unused P t → ⊥

-- Place t holds the words of an entry.
pub record Entered (P : ℕ → ℕ → ℕ) (count : ℕ) (entry : List ℕ) : Type 0 where
  pub place : ℕ
  pub inside : place < count
  pub holds : (w : ℕ) → w < 16 → P place w ≡ get_or entry w 0

-- "Every used entry has a legal name .. in a sector of its key": "key k lives in sectors k, k + H, k + 2H and so on".
pub record LegalPlace (P : ℕ → ℕ → ℕ) (H t : ℕ) : Type 0 where
  pub name : T (legal_name (name_at P t))
  pub key : t / 16 % H ≡ key_of H (name_at P t)

-- An index block in sector q, and the slices that it describes: "word 0 the count of descriptions, 1 to 127; then
-- pairs .. one pair for each longest stretch of neighbouring slices in file order".
pub record IndexBlock (image : List ℕ) (F s q : ℕ) : Type 0 where
  pub some : 1 ≤ word image q 0
  pub few : word image q 0 ≤ 127
  pub pairs : Holds image q (index_words F s (slices_at image F s q))

-- The slices of an ordinary file with index sector q, "0 if none".
abbrev pub slices_from : List ℕ → ℕ → ℕ → ℕ → List ℕ
slices_from image F s zero = []
slices_from image F s (suc q) = slices_at image F s (suc q)

-- "An ordinary file's index block is the first sector of its first slice."
pub record OwnIndex (image : List ℕ) (F s q : ℕ) : Type 0 where
  pub block : IndexBlock image F s q
  pub first : slice_start F s (first_of (slices_at image F s q)) ≡ q

-- The index sector where some slices are booked; "with none, word 8 is 0".
abbrev pub index_if : ℕ → ℕ → ℕ
index_if zero q = 0
index_if (suc n) q = q

-- The booked length, index sector and reserved sectors of an entry, beside the live length, index sector and number of
-- slices: "neither above the live ones, the slices at least need of the length".
pub record Booked (s size index reserved len q count : ℕ) : Type 0 where
  pub slices : ℕ
  pub sectors : reserved ≡ s * slices
  pub length_low : size ≤ len
  pub slices_low : slices ≤ count
  pub covered : need s size ≤ slices
  pub at : index ≡ index_if slices q

-- An ordinary file with live length len and live index sector q: "legal attributes, length at most 32,767, at least
-- need(length) slices, an index as above". "13 only with no slices".
pub record LegalFile (image : List ℕ) (F s attributes len q : ℕ) : Type 0 where
  pub allowed : T (legal_attributes attributes)
  pub entry_only : T (legal_with attributes (length (slices_from image F s q)))
  pub short : len ≤ 32767
  pub covered : need s len ≤ length (slices_from image F s q)
  pub index : (q ≡ 0 → ⊥) → OwnIndex image F s q
