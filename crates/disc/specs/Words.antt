-- The image as a list of words: "a lent slice of words, 256 to a sector".
use Rattle.std.specs.Prelude.{◌≡◌, List, ℕ, ◌+◌, ◌*◌, ◌<◌, length, get_or}

-- Word b of sector q; 0 past the image's end.
abbrev pub word : List ℕ → ℕ → ℕ → ℕ
word image q b = get_or image (q * 256 + b) 0

-- "A word has 16 bits": every element of a list is a word.
pub record Words (l : List ℕ) : Type 0 where
  pub each : (k : ℕ) → get_or l k 0 < 65536

-- Sector q of the image holds the words v, as far as v goes.
pub record Holds (image : List ℕ) (q : ℕ) (v : List ℕ) : Type 0 where
  pub at : (b : ℕ) → b < length v → b < 256 → word image q b ≡ get_or v b 0
