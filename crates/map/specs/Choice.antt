-- The choice of a slice by the bits of a map: "Taking a slice: the next number after the file's last if free, else the
-- lowest free." Slices are numbered from 1, so that 0 stands for none.
use Rattle.std.specs.Prelude.{◌≡◌, List, ℕ, zero, suc, ◌*◌, ◌≤◌, eqb, Option, Some, None}
use Rattle.types.specs.declared.Slice.{Slice}
use Rattle.disc.specs.Decide.{Decides}
use Rattle.disc.specs.Slices.{in_unit, first_if, lowest_one}
use Rattle.disc.specs.Map.{map_bit}

-- The lowest free slice of a map: a sector of 256 words has 4,096 bits.
abbrev pub lowest_free : (ℕ → ℕ) → ℕ
lowest_free bits = lowest_one bits 4096 1

-- The slice for a file whose last slice is `last`, in a unit with m slices: the next if it is one of the unit's and its
-- bit is one, else the lowest free. The last of a file without slices is 0.
unfoldable pub chosen : (ℕ → ℕ) → ℕ → ℕ → ℕ
chosen bits m last = first_if (in_unit m (suc last) * bits (suc last)) (suc last) (lowest_free bits)

-- The answer for the number of a slice.
abbrev pub choice_of : ℕ → Option Slice
choice_of zero = None
choice_of (suc k) = Some (record { 0 = suc k })

-- The result word for each case of the answer, where `refusal` is the word of the question's no.
abbrev pub word_of : ℕ → Option Slice → ℕ
word_of refusal (Some k) = 0
word_of refusal None = refusal

-- "Where a slice is needed: one free? 0900h", asked by an appending output.
abbrev pub append_word : Option Slice → ℕ
append_word r = word_of 0x0900 r

-- "Enough free slices for SYS and file together? 1100h", asked for one slice.
abbrev pub take_word : Option Slice → ℕ
take_word r = word_of 0x1100 r

-- "One is free": a slice of the map whose bit is one.
pub record SomeFree (image : List ℕ) : Type 0 where
  pub slice : ℕ
  pub low : 1 ≤ slice
  pub high : slice ≤ 4096
  pub free : map_bit image slice ≡ 1

-- The answer is the slice k, none where k is 0; each question's word is 0 exactly if a slice is free.
pub record Answers (image : List ℕ) (k : ℕ) (r : Option Slice) : Type 0 where
  pub slice : r ≡ choice_of k
  pub appends : Decides (eqb (append_word r) 0) (SomeFree image)
  pub takes : Decides (eqb (take_word r) 0) (SomeFree image)
