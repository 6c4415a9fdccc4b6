-- Laws of transput: the word of an input at the length, and that output leaves the booked entry.
use mathlib.Core.Path.{◌≡◌, refl, ap}
use mathlib.Core.Bool.{true, false}
use mathlib.Core.List.{List}
use Prim.Native.Nat.{ℕ, ◌*◌}
use Rattle.disc.specs.Attributes.{extendable}
use Rattle.disc.specs.Entries.{entry_words, index_sector}
use Rattle.plain.specs.Unit.{File, file_entry}
use Rattle.plain.specs.Transput.{end_word, rewritten}

-- R-4, of every file
pub end_extendable : (attributes : ℕ) → extendable attributes ≡ true → end_word attributes ≡ 0x0810
unfolding end_word
end_extendable attributes e = rw e refl

pub end_fixed : (attributes : ℕ) → extendable attributes ≡ false → end_word attributes ≡ 0x0A00
unfolding end_word
end_fixed attributes e = rw e refl

-- what Look-up answers, the index sector as before: output books nothing
pub rewritten_entry : (F s n : ℕ) (f : File) (slices : List ℕ) (sectors : List (List ℕ))
    → index_sector F s f.booked_slices slices ≡ index_sector F s f.booked_slices f.slices
    → file_entry F s n (rewritten f slices sectors) ≡ file_entry F s n f
rewritten_entry F s n f slices sectors e = ap (λ (index : ℕ). entry_words n f.optional f.attributes f.booked index (s * f.booked_slices) f.tail) e
