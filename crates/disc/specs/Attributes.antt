-- "Attributes a caller may set: bits 1, 11 permanent, 12 write protected, 13 entry only, 15 extendable". Bit 13 is withdrawn by R-9 of
-- document 02: an entry of before may have it, and no message may give it.
use Rattle.std.specs.Prelude.{Bool, true, false, not, ◌&&◌, ℕ, ◌+◌, eqb, ltb}
use Rattle.disc.specs.Numbers.{bit, bit_word, negative}

abbrev pub permanent : ℕ → Bool
permanent a = bit 11 a

abbrev pub write_protected : ℕ → Bool
write_protected a = bit 12 a

abbrev pub entry_only : ℕ → Bool
entry_only a = bit 13 a

abbrev pub extendable : ℕ → Bool
extendable a = bit 15 a

-- A word where a test holds, else 0.
abbrev pub word_if : Bool → ℕ → ℕ
word_if true w = w
word_if false w = 0

-- The word of bit n where a has that bit, else 0.
abbrev pub bit_in : ℕ → ℕ → ℕ
bit_in n a = word_if (bit n a) (bit_word n)

-- Attributes that a file may have: the five bits alone, and "not 13 with 15".
abbrev pub legal_attributes : ℕ → Bool
legal_attributes a =
    eqb a (bit_in 1 a + bit_in 11 a + bit_in 12 a + bit_in 13 a + bit_in 15 a) && not (entry_only a && extendable a)

-- "13 only with no slices", judged on the number of slices after the message.
abbrev pub legal_with : ℕ → ℕ → Bool
legal_with a slices = not (entry_only a && ltb 0 slices)

-- R-9: "gives attributes that aren't negative and contain bit 13".
abbrev pub gives_entry_only : ℕ → Bool
gives_entry_only w = not (negative w) && entry_only w
