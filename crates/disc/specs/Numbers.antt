-- Numbers and bits of document 01: its first paragraph, and the formulas of section 'The disc'.
use Rattle.std.specs.Prelude.{Bool, ℕ, zero, suc, ◌+◌, ◌-◌, ◌*◌, ◌/◌, ◌%◌, ◌^◌, leb, eqb}

-- "1bN means 2 to the power 15 - N".
abbrev pub bit_word : ℕ → ℕ
bit_word n = 2 ^ (15 - n)

-- "Bit 0 is the highest": bit n of a word.
abbrev pub bit : ℕ → ℕ → Bool
bit n w = eqb (w / bit_word n % 2) 1

-- "'Negative' means bit 0 set."
abbrev pub negative : ℕ → Bool
negative w = leb 0x8000 w

-- A quotient rounded up.
abbrev pub ceil_div : ℕ → ℕ → ℕ
ceil_div a b = (a + (b - 1)) / b

-- "need(0) = 0; need(n) = (n + 1) / s rounded up": the slices for n sectors and the index block.
abbrev pub need : ℕ → ℕ → ℕ
need s zero = 0
need s (suc n) = ceil_div (suc n + 1) s

-- "M = (N - F) / s": the unit's number of slices.
abbrev pub slice_count : ℕ → ℕ → ℕ → ℕ
slice_count s F N = (N - F) / s

-- "Slice k (1 to M) starts at sector F + (k - 1) times s."
abbrev pub slice_start : ℕ → ℕ → ℕ → ℕ
slice_start F s k = F + (k - 1) * s
