-- Slices: which are held, which are free, and which one is taken. Lists of slices are compared by counting.
use Rattle.std.specs.Prelude.{List, [], ◌∷◌}
use Prim.Native.Nat.{ℕ, zero, suc, ◌+◌, ◌≤◌, compare, Ordering}

-- 1 where two numbers are the same, by how they compare.
abbrev pub one_if_same : Ordering → ℕ
one_if_same Ordering.lt = 0
one_if_same Ordering.eq = 1
one_if_same Ordering.gt = 0

-- How often k stands in a list.
abbrev pub occurrences : ℕ → List ℕ → ℕ
occurrences k [] = 0
occurrences k (x ∷ l) = one_if_same (compare k x) + occurrences k l

-- 1 for a slice of a unit with m slices, 1 to m; 0 for any other number.
abbrev pub one_if_below : Ordering → ℕ
one_if_below Ordering.lt = 1
one_if_below Ordering.eq = 0
one_if_below Ordering.gt = 0

abbrev pub in_unit : ℕ → ℕ → ℕ
in_unit m zero = 0
in_unit m (suc k) = one_if_below (compare k m)

-- "No slice is in two files or twice in one", and each is one of 1 to m.
abbrev pub InRangeOnce : ℕ → List ℕ → Type 0
InRangeOnce m held = (k : ℕ) → occurrences k held ≤ in_unit m k

-- "Free means in no list": 1 where a count is 0.
abbrev pub one_if_none : ℕ → ℕ
one_if_none zero = 1
one_if_none (suc n) = 0

-- The number of free slices among 1 to m.
abbrev pub free_count : ℕ → List ℕ → ℕ
free_count zero held = 0
free_count (suc m) held = one_if_none (occurrences (suc m) held) + free_count m held

abbrev pub first_if : ℕ → ℕ → ℕ → ℕ
first_if zero k rest = rest
first_if (suc n) k rest = k

-- The lowest of the n numbers from k on whose bit is not 0; 0 if there is none.
unfoldable pub lowest_one : (ℕ → ℕ) → ℕ → ℕ → ℕ
lowest_one bits zero k = 0
lowest_one bits (suc n) k = first_if (bits k) k (lowest_one bits n (suc k))

-- The lowest free slice of the n slices from k on; 0 if there is none.
abbrev pub lowest_from : ℕ → ℕ → List ℕ → ℕ
lowest_from n k held = lowest_one (λ j. one_if_none (occurrences j held)) n k

-- The slice k where it is one of the unit's and not held, else the slice low.
abbrev pub next_or : ℕ → ℕ → ℕ → ℕ → ℕ
next_or zero held k low = low
next_or (suc r) zero k low = k
next_or (suc r) (suc h) k low = low

-- "Taking a slice: the next number after the file's last if free, else the lowest free." The last of a file
-- without slices is 0 here: the next is then slice 1, which, if it is free, is the lowest free one.
abbrev pub choose : ℕ → List ℕ → ℕ → ℕ
choose m held last = let low = lowest_from m 1 held in next_or (in_unit m (suc last)) (occurrences (suc last) held) (suc last) low

-- n slices taken one after the other, beside the held ones, for a file whose last slice is `last`; a file that has none takes otherwise, by
-- `OneStretch`.
abbrev pub taken : ℕ → List ℕ → ℕ → ℕ → List ℕ
taken m held last zero = []
taken m held last (suc n) = let k = choose m held last in k ∷ taken m (k ∷ held) k n

-- The last and the first of a list of slices; 0 if there is none.
abbrev pub last_of : List ℕ → ℕ
last_of [] = 0
last_of (x ∷ []) = x
last_of (x ∷ y ∷ l) = last_of (y ∷ l)

abbrev pub first_of : List ℕ → ℕ
first_of [] = 0
first_of (x ∷ l) = x
