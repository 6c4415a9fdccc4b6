-- Section 'Listing and unit description': "Both ask catalog questions 1 and 2 first".
use Rattle.std.specs.Prelude.{List, [], ◌∷◌, ◌++◌, ℕ, ◌*◌, length, leb}
use Rattle.plain.specs.Table.{Table}
use Rattle.plain.specs.Unit.{Plain, entries, free_sectors}
use Rattle.plain.specs.Questions.{Outcome, answer, asks, replies, fill, known}

-- The words of the rows, one entry after the other.
abbrev pub joined : Table (List ℕ) → List ℕ
joined [] = []
joined (r ∷ t) = r.val ++ joined t

-- "Listing writes each entry's 16 booked words once and hands back the number of entries, 0 if refused. Fewer than 16
-- times the entries in words lent: 1200h." Document 02, R-1: "The listing shall come by name, first word first, words as
-- unsigned numbers. SYS and MAP take their place in it like any file." It does because `entries p` is a table: its rows,
-- SYS's and MAP's among them, stand in increasing order of their keys (`SortedFrom`), and the key is the packed name
-- (`pack`), the first word highest.
unfoldable pub step_listing : Plain → ℕ → List ℕ → Outcome
step_listing p unit lent =
    let count : ℕ = length (entries p) in
    asks (known p unit) (replies p 0x1200 lent)
    (asks (leb (16 * count) (length lent)) (replies p 0x1200 lent)
    (record { unit = p; answer = answer 0 0 0 count; lent = fill (joined (entries p)) lent }))

-- "0, unit, 0, 20, 'UNIT' unit 0, five zeros, H, s, N, free".
abbrev pub description : Plain → List ℕ
description p =
    0 ∷ p.unit ∷ 0 ∷ 20 ∷ 0x554E ∷ 0x4954 ∷ (p.unit * 256) ∷ 0 ∷ 0 ∷ 0 ∷ 0 ∷ 0 ∷ p.H ∷ p.s ∷ p.N ∷ free_sectors p ∷ []

-- "Get Unit Description hands back 32 and fills 16 words; byte count below 32 or fewer words lent: 1200h."
unfoldable pub step_description : Plain → ℕ → ℕ → List ℕ → Outcome
step_description p unit bytes lent =
    asks (known p unit) (replies p 0x1200 lent)
    (asks (leb 32 bytes) (replies p 0x1200 lent)
    (asks (leb 16 (length lent)) (replies p 0x1200 lent)
    (record { unit = p; answer = answer 0 32 0 0; lent = fill (description p) lent })))
