-- Transput: "Input (1, 5) hands out the sector there, output (3, 7, 19) replaces it or, at the live length, appends;
-- both hand back 512 bytes and that block, and add 1 to the position. 5 and 7 do Position first. 19 answers as 3."
use Rattle.std.specs.Prelude.{Bool, true, false, cond, not, ◌&&◌, ◌||◌, List, [], ◌∷◌, ◌++◌, ℕ, suc, length, take, get_or, set, leb, ltb, eqb}
use Rattle.disc.specs.Numbers.{need}
use Rattle.disc.specs.Attributes.{write_protected, extendable}
use Rattle.disc.specs.OneStretch.{taken_for_file}
use Rattle.disc.specs.Stretches.{stretch_count}
use Rattle.plain.specs.Table.{Table, table_put}
use Rattle.plain.specs.Unit.{Plain, File, AreaUser, M, held, free_slices, with_files}
use Rattle.plain.specs.Questions.{Outcome, answer, asks, either, fill}
use Rattle.plain.specs.Areas.{is_writer, other, moved, positioned}

abbrev pub one_of : ℕ → List ℕ → Bool
one_of k [] = false
one_of k (x ∷ l) = eqb k x || one_of k l

-- Is an operation output; does it do Position first?
abbrev pub is_output : ℕ → Bool
is_output operation = one_of operation (3 ∷ 7 ∷ 19 ∷ [])

abbrev pub is_random : ℕ → Bool
is_random operation = one_of operation (5 ∷ 7 ∷ [])

-- "Returned blocks (transput only) are the user's position by then."
abbrev pub refused_at : Plain → ℕ → ℕ → List ℕ → Outcome
refused_at p word k lent = record { unit = p; answer = answer word 0 k 0; lent = lent }

-- "Both hand back 512 bytes and that block."
abbrev pub transferred : Plain → ℕ → List ℕ → Outcome
transferred p k lent = record { unit = p; answer = answer 0 512 k 0; lent = lent }

-- The file with other slices and sectors; the booked ones stay.
abbrev pub rewritten : File → List ℕ → List (List ℕ) → File
rewritten f slices sectors = record {
  attributes = f.attributes;
  optional = f.optional;
  tail = f.tail;
  booked = f.booked;
  booked_slices = f.booked_slices;
  slices = slices;
  sectors = sectors;
}

-- The unit with the file f under the name n.
abbrev pub with_file : ℕ → File → Plain → Plain
with_file n f p = with_files p (table_put n f p.files)

-- "Input at the length of a file without bit 15 shall answer 0A00h. An extendable file still gives 0810h there." (Document 02, R-4.)
unfoldable pub end_word : ℕ → ℕ
end_word attributes = cond (extendable attributes) 0x0810 0x0A00

-- "Input: below the length?" q is the unit once Position was done, and k the position.
unfoldable pub input : Plain → (ℕ → Plain) → File → ℕ → List ℕ → Outcome
input q move f k lent =
    asks (ltb k (length f.sectors)) (refused_at q (end_word f.attributes) k lent)
    (transferred (move (suc k)) k (fill (get_or f.sectors k []) lent))

-- 1 where a test holds, else 0.
abbrev pub one_if : Bool → ℕ
one_if true = 1
one_if false = 0

-- "Output takes one slice when need(length + 1) exceeds those held."
abbrev pub slices_to_take : ℕ → File → ℕ
slices_to_take s f = one_if (ltb (length f.slices) (need s (suc (length f.sectors))))

-- "Appending: extendable? 0A00h; where a slice is needed: one free? 0900h; at most 127 stretches with it? 0808h."
unfoldable pub append : Plain → Plain → (ℕ → Plain) → ℕ → File → ℕ → List ℕ → Outcome
append p q move n f k lent =
    let count : ℕ = slices_to_take p.s f in
    let slices : List ℕ = f.slices ++ taken_for_file (M p) (held p) f.slices count in
    asks (extendable f.attributes) (refused_at q 0x0A00 k lent)
    (asks (leb count (free_slices p)) (refused_at q 0x0900 k lent)
    (asks (eqb count 0 || leb (stretch_count slices) 127) (refused_at q 0x0808 k lent)
    (transferred (with_file n (rewritten f slices (f.sectors ++ (take 256 lent ∷ []))) (move (suc k))) k lent)))

-- Output at position k: a block below the live length is replaced.
unfoldable pub output : Plain → Plain → (ℕ → Plain) → ℕ → File → ℕ → List ℕ → Outcome
output p q move n f k lent =
    either (ltb k (length f.sectors))
    (transferred (with_file n (rewritten f f.slices (set f.sectors k (take 256 lent))) (move (suc k))) k lent)
    (append p q move n f k lent)

-- "512 bytes and at least 256 words lent? 0880h; output: no other exclusive writer? 0A00h; not write protected? 0C00h."
unfoldable pub step_transput : Plain → ℕ → ℕ → Table AreaUser → AreaUser → File → ℕ → ℕ → ℕ → List ℕ → Outcome
step_transput p n sender users u f operation bytes block lent =
    let move : ℕ → Plain = moved p n sender users u in
    let go : Plain → ℕ → Outcome = λ q k. either (is_output operation) (output p q move n f k lent) (input q move f k lent) in
    asks (eqb bytes 512) (refused_at p 0x0880 u.position lent)
    (asks (leb 256 (length lent)) (refused_at p 0x0880 u.position lent)
    (asks (not (is_output operation && other is_writer sender users)) (refused_at p 0x0A00 u.position lent)
    (asks (not (is_output operation && write_protected f.attributes)) (refused_at p 0x0C00 u.position lent)
    (either (is_random operation)
    (positioned move block (length f.sectors) (λ q word k. refused_at q word k lent) go)
    (go p u.position)))))
