-- Words written into a list of words, the words of a sector, and zero words.
use Rattle.std.specs.Prelude.{List, ℕ, ◌*◌, take, drop, replicate}
use Rattle.std.proofs.lemmas.List.Edits.{sets}

-- A list with the words vs stored one after the other from index i on; words past the list's end are not stored.
unfoldable pub store : List ℕ → ℕ → List ℕ → List ℕ
store l i vs = sets l i vs

-- "The image is a lent slice of words, 256 to a sector": the words of sector q.
unfoldable pub sector_words : List ℕ → ℕ → List ℕ
sector_words image q = take 256 (drop (q * 256) image)

-- n zero words.
unfoldable pub zero_words : ℕ → List ℕ
zero_words n = replicate n 0
