-- The listing: the records of the entries as these stand in SYS, place after place, and what is written beside the plain unit's listing.
use Rattle.std.specs.Prelude.{◌≡◌, Bool, cond, List, [], ◌∷◌, ◌++◌, ℕ, zero, suc, ◌+◌, ◌*◌, ◌/◌, ◌%◌, ◌≤◌, ◌<◌, length, get_or, T, eqb, Result, Ok, Err}
use Rattle.types.specs.declared.Answer.{Answer}
use Rattle.types.specs.declared.Refusal.{Refusal}
use Rattle.types.specs.Words.{refusal_word}
use Rattle.words.specs.Store.{store}
use Rattle.index.specs.Block.{joint_sector}
use Rattle.catalog.specs.declared.Catalog.{Catalog}
use Rattle.catalog.specs.declared.Unit.{Unit}
use Rattle.plain.specs.Unit.{Plain}
use Rattle.plain.specs.Questions.{answer, known}
use Rattle.plain.specs.Reports.{step_listing}
use Rattle.refine.specs.OnDisc.{OnDisc}
use Rattle.lookup.specs.Unit.{NumbersOf, MeantOn}

-- f 0, f 1 and so on, n lists one after the other.
unfoldable pub in_turn : (ℕ → List ℕ) → ℕ → List ℕ
in_turn f zero = []
in_turn f (suc n) = in_turn f n ++ f n

-- The image's index of the first word of slot i of sector q.
abbrev pub slot_start : ℕ → ℕ → ℕ
slot_start q i = q * 256 + i * 16

-- "Unused place (16 zero words)", by its first word alone: no entry's first word is 0, since a legal name begins with a letter.
unfoldable pub slot_empty : List ℕ → ℕ → ℕ → Bool
slot_empty image q i = eqb (get_or image (slot_start q i) 0) 0

-- The four words that stand for an entry while the entries are put in order (`order/Records`): its name's words a, b and c, and the
-- number g of its group of 16 words in the image, of which the high part takes the room of the name's sixth character, which is 0.
abbrev pub entry_record : ℕ → ℕ → ℕ → ℕ → List ℕ
entry_record a b c g = a ∷ b ∷ (c / 256 * 256 + g / 65536) ∷ (g % 65536) ∷ []

-- The record of the entry in slot i of sector q if the slot is used; no words if it is not.
unfoldable pub slot_record : List ℕ → ℕ → ℕ → List ℕ
slot_record image q i =
    let at : ℕ = slot_start q i in
    cond (slot_empty image q i) [] (entry_record (get_or image at 0) (get_or image (at + 1) 0) (get_or image (at + 2) 0) (q * 16 + i))

-- The records of the entries in the first n slots of sector q.
abbrev pub slot_records : List ℕ → ℕ → ℕ → List ℕ
slot_records image q n = in_turn (slot_record image q) n

-- The sector of block b of a catalog: "block b is sector .. (b for SYS and MAP)" of its joined sectors.
abbrev pub catalog_sector : List ℕ → Catalog → ℕ → ℕ
catalog_sector image c b = joint_sector image c.index.0 (b + c.from)

-- The records of the entries in the first n blocks of a catalog.
abbrev pub block_records : List ℕ → Catalog → ℕ → List ℕ
block_records image c n = in_turn (λ b. slot_records image (catalog_sector image c b) 16) n

-- The first n blocks of a catalog are sectors of the image.
pub record Readable (image : List ℕ) (c : Catalog) (n : ℕ) : Type 0 where
  pub few : n ≤ 32767
  pub inside : (b : ℕ) → b < n → catalog_sector image c b * 256 + 256 ≤ length image

-- The number of records in a list of them, 4 words to each.
pub record CountOf (l : List ℕ) (count : ℕ) : Type 0 where
  pub words : 4 * count ≡ length l

-- Words stored from word `at` on, and the place after them.
pub record Noted (before : List ℕ) (at : ℕ) (words after : List ℕ) (next : ℕ) : Type 0 where
  pub stored : after ≡ store before at words
  pub end : next ≡ at + length words

-- What the listing starts from, whatever number the unit has.
pub record CanList (image : List ℕ) (o : Unit) : Type 0 where
  pub number : ℕ
  pub meant : MeantOn image o number

-- "The number of entries, 0 if refused", and the refusal's word.
abbrev pub listing_answer : Result ℕ Refusal → Answer
listing_answer (Ok count) = answer 0 0 0 count
listing_answer (Err refusal) = answer (refusal_word refusal) 0 0 0

-- "Listing writes each entry's 16 booked words once and hands back the number of entries, 0 if refused", and (02, R-1) "by name": answer
-- and lent words after are the plain unit's, of every unit on the image that the message means, and the unit stays.
pub record Lists (image : List ℕ) (o : Unit) (lent : List ℕ) (r : Answer) (after : List ℕ) : Type 0 where
  pub all : (p : Plain) → OnDisc image p → NumbersOf o p → (unit : ℕ) → T (known p unit)
      → step_listing p unit lent ≡ record { unit = p; answer = r; lent = after }
