-- Get Unit Description on the image and on the plain unit.
use Rattle.std.specs.Prelude.{◌≡◌, List, [], ◌∷◌, ℕ, ◌*◌, Result, Ok, Err}
use Rattle.types.specs.declared.Answer.{Answer}
use Rattle.types.specs.declared.Refusal.{Refusal}
use Rattle.types.specs.Words.{refusal_word}
use Rattle.disc.specs.Words.{word}
use Rattle.disc.specs.Kit.{kit_sector}
use Rattle.catalog.specs.declared.Unit.{Unit}
use Rattle.plain.specs.Unit.{Plain}
use Rattle.plain.specs.Questions.{answer}
use Rattle.plain.specs.Reports.{step_description}
use Rattle.refine.specs.OnDisc.{OnDisc}
use Rattle.lookup.specs.Unit.{NumbersOf}

-- "0, unit, 0, 20, 'UNIT' unit 0, five zeros, H, s, N, free": the record's words, N and the free sectors as the kit has them.
abbrev pub described : List ℕ → Unit → ℕ → List ℕ
described image o unit =
    0 ∷ unit ∷ 0 ∷ 20 ∷ 0x554E ∷ 0x4954 ∷ (unit * 256) ∷ 0 ∷ 0 ∷ 0 ∷ 0 ∷ 0
    ∷ o.catalog.keys ∷ o.slice ∷ word image kit_sector 2 ∷ word image kit_sector 3 ∷ []

-- 32 bytes are handed back; if refused, the refusal's word alone.
abbrev pub description_answer : {A : Type 0} → Result A Refusal → Answer
description_answer (Ok _) = answer 0 32 0 0
description_answer (Err refusal) = answer (refusal_word refusal) 0 0 0

-- Answer and lent words after are the plain unit's, of every unit on the image that has the number, and the unit stays: "So do
-- listing and Get Unit Description, which read its booked entries and fields; free is s times the free slices."
pub record Describes (image : List ℕ) (o : Unit) (unit bytes : ℕ) (lent : List ℕ) (r : Answer) (after : List ℕ) : Type 0 where
  pub all : (p : Plain) → OnDisc image p → NumbersOf o p → p.unit ≡ unit
      → step_description p unit bytes lent ≡ record { unit = p; answer = r; lent = after }
