-- Section 'Worked on paper' on the image: P5 to P8 begin with Format, whatever stood on the image before, go on with Init and the calls
-- of `Rattle.examples.specs.Paper`, and are read from the words of the image and from what Look-up hands out.
use Rattle.std.specs.Prelude.{◌≡◌, List, [], ◌∷◌, ℕ, ◌*◌, length, get_or, replicate}
use Rattle.types.specs.declared.State.{State}
use Rattle.types.specs.declared.Message.TheVariants.{Init, LookUp}
use Rattle.types.specs.State.{NoneOpen}
use Rattle.disc.specs.Words.{word, Words, Holds}
use Rattle.disc.specs.Kit.{kit_sector, map_sector}
use Rattle.plain.specs.Step.{Call, Reply, after, answers}
use Rattle.plain.specs.Claims.{LentWords}
use Rattle.examples.specs.Cases.{Case, calls_of, expected, answers_in, Shows}
use Rattle.examples.specs.Paper.{paper_unit, pass, six_calls, seven_calls, eight_calls}
use Rattle.sound.specs.State.{Shaped}
use Rattle.refine.specs.Represents.{Represents}
use Rattle.refine.specs.Demands.{Performed, Run}
use Rattle.format.specs.Format.{Formatted, FormatAnswer}
use Rattle.perform.specs.Perform.{Performs}

-- Format's record for unit 0 and "H = 1, s = 2, N = 20, F = 10", with "free = N - F, top = N" and any two words more.
abbrev pub paper_record : ℕ → ℕ → List ℕ
paper_record k6 k7 = 0 ∷ 1 ∷ 2 ∷ 20 ∷ 10 ∷ 10 ∷ 20 ∷ k6 ∷ k7 ∷ []

-- Format by that record on any image of 256 times 20 words, Init of unit 0 on the image that it leaves, then some calls: `fresh` is the
-- image after Format, `end` and `stop` are image and state after the calls.
pub record FromFormat (calls : List Call) (replies : List Reply) (fresh end : List ℕ) (stop : State) : Type 0 where
  pub image : List ℕ
  pub words : Words image
  pub size : length image ≡ 256 * 20
  pub state : State
  pub shaped : Shaped state
  pub unit : state.unit ≡ 0
  pub closed : NoneOpen state
  pub k6 : ℕ
  pub k7 : ℕ
  pub record_words : Words (paper_record k6 k7)
  pub formatted : Formatted
  pub format : FormatAnswer image state 18 (paper_record k6 k7) fresh formatted
  pub lent : List ℕ
  pub accepted : Performed
  pub init : Performs fresh formatted.state (Init 0) lent accepted
  pub run : Run Performs accepted.image accepted.state calls replies end stop

-- Look-up of 'PASS' over lent words FFFFh hands out an entry with this length and these reserved sectors.
abbrev pub LookUpGives : List ℕ → State → ℕ → ℕ → Type 0
LookUpGives image state size reserved =
    (r : Performed) → Performs image state (LookUp pass) (replicate 16 0xFFFF) r
    → (get_or r.lent 7 0 ≡ size) × (get_or r.lent 9 0 ≡ reserved)

pub record PaperOnImage : Type 0 where
  -- Format and Init answer 0
  pub accepted : {calls : List Call} {replies : List Reply} {fresh end : List ℕ} {stop : State}
      → (b : FromFormat calls replies fresh end stop) → (b.formatted.result ≡ 0) × (b.accepted.answer.result ≡ 0)
  -- the unit of P5 to P8 is what Format leaves, whatever stood on the image before
  pub formatted : {calls : List Call} {replies : List Reply} {fresh end : List ℕ} {stop : State}
      → (b : FromFormat calls replies fresh end stop) → Represents fresh b.formatted.state paper_unit
  -- after Init every list of calls is answered as from that unit, and leaves what it has become
  pub unit : {calls : List Call} {replies : List Reply} {fresh end : List ℕ} {stop : State} → FromFormat calls replies fresh end stop
      → LentWords calls → (replies ≡ answers paper_unit calls) × Represents end stop (after paper_unit calls)
  -- so the cases of `Paper` that begin with `paper_unit` hold of these calls: P6 to P8 accepted, "size 8 on the fresh unit, 1100h; size 7,
  -- accepted", and the ends of a fixed and of an extendable file
  pub answered : (cases : List Case) {replies : List Reply} {fresh end : List ℕ} {stop : State} → Shows paper_unit cases
      → LentWords (calls_of cases) → FromFormat (calls_of cases) replies fresh end stop → answers_in replies ≡ expected cases
  -- "(P5) fresh map word 0 is 7800h, free 8"
  pub p5 : {calls : List Call} {replies : List Reply} {fresh end : List ℕ} {stop : State} → FromFormat calls replies fresh end stop
      → (word fresh map_sector 0 ≡ 0x7800) × (word fresh kit_sector 3 ≡ 8)
  -- "(P6) Create 'PASS' size 2, attributes 0001h: slices 2, 3, index 1, 4, 12, map 1800h, free 4": slice 2 begins with sector 12
  pub p6 : {replies : List Reply} {fresh end : List ℕ} {stop : State} → FromFormat (calls_of six_calls) replies fresh end stop
      → Holds end 12 (1 ∷ 4 ∷ 12 ∷ []) × (word end map_sector 0 ≡ 0x1800) × (word end kit_sector 3 ≡ 4)
  -- "(P7) outputs at 2 and 3: index 1, 6, 12, free 2, Look-up still 2 and 4"
  pub p7 : {replies : List Reply} {fresh end : List ℕ} {stop : State} → FromFormat (calls_of seven_calls) replies fresh end stop
      → Holds end 12 (1 ∷ 6 ∷ 12 ∷ []) × (word end kit_sector 3 ≡ 2) × LookUpGives end stop 2 4
  -- "(P8) area removed: 4 and 6."
  pub p8 : {replies : List Reply} {fresh end : List ℕ} {stop : State} → FromFormat (calls_of eight_calls) replies fresh end stop
      → LookUpGives end stop 4 6
