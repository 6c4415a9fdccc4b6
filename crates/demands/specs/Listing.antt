-- Document 02, R-1: "The listing shall come by name, first word first, words as unsigned numbers. SYS and MAP take their place in it like
-- any file." Said of the plain unit and, as a type over the contract of the one call, of the words that a listing leaves.
use Rattle.std.specs.Prelude.{◌≡◌, List, ℕ, suc, ◌+◌, ◌*◌, ◌<◌, length, get_or}
use Rattle.std.proofs.Math.Option.{some}
use Rattle.types.specs.declared.State.{State}
use Rattle.types.specs.declared.Message.TheVariants.{Listing}
use Rattle.disc.specs.Names.{pack}
use Rattle.plain.specs.Unit.{Plain, entries, entry}
use Rattle.plain.specs.Reports.{joined}
use Rattle.plain.specs.Good.{Good}
use Rattle.refine.specs.Represents.{Represents}
use Rattle.refine.specs.Demands.{Performed, Contract}

-- The name in group k, 16 words to a group: its first three words as one number, the first highest.
abbrev pub listed_name : List ℕ → ℕ → ℕ
listed_name words k = pack (get_or words (16 * k) 0) (get_or words (16 * k + 1) 0) (get_or words (16 * k + 2) 0)

-- The names of the first `count` groups increase, and every name that is entered, SYS's and MAP's too, is that of one of them.
pub record ByName (p : Plain) (count : ℕ) (words : List ℕ) : Type 0 where
  pub increasing : (k : ℕ) → suc k < count → listed_name words k < listed_name words (suc k)
  pub each : (n : ℕ) (e : List ℕ) → entry p n ≡ some e → (k : ℕ) × (k < count) × (listed_name words k ≡ n)

pub record ListedByName (C : Contract) : Type 0 where
  -- the entries that every good plain unit lists
  pub plain : (p : Plain) → Good p → ByName p (length (entries p)) (joined (entries p))
  -- and the lent words after every accepted listing, of the plain unit that the image stands for
  pub call : {image : List ℕ} {state : State} {unit : ℕ} {lent : List ℕ} {r : Performed} → C image state (Listing unit) lent r
      → r.answer.result ≡ 0 → (p : Plain) × Good p × Represents image state p × ByName p r.answer.entries r.lent
