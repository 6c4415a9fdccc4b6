-- Question 4 of Create and Set: the code's tests, and the questions that the plain unit asks.
use mathlib.Core.Path.{◌≡◌, refl, sym, ap, ◌∙◌}
use mathlib.Core.Bool.{Bool, true, false, not, ◌&&◌}
use mathlib.Core.List.{List}
use Prim.Native.Nat.{ℕ}
use lib.Dec.{T}
use Rattle.disc.specs.Numbers.{negative}
use Rattle.disc.specs.Names.{legal_name}
use Rattle.disc.specs.Attributes.{legal_attributes, gives_entry_only}
use Rattle.disc.proofs.DecideLaws.{true≢false}
use Rattle.plain.specs.Unit.{Plain}
use Rattle.plain.specs.Questions.{Outcome, asks, replies}
use Rattle.plain.specs.Catalog.{new_file}
use Rattle.plain.proofs.QuestionLaws.{and_left, and_right}
use Rattle.create.specs.Create.{legal_new}

-- what a test joined by `&&` leaves: where the first part holds, the second, else the first
pub and_then : {x y a v w : Bool} → a ≡ x → a ≡ true → v ≡ w → w ≡ y → v ≡ x && y
and_then {y = y} e h f g = f ∙ g ∙ sym (ap (λ (b : Bool). b && y) (sym e ∙ h))

pub and_else : {x a v : Bool} (y : Bool) → a ≡ x → a ≡ false → v ≡ a → v ≡ x && y
and_else y e h f = f ∙ h ∙ sym (ap (λ (b : Bool). b && y) (sym e ∙ h))

regroup : (a b c d : Bool) → ((a && b) && c) && d ≡ a && (b && (c && d))
regroup false b c d = refl
regroup true false c d = refl
regroup true true c d = refl

module _ (n size attributes : ℕ) where
  abbrev rest : Bool
  rest = legal_attributes attributes && not (gives_entry_only attributes)

  -- the four tests, one after the other
  pub legal_by : {v : Bool} → v ≡ ((legal_name n && not (negative size)) && legal_attributes attributes) && not (gives_entry_only attributes) → v ≡ legal_new n size attributes
  unfolding legal_new
  legal_by e = e ∙ regroup (legal_name n) (not (negative size)) (legal_attributes attributes) (not (gives_entry_only attributes))

  -- ---- the questions

  pub record Legal : Type 0 where
    pub name : T (legal_name n)
    pub short : T (not (negative size))
    pub allowed : T (legal_attributes attributes)
    pub given : T (not (gives_entry_only attributes))

  pub legal_all : T (legal_new n size attributes) → Legal
  unfolding legal_new
  legal_all t =
      let u : T (not (negative size) && rest) = and_right (legal_name n) (not (negative size) && rest) t in
      let v : T rest = and_right (not (negative size)) rest u in
      record {
        name = and_left (legal_name n) (not (negative size) && rest) t;
        short = and_left (not (negative size)) rest u;
        allowed = and_left (legal_attributes attributes) (not (gives_entry_only attributes)) v;
        given = and_right (legal_attributes attributes) (not (gives_entry_only attributes)) v;
      }

asks_four : (a b c d : Bool) (refusal next : Outcome) → a && (b && (c && d)) ≡ false → asks a refusal (asks b refusal (asks c refusal (asks d refusal next))) ≡ refusal
unfolding asks
asks_four false b c d refusal next e = refl
asks_four true false c d refusal next e = refl
asks_four true true false d refusal next e = refl
asks_four true true true false refusal next e = refl
asks_four true true true true refusal next e = absurd (true≢false e)

-- the first no of the four is answered by the same word
pub not_legal : (p : Plain) (n size attributes : ℕ) (optional tail lent : List ℕ) → legal_new n size attributes ≡ false
    → new_file p n size attributes optional tail lent ≡ replies p 0x1200 lent
unfolding new_file legal_new
not_legal p n size attributes optional tail lent e =
    asks_four (legal_name n) (not (negative size)) (legal_attributes attributes) (not (gives_entry_only attributes)) (replies p 0x1200 lent) _ e
