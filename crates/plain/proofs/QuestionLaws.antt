-- Laws of the questions: what holds of the refusal and of what follows holds of the question.
use mathlib.Core.Path.{◌≡◌, refl}
use mathlib.Core.Bool.{Bool, true, false, cond, not, ◌&&◌, ◌||◌}
use mathlib.Core.Option.{Option, none, some}
use Prim.Native.Nat.{ℕ}
use lib.Dec.{T}
use Rattle.disc.specs.Attributes.{extendable}
use Rattle.plain.specs.Table.{is_some}
use Rattle.plain.specs.Questions.{Outcome, asks, given, either}
use Rattle.plain.specs.Transput.{end_word}

pub asks_law : (P : Outcome → Type 0) (b : Bool) {refusal next : Outcome} → P refusal → (T b → P next) → P (asks b refusal next)
unfolding asks
asks_law P true h k = k tt
asks_law P false h k = h

pub given_law : {A : Type 0} (P : Outcome → Type 0) (o : Option A) {refusal : Outcome} {next : A → Outcome} → P refusal → ((a : A) → o ≡ some a → P (next a)) → P (given o refusal next)
unfolding given
given_law P none h k = h
given_law P (some a) h k = k a refl

pub either_law : (P : Outcome → Type 0) (b : Bool) {x y : Outcome} → (T b → P x) → (T (not b) → P y) → P (either b x y)
unfolding either
either_law P true h k = h tt
either_law P false h k = k tt

pub cond_law : {A : Type 0} (P : A → Type 0) (b : Bool) (x y : A) → P x → P y → P (cond b x y)
cond_law P true x y h k = h
cond_law P false x y h k = k

-- what holds of both words of an input at the length holds of the word of every file
pub end_law : (P : ℕ → Type 0) (attributes : ℕ) → P 0x0810 → P 0x0A00 → P (end_word attributes)
unfolding end_word
end_law P attributes h k = cond_law P (extendable attributes) 0x0810 0x0A00 h k

-- ---- a question whose answer is known

pub true_yes : {b : Bool} → b ≡ true → T b
true_yes e = rw e tt

pub false_no : {b : Bool} → b ≡ false → T (not b)
false_no e = rw e tt

pub asks_yes : (b : Bool) (refusal next : Outcome) → T b → asks b refusal next ≡ next
unfolding asks
asks_yes true refusal next t = refl
asks_yes false refusal next t = absurd t

pub asks_no : (b : Bool) (refusal next : Outcome) → T (not b) → asks b refusal next ≡ refusal
unfolding asks
asks_no true refusal next t = absurd t
asks_no false refusal next t = refl

pub either_yes : (b : Bool) (x y : Outcome) → T b → either b x y ≡ x
unfolding either
either_yes true x y t = refl
either_yes false x y t = absurd t

pub either_no : (b : Bool) (x y : Outcome) → T (not b) → either b x y ≡ y
unfolding either
either_no true x y t = absurd t
either_no false x y t = refl

module _ {A : Type 0} where
  pub given_none : (o : Option A) (refusal : Outcome) (next : A → Outcome) → o ≡ none → given o refusal next ≡ refusal
  unfolding given
  given_none o refusal next e = rw e refl

  pub given_some : (o : Option A) (a : A) (refusal : Outcome) (next : A → Outcome) → o ≡ some a → given o refusal next ≡ next a
  unfolding given
  given_some o a refusal next e = rw e refl

-- ---- tests

pub and_left : (a b : Bool) → T (a && b) → T a
and_left true b t = tt
and_left false b t = t

pub and_right : (a b : Bool) → T (a && b) → T b
and_right true b t = t
and_right false b t = absurd t

-- not both, and the first: not the second
pub and_not : (a b : Bool) → T (not (a && b)) → T a → T (not b)
and_not true b t p = t
and_not false b t p = absurd p

pub or_case : (a b : Bool) {C : Type 0} → (T a → C) → (T b → C) → T (a || b) → C
or_case true b f g t = f tt
or_case false b f g t = g t

pub not_some : {A : Type 0} (o : Option A) → T (not (is_some o)) → o ≡ none
not_some none t = refl
not_some (some a) t = absurd t

pub is_some_lem : {A : Type 0} (o : Option A) → T (is_some o) → (a : A) × (o ≡ some a)
is_some_lem none t = absurd t
is_some_lem (some a) t = (a, refl)
