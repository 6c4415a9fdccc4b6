-- What the searches promise: std's are those of the definitions, and a question's word is 0 exactly if an element passes the test.
use mathlib.Core.Path.{◌≡◌, refl, ap, ◌∙◌}
use mathlib.Core.Bool.{Bool, true, false, ◌||◌, cond}
use mathlib.Core.List.{List, [], ◌∷◌}
use Prim.Native.Nat.{ℕ, suc}
use native.Mathlib.Omega.{arith}
use Rattle.std.proofs.Common.{Option, Some, add-one, position, count_by, ◌+◌}
use Rattle.std.proofs.lemmas.Iterator.Adapters.{position_from-zero}
use Rattle.std.proofs.lemmas.List.Recursion.{is_count_by}
use Rattle.std.specs.List.{position_from, list_any}
use Rattle.types.specs.declared.Area.{Area}
use Rattle.types.specs.declared.State.{State}
use Rattle.state.specs.Areas.{first_from, any_of, count_of, word_of, is_named, area_named, AreaFound, is_vacant, vacant_area_of, VacantFound, has_id, entry_of, UserFound}

pub first_word : {A : Type 0} (test : A → Bool) (refusal i : ℕ) (l : List A) → word_of refusal (first_from test i l) ≡ cond (any_of test l) 0 refusal
unfolding first_from any_of
first_word test refusal i [] = refl
first_word {A} test refusal i (x ∷ l) = go (test x) (first_word test refusal (suc i) l)
  where
    go : (b : Bool) → word_of refusal (first_from test (suc i) l) ≡ cond (any_of test l) 0 refusal
        → word_of refusal (cond b (Some i) (first_from test (suc i) l)) ≡ cond (b || any_of test l) 0 refusal
    go true ih = refl
    go false ih = ih

-- ---- the searches of std

first_by : {A : Type 0} (test : A → Bool) (i : ℕ) (l : List A) → position_from test i l ≡ first_from test i l
unfolding first_from
first_by test i [] = refl
first_by {A} test i (x ∷ l) = go (test x) (first_by test (suc i) l)
  where
    go : (b : Bool) → position_from test (suc i) l ≡ first_from test (suc i) l → cond b (Some i) (position_from test (i + 1) l) ≡ cond b (Some i) (first_from test (suc i) l)
    go true ih = refl
    go false ih = rw add-one ih

pub first_position : {A : Type 0} (test : A → Bool) (l : List A) {o : Option ℕ} → o ≡ position test l → o ≡ first_from test 0 l
first_position test l e = e ∙ position_from-zero test l ∙ first_by test 0 l

pub any_by : {A : Type 0} (test : A → Bool) (l : List A) → list_any test l ≡ any_of test l
unfolding any_of
any_by test [] = refl
any_by test (x ∷ l) = ap (λ (b : Bool). test x || b) (any_by test l)

pub count_is : {A : Type 0} (test : A → Bool) (l : List A) → count_of test l ≡ count_by test l
unfolding count_of
count_is {A} test l = is_count_by (count_of test) test refl (λ x rest. go (test x) (count_of test rest)) l
  where
    go : (b : Bool) (n : ℕ) → cond b 1 0 + n ≡ cond b (1 + n) n
    go true n = refl
    go false n = omega arith

pub area_found : {n : ℕ} {state : State} {r : Option ℕ} → r ≡ area_named n state → AreaFound n state r
area_found {n} {state} e = rw e (record { first = refl; word = first_word (is_named n) 0x4800 0 state.areas })

pub vacant_found : {state : State} {r : Option ℕ} → r ≡ vacant_area_of state → VacantFound state r
vacant_found {state} e = rw e (record { first = refl; word = first_word is_vacant 0x0900 0 state.areas })

pub user_found : {id : ℕ} {area : Area} {r : Option ℕ} → r ≡ entry_of id area → UserFound id area r
user_found {id} {area} e =
    rw e (record { first = refl; user = first_word (has_id id) 0x0810 0 area.users; entry = first_word (has_id id) 0x0808 0 area.users })
