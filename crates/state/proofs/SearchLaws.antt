-- Laws of the searches in a list: what they found.
use Rattle.std.specs.Prelude.{Some, None}
use mathlib.Core.Path.{◌≡◌, refl, sym, ap, ◌∙◌}
use mathlib.Core.List.{List, [], ◌∷◌}
use mathlib.Core.Bool.{Bool, true, false, not, cond, ◌||◌}
use mathlib.Core.Logic.{◌≢◌}
use mathlib.Core.Option.{Option, none, some}
use Prim.Native.Nat.{ℕ, zero, suc, ◌+◌, ◌≤◌, ◌<◌}
use native.Mathlib.Omega.{arith}
use lib.ListN.{length, get_or, set, length-set}
use lib.Seq.{lt-length-set, get_or-set_same, get_or-set_other}
use lib.Dec.{ltb}
use borrow.Author.Tests.{lt-ltb}
use Rattle.disc.proofs.Compare.{same_or}
use Rattle.disc.proofs.DecideLaws.{never_true}
use Rattle.state.specs.Areas.{first_from, any_of, count_of}

-- ---- what a search found

-- j is the place of the first element that passes the test
pub record FirstAt {A : Type 0} (test : A → Bool) (d : A) (l : List A) (j : ℕ) : Type 0 where
  pub inside : j < length l
  pub passes : test (get_or l j d) ≡ true
  pub before : (v : ℕ) → v < j → test (get_or l v d) ≡ false

-- no element passes the test
pub record Nowhere {A : Type 0} (test : A → Bool) (d : A) (l : List A) : Type 0 where
  pub fails : (v : ℕ) → v < length l → test (get_or l v d) ≡ false

module _ {A : Type 0} (test : A → Bool) (d : A) where
  here : (x : A) (l : List A) → test x ≡ true → FirstAt test d (x ∷ l) 0
  here x l e = record { inside = omega arith; passes = e; before = λ v h. absurd (omega arith) }

  later : (x : A) (l : List A) (j : ℕ) → test x ≡ false → FirstAt test d l j → FirstAt test d (x ∷ l) (suc j)
  later x l j e f = record { inside = omega (arith, f.inside); passes = f.passes; before = below }
    where
      below : (v : ℕ) → v < suc j → test (get_or (x ∷ l) v d) ≡ false
      below zero h = e
      below (suc v) h = f.before v (omega arith)

  nothing : Nowhere test d []
  nothing = record { fails = λ v h. absurd (omega arith) }

  none_more : (x : A) (l : List A) → test x ≡ false → Nowhere test d l → Nowhere test d (x ∷ l)
  none_more x l e f = record { fails = at }
    where
      at : (v : ℕ) → v < length (x ∷ l) → test (get_or (x ∷ l) v d) ≡ false
      at zero h = e
      at (suc v) h = f.fails v (omega arith)

  first_from_lem : (i : ℕ) (l : List A) (j : ℕ) → first_from test i l ≡ Some j → (k : ℕ) × (j ≡ i + k) × FirstAt test d l k
  unfolding first_from
  first_from_lem i [] j e = absurd (let z : ◌≡◌ {A = ℕ} 0 1 = cc in omega arith)
  first_from_lem i (x ∷ l) j e = go (test x) refl (first_from_lem (suc i) l j) e
    where
      go : (b : Bool) → test x ≡ b → (first_from test (suc i) l ≡ Some j → (k : ℕ) × (j ≡ suc i + k) × FirstAt test d l k)
          → cond b (Some i) (first_from test (suc i) l) ≡ Some j → (k : ℕ) × (j ≡ i + k) × FirstAt test d (x ∷ l) k
      go true t ih e = let q : i ≡ j = cc in (0, omega arith, here x l t)
      go false t ih e = let r = ih e in (suc r.0, omega (arith, r.1), later x l r.0 t r.2)

  pub first_at : (l : List A) (j : ℕ) → first_from test 0 l ≡ Some j → FirstAt test d l j
  first_at l j e = let r = first_from_lem 0 l j e in let q : j ≡ r.0 = omega (arith, r.1) in rw q r.2

  pub at_first : (i : ℕ) (l : List A) (j : ℕ) → FirstAt test d l j → first_from test i l ≡ Some (i + j)
  unfolding first_from
  at_first i [] j f = absurd (omega (arith, f.inside))
  at_first i (x ∷ l) zero f = let q : i + 0 ≡ i = omega arith in rw (f.passes, q)
  at_first i (x ∷ l) (suc j) f =
      let q : i + suc j ≡ suc i + j = omega arith in
      let rest : FirstAt test d l j = record { inside = omega (arith, f.inside); passes = f.passes; before = λ v h. f.before (suc v) (omega arith) } in
      rw (f.before 0 (omega arith), q) (at_first (suc i) l j rest)

  pub first_nowhere : (i : ℕ) (l : List A) → first_from test i l ≡ None → Nowhere test d l
  unfolding first_from
  first_nowhere i [] e = nothing
  first_nowhere i (x ∷ l) e = go (test x) refl (first_nowhere (suc i) l) e
    where
      go : (b : Bool) → test x ≡ b → (first_from test (suc i) l ≡ None → Nowhere test d l) → cond b (Some i) (first_from test (suc i) l) ≡ None → Nowhere test d (x ∷ l)
      go true t ih e = absurd (let z : ◌≡◌ {A = ℕ} 0 1 = cc in omega arith)
      go false t ih e = none_more x l t (ih e)

-- ---- the first element that passes the test, if there is one

module _ {A : Type 0} where
  unfoldable pub first_that : (A → Bool) → List A → Option A
  first_that test [] = none
  first_that test (x ∷ l) = cond (test x) (some x) (first_that test l)

module _ {A : Type 0} (test : A → Bool) (d : A) where
  pub that_at : (l : List A) (j : ℕ) → FirstAt test d l j → first_that test l ≡ some (get_or l j d)
  unfolding first_that
  that_at [] j f = absurd (omega (arith, f.inside))
  that_at (x ∷ l) zero f = rw f.passes
  that_at (x ∷ l) (suc j) f =
      rw (f.before 0 (omega arith)) (that_at l j (record { inside = omega (arith, f.inside); passes = f.passes; before = λ v h. f.before (suc v) (omega arith) }))

  pub that_nowhere : (l : List A) → Nowhere test d l → first_that test l ≡ none
  unfolding first_that
  that_nowhere [] f = refl
  that_nowhere (x ∷ l) f = rw (f.fails 0 (omega arith)) (that_nowhere l (record { fails = λ v h. f.fails (suc v) (omega arith) }))

  -- after an element was set: the new one is the first, or passes no more than the old one, or none is left
  pub that_set : (l : List A) (j : ℕ) (new : A) → j < length l → ((v : ℕ) → v < j → test (get_or l v d) ≡ false) → test new ≡ true → first_that test (set l j new) ≡ some new
  that_set l j new h below t =
      let same = get_or-set_same l j new d h in
      that_at (set l j new) j (record { inside = lt-length-set l j new h; passes = rw same t; before = λ v k. rw (get_or-set_other l j v new d (omega arith)) (below v k) }) ∙ ap some same

  pub that_set_other : (l : List A) (j : ℕ) (new : A) → test (get_or l j d) ≡ false → test new ≡ false → first_that test (set l j new) ≡ first_that test l
  unfolding first_that
  that_set_other [] j new e t = refl
  that_set_other (x ∷ l) zero new e t = rw (e, t)
  that_set_other (x ∷ l) (suc j) new e t = ap (λ (r : Option A). cond (test x) (some x) r) (that_set_other l j new e t)

  pub that_set_none : (l : List A) (j : ℕ) (new : A) → ((v : ℕ) → v < length l → v ≢ j → test (get_or l v d) ≡ false) → test new ≡ false → first_that test (set l j new) ≡ none
  that_set_none l j new rest t = that_nowhere (set l j new) (record { fails = λ v h. same_or v j (at v h) (past v h) })
    where
      at : (v : ℕ) → v < length (set l j new) → v ≡ j → test (get_or (set l j new) v d) ≡ false
      at v h e = let k : j < length l = omega (arith, length-set l j new) in rw (e, get_or-set_same l j new d k) t

      past : (v : ℕ) → v < length (set l j new) → v ≢ j → test (get_or (set l j new) v d) ≡ false
      past v h n = rw (get_or-set_other l j v new d n) (rest v (omega (arith, length-set l j new)) n)

-- ---- numbers of elements

module _ {A : Type 0} (test : A → Bool) where
  pub any_count : (l : List A) → any_of test l ≡ ltb 0 (count_of test l)
  unfolding any_of count_of
  any_count [] = refl
  any_count (x ∷ l) = go (test x) (any_count l)
    where
      go : (b : Bool) → any_of test l ≡ ltb 0 (count_of test l) → (b || any_of test l) ≡ ltb 0 (cond b 1 0 + count_of test l)
      go true ih = let e : 1 + count_of test l ≡ suc (count_of test l) = omega arith in rw e (sym (lt-ltb 0 (suc (count_of test l)) (omega arith)))
      go false ih = let e : 0 + count_of test l ≡ count_of test l = omega arith in rw e ih

  -- none passes the test
  pub count_none : (d : A) (l : List A) → count_of test l ≡ 0 → (v : ℕ) → v < length l → test (get_or l v d) ≡ true → ⊥
  unfolding count_of
  count_none d [] e v h t = omega arith
  count_none d (x ∷ l) e zero h t = omega (arith, rw t at e)
  count_none d (x ∷ l) e (suc v) h t = count_none d l (omega (arith, e)) v (omega arith) t

  pub none_count : (d : A) (l : List A) → ((v : ℕ) → v < length l → test (get_or l v d) ≡ true → ⊥) → count_of test l ≡ 0
  unfolding count_of
  none_count d [] f = refl
  none_count d (x ∷ l) f =
      rw (never_true (test x) (f 0 (omega arith))) (omega (arith, none_count d l (λ v h. f (suc v) (omega arith))))

  pub count_most : (l : List A) → count_of test l ≤ length l
  unfolding count_of
  count_most [] = omega arith
  count_most (x ∷ l) = go (test x) (count_most l)
    where
      go : (b : Bool) → count_of test l ≤ length l → cond b 1 0 + count_of test l ≤ suc (length l)
      go true ih = omega arith
      go false ih = omega arith

-- a list where an element passes the opposite test, and one where none does
module _ {A : Type 0} (test vacant : A → Bool) (opposite : (x : A) → test x ≡ not (vacant x)) where
  pub count_full : (i : ℕ) (l : List A) → first_from vacant i l ≡ None → count_of test l ≡ length l
  unfolding first_from count_of
  count_full i [] e = refl
  count_full i (x ∷ l) e = go (vacant x) (opposite x) (count_full (suc i) l) e
    where
      go : (b : Bool) → test x ≡ not b → (first_from vacant (suc i) l ≡ None → count_of test l ≡ length l) → cond b (Some i) (first_from vacant (suc i) l) ≡ None
          → cond (test x) 1 0 + count_of test l ≡ suc (length l)
      go true t ih e = absurd (let z : ◌≡◌ {A = ℕ} 0 1 = cc in omega arith)
      go false t ih e = rw t (omega (arith, ih e))

  pub count_room : (i : ℕ) (l : List A) (j : ℕ) → first_from vacant i l ≡ Some j → count_of test l < length l
  unfolding first_from count_of
  count_room i [] j e = absurd (let z : ◌≡◌ {A = ℕ} 0 1 = cc in omega arith)
  count_room i (x ∷ l) j e = go (vacant x) (opposite x) (count_room (suc i) l j) e
    where
      go : (b : Bool) → test x ≡ not b → (first_from vacant (suc i) l ≡ Some j → count_of test l < length l) → cond b (Some i) (first_from vacant (suc i) l) ≡ Some j
          → cond (test x) 1 0 + count_of test l < suc (length l)
      go true t ih e = rw t (omega (arith, count_most test l))
      go false t ih e = rw t (omega (arith, ih e))
