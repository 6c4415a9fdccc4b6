-- Laws of lists in which the elements that pass a test have distinct keys: user entries by identification, descriptors by name.
use Rattle.std.specs.Prelude.{Some}
use mathlib.Core.Path.{◌≡◌, refl, sym, ap, ◌∙◌}
use mathlib.Core.List.{List, ◌∷◌}
use mathlib.Core.Bool.{Bool, true, false, ◌&&◌, true≢false}
use mathlib.Core.Logic.{◌≢◌}
use Prim.Native.Nat.{ℕ, suc, ◌+◌, ◌<◌}
use native.Mathlib.Omega.{arith}
use lib.ListN.{length, get_or, set, length-set}
use lib.Seq.{get_or-set_same, get_or-set_other}
use lib.Dec.{eqb}
use borrow.Author.Tests.{eq-eqb, ne_eqb, eqb-true}
use Rattle.disc.proofs.Compare.{same_or}
use Rattle.state.specs.Areas.{first_from}
use Rattle.state.proofs.SearchLaws.{FirstAt, Nowhere, at_first}

-- an element passes the test under key n
abbrev pub keyed : {A : Type 0} → (A → Bool) → (A → ℕ) → ℕ → A → Bool
keyed test key n x = test x && eqb (key x) n

pub record Distinct {A : Type 0} (test : A → Bool) (key : A → ℕ) (d : A) (l : List A) : Type 0 where
  pub only : (i j : ℕ) → i < length l → j < length l → test (get_or l i d) ≡ true → test (get_or l j d) ≡ true → key (get_or l i d) ≡ key (get_or l j d) → i ≡ j

module _ {A : Type 0} (test : A → Bool) (key : A → ℕ) where
  pub keyed_test : (n : ℕ) (x : A) → keyed test key n x ≡ true → test x ≡ true
  keyed_test n x e = go (test x) refl e
    where
      go : (b : Bool) → test x ≡ b → (b && eqb (key x) n) ≡ true → test x ≡ true
      go true t e = t
      go false t e = absurd (true≢false (sym e))

  pub keyed_key : (n : ℕ) (x : A) → keyed test key n x ≡ true → key x ≡ n
  keyed_key n x e = eqb-true (key x) n (rw (keyed_test n x e) at e)

  -- not a true test: either the element fails, or its key is another
  pub keyed_false : (n : ℕ) (x : A) → (test x ≡ true → key x ≡ n → ⊥) → keyed test key n x ≡ false
  keyed_false n x h = go (test x) refl
    where
      go : (b : Bool) → test x ≡ b → (b && eqb (key x) n) ≡ false
      go true t = ne_eqb (key x) n (h t)
      go false t = refl

  pub keyed_other : (n : ℕ) (x : A) → key x ≢ n → keyed test key n x ≡ false
  keyed_other n x h = keyed_false n x (λ _. h)

module _ {A : Type 0} (test : A → Bool) (key : A → ℕ) (d : A) where
  pub distinct_tail : (x : A) (l : List A) → Distinct test key d (x ∷ l) → Distinct test key d l
  distinct_tail x l o = record { only = λ i j hi hj ti tj e. omega (arith, o.only (suc i) (suc j) (omega arith) (omega arith) ti tj e) }

  pub distinct_head : (x : A) (l : List A) → Distinct test key d (x ∷ l) → test x ≡ true → Nowhere (keyed test key (key x)) d l
  distinct_head x l o t = record { fails = λ v h. keyed_false test key (key x) (get_or l v d) (λ tv e. omega (arith, o.only 0 (suc v) (omega arith) (omega arith) t tv (sym e))) }

  -- the only element under its key
  pub distinct_rest : (l : List A) (j : ℕ) → Distinct test key d l → j < length l → test (get_or l j d) ≡ true → (v : ℕ) → v < length l → v ≢ j → keyed test key (key (get_or l j d)) (get_or l v d) ≡ false
  distinct_rest l j o h t v k n = keyed_false test key (key (get_or l j d)) (get_or l v d) (λ tv e. n (o.only v j k h tv t e))

  -- such an element is the first under its key
  pub distinct_first : (l : List A) (j : ℕ) → Distinct test key d l → j < length l → test (get_or l j d) ≡ true → first_from (keyed test key (key (get_or l j d))) 0 l ≡ Some j
  distinct_first l j o h t =
      let e : 0 + j ≡ j = omega arith in
      let first : FirstAt (keyed test key (key (get_or l j d))) d l j = record {
        inside = h;
        passes = rw (t, eq-eqb (key (get_or l j d)) (key (get_or l j d)) refl);
        before = λ v k. distinct_rest l j o h t v (omega arith) (omega arith);
      } in
      at_first (keyed test key (key (get_or l j d))) d 0 l j first ∙ ap Some e

  -- kept if the new element's key is under no other place
  pub distinct-set : (l : List A) (j : ℕ) (new : A) → Distinct test key d l
      → (test new ≡ true → (v : ℕ) → v < length l → v ≢ j → test (get_or l v d) ≡ true → key (get_or l v d) ≡ key new → ⊥) → Distinct test key d (set l j new)
  distinct-set l j new o fresh = record { only = at }
    where
      inside : (i : ℕ) → i < length (set l j new) → i < length l
      inside i h = omega (arith, length-set l j new)

      clash : (i k : ℕ) → i ≡ j → i < length (set l j new) → k < length (set l j new) → test (get_or (set l j new) i d) ≡ true → test (get_or (set l j new) k d) ≡ true
          → key (get_or (set l j new) i d) ≡ key (get_or (set l j new) k d) → k ≢ j → ⊥
      clash i k q hi hk ti tk e n =
          let same : get_or (set l j new) i d ≡ new = rw q (get_or-set_same l j new d (omega (arith, inside i hi))) in
          let past : get_or (set l j new) k d ≡ get_or l k d = get_or-set_other l j k new d n in
          fresh (rw same at ti) k (inside k hk) n (rw past at tk) (sym (rw (same, past) at e))

      at : (i k : ℕ) → i < length (set l j new) → k < length (set l j new) → test (get_or (set l j new) i d) ≡ true → test (get_or (set l j new) k d) ≡ true
          → key (get_or (set l j new) i d) ≡ key (get_or (set l j new) k d) → i ≡ k
      at i k hi hk ti tk e =
          same_or
          i
          j
          (λ q. same_or k j (λ r. q ∙ sym r) (λ n. absurd (clash i k q hi hk ti tk e n)))
          (λ m. same_or
          k
          j
          (λ r. absurd (clash k i r hk hi tk ti (sym e) m))
          (λ n. let p : get_or (set l j new) i d ≡ get_or l i d = get_or-set_other l j i new d m in
          let s : get_or (set l j new) k d ≡ get_or l k d = get_or-set_other l j k new d n in
          o.only i k (inside i hi) (inside k hk) (rw p at ti) (rw s at tk) (rw (p, s) at e)))
