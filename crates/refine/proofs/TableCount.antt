-- A sorted table with the keys of a list's elements, which are distinct, has as many rows as there are such elements.
use mathlib.Core.Path.{◌≡◌, refl, sym, ap, ◌∙◌}
use mathlib.Core.List.{List, [], ◌∷◌}
use mathlib.Core.Bool.{Bool, true, false, cond, true≢false}
use mathlib.Core.Option.{some}
use Prim.Native.Nat.{ℕ, suc, ◌+◌}
use native.Mathlib.Omega.{arith}
use lib.ListN.{length}
use borrow.Author.Tests.{eq-eqb, ne_eqb}
use Rattle.disc.proofs.Compare.{tri_same, same_or}
use Rattle.plain.specs.Table.{Table, table_find, table_put, table_remove, SortedFrom, is_some}
use Rattle.plain.proofs.QuestionLaws.{true_yes, is_some_lem}
use Rattle.plain.proofs.TableLaws.{find_put, find_put_other, find_remove, find_remove_other, find_above, sorted_put, sorted_remove, find_ext, length_put}
use Rattle.state.specs.Areas.{count_of}
use Rattle.state.proofs.SearchLaws.{first_that, that_nowhere}
use Rattle.state.proofs.DistinctLaws.{keyed, Distinct, distinct_tail, distinct_head}

module _ {B : Type 0} where
  -- a row taken out and put back
  put_back : (n b : ℕ) (a : B) (t : Table B) → SortedFrom b t → table_find n t ≡ some a → table_put n a (table_remove n t) ≡ t
  put_back n b a t ok e =
      find_ext b (table_put n a (table_remove n t)) t (sorted_put b n a (table_remove n t) (find_above n b a t ok e) (sorted_remove b n t ok)) ok (λ k. same_or
      k
      n
      (λ q. rw q (find_put n a (table_remove n t) ∙ sym e))
      (λ d. find_put_other k n a (table_remove n t) d ∙ find_remove_other k n b t ok d))

  pub length_removed : (n b : ℕ) (a : B) (t : Table B) → SortedFrom b t → table_find n t ≡ some a → length t ≡ suc (length (table_remove n t))
  length_removed n b a t ok e =
      let all = rw (find_remove n b t ok) at (length_put n a (table_remove n t)) in
      omega (arith, ap length (put_back n b a t ok e))

module _ {A B : Type 0} (test : A → Bool) (key : A → ℕ) (d : A) where
  -- no key: no row
  no_rows : (t : Table B) → ((n : ℕ) → is_some (table_find n t) ≡ false) → length t ≡ 0
  no_rows [] h = refl
  no_rows (r ∷ t) h = absurd (true≢false (rw (tri_same r.key) at (h r.key)))

  pub table_count : (l : List A) (b : ℕ) (t : Table B) → SortedFrom b t → Distinct test key d l → ((n : ℕ) → is_some (table_find n t) ≡ is_some (first_that (keyed test key n) l))
      → length t ≡ count_of test l
  unfolding first_that count_of
  table_count [] b t ok o h = no_rows t h
  table_count (x ∷ l) b t ok o h = go (test x) refl (λ u s g. table_count l b u s (distinct_tail test key d x l o) g)
    where
      go : (v : Bool) → test x ≡ v → ((u : Table B) → SortedFrom b u → ((n : ℕ) → is_some (table_find n u) ≡ is_some (first_that (keyed test key n) l)) → length u ≡ count_of test l)
          → length t ≡ cond v 1 0 + count_of test l
      go true e ih =
          let n : ℕ = key x in
          let own : is_some (table_find n t) ≡ true = rw (e, eq-eqb n n refl) at (h n) in
          let found = is_some_lem (table_find n t) (true_yes own) in
          let rest : (k : ℕ) → is_some (table_find k (table_remove n t)) ≡ is_some (first_that (keyed test key k) l) = λ k. same_or
          k
          n
          (λ q. rw (q, find_remove n b t ok, that_nowhere (keyed test key n) d l (distinct_head test key d x l o e)))
          (λ p. rw (find_remove_other k n b t ok p) (rw (e, ne_eqb n k (λ z. p (sym z))) at (h k))) in
          omega (arith, length_removed n b found.0 t ok found.1, ih (table_remove n t) (sorted_remove b n t ok) rest)
      go false e ih = omega (arith, ih t ok (λ n. rw e at (h n)))
