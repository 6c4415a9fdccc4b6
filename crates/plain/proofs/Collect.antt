-- A table collected from an array: each place holds a row or none, and no two hold the same key.
use mathlib.Core.Path.{◌≡◌, refl, sym, ap, ◌∙◌}
use mathlib.Core.Bool.{Bool, true, false, cond}
use mathlib.Core.List.{[]}
use mathlib.Core.Option.{Option, none, some}
use Prim.Native.Nat.{ℕ, zero, suc, ◌+◌, ◌≤◌, ◌<◌}
use native.Mathlib.Omega.{arith}
use Rattle.disc.proofs.Compare.{same_or}
use Rattle.plain.specs.Table.{Row, Table, table_find, table_put, SortedFrom, total}
use Rattle.plain.proofs.TableLaws.{some≢none, some_inj, never_some, find_put, find_put_other, sorted_put, total_put, weight_at}

-- f 0 + .. + f (n - 1)
unfoldable pub sum_below : ℕ → (ℕ → ℕ) → ℕ
sum_below zero f = 0
sum_below (suc n) f = sum_below n f + f n

pub sum_ext : (n : ℕ) (f g : ℕ → ℕ) → ((t : ℕ) → t < n → f t ≡ g t) → sum_below n f ≡ sum_below n g
unfolding sum_below
sum_ext zero f g e = refl
sum_ext (suc n) f g e = omega (arith, sum_ext n f g (λ t h. e t (omega arith)), e n (omega arith))

module _ {A : Type 0} where
  abbrev add : Option (Row A) → Table A → Table A
  add none t = t
  add (some r) t = table_put r.key r.val t

  abbrev pub collect : (ℕ → Option (Row A)) → ℕ → Table A
  collect c zero = []
  collect c (suc n) = add (c n) (collect c n)

  -- a row where a test says so; none of the key 0
  abbrev pub row_if : Bool → ℕ → A → Option (Row A)
  row_if b zero a = none
  row_if b (suc n) a = cond b (some (record { key = suc n; val = a })) none

  pub record IsRow (b : Bool) (n : ℕ) (a : A) (r : Row A) : Type 0 where
    pub given : b ≡ true
    pub key : n ≡ r.key
    pub val : a ≡ r.val
    pub positive : 0 < n

  pub row_some : (b : Bool) (n : ℕ) (a : A) (r : Row A) → row_if b n a ≡ some r → IsRow b n a r
  row_some b zero a r e = absurd (some≢none (sym e))
  row_some false (suc n) a r e = absurd (some≢none (sym e))
  row_some true (suc n) a r e =
      let q = some_inj e in
      record { given = refl; key = ap (λ (x : Row A). x.key) q; val = ap (λ (x : Row A). x.val) q; positive = omega arith }

  pub row_is : (b : Bool) (n : ℕ) (a : A) → b ≡ true → 0 < n → row_if b n a ≡ some (record { key = n; val = a })
  row_is b zero a e h = absurd (omega arith)
  row_is b (suc n) a e h = rw e

  abbrev pub weight_if : (Row A → ℕ) → Option (Row A) → ℕ
  weight_if w none = 0
  weight_if w (some r) = w r

  module _ (c : ℕ → Option (Row A)) (pos : (t : ℕ) (r : Row A) → c t ≡ some r → 0 < r.key) where
    pub sorted_collect : (n : ℕ) → SortedFrom 0 (collect c n)
    sorted_collect zero = tt
    sorted_collect (suc n) = go (c n) refl (sorted_collect n)
      where
        go : (o : Option (Row A)) → c n ≡ o → SortedFrom 0 (collect c n) → SortedFrom 0 (add o (collect c n))
        go none e h = h
        go (some r) e h = sorted_put 0 r.key r.val (collect c n) (pos n r e) h

    -- what is found stands at a place
    pub collect_find : (n k : ℕ) (a : A) → table_find k (collect c n) ≡ some a → (t : ℕ) × (t < n) × (c t ≡ some (record { key = k; val = a }))
    collect_find zero k a h = absurd (some≢none (sym h))
    collect_find (suc n) k a h = go (c n) refl h (λ q. collect_find n k a q)
      where
        up : ((t : ℕ) × (t < n) × (c t ≡ some (record { key = k; val = a }))) → (t : ℕ) × (t < suc n) × (c t ≡ some (record { key = k; val = a }))
        up x = (x.0, omega (arith, x.1), x.2)

        go : (o : Option (Row A)) → c n ≡ o → table_find k (add o (collect c n)) ≡ some a → (table_find k (collect c n) ≡ some a → (t : ℕ) × (t < n) × (c t ≡ some (record { key = k; val = a })))
            → (t : ℕ) × (t < suc n) × (c t ≡ some (record { key = k; val = a }))
        go none e q ih = up (ih q)
        go (some r) e q ih = same_or k r.key
            (λ z.
            let v : r.val ≡ a = some_inj (sym (find_put r.key r.val (collect c n)) ∙ ap (λ (x : ℕ). table_find x (table_put r.key r.val (collect c n))) (sym z) ∙ q) in
            let row : r ≡ record { key = k; val = a } = λ i. record { key = sym z i; val = v i } in
            (n, omega arith, e ∙ ap some row))
            (λ d. up (ih (sym (find_put_other k r.key r.val (collect c n) d) ∙ q)))

    module _ (N : ℕ) (alone : (t u : ℕ) (r s : Row A) → t < N → u < N → c t ≡ some r → c u ≡ some s → r.key ≡ s.key → t ≡ u) where
      fresh : (n : ℕ) → n < N → (r : Row A) → c n ≡ some r → table_find r.key (collect c n) ≡ none
      fresh n x r e = never_some (table_find r.key (collect c n)) (λ a h.
          let y = collect_find n r.key a h in
          let z : n ≡ y.0 = alone n y.0 r (record { key = r.key; val = a }) x (omega (arith, y.1)) e y.2 refl in
          omega (arith, y.1))

      pub find_collect : (n : ℕ) → n ≤ N → (t : ℕ) (r : Row A) → t < n → c t ≡ some r → table_find r.key (collect c n) ≡ some r.val
      find_collect zero le t r x e = absurd (omega arith)
      find_collect (suc n) le t r x e = go (c n) refl (λ q. find_collect n (omega arith) t r q e)
        where
          go : (o : Option (Row A)) → c n ≡ o → (t < n → table_find r.key (collect c n) ≡ some r.val) → table_find r.key (add o (collect c n)) ≡ some r.val
          go none h ih = ih (same_or t n (λ z. absurd (some≢none (sym e ∙ ap c z ∙ h))) (λ d. omega arith))
          go (some s) h ih = same_or t n
              (λ z. let q : r ≡ s = some_inj (sym e ∙ ap c z ∙ h) in rw (← q) (find_put r.key r.val (collect c n)))
              (λ d. find_put_other r.key s.key s.val (collect c n) (λ z. d (alone t n r s (omega arith) (omega arith) e h z)) ∙ ih (omega arith))

      pub total_collect : (w : Row A → ℕ) (n : ℕ) → n ≤ N → total w (collect c n) ≡ sum_below n (λ t. weight_if w (c t))
      unfolding sum_below
      total_collect w zero le = refl
      total_collect w (suc n) le = go (c n) refl (total_collect w n (omega arith))
        where
          go : (o : Option (Row A)) → c n ≡ o → total w (collect c n) ≡ sum_below n (λ t. weight_if w (c t)) → total w (add o (collect c n)) ≡ sum_below n (λ t. weight_if w (c t)) + weight_if w o
          go none h ih = omega arith
          go (some r) h ih = omega (arith, total_put w r.key r.val (collect c n), ap (weight_at w r.key) (fresh n (omega arith) r h))
