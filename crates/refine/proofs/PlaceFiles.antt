-- A table whose keys are the names that stand in the places of SYS, each once: a sum over the table is one over the places.
use mathlib.Core.Path.{◌≡◌, refl, sym, ap, ◌∙◌}
use mathlib.Core.Option.{Option, none, some}
use Prim.Native.Nat.{ℕ, ◌<◌}
use native.Mathlib.Omega.{arith}
use Rattle.disc.specs.Entries.{name_at}
use Rattle.plain.specs.Table.{Row, Table, table_find, SortedFrom, total}
use Rattle.plain.proofs.TableLaws.{some≢none, some_inj, never_some, find_above, find_ext}
use Rattle.plain.proofs.Collect.{sum_below, collect, weight_if, sorted_collect, collect_find, find_collect, total_collect}

-- a row of a name, if it has a value
abbrev pub row_of : {A : Type 0} → ℕ → Option A → Option (Row A)
row_of n none = none
row_of n (some a) = some (record { key = n; val = a })

row_some : {A : Type 0} (n : ℕ) (o : Option A) (r : Row A) → row_of n o ≡ some r → (n ≡ r.key) × (o ≡ some r.val)
row_some n none r e = absurd (some≢none (sym e))
row_some n (some a) r e = let q = some_inj e in (ap (λ (x : Row _). x.key) q, ap (λ (x : Row _). some x.val) q)

-- the row of the name that stands in place t
abbrev pub row_at : {A : Type 0} → (ℕ → ℕ → ℕ) → Table A → ℕ → Option (Row A)
row_at P T t = row_of (name_at P t) (table_find (name_at P t) T)

module _ {A : Type 0} (P : ℕ → ℕ → ℕ) {N : ℕ} (T : Table A) (sorted : SortedFrom 0 T)
    (there : (n : ℕ) (a : A) → table_find n T ≡ some a → (t : ℕ) × (t < N) × (name_at P t ≡ n))
    (alone : (t u : ℕ) → t < N → u < N → name_at P t ≡ name_at P u → (name_at P t ≡ 0 → ⊥) → t ≡ u) where
  pub positive_name : (t : ℕ) (x : Row A) → row_at P T t ≡ some x → 0 < x.key
  positive_name t x e =
      let q = row_some (name_at P t) (table_find (name_at P t) T) x e in
      omega (arith, q.0, find_above (name_at P t) 0 x.val T sorted q.1)

  pub one_place : (t u : ℕ) (x y : Row A) → t < N → u < N → row_at P T t ≡ some x → row_at P T u ≡ some y → x.key ≡ y.key → t ≡ u
  one_place t u x y a b e f z =
      let q = row_some (name_at P t) (table_find (name_at P t) T) x e in
      let v = row_some (name_at P u) (table_find (name_at P u) T) y f in
      alone t u a b (q.0 ∙ z ∙ sym v.0) (λ w. let k = positive_name t x e in let m = q.0 in omega arith)

  -- the rows collected from the places are the table's
  pub collected : collect (row_at P T) N ≡ T
  collected = find_ext 0 (collect (row_at P T) N) T (sorted_collect (row_at P T) positive_name N) sorted (λ n. go n (table_find n T) refl)
    where
      absent : (n : ℕ) → table_find n T ≡ none → table_find n (collect (row_at P T) N) ≡ none
      absent n e = never_some (table_find n (collect (row_at P T) N)) (λ f h.
          let c = collect_find (row_at P T) positive_name N n f h in
          let q = row_some (name_at P c.0) (table_find (name_at P c.0) T) (record { key = n; val = f }) c.2 in
          some≢none (sym q.1 ∙ ap (λ (k : ℕ). table_find k T) q.0 ∙ e))

      go : (n : ℕ) (o : Option A) → table_find n T ≡ o → table_find n (collect (row_at P T) N) ≡ table_find n T
      go n none e = absent n e ∙ sym e
      go n (some f) e =
          let s = there n f e in
          let here : row_at P T s.0 ≡ some (record { key = n; val = f }) = ap (λ (k : ℕ). row_of k (table_find k T)) s.2 ∙ ap (row_of n) e in
          find_collect (row_at P T) positive_name N one_place N (omega arith) s.0 (record { key = n; val = f }) s.1 here ∙ sym e

  pub total_places : (w : Row A → ℕ) → total w T ≡ sum_below N (λ t. weight_if w (row_at P T t))
  total_places w = ap (total w) (sym collected) ∙ total_collect (row_at P T) positive_name N one_place w N (omega arith)
