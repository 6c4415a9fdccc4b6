-- A finite table as a list of rows in increasing order of their keys: one list for each table, so that tables with the
-- same rows are equal. Files and open areas are tables by name, the users of an area a table by sender.
use Rattle.std.specs.Prelude.{◌≡◌, List, [], ◌∷◌, Bool, true, false}
use Rattle.std.proofs.Math.Option.{Option, none, some}
use Prim.Native.Nat.{ℕ, ◌+◌, ◌<◌, compare, Ordering}

pub record Row (A : Type 0) : Type 0 where
  pub key : ℕ
  pub val : A

abbrev pub Table : Type 0 → Type 0
Table A = List (Row A)

module _ {A : Type 0} where
  abbrev pub find_by : Ordering → A → Option A → Option A
  find_by Ordering.lt a rest = none
  find_by Ordering.eq a rest = some a
  find_by Ordering.gt a rest = rest

  -- The value of a key.
  abbrev pub table_find : ℕ → Table A → Option A
  table_find n [] = none
  table_find n (r ∷ t) = find_by (compare n r.key) r.val (table_find n t)

  abbrev pub put_by : Ordering → ℕ → A → Row A → Table A → Table A → Table A
  put_by Ordering.lt n a r t rest = record { key = n; val = a } ∷ r ∷ t
  put_by Ordering.eq n a r t rest = record { key = n; val = a } ∷ t
  put_by Ordering.gt n a r t rest = r ∷ rest

  -- The table with a value for a key, in the place of its old one if it had one.
  abbrev pub table_put : ℕ → A → Table A → Table A
  table_put n a [] = record { key = n; val = a } ∷ []
  table_put n a (r ∷ t) = put_by (compare n r.key) n a r t (table_put n a t)

  abbrev pub remove_by : Ordering → Row A → Table A → Table A → Table A
  remove_by Ordering.lt r t rest = r ∷ t
  remove_by Ordering.eq r t rest = t
  remove_by Ordering.gt r t rest = r ∷ rest

  -- The table without a key.
  abbrev pub table_remove : ℕ → Table A → Table A
  table_remove n [] = []
  table_remove n (r ∷ t) = remove_by (compare n r.key) r t (table_remove n t)

  -- The keys increase, and the first is above b.
  abbrev pub SortedFrom : ℕ → Table A → Type 0
  SortedFrom b [] = Unit {0}
  SortedFrom b (r ∷ t) = (b < r.key) × SortedFrom r.key t

  -- The sum of a weight over the rows.
  abbrev pub total : (Row A → ℕ) → Table A → ℕ
  total w [] = 0
  total w (r ∷ t) = w r + total w t

  -- What holds of every key with its value.
  abbrev pub Every : (ℕ → A → Type 0) → Table A → Type 0
  Every P t = (n : ℕ) (a : A) → table_find n t ≡ some a → P n a

-- A table with another value in each row.
module _ {A B : Type 0} where
  abbrev pub table_map : (ℕ → A → B) → Table A → Table B
  table_map f [] = []
  table_map f (r ∷ t) = record { key = r.key; val = f r.key r.val } ∷ table_map f t

abbrev pub is_some : {A : Type 0} → Option A → Bool
is_some none = false
is_some (some a) = true
