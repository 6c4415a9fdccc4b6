-- The layers of a catalog for a name, and the places that names of a key take.
use mathlib.Core.Path.{◌≡◌, refl, ap}
use mathlib.Core.List.{List, [], ◌∷◌}
use mathlib.Core.Option.{some}
use Prim.Native.Nat.{ℕ, suc, ◌+◌, ◌*◌, ◌≤◌, ◌<◌}
use native.Mathlib.Omega.{arith}
use lib.Dec.{leb}
use borrow.Author.Tests.{le-leb, lt-leb}
use Rattle.disc.specs.Names.{key_of}
use Rattle.disc.specs.Catalog.{Catalog}
use Rattle.disc.proofs.Compare.{same_or, below_or, tri_same}
use Rattle.disc.proofs.SliceLaws.{one_other}
use Rattle.plain.specs.Table.{Row, Table, table_find, table_put, table_remove, total}
use Rattle.plain.specs.Unit.{File}
use Rattle.plain.specs.Taking.{has_key, with_reserved, places_taken, layers_for}
use Rattle.plain.proofs.QuestionLaws.{cond_law}
use Rattle.plain.proofs.TableLaws.{weight_at, total_put, total_remove}

-- ---- the layers for a name

module _ (H : ℕ) (c : Catalog) (n : ℕ) (others : Table File) where
  abbrev taken : ℕ
  taken = places_taken H (key_of H n) c others

  pub layers_up : c.layers ≤ layers_for H c n others
  layers_up = cond_law (λ l. c.layers ≤ l) (leb (16 * c.layers) taken) (suc c.layers) c.layers (omega arith) (omega arith)

  -- a key with a place left: the catalog stays
  pub layers_stay : taken < 16 * c.layers → layers_for H c n others ≡ c.layers
  layers_stay lt = rw (lt-leb (16 * c.layers) taken lt) refl

  -- a full key: it grows by a layer
  pub layers_grow : 16 * c.layers ≤ taken → layers_for H c n others ≡ suc c.layers
  layers_grow le = rw (le-leb (16 * c.layers) taken le) refl

  -- with these layers the key has a place left
  pub layers_fit : ((k : ℕ) → places_taken H k c others ≤ 16 * c.layers) → taken < 16 * layers_for H c n others
  layers_fit ok = below_or taken (16 * c.layers)
      (λ lt. omega (arith, layers_stay lt))
      (λ le. omega (arith, layers_grow le, ok (key_of H n)))

-- ---- the places of a key

own_key : (H n : ℕ) → has_key H (key_of H n) n ≡ 1
own_key H n = rw (tri_same (key_of H n)) refl

-- the reserved names take the same places beside whatever files
reserved_le : (H k : ℕ) (l : List ℕ) (a b d : ℕ) → a ≤ b + d → with_reserved H k a l ≤ with_reserved H k b l + d
reserved_le H k [] a b d h = h
reserved_le H k (n ∷ l) a b d h = reserved_le H k l (a + has_key H k n) (b + has_key H k n) d (omega arith)

module _ (H k : ℕ) (c : Catalog) where
  abbrev weight : Row File → ℕ
  weight r = has_key H k r.key

  places_le : (files others : Table File) (d : ℕ) → total weight files ≤ total weight others + d → places_taken H k c files ≤ places_taken H k c others + d
  places_le files others d h = reserved_le H k c.reserved (total weight files) (total weight others) d h

  -- one name more takes one place of its key
  places_put : (n : ℕ) (f : File) (others : Table File) → places_taken H k c (table_put n f others) ≤ places_taken H k c others + has_key H k n
  places_put n f others = places_le (table_put n f others) others (has_key H k n) (omega (arith, total_put weight n f others))

  pub places_remove : (n : ℕ) (files : Table File) → places_taken H k c (table_remove n files) ≤ places_taken H k c files
  places_remove n files = omega (arith, places_le (table_remove n files) files 0 (omega (arith, total_remove weight n files)))

  -- a name's file is another one
  pub places_again : (n : ℕ) (f g : File) (files : Table File) → table_find n files ≡ some f → places_taken H k c (table_put n g files) ≤ places_taken H k c files
  places_again n f g files e =
      omega (arith, places_le (table_put n g files) files 0 (omega (arith, total_put weight n g files, ap (weight_at weight n) e)))

  pub places_same : (n : ℕ) (f g : File) (files : Table File) → table_find n files ≡ some f
      → places_taken H k c (table_put n g (table_remove n files)) ≤ places_taken H k c files
  places_same n f g files e =
      let w = total_put weight n g (table_remove n files) in
      omega (arith, places_le (table_put n g (table_remove n files)) files 0 (omega (arith, w, total_remove weight n files, ap (weight_at weight n) e)))

-- with a place left of its key, a new name finds one
pub chains_put : (H : ℕ) (c : Catalog) (l n : ℕ) (f : File) (others : Table File) → ((k : ℕ) → places_taken H k c others ≤ 16 * l)
    → places_taken H (key_of H n) c others < 16 * l → (k : ℕ) → places_taken H k c (table_put n f others) ≤ 16 * l
chains_put H c l n f others ok lt k = same_or (key_of H n) k
    (λ e. rw (← e) (omega (arith, places_put H (key_of H n) c n f others, own_key H n)))
    (λ d. omega (arith, places_put H k c n f others, one_other (key_of H n) k d, ok k))
