-- The places of a catalog, and what a message takes: "SYS takes before the file takes or gives back, so slices given back by
-- the same message don't serve SYS."
use Rattle.std.specs.Prelude.{cond, List, [], ◌∷◌, ◌++◌, length, replicate, leb}
use Prim.Native.Nat.{ℕ, suc, ◌+◌, ◌*◌, ◌-◌, compare}
use Rattle.disc.specs.Names.{key_of}
use Rattle.disc.specs.Slices.{one_if_same, taken, last_of}
use Rattle.disc.specs.OneStretch.{taken_for_file}
use Rattle.disc.specs.Stretches.{stretch_count}
use Rattle.disc.specs.Catalog.{Catalog, slices_needed}
use Rattle.plain.specs.Table.{Table, total}
use Rattle.plain.specs.Unit.{Plain, File, M, held, free_slices, with_tables}
use Rattle.plain.specs.Questions.{Outcome, asks, replies, done}

-- 1 for a name with key k.
abbrev pub has_key : ℕ → ℕ → ℕ → ℕ
has_key H k n = one_if_same (compare (key_of H n) k)

-- The places that reserved names with key k take, beside a number of others.
abbrev pub with_reserved : ℕ → ℕ → ℕ → List ℕ → ℕ
with_reserved H k others [] = others
with_reserved H k others (n ∷ l) = with_reserved H k (others + has_key H k n) l

-- The places of a catalog that names with key k take, beside some files those that are reserved.
abbrev pub places_taken : ℕ → ℕ → Catalog → Table File → ℕ
places_taken H k c files = with_reserved H k (total (λ r. has_key H k r.key) files) c.reserved

-- The layers of a catalog for a name beside some files: "With all 16 times L places taken by other names, SYS first grows by H
-- zeroed sectors."
abbrev pub layers_for : ℕ → Catalog → ℕ → Table File → ℕ
layers_for H c n others = cond (leb (16 * c.layers) (places_taken H (key_of H n) c others)) (suc c.layers) c.layers

-- The slices that a catalog takes for a number of layers, and those that the file takes after it.
pub record Taking : Type 0 where
  pub layers : ℕ
  pub for_catalog : ℕ
  pub for_file : ℕ
  pub catalog_new : List ℕ
  pub file_new : List ℕ

-- With these layers of the catalog, a file with these slices takes `for_file` more: "SYS still takes first, one by one" (R-6).
abbrev pub taking : Plain → Catalog → ℕ → List ℕ → ℕ → Taking
taking p c layers slices for_file =
    let for_catalog : ℕ = slices_needed p.H p.s c layers - length c.slices in
    let catalog_new : List ℕ = taken (M p) (held p) (last_of c.slices) for_catalog in
    record {
      layers = layers;
      for_catalog = for_catalog;
      for_file = for_file;
      catalog_new = catalog_new;
      file_new = taken_for_file (M p) (catalog_new ++ held p) slices for_file;
    }

-- "7. Enough free slices for SYS and file together? 1100h. 8. At most 127 stretches in each? 1008h." Then the unit has
-- the files given, and its catalog the new layers and slices; `slices` are those of the file as it would stand.
abbrev pub enough : Plain → Catalog → Taking → List ℕ → List ℕ → Table File → Outcome
enough p c t slices lent files =
    asks (leb (t.for_catalog + t.for_file) (free_slices p)) (replies p 0x1100 lent)
    (asks (leb (stretch_count (c.slices ++ t.catalog_new)) 127) (replies p 0x1008 lent)
    (asks (leb (stretch_count slices) 127) (replies p 0x1008 lent)
    (done (with_tables p t.layers (c.slices ++ t.catalog_new) files p.areas) lent)))

-- n sectors of zeros.
abbrev pub zero_sectors : ℕ → List (List ℕ)
zero_sectors n = replicate n (replicate 256 0)
