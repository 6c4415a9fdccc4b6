-- The names of a key are as many as the used places in the sectors of the key: an unused place is room for one name more, and where
-- there is none, all 16 times L places are taken.
use mathlib.Core.Path.{◌≡◌, refl, sym, ap, ◌∙◌}
use mathlib.Core.Bool.{not}
use mathlib.Core.List.{List}
use mathlib.Core.Logic.{⊎_elim}
use mathlib.Core.Option.{Option}
use Prim.Native.Nat.{ℕ, ◌*◌, ◌/◌, ◌%◌, ◌≤◌, ◌<◌}
use native.Mathlib.Omega.{arith}
use lib.Dec.{T}
use Rattle.disc.specs.Entries.{name_at}
use Rattle.disc.specs.Catalog.{Catalog, places_of, is_reserved}
use Rattle.disc.proofs.Compare.{same_or}
use Rattle.plain.specs.Table.{Row, Table, table_find, SortedFrom, Every, total}
use Rattle.plain.specs.Unit.{Plain, File, entries, entry, sys_of}
use Rattle.plain.specs.Taking.{has_key, places_taken}
use Rattle.plain.specs.Good.{Good}
use Rattle.plain.proofs.TableLaws.{find_below}
use Rattle.plain.proofs.UnitLaws.{sorted_entries, total_entries, ordinary_files}
use Rattle.plain.proofs.Collect.{sum_below, weight_if}
use Rattle.sound.specs.Places.{Unused}
use Rattle.refine.specs.Represents.{PlaceOf, CatalogOf}
use Rattle.refine.proofs.CatalogLaws.{name_zero}
use Rattle.refine.proofs.KeyPlaces.{sum_le, sum_less, is_key, is_key_lem, is_same, places_of_lem, places_least}
use Rattle.refine.proofs.PlaceFiles.{row_of, total_places}

-- the entries of a catalog with some files are one table, in which the names of a key are those that take its places
pub record EntriesOf (H : ℕ) (c : Catalog) (files : Table File) (E : ℕ → Option (List ℕ)) : Type 0 where
  pub table : Table (List ℕ)
  pub sorted : SortedFrom 0 table
  pub found : (n : ℕ) → table_find n table ≡ E n
  pub counted : (k : ℕ) → places_taken H k c files ≡ total (λ r. has_key H k r.key) table

module _ {P : ℕ → ℕ → ℕ} {H : ℕ} {c : Catalog} {files : Table File} {E : ℕ → Option (List ℕ)} (all : EntriesOf H c files E)
    (on : CatalogOf P (places_of H c) H E) (k : ℕ) where
  abbrev N : ℕ
  N = places_of H c

  -- 1 for a name of key k, at the place where it stands; 1 for a place in a sector of key k
  abbrev name_weight : ℕ → Option (List ℕ) → ℕ
  name_weight n o = weight_if (λ (r : Row (List ℕ)). has_key H k r.key) (row_of n o)

  abbrev weight : ℕ → ℕ
  weight u = name_weight (name_at P u) (table_find (name_at P u) all.table)

  abbrev key_at : ℕ → ℕ
  key_at u = is_key k (u / 16 % H)

  -- THE COUNT
  taken_count : places_taken H k c files ≡ sum_below N weight
  taken_count =
      all.counted k
      ∙ total_places P all.table all.sorted (λ n e h. on.there n e (sym (all.found n) ∙ h)) on.alone (λ r. has_key H k r.key)

  unused_weight : (u : ℕ) → Unused P u → weight u ≡ 0
  unused_weight u z =
      ap (λ (n : ℕ). name_weight n (table_find n all.table)) (name_zero P u z)
      ∙ ap (name_weight 0) (find_below 0 0 all.table all.sorted (omega arith))

  used_weight : (u : ℕ) → PlaceOf P H E u → weight u ≡ key_at u
  used_weight u z = ap (name_weight (name_at P u)) (all.found (name_at P u) ∙ z.entered) ∙ ap (is_key k) (sym z.key)

  weight_most : (u : ℕ) → u < N → weight u ≤ key_at u
  weight_most u x = ⊎_elim
      (λ (z : Unused P u). omega (arith, unused_weight u z))
      (λ (z : PlaceOf P H E u). omega (arith, used_weight u z))
      (on.each u x)

  -- no key has more names than places
  pub places_most : places_taken H k c files ≤ 16 * c.layers
  places_most = omega (arith, taken_count, sum_le N weight key_at weight_most, places_of_lem H c.layers k)

  -- an unused place of the key: its names take fewer places than it has
  pub unused_room : (u : ℕ) → u < N → u / 16 % H ≡ k → Unused P u → places_taken H k c files < 16 * c.layers
  unused_room u x e z =
      omega (
        arith,
        taken_count,
        sum_less N u weight key_at x weight_most (omega (arith, unused_weight u z, ap (is_key k) e, is_key_lem k)),
        places_of_lem H c.layers k,
      )

  -- no unused place of the key: its names take them all
  pub used_full : k < H → ((u : ℕ) → u < N → u / 16 % H ≡ k → Unused P u → ⊥) → 16 * c.layers ≤ places_taken H k c files
  used_full low used =
      omega (
        arith,
        taken_count,
        sum_le N key_at weight (λ u x. ⊎_elim
            (λ (z : Unused P u). same_or (key_at u) 0 (λ e. omega arith) (λ d. absurd (used u x (is_same k (u / 16 % H) (omega arith)) z)))
            (λ (z : PlaceOf P H E u). omega (arith, used_weight u z))
            (on.each u x)),
        places_least H c.layers k low,
      )

-- ---- SYS

pub entries_of : (p : Plain) → SortedFrom 0 p.files → Every (λ n f. T (not (is_reserved (sys_of p) n))) p.files → EntriesOf p.H (sys_of p) p.files (entry p)
unfolding entry
entries_of p names ordinary = record {
  table = entries p;
  sorted = sorted_entries p names;
  found = λ n. refl;
  counted = λ k. sym (total_entries p ordinary (has_key p.H k));
}

pub sys_entries : {p : Plain} → Good p → EntriesOf p.H (sys_of p) p.files (entry p)
sys_entries {p} g = entries_of p g.catalog.names (ordinary_files g)
