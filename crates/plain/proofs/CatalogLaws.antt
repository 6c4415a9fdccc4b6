-- Laws of any good catalog: its files beside other areas, a file put, changed or removed, and more layers.
use mathlib.Core.Path.{◌≡◌, refl, sym, ◌∙◌}
use mathlib.Core.List.{List, ◌++◌}
use mathlib.Core.Logic.{◌≢◌}
use mathlib.Core.Option.{none, some}
use Prim.Native.Nat.{ℕ, zero, suc, ◌+◌, ◌*◌, ◌-◌, ◌≤◌, ◌<◌}
use native.Mathlib.Omega.{arith}
use native.Mathlib.Nat.{mul-le-mul_left}
use lib.ListN.{length, length-append}
use Rattle.disc.specs.Stretches.{stretch_count}
use Rattle.disc.specs.Catalog.{Catalog, slices_for, slices_needed}
use Rattle.disc.proofs.Compare.{same_or}
use Rattle.disc.proofs.NumberLaws.{ceil_div_mono}
use Rattle.disc.proofs.Geometry.{ceil_cover}
use Rattle.plain.specs.Table.{Table, table_find, table_put, table_remove, Every}
use Rattle.plain.specs.Unit.{File, AreaUser}
use Rattle.plain.specs.Taking.{places_taken}
use Rattle.plain.specs.Good.{GoodFile, GoodCatalog}
use Rattle.plain.proofs.TableLaws.{some_inj, find_put, find_put_other, sorted_put, sorted_remove, every_put, remove_some}
use Rattle.plain.proofs.UnitLaws.{legal_positive}
use Rattle.plain.proofs.TakingLaws.{places_again, places_remove}

-- a file in a catalog with the same reserved names, beside other areas, where none that is open is closed
pub file_beside : {c d : Catalog} {s : ℕ} {old new : Table (Table AreaUser)} {n : ℕ} {f : File} → GoodFile c s old n f → c.reserved ≡ d.reserved
    → (table_find n new ≡ none → table_find n old ≡ none) → GoodFile d s new n f
file_beside {n = n} g e h = search (rw e at g.ordinary, g.closed)

-- ---- the slices of so many blocks

needed_mono : (from s : ℕ) {a b : ℕ} → 0 < s → a ≤ b → slices_for from s a ≤ slices_for from s b
needed_mono zero s pos le = ceil_div_mono s pos le
needed_mono (suc from) s pos le = ceil_div_mono s pos (omega arith)

needed_cover : (from s n count : ℕ) → 0 < s → slices_for from s n ≤ count → n + from ≤ count * s
needed_cover zero s n count pos h = omega (arith, ceil_cover s n count pos h)
needed_cover (suc from) s n count pos h = ceil_cover s (n + suc from) count pos h

-- ---- a catalog

-- The catalog with so many layers, for which it took the slices `new`.
abbrev pub with_layers : Catalog → ℕ → List ℕ → Catalog
with_layers c layers new = record { index = c.index; from = c.from; layers = layers; slices = c.slices ++ new; reserved = c.reserved }

module _ {H s : ℕ} {c : Catalog} {areas : Table (Table AreaUser)} {files : Table File} (g : GoodCatalog H s c areas files) where
  -- its slices hold its blocks
  pub catalog_cover : 0 < s → H * c.layers + c.from ≤ length c.slices * s
  catalog_cover pos = needed_cover c.from s (H * c.layers) (length c.slices) pos (omega (arith, g.count))

  -- beside other areas, where none that is open is closed
  pub catalog_beside : (new : Table (Table AreaUser)) → ((n : ℕ) → table_find n new ≡ none → table_find n areas ≡ none) → GoodCatalog H s c new files
  catalog_beside new h =
      let table : Every (GoodFile c s new) files = λ n f e. file_beside (g.files n f e) refl (h n) in
      search

  -- a name has the file f
  pub catalog_placed : (n : ℕ) (f : File) → ((k : ℕ) → places_taken H k c (table_put n f files) ≤ 16 * c.layers) → GoodFile c s areas n f → GoodCatalog H s c areas (table_put n f files)
  catalog_placed n f chains good = search (sorted_put 0 n f files (legal_positive n good.name), every_put (GoodFile c s areas) n f files)

  pub catalog_removed : (n : ℕ) → GoodCatalog H s c areas (table_remove n files)
  catalog_removed n =
      let chains : (k : ℕ) → places_taken H k c (table_remove n files) ≤ 16 * c.layers = λ k. omega (arith, g.chains k, places_remove H k c n files) in
      let table : Every (GoodFile c s areas) (table_remove n files) = λ k f h. g.files k f (remove_some k n 0 files f g.names h).1 in
      search (sorted_remove 0 n files)

  -- another file in the place of one, where the areas of other names stay
  pub catalog_changed : (n : ℕ) (f f' : File) (new : Table (Table AreaUser)) → table_find n files ≡ some f → GoodFile c s new n f'
      → ((k : ℕ) → k ≢ n → table_find k new ≡ table_find k areas) → GoodCatalog H s c new (table_put n f' files)
  catalog_changed n f f' new found good others = record {
    layered = g.layered;
    count = g.count;
    few = g.few;
    names = sorted_put 0 n f' files (legal_positive n good.name) g.names;
    chains = λ k. omega (arith, g.chains k, places_again H k c n f f' files found);
    files = λ k a e. same_or k n (own k a e) (beside k a e);
  }
    where
      own : (k : ℕ) (a : File) → table_find k (table_put n f' files) ≡ some a → k ≡ n → GoodFile c s new k a
      own k a e q =
          let e₂ : table_find n (table_put n f' files) ≡ some a = rw q at e in
          let z : f' ≡ a = some_inj (sym (find_put n f' files) ∙ e₂) in
          rw (q, ← z) good

      beside : (k : ℕ) (a : File) → table_find k (table_put n f' files) ≡ some a → k ≢ n → GoodFile c s new k a
      beside k a e d = file_beside (g.files k a (sym (find_put_other k n f' files d) ∙ e)) refl (λ z. sym (others k d) ∙ z)

  -- more layers, and the slices for them
  pub catalog_grown : (layers : ℕ) (new : List ℕ) → 0 < s → c.layers ≤ layers → length new ≡ slices_needed H s c layers - length c.slices
      → stretch_count (c.slices ++ new) ≤ 127 → GoodCatalog H s (with_layers c layers new) areas files
  catalog_grown layers new pos up long few = record {
    layered = omega (arith, g.layered);
    count =
        omega (
          arith,
          length-append c.slices new,
          long,
          g.count,
          needed_mono c.from s {a = H * c.layers} {b = H * layers} pos (mul-le-mul_left H up),
        );
    few = few;
    names = g.names;
    chains = λ k. omega (arith, g.chains k);
    files = λ n f h. file_beside (g.files n f h) refl (λ z. z);
  }
