-- The files that the places of SYS show, collected by name, and the slices that they hold.
use mathlib.Core.Path.{◌≡◌, refl, sym, ap, ◌∙◌}
use mathlib.Core.Bool.{true, false, not, cond}
use mathlib.Core.List.{List, []}
use mathlib.Core.Logic.{◌≢◌}
use mathlib.Core.Option.{Option, none, some}
use Prim.Native.Nat.{ℕ, zero, suc, ◌<◌}
use native.Mathlib.Omega.{arith}
use lib.Dec.{T}
use borrow.Author.Tests.{not-true}
use Rattle.types.specs.declared.State.{State}
use Rattle.disc.specs.Slices.{occurrences}
use Rattle.disc.specs.Entries.{name_at}
use Rattle.disc.specs.Catalog.{Catalog, is_reserved, places_of, places_in}
use Rattle.disc.proofs.DecideLaws.{never_true}
use Rattle.plain.specs.Table.{Row, Table, table_find, SortedFrom, total}
use Rattle.plain.specs.Unit.{File}
use Rattle.plain.proofs.UnitLaws.{holds}
use Rattle.plain.proofs.Collect.{sum_below, sum_ext, collect, row_if, IsRow, row_some, row_is, weight_if, sorted_collect, collect_find, find_collect, total_collect}
use Rattle.sound.specs.Places.{Used}
use Rattle.sound.specs.Sound.{held_by, held_at, slices_below, SoundEntries}
use Rattle.refine.proofs.CatalogLaws.{name_zero}
use Rattle.refine.proofs.UnitSlices.{occurrences_below}
use Rattle.refine.proofs.ReadFile.{read_file}

-- ---- the row of a name: none for no name, and none for the reserved names

abbrev row_by : Catalog → ℕ → File → Option (Row File)
row_by c n f = row_if (not (is_reserved c n)) n f

-- what a name holds is what its row holds
row_holds : (c : Catalog) (k n : ℕ) (f : File) → occurrences k (held_by c.reserved n f.slices) ≡ weight_if (holds k) (row_by c n f)
row_holds c k zero f = refl
row_holds c k (suc n) f =
    elim (is_reserved c (suc n)) as (λ b. occurrences k (cond b [] f.slices) ≡ weight_if (holds k) (cond (not b) (some (record { key = suc n; val = f })) none)) [ true ↦ refl | false ↦ refl ]

-- ---- the files of the places

module _ (image : List ℕ) (state : State) (F s : ℕ) (c : Catalog) where
  abbrev P : ℕ → ℕ → ℕ
  P = places_in image F s c

  abbrev pub file_at : ℕ → Option (Row File)
  file_at t = row_by c (name_at P t) (read_file image state F s P t)

  abbrev pub files_below : ℕ → Table File
  files_below count = collect file_at count

  row_of : (t : ℕ) (r : Row File) → file_at t ≡ some r → IsRow (not (is_reserved c (name_at P t))) (name_at P t) (read_file image state F s P t) r
  row_of t r e = row_some (not (is_reserved c (name_at P t))) (name_at P t) (read_file image state F s P t) r e

  pub positive_key : (t : ℕ) (r : Row File) → file_at t ≡ some r → 0 < r.key
  positive_key t r e = let q = row_of t r e in omega (arith, q.key, q.positive)

  pub sorted_files : (count : ℕ) → SortedFrom 0 (files_below count)
  sorted_files count = sorted_collect file_at positive_key count

  -- where a file's entry stands
  pub record FileAt (count n : ℕ) (f : File) : Type 0 where
    pub place : ℕ
    pub inside : place < count
    pub used : Used P place
    pub name : name_at P place ≡ n
    pub ordinary : T (is_reserved c (name_at P place)) → ⊥
    pub read : read_file image state F s P place ≡ f

  pub used_name : (t : ℕ) → name_at P t ≢ 0 → Used P t
  used_name t nz z = nz (name_zero P t z)

  pub file_there : (count n : ℕ) (f : File) → table_find n (files_below count) ≡ some f → FileAt count n f
  file_there count n f e =
      let w = collect_find file_at positive_key count n f e in
      let q = row_of w.0 (record { key = n; val = f }) w.2 in
      record { place = w.0; inside = w.1; used = used_name w.0 (λ z. omega (arith, q.positive)); name = q.key; ordinary = λ y. rw (not-true (is_reserved c (name_at P w.0)) q.given) at y; read = q.val }

  module _ (H : ℕ) (en : SoundEntries image state H s F c) where
    abbrev count : ℕ
    count = places_of H c

    one_place : (t u : ℕ) (x y : Row File) → t < count → u < count → file_at t ≡ some x → file_at u ≡ some y → x.key ≡ y.key → t ≡ u
    one_place t u x y a b e f z =
        let q = row_of t x e in
        let v = row_of u y f in
        en.alone t u a b (used_name t (λ w. omega (arith, q.positive))) (used_name u (λ w. omega (arith, v.positive))) (q.key ∙ z ∙ sym v.key)

    pub file_find : (t : ℕ) → t < count → 0 < name_at P t → (T (is_reserved c (name_at P t)) → ⊥) → table_find (name_at P t) (files_below count) ≡ some (read_file image state F s P t)
    file_find t x p ord =
        find_collect file_at positive_key count one_place count (omega arith) t (record { key = name_at P t; val = read_file image state F s P t }) x
        (row_is (not (is_reserved c (name_at P t))) (name_at P t) (read_file image state F s P t) (ap not (never_true (is_reserved c (name_at P t)) (λ e. ord (rw e tt)))) p)

    -- a sum over the files is a sum over the places
    pub total_files : (w : Row File → ℕ) → total w (files_below count) ≡ sum_below count (λ t. weight_if w (file_at t))
    total_files w = total_collect file_at positive_key count one_place w count (omega arith)

    pub slices_files : (k : ℕ) → occurrences k (slices_below image state F s c count) ≡ total (holds k) (files_below count)
    slices_files k =
        occurrences_below image state F s c k count
        ∙ sum_ext count (λ t. occurrences k (held_at image state F s c t)) (λ t. weight_if (holds k) (file_at t))
        (λ t x. row_holds c k (name_at P t) (read_file image state F s P t))
        ∙ sym (total_files (holds k))
