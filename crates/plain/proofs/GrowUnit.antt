-- A catalog with more layers: the slices that it takes for them. Of SYS, the unit that then is, which is good.
use mathlib.Core.Path.{◌≡◌, sym, ap, ◌∙◌}
use mathlib.Core.List.{List, [], ◌∷◌, ◌++◌, append-nil}
use mathlib.Core.Logic.{◌≢◌}
use mathlib.Core.Option.{none}
use Prim.Native.Nat.{ℕ, ◌+◌, ◌-◌, ◌≤◌, ◌<◌}
use native.Mathlib.Omega.{arith}
use lib.ListN.{length, length-append}
use Rattle.disc.specs.Names.{SYS}
use Rattle.disc.specs.Slices.{occurrences, InRangeOnce, free_count, taken, last_of, first_of}
use Rattle.disc.specs.Stretches.{stretch_count}
use Rattle.disc.specs.OneStretch.{taken_for_file}
use Rattle.disc.specs.Catalog.{Catalog, slices_needed}
use Rattle.disc.proofs.SliceLaws.{occurrences_append, sum_law, taken_law, length_taken}
use Rattle.disc.proofs.TakenLaws.{free_same}
use Rattle.disc.proofs.OneStretchLaws.{for_file_same}
use Rattle.plain.specs.Table.{Table}
use Rattle.plain.specs.Unit.{Plain, File, M, held, free_slices, entry, with_tables, sys_of}
use Rattle.plain.specs.Good.{Good, GoodCatalog}
use Rattle.plain.proofs.UnitLaws.{occurrences_held, entry_none, entry-map, entry_other, system_cases_lem}
use Rattle.plain.proofs.CatalogLaws.{with_layers, catalog_grown}

-- the slices that a catalog takes for l layers
abbrev extra_for : Plain → Catalog → ℕ → ℕ
extra_for p c l = slices_needed p.H p.s c l - length c.slices

abbrev taken_for : Plain → Catalog → ℕ → List ℕ
taken_for p c l = taken (M p) (held p) (last_of c.slices) (extra_for p c l)

module _ (p : Plain) {c : Catalog} {files : Table File} (g : GoodCatalog p.H p.s c p.areas files) where
  -- no layer more: it takes nothing
  none_taken : c.slices ++ taken_for p c c.layers ≡ c.slices
  none_taken =
      let z : extra_for p c c.layers ≡ 0 = omega (arith, g.count) in
      ap (λ (x : ℕ). c.slices ++ taken (M p) (held p) (last_of c.slices) x) z ∙ append-nil c.slices

  takes_good : (layers : ℕ) → 0 < p.s → c.layers ≤ layers → stretch_count (c.slices ++ taken_for p c layers) ≤ 127
      → GoodCatalog p.H p.s (with_layers c layers (taken_for p c layers)) p.areas files
  takes_good layers pos up few =
      catalog_grown g layers (taken_for p c layers) pos up (length_taken (M p) (held p) (last_of c.slices) (extra_for p c layers)) few

module _ (p : Plain) (c : Catalog) (layers : ℕ) (held-once : InRangeOnce (M p) (held p)) (room : extra_for p c layers ≤ free_slices p) where
  taken_once : InRangeOnce (M p) (taken_for p c layers ++ held p)
  taken_once = taken_law (M p) (held p) (last_of c.slices) (extra_for p c layers) held-once room

  -- what it takes is no longer free
  free_taken : free_count (M p) (taken_for p c layers ++ held p) + extra_for p c layers ≡ free_slices p
  free_taken =
      omega (
        arith,
        sum_law (M p) (held p) held-once,
        sum_law (M p) (taken_for p c layers ++ held p) taken_once,
        length-append (taken_for p c layers) (held p),
        length_taken (M p) (held p) (last_of c.slices) (extra_for p c layers),
      )

-- ---- SYS

abbrev pub sys_extra : Plain → ℕ → ℕ
sys_extra p l = extra_for p (sys_of p) l

abbrev pub sys_taken : Plain → ℕ → List ℕ
sys_taken p l = taken_for p (sys_of p) l

-- The unit with SYS grown to some layers; the same unit where these are its own.
abbrev pub grown_to : Plain → ℕ → Plain
grown_to p layers = with_tables p layers (p.sys ++ sys_taken p layers) p.files p.areas

-- no layer more: SYS takes nothing
pub not_grown : (p : Plain) → Good p → grown_to p p.layers ≡ p
not_grown p g = ap (λ (l : List ℕ). with_tables p p.layers l p.files p.areas) (none_taken p g.catalog)

first_append : (l m : List ℕ) → first_of l ≡ 1 → first_of (l ++ m) ≡ 1
first_append [] m e = absurd (omega arith)
first_append (x ∷ l) m e = e

module _ (p : Plain) (layers : ℕ) where
  -- SYS's new slices beside those held, and those that the grown unit holds
  pub held_grown : (k : ℕ) → occurrences k (sys_taken p layers ++ held p) ≡ occurrences k (held (grown_to p layers))
  held_grown k =
      omega (
        arith,
        occurrences_append k (sys_taken p layers) (held p),
        occurrences_held k p.sys p.files,
        occurrences_held k (p.sys ++ sys_taken p layers) p.files,
        occurrences_append k p.sys (sys_taken p layers),
      )

  -- the file takes as on the grown unit
  pub taken_grown : (slices : List ℕ) (n : ℕ) → taken_for_file (M p) (sys_taken p layers ++ held p) slices n ≡ taken_for_file (M (grown_to p layers)) (held (grown_to p layers)) slices n
  taken_grown slices n = for_file_same (M p) (sys_taken p layers ++ held p) (held (grown_to p layers)) slices n held_grown

  -- SYS's entry alone is another
  pub entry_but_sys : (m : ℕ) → m ≢ SYS → entry (grown_to p layers) m ≡ entry p m
  entry_but_sys m d = system_cases_lem m
      (λ q. absurd (d q))
      (λ q. ap (entry (grown_to p layers)) q ∙ entry-map (grown_to p layers) ∙ sym (entry-map p) ∙ ap (entry p) (sym q))
      (λ a b. entry_other (grown_to p layers) m a b ∙ sym (entry_other p m a b))

  -- a name with no entry has none then
  pub entry_grown : (m : ℕ) → entry p m ≡ none → entry (grown_to p layers) m ≡ none
  entry_grown m e = entry_but_sys m (entry_none p m (rw e tt)).1 ∙ e

  module _ (g : Good p) (room : sys_extra p layers ≤ free_slices p) where
    -- what SYS takes is no longer free
    pub free_grown : free_slices (grown_to p layers) + sys_extra p layers ≡ free_slices p
    free_grown =
        omega (
          arith,
          free_same (M p) (sys_taken p layers ++ held p) (held (grown_to p layers)) held_grown,
          free_taken p (sys_of p) layers g.once room,
        )

    pub grown_good : p.layers ≤ layers → stretch_count (p.sys ++ sys_taken p layers) ≤ 127 → Good (grown_to p layers)
    grown_good up few =
        let once : InRangeOnce (M p) (held (grown_to p layers)) = λ k. omega (arith, taken_once p (sys_of p) layers g.once room k, held_grown k) in
        let positive : 0 < p.s = omega (arith, g.limits.slice_low) in
        search (takes_good p g.catalog layers, first_append p.sys (sys_taken p layers))
