-- The slices that the places of SYS show are those that the plain unit's names hold.
use mathlib.Core.Path.{◌≡◌, refl, sym, ap, ◌∙◌}
use mathlib.Core.Bool.{Bool, true, false, cond}
use mathlib.Core.List.{List, []}
use mathlib.Core.Option.{Option, some}
use Prim.Native.Nat.{ℕ, zero, suc, ◌<◌}
use native.Mathlib.Omega.{arith}
use lib.Dec.{T}
use Rattle.types.specs.declared.State.{State}
use Rattle.disc.specs.Names.{is_system}
use Rattle.disc.specs.Slices.{occurrences}
use Rattle.disc.specs.Entries.{name_at}
use Rattle.disc.specs.Catalog.{Catalog}
use Rattle.disc.proofs.SliceLaws.{occurrences_append}
use Rattle.plain.specs.Table.{table_find}
use Rattle.plain.specs.Unit.{Plain, File, sys_of, held, file_entry}
use Rattle.plain.specs.Good.{Good}
use Rattle.plain.proofs.TableLaws.{find_below}
use Rattle.plain.proofs.UnitLaws.{holds, occurrences_held, system_none, ordinary_files, entry_of}
use Rattle.plain.proofs.Collect.{sum_below, sum_ext, weight_if}
use Rattle.sound.specs.Places.{Used}
use Rattle.sound.specs.Sound.{slices_of, held_by, held_at, slices_below, all_slices}
use Rattle.refine.specs.Represents.{Represents}
use Rattle.refine.proofs.CatalogLaws.{name_zero}
use Rattle.refine.proofs.PlaceFiles.{row_of, row_at, total_places}
use Rattle.refine.proofs.UnitFiles.{P, count, file_at_lem, slices_of_lem}

-- the slices below n places, as a sum
pub occurrences_below : (image : List ℕ) (state : State) (F s : ℕ) (c : Catalog) (k n : ℕ)
    → occurrences k (slices_below image state F s c n) ≡ sum_below n (λ t. occurrences k (held_at image state F s c t))
unfolding sum_below
occurrences_below image state F s c k zero = refl
occurrences_below image state F s c k (suc n) =
    omega (
      arith,
      occurrences_append k (slices_below image state F s c n) (held_at image state F s c n),
      occurrences_below image state F s c k n,
    )

module _ {image : List ℕ} {state : State} {p : Plain} (g : Good p) (r : Represents image state p) where
  abbrev Q : ℕ → ℕ → ℕ
  Q = P g r

  abbrev N : ℕ
  N = count g r

  -- what a place holds is what its file holds
  place_holds : (k t : ℕ) → t < N → occurrences k (held_at image state p.F p.s (sys_of p) t) ≡ weight_if (holds k) (row_at Q p.files t)
  place_holds k t x = go (name_at Q t) refl
    where
      named : (n : ℕ) → name_at Q t ≡ suc n → (b : Bool) → is_system (suc n) ≡ b
          → occurrences k (cond b [] (slices_of image state p.F p.s Q t)) ≡ weight_if (holds k) (row_of (suc n) (table_find (suc n) p.files))
      named n e true h = sym (ap (λ (o : Option File). weight_if (holds k) (row_of (suc n) o)) (system_none p (suc n) (ordinary_files g) (rw h tt)))
      named n e false h =
          let used : Used Q t = λ z. (let y = name_zero Q t z in omega arith) in
          let other : T (is_system (name_at Q t)) → ⊥ = λ y. (let w : T (is_system (suc n)) = rw e at y in rw h at w) in
          let f = file_at_lem g r t x used other in
          let found : table_find (suc n) p.files ≡ some f.0 = rw e at f.1 in
          ap (occurrences k) (slices_of_lem g r (name_at Q t) f.0 f.1 t refl f.2) ∙ sym (ap (λ (o : Option File). weight_if (holds k) (row_of (suc n) o)) found)

      go : (n : ℕ) → name_at Q t ≡ n → occurrences k (held_by (sys_of p).reserved n (slices_of image state p.F p.s Q t)) ≡ weight_if (holds k) (row_of n (table_find n p.files))
      go zero e = sym (ap (λ (o : Option File). weight_if (holds k) (row_of 0 o)) (find_below 0 0 p.files g.catalog.names (omega arith)))
      go (suc n) e = named n e (is_system (suc n)) refl

  there : (n : ℕ) (f : File) → table_find n p.files ≡ some f → (t : ℕ) × (t < N) × (name_at Q t ≡ n)
  there n f e = r.layout.sys.places.there n (file_entry p.F p.s n f) (entry_of p n f (g.catalog.files n f e).ordinary e)

  pub all_held : (k : ℕ) → occurrences k (all_slices image state p.H p.s p.F (sys_of p)) ≡ occurrences k (held p)
  all_held k =
      omega (
        arith,
        occurrences_append k p.sys (slices_below image state p.F p.s (sys_of p) N),
        occurrences_below image state p.F p.s (sys_of p) k N,
        sum_ext N (λ t. occurrences k (held_at image state p.F p.s (sys_of p) t)) (λ t. weight_if (holds k) (row_at Q p.files t)) (place_holds k),
        total_places Q p.files g.catalog.names there r.layout.sys.places.alone (holds k),
        occurrences_held k p.sys p.files,
      )
