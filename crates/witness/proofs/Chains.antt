-- A key whose names take fewer places than it has, has a first unused place.
use mathlib.Core.Path.{◌≡◌, sym, ap, ◌∙◌}
use mathlib.Core.List.{List}
use mathlib.Core.Logic.{⊎_elim}
use Prim.Native.Nat.{ℕ, zero, suc, ◌*◌, ◌/◌, ◌%◌, ◌≤◌, ◌<◌}
use native.Mathlib.Omega.{arith}
use Rattle.disc.specs.Entries.{place_count}
use Rattle.disc.proofs.Compare.{same_or}
use Rattle.plain.specs.Unit.{Plain, entry, sys_of}
use Rattle.plain.specs.Taking.{places_taken}
use Rattle.plain.proofs.TableLaws.{some≢none}
use Rattle.sound.specs.Places.{Unused}
use Rattle.refine.specs.Represents.{PlaceOf}
use Rattle.refine.proofs.CatalogLaws.{name_zero}
use Rattle.refine.proofs.PlaceCount.{used_full, sys_entries}
use Rattle.lookup.specs.Unit.{CatalogOn, unit_places}
use Rattle.lookup.specs.Find.{FirstUnused}
use Rattle.lookup.proofs.UnitLaws.{unit_named}

module _ {image : List ℕ} {p : Plain} (on : CatalogOn image p) (k : ℕ) where
  abbrev P : ℕ → ℕ → ℕ
  P = unit_places image p

  abbrev N : ℕ
  N = place_count p.H p.layers

  -- no place of the key below c is unused
  abbrev Full : ℕ → Type 0
  Full c = (t : ℕ) → t < c → t / 16 % p.H ≡ k → Unused (unit_places image p) t → ⊥

  data Search (c : ℕ) : Type 0 where
    first : (u : ℕ) → FirstUnused image p (sys_of p) k u → Search c
    full : Full c → Search c

  more : (c : ℕ) → Full c → (c / 16 % p.H ≡ k → Unused (unit_places image p) c → ⊥) → Full (suc c)
  more c f here t x e = same_or t c (λ q. rw q (here (rw q at e))) (λ d. f t (omega arith) e)

  used : (t : ℕ) → PlaceOf (unit_places image p) p.H (entry p) t → Unused (unit_places image p) t → ⊥
  used t u z = some≢none (sym u.entered ∙ ap (entry p) (name_zero P t z) ∙ (unit_named on).zero)

  search : (c : ℕ) → c ≤ place_count p.H p.layers → Search c
  search zero h = full (λ t x. absurd (omega arith))
  search (suc c) h = go (search c (omega arith))
    where
      go : Search c → Search (suc c)
      go (first u f) = first u f
      go (full f) = same_or (c / 16 % p.H) k
          (λ e. ⊎_elim
          (λ (z : Unused P c). first c (record { inside = h; key = e; unused = z; earlier = f }))
          (λ (u : PlaceOf P p.H (entry p) c). full (more c f (λ _. used c u)))
          (on.sys.places.each c h))
          (λ d. full (more c f (λ e. absurd (d e))))

  pub first_unused : k < p.H → places_taken p.H k (sys_of p) p.files < 16 * p.layers → (u : ℕ) × FirstUnused image p (sys_of p) k u
  first_unused low room = go (search N (omega arith))
    where
      go : Search (place_count p.H p.layers) → (u : ℕ) × FirstUnused image p (sys_of p) k u
      go (first u f) = (u, f)
      go (full f) = absurd (omega (arith, used_full (sys_entries on.good) on.sys.places k low f))
