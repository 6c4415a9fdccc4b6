-- Slack, freed and free sectors, and those below F, are sectors that the unit does not use.
use mathlib.Core.Path.{◌≡◌, sym, ap, ap₂, ◌∙◌}
use mathlib.Core.List.{List, [], ◌∷◌}
use mathlib.Core.Logic.{◌≢◌, ⊎_elim}
use mathlib.Core.Option.{some}
use Prim.Native.Nat.{ℕ, ◌+◌, ◌*◌, ◌/◌, ◌≤◌, ◌<◌}
use native.Mathlib.Omega.{arith}
use native.Mathlib.Nat.{div-eq_of_lt, mod-eq_of_lt}
use lib.ListN.{length, get_or}
use Rattle.disc.specs.Numbers.{slice_start}
use Rattle.disc.specs.Slices.{occurrences, InRangeOnce}
use Rattle.disc.specs.Stretches.{sector_in, sys_from, file_from}
use Rattle.disc.proofs.Compare.{same_or}
use Rattle.disc.proofs.SliceLaws.{in_unit_in, once_cons}
use Rattle.disc.proofs.Geometry.{apart}
use Rattle.plain.specs.Table.{table_find}
use Rattle.plain.specs.Unit.{Plain, File, M, held}
use Rattle.plain.specs.Good.{Good}
use Rattle.plain.proofs.TableLaws.{some_inj}
use Rattle.refine.proofs.Ground.{Ground, ground, positive, sys_ground, part_file, joined_in, first_in, block_in, catalog_data, file_data, catalog_file, file_file, in_file, in_catalog}
use Rattle.demands.specs.Slack.{InUse, system, catalog, index, block, Idle, Slack, of_sys, of_file, SectorOf, LeftAlone, slack, freed, free, below}

module _ {p : Plain} (good : Good p) where
  g : Ground p
  g = ground p good

  abbrev sector : List ℕ → ℕ → ℕ
  sector = sector_in p.F p.s

  -- Every sector in use is one of 6 to 9, or a sector of the slices of SYS or of a file, in front of its slack.
  used : {C : Type 0} {q : ℕ} → InUse p q → (6 ≤ q → q ≤ 9 → C) → ((b : ℕ) → b < p.H * p.layers → b / p.s < length p.sys → q ≡ sector p.sys b → C)
      → ((n : ℕ) (f : File) → table_find n p.files ≡ some f → (b : ℕ) → b < length f.sectors + 1 → b / p.s < length f.slices → q ≡ sector f.slices b → C) → C
  used (system a b) low sys file = low a b
  used (catalog b h e) low sys file = sys (b + sys_from) (omega arith) (joined_in (sys_ground g) (b + sys_from) (omega arith)) e
  used (index n f t h e) low sys file = file n f t 0 (omega arith) (first_in p g f.slices h) e
  used (block n f t b h e) low sys file = file n f t (b + file_from) (omega arith) (block_in p g n f t b h) e

  slack_idle : {q : ℕ} → Slack p q → Idle p q
  slack_idle (of_sys b past inside e) u =
      let d = catalog_data (sys_ground g) (b + sys_from) inside in
      used u
      (λ lo hi. omega (arith, d.0, e))
      (λ c h in₀ x. let z : b + sys_from ≡ c = in_catalog (sys_ground g) (b + sys_from) c inside in₀ (sym e ∙ x) in omega arith)
      (λ n f t c h in₀ x. catalog_file (sys_ground g) n f t c (b + sys_from) in₀ inside (sym x ∙ e))
  slack_idle (of_file n f t b past inside e) u =
      let d = file_data p g n f t (b + file_from) inside in
      used u
      (λ lo hi. omega (arith, d.0, e))
      (λ c h in₀ x. catalog_file (sys_ground g) n f t (b + file_from) c inside in₀ (sym e ∙ x))
      (λ m a v c h in₀ x. same_or m n
      (λ k.
      let same : a ≡ f = some_inj (sym v ∙ ap (λ (y : ℕ). table_find y p.files) k ∙ t) in
      let z : b + file_from ≡ c = in_file p g n f t (b + file_from) c inside (rw same at in₀) (sym e ∙ (rw same at x)) in
      omega (arith, ap (λ (y : File). length y.sectors) same))
      (λ k. file_file p g m n a f k v t c (b + file_from) in₀ inside (sym x ∙ e)))

  -- a slice that no list holds, beside those that lists hold
  module _ (k : ℕ) (unheld : occurrences k (held p) ≡ 0) {q : ℕ} (of : SectorOf p k q) where
    once : InRangeOnce (M p) (k ∷ held p)
    once = once_cons (M p) k (held p) g.once unheld (in_unit_in (M p) k of.low of.high)

    zeroth : of.j / p.s ≡ 0
    zeroth = div-eq_of_lt of.inside

    there : q ≡ sector (k ∷ []) of.j
    there = of.at ∙ ap₂ (λ (a b : ℕ). slice_start p.F p.s (get_or (k ∷ []) a 0) + b) (sym zeroth) (sym (mod-eq_of_lt of.inside))

    not_held : (l : List ℕ) → ((x : ℕ) → occurrences x l ≤ occurrences x (held p)) → (b : ℕ) → b / p.s < length l → q ≢ sector l b
    not_held l part b inside e =
        apart p.F p.s (M p) (k ∷ held p) (positive p g) once l (k ∷ []) b of.j (λ x. omega (arith, part x)) inside (omega (arith, zeroth)) (sym e ∙ there)

    free_idle : Idle p q
    free_idle u = used u (λ lo hi. omega (arith, of.at, g.limits.first)) (λ b h in₀. not_held p.sys (sys_ground g).part b in₀) (λ n f t b h in₀. not_held f.slices (part_file p g n f t) b in₀)

  pub left_idle : {before : Plain} {q : ℕ} → LeftAlone before p q → Idle p q
  left_idle (slack x) u = slack_idle x u
  left_idle (freed x) u = free_idle x.k x.unheld x.of u
  left_idle (free x) u = free_idle x.k x.unheld x.of u
  left_idle (below low out) u =
      used u (λ lo hi. ⊎_elim (λ x. omega arith) (λ x. omega arith) out) (λ b h in₀ e. omega arith) (λ n f t b h in₀ e. omega arith)
