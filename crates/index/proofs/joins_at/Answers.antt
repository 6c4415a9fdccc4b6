-- `index::joins_at` meets its contract. Assumes nothing.
use mathlib.Core.Path.{refl, ap₂, ◌∙◌}
use Prim.Native.Nat.{ℕ, ◌+◌}
use lib.Dec.{eqb}
use Rattle.disc.specs.Numbers.{slice_start}
use Rattle.index.proofs.CaseLaws.{joins_none, joins_some}
use Rattle.index.proofs.joins_at.Goals as goal

pub returns-in_default : goal.returns-in_default
returns-in_default c =
    let a = c.args in
    joins_none a.first.0 a.s a.image.now a.q.0 _ refl a.k.0 c.in_default.ensures

pub returns : goal.returns
returns c =
    let a = c.args in
    let p = c.in-Some.ensures in
    c.follows.ensures ∙ ap₂ (λ (x y : ℕ). eqb (x + y) (slice_start a.first.0 a.s a.k.0)) p.1 p.2 ∙ joins_some a.first.0 a.s a.image.now a.q.0 _ refl a.k.0 p.0
