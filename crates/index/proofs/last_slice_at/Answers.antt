-- `index::last_slice_at` meets its contract. Assumes nothing.
use mathlib.Core.Path.{refl, ap₂, ◌∙◌}
use Prim.Native.Nat.{ℕ, ◌+◌, ◌-◌, ◌/◌}
use Rattle.index.proofs.CaseLaws.{last_none, last_some}
use Rattle.index.proofs.last_slice_at.Goals as goal

pub returns-in_default : goal.returns-in_default
returns-in_default c =
    let a = c.args in
    last_none a.first.0 a.s a.image.now a.q.0 _ refl c.in_default.ensures

pub returns : goal.returns
returns c =
    let a = c.args in
    let p = c.in-Some.ensures in
    c.last_slice_of.ensures ∙ ap₂ (λ (x y : ℕ). (x - a.first.0) / a.s + y / a.s) p.1 p.2 ∙ last_some a.first.0 a.s a.image.now a.q.0 _ refl p.0
