-- `slices::count_free` meets its contract.
use mathlib.Core.Path.{ap, ◌∙◌}
use mathlib.Core.List.{[], ◌∷◌}
use Prim.Native.Nat.{ℕ, ◌*◌}
use Rattle.words.specs.Store.{store}
use Rattle.refine.specs.Writes.{counted_free}
use Rattle.slices.proofs.count_free.Goals as goal

pub returns : goal.returns
unfolding counted_free
returns c =
    let a = c.args in
    c.set_word.ensures ∙ ap (λ (n : ℕ). store a.image.now 2051 (a.slice * n ∷ [])) c.count_free-free.ensures
