-- `slices::free_slices` meets its contract. The loop's invariant: freeing the slices from number j on, from the image now, is freeing all
-- of them, and the walk along the block has not passed slice j.
use mathlib.Core.Path.{ap, ◌∙◌}
use Prim.Native.Nat.{ℕ, ◌+◌, ◌-◌, ◌/◌, ◌≤◌}
use native.Mathlib.Omega.{arith}
use native.Mathlib.Nat.{le_trans, mul-le-mul_left}
use Rattle.slices.proofs.GiveLaws.{number_inside, give_next, give_done}
use Rattle.slices.proofs.free_slices.Goals as goal

pub mark_free-requires : goal.mark_free-requires
mark_free-requires c =
    let a = c.args in
    let can = c.requires.can in
    let number = c.slice_from.ensures ∙ ap (λ (q : ℕ). (q - a.first.0) / a.s + 1) c.sector_along-at.ensures.sector in
    let i = number_inside can c.loop-j.j (omega arith) number in
    (i.0, i.1, omega (arith, c.loop-j.auto.image, can.long))

pub loop-j-preserved : goal.loop-j-preserved
loop-j-preserved c =
    let a = c.args in
    let reaches = c.sector_along-at.ensures in
    let j : ℕ = c.loop-j.j in
    let is = c.slice_from.ensures ∙ ap (λ (q : ℕ). (q - a.first.0) / a.s + 1) reaches.sector in
    let up : j ≤ j + 1 = omega arith in
    record {
      same = λ slices can. give_next can j (omega arith) c.loop-j.image _ is c.mark_free.ensures ∙ c.loop-j.invariant.same slices can;
      behind = le_trans reaches.behind (mul-le-mul_left a.s up);
      along = reaches.along;
    }

pub returns : goal.returns
returns c =
    record { all = λ slices can. give_done can c.loop-j.image c.loop-j.j (omega arith) ∙ c.loop-j.invariant.same slices can }
