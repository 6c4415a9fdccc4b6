-- `map::beginnings` meets its contract. The loop's invariant: `found` has the bits at which `have` ones begin. Assumes nothing.
use mathlib.Core.Path.{◌≡◌, subst}
use Prim.Native.Nat.{ℕ}
use native.Mathlib.Omega.{arith}
use borrow.Author.Rules.{rules}
use Rattle.map.specs.Stretch.{Beginnings}
use Rattle.map.proofs.BeginningLaws.{begins_self, begins_join}
use Rattle.map.proofs.beginnings.Goals as goal

pub loop-have-init : goal.loop-have-init
loop-have-init c = (search rules, search rules, begins_self _)

pub loop-have-preserved : goal.loop-have-preserved
loop-have-preserved c =
    let loop = c.loop-have in
    (search rules, search rules, begins_join _ _ _ _ loop.invariant.2 (omega arith) (omega arith))

pub returns : goal.returns
returns c =
    let args = c.args in
    let all : c.loop-have.have ≡ args.n = omega arith in
    subst (λ (k : ℕ). Beginnings args.word k c.loop-have.found) all c.loop-have.invariant.2
