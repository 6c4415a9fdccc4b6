-- `map::lowest_stretch` meets its contract. The loop's invariant: the words before w are passed, and n free slices after `start` are not
-- among them. Assumes nothing.
use mathlib.Core.Path.{◌≡◌, ◌∙◌}
use Prim.Native.Nat.{ℕ, ◌+◌, ◌*◌}
use native.Mathlib.Omega.{arith}
use borrow.Author.Rules.{rules}
use Rattle.map.proofs.StretchLaws.{passed_first, passed_on, stretch_found, stretch_none}
use Rattle.map.proofs.lowest_stretch.Goals as goal

pub loop-w-init : goal.loop-w-init
loop-w-init c = (search rules, search rules, passed_first _ _)

pub start_past-start-requires : goal.start_past-start-requires
start_past-start-requires c = (search rules, search rules, search rules, search rules, c.loop-w.invariant.2)

pub slice_at-requires : goal.slice_at-requires
slice_at-requires c =
    (omega arith, omega arith)

pub returns-then-start-n : goal.returns-then-start-n
returns-then-start-n c =
    let start : ℕ = c.start_past-start.result in
    let is : c.slice_at.result.0 ≡ start + 1 = c.slice_at.ensures ∙ omega arith in
    rw is (stretch_found _ _ (16 * c.loop-w.w + 16) start (omega arith) (omega arith) c.start_past-start.ensures)

pub loop-w-preserved : goal.loop-w-preserved
loop-w-preserved c =
    (search rules, omega arith, passed_on _ _ _ _ _ (omega arith) c.start_past-start.ensures (λ j a b d. absurd (omega arith)))

pub returns : goal.returns
returns c =
    let loop = c.loop-w in
    stretch_none _ _ (16 * loop.w) _ (omega arith) loop.invariant.1 loop.invariant.2
