-- `map::lowest_free` meets its contract. Both loops' invariant: no bit that the scan has passed is one. Assumes nothing.
use Rattle.std.specs.Prelude.{Some}
use mathlib.Core.Path.{ap, ◌∙◌}
use Prim.Native.Nat.{ℕ, ◌+◌, ◌*◌}
use native.Mathlib.Omega.{arith}
use Rattle.map.proofs.MarkLaws.{map_bit_le}
use Rattle.map.proofs.ChoiceLaws.{scan_none, scan_found}
use Rattle.map.proofs.AnswerLaws.{lowest_answers}
use Rattle.map.proofs.ScanLaws.{scan_bit, none_next, none_leading}
use Rattle.map.proofs.lowest_free.Goals as goal

pub loop-b-init : goal.loop-b-init
loop-b-init c = none_leading _ c.loop-w.w (c.type_inv.image _).fits c.loop-w.invariant

pub loop-b-preserved : goal.loop-b-preserved
loop-b-preserved c =
    let image = c.args.image.now in
    let k = 16 * c.loop-w.w + c.loop-b.b + 1 in
    let test = scan_bit image c.loop-w.w c.loop-b.b _ c.loop-b-test.true c.bit_word.ensures in
    none_next image k _ (omega arith) c.loop-b.invariant (omega (arith, map_bit_le image k))

pub returns-then-word-bit_word-eq1 : goal.returns-then-word-bit_word-eq1
returns-then-word-bit_word-eq1 c =
    let image = c.args.image.now in
    let k = 16 * c.loop-w.w + c.loop-b.b + 1 in
    let test = scan_bit image c.loop-w.w c.loop-b.b _ c.loop-b-test.true c.bit_word.ensures in
    let found = scan_found _ k (omega arith) (omega arith) (λ z. omega arith) c.loop-b.invariant in
    lowest_answers image (ap (λ (k : ℕ). Some (record { 0 = k })) c.slice_at.ensures ∙ found)

pub returns-after-loop-w : goal.returns-after-loop-w
returns-after-loop-w c = lowest_answers _ (scan_none _ (16 * c.loop-w.w + 1) (omega arith) c.loop-w.invariant)
