-- `slices::take_for_file` meets its contract: where a stretch is found its first slice is taken, and 01's choice goes on from it; else the
-- file takes by 01's choice.
use Rattle.std.specs.Prelude.{None}
use mathlib.Core.Path.{◌≡◌, ◌∙◌}
use Prim.Native.Nat.{◌≤◌}
use native.Mathlib.Omega.{arith}
use Rattle.index.specs.Block.{pair_count}
use Rattle.slices.proofs.BlockLaws.{block-length}
use Rattle.slices.proofs.FileLaws.{took_nothing, took_last, took_old, first_ready, can_rest, took_rest}
use Rattle.slices.proofs.take_for_file.Goals as goal
use Rattle.slices.proofs.take_for_file.Goals.{else-n-gt0-via-else-n-gt0, else-n-gt0-via-then-n-gt0+else-pair_count-eq0, else-n-gt0-via-then-n-gt0+then-pair_count-eq0+in-None-1}

pub append_slice-requires : goal.append_slice-requires
append_slice-requires c =
    let can = c.requires.can in
    (omega (arith, block-length can.own), first_ready can (omega arith) (omega arith) c.lowest_stretch.ensures c.in-Some.is)

pub take_slices-requires : goal.take_slices-requires
take_slices-requires c = record {
  held = _;
  slices = _;
  can = can_rest c.requires.can (omega arith) (omega arith) c.lowest_stretch.ensures c.in-Some.is c.mark_used.ensures c.append_slice.ensures;
}

pub returns : goal.returns
returns c =
    let some : 1 ≤ c.args.n = omega arith in
    let none : pair_count c.args.words.now 0 ≡ 0 = omega arith in
    record {
      all = λ held slices can.
          let finds = c.lowest_stretch.ensures in
          let is = c.in-Some.is in
          let a = c.mark_used.ensures in
          let b = c.append_slice.ensures in
          took_rest can some none finds is a b (c.take_slices.ensures.all _ _ (can_rest can some none finds is a b));
    }

-- nothing to take, or the file has slices, or no stretch is long enough
pub returns-2 : goal.returns-2
returns-2 c =
    record {
      all = λ held slices can.
          let from = c.take_slices-2.ensures.all held slices can in
          elim c.else-n-gt0.branch [
            | else-n-gt0-via-else-n-gt0 w ↦ took_nothing can from (omega arith)
            | else-n-gt0-via-then-n-gt0+else-pair_count-eq0 w ↦ took_last can from (λ z. w.if-pair_count-eq0.false (w.pair_count.ensures ∙ z))
            | else-n-gt0-via-then-n-gt0+then-pair_count-eq0+in-None-1 w ↦
                let none : pair_count c.args.words.now 0 ≡ 0 = omega arith in
                let is : w.lowest_stretch.result ≡ None = cc in
                took_old can from (omega arith) none w.lowest_stretch.ensures is
          ];
    }
