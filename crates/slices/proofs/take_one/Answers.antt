-- `slices::take_one` meets its contract: the next slice is marked and appended, or there is no room for it.
use mathlib.Core.Path.{◌≡◌, sym, ◌∙◌}
use mathlib.Core.List.{List}
use Rattle.std.specs.Prelude.{Result}
use Prim.Native.Nat.{ℕ}
use native.Mathlib.Omega.{arith}
use Rattle.types.specs.declared.Slice.{Slice}
use Rattle.slices.specs.declared.Lack.{Lack}
use Rattle.slices.specs.Take.{CanTakeFrom, Chosen, next_of}
use Rattle.slices.proofs.BlockLaws.{block-length}
use Rattle.slices.proofs.TakeLaws.{can_fewer, can_fresh, inside, one_at, one_few, refused, ready, took_one}
use Rattle.slices.proofs.take_one.Goals as goal

-- the answer in hand is the next slice
is-next : {image block : List ℕ} {F s m : ℕ} {held slices : List ℕ} {r t : Result Slice Lack} → Chosen image block F s m r → r ≡ t
    → CanTakeFrom image block F s m 1 held slices → t ≡ next_of m held slices
is-next {held = held} {slices = slices} chosen is can = sym is ∙ (chosen.all held slices (can_fewer can (omega arith))).next

pub returns-in_err-k : goal.returns-in_err-k
returns-in_err-k c = record {
  all = λ held slices can.
      let is = is-next c.next_slice.ensures c.in_err-k.was can in
      refused c.from_residual.result c.from_residual.ensures.0 (λ few. cc (is ∙ one_few can few));
}

pub mark_used-requires : goal.mark_used-requires
mark_used-requires c =
    let can = c.requires.can in
    let e = one_at can (is-next c.next_slice.ensures c.in_ok-k.was can) in
    let i = inside can (can_fresh can) in
    (omega (arith, e.0, i.0), omega (arith, e.0, i.1, can.own.most), can.long)

pub append_slice-requires : goal.append_slice-requires
append_slice-requires c =
    let can = c.requires.can in
    let e = one_at can (is-next c.next_slice.ensures c.in_ok-k.was can) in
    (omega (arith, block-length can.own), rw e.0 (ready can (can_fresh can) e.1))

pub returns : goal.returns
returns c =
    record { all = λ held slices can. took_one can (is-next c.next_slice.ensures c.in_ok-k.was can) c.mark_used.ensures c.append_slice.ensures }
