-- `slices::take_slices` meets its contract. The loop's invariant: what is left to take gives, from the image and the block now, what
-- was to be taken.
use mathlib.Core.Path.{◌≡◌, refl}
use mathlib.Core.List.{List}
use Prim.Native.Nat.{ℕ, suc, ◌+◌, ◌-◌, ◌<◌}
use native.Mathlib.Omega.{arith}
use Rattle.slices.proofs.TakeLaws.{Left, left_one, left_next, left_full, left_done, refused}
use Rattle.slices.proofs.take_slices.Goals as goal

-- in a turn some slice is left to take
turn : {image₀ image block : List ℕ} {F s m n j : ℕ} {held slices : List ℕ} → j < n → Left image₀ image block F s m n (n - j) held slices
    → Left image₀ image block F s m n (suc (n - (j + 1))) held slices
turn {n = n} {j = j} some left =
    let e : n - j ≡ suc (n - (j + 1)) = omega arith in
    rw e at left

pub take_one-requires : goal.take_one-requires
take_one-requires c =
    let can = c.requires in left_one (turn c.loop-test.true (c.loop.invariant can.held can.slices can.can))

pub returns-in_err-take_one : goal.returns-in_err-take_one
returns-in_err-take_one c =
    record {
      all = λ held own can.
          refused c.from_residual.result c.from_residual.ensures.0
          (left_full (turn c.loop-test.true (c.loop.invariant held own can)) c.in_err-take_one.ensures refl);
    }

pub loop-preserved : goal.loop-preserved
loop-preserved c held own can = left_next (turn c.loop-test.true (c.loop.invariant held own can)) c.in_ok-take_one.ensures refl

pub returns : goal.returns
returns c =
    let n : ℕ = c.args.n in
    let j : ℕ = c.loop.counter in
    let e : n - j ≡ 0 = omega arith in
    record { all = λ held own can. left_done (rw e at (c.loop.invariant held own can)) }
