-- `sound_names::mask` meets its contract. Assumes nothing.
use mathlib.Core.Path.{◌≡◌, ap₂, ◌∙◌}
use Prim.Native.Nat.{ℕ, ◌*◌, ◌/◌, ◌%◌, ◌^◌, ◌<◌}
use native.Mathlib.Nat.{one-mul}
use native.Mathlib.Omega.{arith}
use lib.Bits.{bit_or}
use lib.Pow.{shl_exact}
use Rattle.sound_names.specs.Filter.{mask_by}
use Rattle.sound_names.proofs.mask.Goals as goal

-- one bit
bit : (k : ℕ) → k < 64 → 1 * 2 ^ k % 2 ^ 64 ≡ 2 ^ k
bit k h = shl_exact {a = 1} 1 k 64 (omega arith) (omega arith) ∙ one-mul (2 ^ k)

pub returns : goal.returns
unfolding mask_by
returns c =
    let x = c.args.x in
    ap₂ bit_or (ap₂ bit_or (bit (x / 4294967296 % 64) (omega arith)) (bit (x / 16384 % 64) (omega arith))) (bit (x / 256 % 64) (omega arith))
