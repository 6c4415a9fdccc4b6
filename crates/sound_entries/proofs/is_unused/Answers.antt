-- `sound_entries::is_unused` meets its contract: no bit is gathered exactly if every word so far is 0. Assumes nothing.
use Rattle.std.proofs.Common.{◌≡◌, ℕ, ap₂, arith, below_more}
use lib.Bits.{bit_or, or_add_and, and_le_l, and_le_r}
use Rattle.sound_entries.proofs.is_unused.Goals as goal

-- no bit of either
or-none : (a b : ℕ) → bit_or a b ≡ 0 → (a ≡ 0) × (b ≡ 0)
or-none a b e = let s = or_add_and a b in let l = and_le_l a b in let r = and_le_r a b in (omega arith, omega arith)

pub loop-word-preserved : goal.loop-word-preserved
loop-word-preserved c =
    let inv = c.loop-word.invariant in
    (λ e. let n = or-none _ _ e in below_more _ _ (inv.0 n.0) n.1, λ f. ap₂ bit_or (inv.1 (λ k h. f k (omega arith))) (f c.loop-word.word-index (omega arith)))
