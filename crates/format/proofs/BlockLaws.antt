-- Sectors written in two stores: words, and zeros behind them.
use mathlib.Core.Path.{◌≡◌, sym, ap, ◌∙◌}
use mathlib.Core.List.{List, ◌++◌, append-nil}
use Prim.Native.Nat.{ℕ, ◌+◌, ◌-◌, ◌*◌}
use native.Mathlib.Omega.{arith}
use lib.ListN.{length, take}
use lib.Seq.{take-length}
use Rattle.words.specs.Store.{store, zero_words}
use Rattle.words.proofs.StoreLaws.{store_append, store_start}
use Rattle.refine.specs.Format.{store_block}

pub block_stores : (image : List ℕ) (q : ℕ) (vs middle after : List ℕ) → middle ≡ store image (q * 256 + 0) (take (length vs) vs)
    → after ≡ store middle (q * 256 + length vs) (zero_words (256 - length vs)) → after ≡ store_block image q vs
unfolding store_block
block_stores image q vs middle after e f =
    let g : middle ≡ store image (q * 256) vs = e ∙ ap (store image (q * 256 + 0)) (take-length vs) ∙ store_start image q vs in
    f ∙ ap (λ (l : List ℕ). store l (q * 256 + length vs) (zero_words (256 - length vs))) g
    ∙ sym (store_append image (q * 256) vs (zero_words (256 - length vs)))

-- a block of 256 words leaves no room for zeros
pub block_full : (image : List ℕ) (q : ℕ) (vs : List ℕ) → length vs ≡ 256 → store image (q * 256) vs ≡ store_block image q vs
unfolding store_block zero_words
block_full image q vs e =
    ap (store image (q * 256)) (sym (append-nil vs) ∙ ap (λ (n : ℕ). vs ++ zero_words n) (let z : 0 ≡ 256 - length vs = omega arith in z))
