-- The first and the last pair of a block, and a slice behind it: where there is no pair, where the slice joins it, where it does not.
use mathlib.Core.Path.{◌≡◌, refl, sym, ap, ◌∙◌}
use mathlib.Core.Bool.{Bool, true, false}
use mathlib.Core.List.{List}
use Prim.Native.Nat.{ℕ, zero, suc, ◌+◌, ◌-◌, ◌*◌, ◌/◌, ◌≤◌, ◌<◌}
use native.Mathlib.Nat.{zero-add}
use native.Mathlib.Omega.{arith}
use lib.Dec.{eqb}
use lib.ListN.{get_or, set}
use lib.Seq.{get_or-set_other, set-get_or}
use Rattle.disc.specs.Numbers.{slice_start}
use Rattle.disc.specs.Pairs.{pair_length, pair_start}
use Rattle.disc.proofs.Compare.{same_or}
use Rattle.index.specs.Block.{pair_count, sectors_from, last_slice_of, last_slice, joins_last, joins, lengthened, extended, appended}

module _ (F s : ℕ) (l : List ℕ) (q n : ℕ) (count : n ≡ pair_count l q) where
  pub last_none : n ≡ 0 → 0 ≡ last_slice F s l q
  unfolding last_slice_of
  last_none z = sym (ap (last_slice_of F s l q) (sym count ∙ z))

  pub last_some : 1 ≤ n → (pair_start l q (n - 1) - F) / s + pair_length l q (n - 1) / s ≡ last_slice F s l q
  unfolding last_slice_of
  last_some h = go n h ∙ ap (last_slice_of F s l q) count
    where
      go : (m : ℕ) → 1 ≤ m → (pair_start l q (m - 1) - F) / s + pair_length l q (m - 1) / s ≡ last_slice_of F s l q m
      go zero x = absurd (omega arith)
      go (suc j) x = let e : suc j - 1 ≡ j = omega arith in rw e

  pub joins_none : (k : ℕ) → n ≡ 0 → false ≡ joins F s k l q
  unfolding joins_last
  joins_none k z = sym (ap (joins_last F s k l q) (sym count ∙ z))

  pub joins_some : (k : ℕ) → 1 ≤ n → eqb (pair_start l q (n - 1) + pair_length l q (n - 1)) (slice_start F s k) ≡ joins F s k l q
  unfolding joins_last
  joins_some k h = go n h ∙ ap (joins_last F s k l q) count
    where
      go : (m : ℕ) → 1 ≤ m → eqb (pair_start l q (m - 1) + pair_length l q (m - 1)) (slice_start F s k) ≡ joins_last F s k l q m
      go zero x = absurd (omega arith)
      go (suc j) x = let e : suc j - 1 ≡ j = omega arith in rw e

  -- by the answer b to whether slice k joins the last pair
  module _ (k : ℕ) (b : Bool) (answer : b ≡ joins F s k l q) where
    pub joins_pair : b ≡ true → 1 ≤ n
    joins_pair t = go n refl
      where
        go : (m : ℕ) → n ≡ m → 1 ≤ m
        go zero z = let e : false ≡ true = joins_none k z ∙ sym answer ∙ t in let o : ◌≡◌ {A = ℕ} 0 1 = cc in absurd (omega arith)
        go (suc j) z = omega arith

-- one pair has no more sectors than all
pub pair_le : (l : List ℕ) (q n i j : ℕ) → i ≤ j → j < i + n → pair_length l q j ≤ sectors_from l q n i
unfolding sectors_from
pair_le l q zero i j a b = absurd (omega arith)
pair_le l q (suc n) i j a b = same_or i j
    (λ e. let f : pair_length l q i ≡ pair_length l q j = ap (pair_length l q) e in omega arith)
    (λ d. omega (arith, pair_le l q n (suc i) j (omega arith) (omega arith)))

-- the block r that is made in either case
module _ (F s k : ℕ) (block : List ℕ) (n : ℕ) (count : n ≡ pair_count block 0) (b : Bool) (answer : b ≡ joins F s k block 0) (r : List ℕ) where
  pub appended_joined : b ≡ true → r ≡ lengthened s block n → r ≡ appended F s k block
  unfolding appended
  appended_joined t made = let e : joins F s k block 0 ≡ true = sym answer ∙ t in made ∙ rw (e, count)

  pub appended_apart : (start : ℕ) → b ≡ false → start ≡ slice_start F s k → r ≡ extended s start block n → r ≡ appended F s k block
  unfolding appended
  appended_apart start t y made = let e : joins F s k block 0 ≡ false = sym answer ∙ t in made ∙ rw (y, e, count)

-- the length of the last pair is all that changes
pub lengthened_last : (s : ℕ) (block : List ℕ) (n i : ℕ) → i ≡ 2 * (n - 1) + 1 → set block i (get_or block i 0 + s) ≡ lengthened s block n
unfolding lengthened
lengthened_last s block n i e =
    let j = 2 * (n - 1) + 1 in
    let more = set block j (get_or block j 0 + s) in
    let other : get_or more (j + 1) 0 ≡ get_or block (j + 1) 0 = get_or-set_other block j (j + 1) (get_or block j 0 + s) 0 (omega arith) in
    ap (λ (k : ℕ). set block k (get_or block k 0 + s)) e
    ∙ sym (ap (λ (x : ℕ). set more (j + 1) x) (sym other) ∙ set-get_or more (j + 1) 0)
    ∙ simp zero-add (ap (λ (k : ℕ). set more k (get_or block k 0)) (let k : j + 1 ≡ 2 * (n - 1) + 2 = omega arith in k))
