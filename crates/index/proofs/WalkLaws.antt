-- The walks along a block's pairs: where a walk is at its end, and one step of it.
use mathlib.Core.Path.{◌≡◌, refl, sym, ap, ◌∙◌}
use mathlib.Core.List.{List, [], ◌∷◌, ◌++◌, append-nil, append_assoc}
use Prim.Native.Nat.{ℕ, zero, suc, ◌+◌, ◌-◌, ◌*◌, ◌/◌, ◌%◌, ◌≤◌, ◌<◌, min}
use native.Mathlib.Nat.{mul-div_cancel_left}
use native.Mathlib.Numerals.{add-one}
use native.Mathlib.Omega.{arith}
use lib.ListN.{length, set, length-append, length-set}
use borrow.Author.Tests.{lt-ltb, le-ltb}
use Rattle.disc.specs.Pairs.{pair_length, pair_start}
use Rattle.index.specs.Block.{whole, with_pair, pairs_from, sectors_from, sector_from, cut_pair, cut_pairs}
use Rattle.index.proofs.BlockLaws.{length_whole, whole_pair, whole_count}

step : {j n : ℕ} → j < n → n - j ≡ suc (n - (j + 1))
step h = omega arith

module _ (l : List ℕ) (q n j : ℕ) where
  pub sectors_none : n ≤ j → sectors_from l q (n - j) j ≡ 0
  unfolding sectors_from
  sectors_none h = let e : n - j ≡ 0 = omega arith in rw e

  pub sectors_more : j < n → sectors_from l q (n - j) j ≡ pair_length l q j + sectors_from l q (n - (j + 1)) (j + 1)
  unfolding sectors_from
  sectors_more h = rw (step h, add-one j)

  pub pairs_none : n ≤ j → pairs_from l q (n - j) j ≡ []
  unfolding pairs_from
  pairs_none h = let e : n - j ≡ 0 = omega arith in rw e

  pub pairs_more : j < n → pairs_from l q (n - j) j ≡ pair_length l q j ∷ pair_start l q j ∷ pairs_from l q (n - (j + 1)) (j + 1)
  unfolding pairs_from
  pairs_more h = rw (step h, add-one j)

  pub sector_none : (b : ℕ) → n ≤ j → sector_from l q (n - j) j b ≡ 0
  unfolding sector_from
  sector_none b h = let e : n - j ≡ 0 = omega arith in rw e

  pub sector_here : (b : ℕ) → j < n → b < pair_length l q j → sector_from l q (n - j) j b ≡ (pair_start l q j + b) % 65536
  unfolding sector_from
  sector_here b h x = rw (step h, lt-ltb b (pair_length l q j) x)

  pub sector_next : (b : ℕ) → j < n → pair_length l q j ≤ b → sector_from l q (n - j) j b ≡ sector_from l q (n - (j + 1)) (j + 1) (b - pair_length l q j)
  unfolding sector_from
  sector_next b h x = rw (step h, le-ltb b (pair_length l q j) x, add-one j)

module _ (block : List ℕ) (n j : ℕ) where
  pub cut_none : (b : ℕ) → n ≤ j → cut_pairs block (n - j) j b ≡ []
  unfolding cut_pairs
  cut_none b h = let e : n - j ≡ 0 = omega arith in rw e

  pub cut_end : cut_pairs block (n - j) j 0 ≡ []
  unfolding cut_pairs cut_pair
  cut_end = go (n - j)
    where
      go : (k : ℕ) → cut_pairs block k j 0 ≡ []
      go zero = refl
      go (suc k) = refl

  pub cut_more : (b : ℕ) → j < n → 1 ≤ b
      → cut_pairs block (n - j) j b ≡ min (pair_length block 0 j) b ∷ pair_start block 0 j ∷ cut_pairs block (n - (j + 1)) (j + 1) (b - pair_length block 0 j)
  unfolding cut_pairs cut_pair
  cut_more b h x = rw (step h, add-one j) (go b x)
    where
      go : (b : ℕ) → 1 ≤ b → cut_pair b (pair_length block 0 j) (pair_start block 0 j) (cut_pairs block (n - suc j) (suc j) (b - pair_length block 0 j))
          ≡ min (pair_length block 0 j) b ∷ pair_start block 0 j ∷ cut_pairs block (n - suc j) (suc j) (b - pair_length block 0 j)
      go zero y = absurd (omega arith)
      go (suc b) y = refl

-- ---- a block that is filled pair by pair

-- the block w has the count n and the first j pairs of the words `all`; `left` are the others
pub record Filling (n : ℕ) (all w : List ℕ) (j : ℕ) (left : List ℕ) : Type 0 where
  pub stored : List ℕ
  pub filled : w ≡ whole (n ∷ stored)
  pub long : length stored ≡ 2 * j
  pub rest : stored ++ left ≡ all
  pub size : length w ≡ 256

pub fill_start : (n : ℕ) (all w : List ℕ) → w ≡ whole (n ∷ []) → Filling n all w 0 all
fill_start n all w e = record { stored = []; filled = e; long = refl; rest = refl; size = ap length e ∙ length_whole (n ∷ []) (omega arith) }

module _ (n : ℕ) (all w : List ℕ) (j : ℕ) where
  pub fill_more : (x y : ℕ) (left : List ℕ) → j < 127 → Filling n all w j (x ∷ y ∷ left) → Filling n all (with_pair w j x y) (j + 1) left
  fill_more x y left h f =
      record {
        stored = f.stored ++ (x ∷ y ∷ []);
        filled = ap (λ (u : List ℕ). with_pair u j x y) f.filled ∙ whole_pair (n ∷ f.stored) j x y (omega (arith, f.long)) h;
        long = omega (arith, length-append f.stored (x ∷ y ∷ []), f.long);
        rest = append_assoc f.stored (x ∷ y ∷ []) left ∙ f.rest;
        size = simp length-set f.size;
      }

  pub fill_all : Filling n all w j [] → w ≡ whole (n ∷ all)
  fill_all f = f.filled ∙ ap (λ (u : List ℕ). whole (n ∷ u)) (sym (append-nil f.stored) ∙ f.rest)

  pub fill-length : Filling n all w j [] → length all ≡ 2 * j
  fill-length f = ap length (sym f.rest ∙ append-nil f.stored) ∙ f.long

-- the count of a filled block
pub fill_count : {n : ℕ} {all w : List ℕ} {j : ℕ} {left : List ℕ} (m : ℕ) → Filling n all w j left → Filling m all (set w 0 m) j left
fill_count {n} {all} {w} m f = record {
  stored = f.stored;
  filled = ap (λ (u : List ℕ). set u 0 m) f.filled ∙ whole_count n m f.stored;
  long = f.long;
  rest = f.rest;
  size = simp length-set f.size;
}

-- a block that has as many pairs as it counts
pub fill_counted : (all w : List ℕ) (j : ℕ) → Filling j all w j [] → w ≡ whole (length all / 2 ∷ all)
fill_counted all w j f =
    let e : length all / 2 ≡ j = ap (λ (k : ℕ). k / 2) (fill-length j all w j f) ∙ mul-div_cancel_left j (omega arith) in
    fill_all j all w j f ∙ ap (λ (k : ℕ). whole (k ∷ all)) (sym e)
