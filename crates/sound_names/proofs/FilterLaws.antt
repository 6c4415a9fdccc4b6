-- Laws of the filter: the bits of one name are added to its word, and those of other names stay.
use mathlib.Core.Path.{◌≡◌, sym, ap, ap₂, ◌∙◌, subst}
use mathlib.Core.List.{List}
use Prim.Native.Nat.{ℕ, ◌+◌, ◌*◌, ◌/◌, ◌%◌, min}
use native.Mathlib.Omega.{arith}
use native.Mathlib.Nat.{div-add-mod'}
use lib.Arith.{bin_ind}
use lib.Bits.{bit_and, bit_or, and_step, or_step, and_zero_r, and_self, or_comm, or_add_and}
use lib.Dec.{eqb}
use lib.ListN.{length, get_or, set, length-set}
use lib.Seq.{get_or-set_same, get_or-set_other}
use borrow.Author.Tests.{eqb-false}
use Rattle.disc.proofs.Compare.{same_or}
use Rattle.sound_names.specs.Filter.{mixed, cell_by, mask_by, Has, Noted}

-- ---- a word with some bits more

-- bits that are set stay set
still-set : (p w m : ℕ) → bit_and w p ≡ p → bit_and (bit_or w m) p ≡ p
still-set = bin_ind (λ (p : ℕ). (w m : ℕ) → bit_and w p ≡ p → bit_and (bit_or w m) p ≡ p) (λ w m h. and_zero_r (bit_or w m)) step
  where
    step : (p : ℕ) → ((w m : ℕ) → bit_and w (p / 2) ≡ p / 2 → bit_and (bit_or w m) (p / 2) ≡ p / 2) → (w m : ℕ) → bit_and w p ≡ p → bit_and (bit_or w m) p ≡ p
    step p ih w m h =
        let a = and_step w p in
        let o = or_step w m in
        let high : bit_and (w / 2) (p / 2) ≡ p / 2 = omega arith in
        let half : bit_or w m / 2 ≡ bit_or (w / 2) (m / 2) = omega arith in
        let low : min (bit_or w m % 2) (p % 2) ≡ p % 2 = omega arith in
        and_step (bit_or w m) p ∙ ap₂ (λ (x y : ℕ). x * 2 + y) (ap (λ (x : ℕ). bit_and x (p / 2)) half ∙ ih (w / 2) (m / 2) high) low ∙ div-add-mod' p 2

-- bits that are added are set
now-set : (w m : ℕ) → bit_and (bit_or w m) m ≡ m
now-set w m = ap (λ (x : ℕ). bit_and x m) (or_comm w m) ∙ still-set m m w (and_self m)

-- bits that are set already change nothing
none_more : (w m : ℕ) → bit_and w m ≡ m → bit_or w m ≡ w
none_more w m h = omega (arith, or_add_and w m)

-- ---- a filter with one name more

module _ (filter : List ℕ) (size : length filter ≡ 4096) (x : ℕ) where
  abbrev after : List ℕ
  after = set filter (cell_by x) (bit_or (get_or filter (cell_by x) 0) (mask_by x))

  here : get_or after (cell_by x) 0 ≡ bit_or (get_or filter (cell_by x) 0) (mask_by x)
  here = get_or-set_same filter (cell_by x) _ 0 (omega arith)

  has_now : bit_and (get_or after (cell_by x) 0) (mask_by x) ≡ mask_by x
  has_now = ap (λ (w : ℕ). bit_and w (mask_by x)) here ∙ now-set (get_or filter (cell_by x) 0) (mask_by x)

  kept_now : (m : ℕ) → Has filter m → Has after m
  kept_now m h = record {
    bits = same_or (cell_by (mixed m)) (cell_by x)
        (λ e. ap (λ (i : ℕ). bit_and (get_or after i 0) (mask_by (mixed m))) e ∙ ap (λ (w : ℕ). bit_and w (mask_by (mixed m))) here
        ∙ still-set (mask_by (mixed m)) (get_or filter (cell_by x) 0) (mask_by x) (ap (λ (i : ℕ). bit_and (get_or filter i 0) (mask_by (mixed m))) (sym e) ∙ h.bits))
        (λ e. ap (λ (w : ℕ). bit_and w (mask_by (mixed m))) (get_or-set_other filter (cell_by x) (cell_by (mixed m)) _ 0 e) ∙ h.bits);
  }

  noted_by : (n : ℕ) → x ≡ mixed n → Noted (eqb (bit_or (get_or filter (cell_by x) 0) (mask_by x)) (get_or filter (cell_by x) 0)) filter after n
  noted_by n e = record {
    size = length-set filter (cell_by x) _ ∙ size;
    new = λ z h. eqb-false _ _ z (none_more (get_or filter (cell_by x) 0) (mask_by x) (subst (λ (y : ℕ). bit_and (get_or filter (cell_by y) 0) (mask_by y) ≡ mask_by y) (sym e) h.bits));
    has = record { bits = subst (λ (y : ℕ). bit_and (get_or after (cell_by y) 0) (mask_by y) ≡ mask_by y) e has_now };
    kept = kept_now;
  }

  pub noted : {mask : ℕ} (n : ℕ) → x ≡ mixed n → mask ≡ mask_by x
      → Noted (eqb (bit_or (get_or filter (cell_by x) 0) mask) (get_or filter (cell_by x) 0)) filter (set filter (cell_by x) (bit_or (get_or filter (cell_by x) 0) mask)) n
  noted {mask} n e f = subst (λ (y : ℕ). Noted (eqb (bit_or (get_or filter (cell_by x) 0) y) (get_or filter (cell_by x) 0)) filter (set filter (cell_by x) (bit_or (get_or filter (cell_by x) 0) y)) n) (sym f) (noted_by n e)
