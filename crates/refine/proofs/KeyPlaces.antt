-- Sums over a range, and the places of a key among those of SYS: sixteen for each layer.
use mathlib.Core.Path.{◌≡◌, refl, sym, ap, ◌∙◌}
use Prim.Native.Nat.{ℕ, zero, suc, ◌+◌, ◌*◌, ◌/◌, ◌%◌, ◌≤◌, ◌<◌, compare}
use native.Mathlib.Omega.{arith}
use native.Mathlib.Nat.{add-suc, mod-eq_of_lt, mul-add-mod_self_left, mul-le-mul_left}
use Rattle.disc.specs.Slices.{one_if_same}
use Rattle.disc.specs.Entries.{place_count}
use Rattle.disc.proofs.SliceLaws.{same_le, one_other}
use Rattle.disc.proofs.Compare.{tri_same, same_or, below_or}
use Rattle.plain.proofs.Collect.{sum_below, sum_ext}

-- ---- sums over a range

pub sum_le : (n : ℕ) (f g : ℕ → ℕ) → ((t : ℕ) → t < n → f t ≤ g t) → sum_below n f ≤ sum_below n g
unfolding sum_below
sum_le zero f g h = omega arith
sum_le (suc n) f g h = omega (arith, sum_le n f g (λ t x. h t (omega arith)), h n (omega arith))

-- n terms of at most c each
pub sum_most : (n c : ℕ) (f : ℕ → ℕ) → ((t : ℕ) → t < n → f t ≤ c) → sum_below n f ≤ n * c
unfolding sum_below
sum_most zero c f h = omega arith
sum_most (suc n) c f h = omega (arith, sum_most n c f (λ t x. h t (omega arith)), h n (omega arith))

sum_zero : (n : ℕ) (f : ℕ → ℕ) → ((t : ℕ) → t < n → f t ≡ 0) → sum_below n f ≡ 0
sum_zero n f h = omega (arith, sum_most n 0 f (λ t x. omega (arith, h t x)))

sum_times : (n c : ℕ) (f : ℕ → ℕ) → sum_below n (λ t. c * f t) ≡ c * sum_below n f
unfolding sum_below
sum_times zero c f = omega arith
sum_times (suc n) c f = omega (arith, sum_times n c f)

sum_split : (a b : ℕ) (f : ℕ → ℕ) → sum_below (a + b) f ≡ sum_below a f + sum_below b (λ j. f (a + j))
unfolding sum_below
sum_split a zero f = rw (let e : a + 0 ≡ a = omega arith in e) (omega arith)
sum_split a (suc b) f = rw (add-suc a b) (omega (arith, sum_split a b f))

-- a times b terms, in b groups of a
sum_regroup : (a b : ℕ) (f : ℕ → ℕ) → sum_below (a * b) f ≡ sum_below b (λ q. sum_below a (λ j. f (a * q + j)))
unfolding sum_below
sum_regroup a zero f = rw (let e : a * 0 ≡ 0 = omega arith in e) refl
sum_regroup a (suc b) f = rw (let e : a * suc b ≡ a * b + a = omega arith in e) (omega (arith, sum_split (a * b) a f, sum_regroup a b f))

-- ---- a sum and one of its terms

sum_term : (n i : ℕ) (f : ℕ → ℕ) → i < n → f i ≤ sum_below n f
unfolding sum_below
sum_term zero i f h = absurd (omega arith)
sum_term (suc n) i f h = same_or i n (λ e. omega (arith, ap f e)) (λ d. omega (arith, sum_term n i f (omega arith)))

-- terms below those of g, one of them by more
pub sum_less : (n i : ℕ) (f g : ℕ → ℕ) → i < n → ((t : ℕ) → t < n → f t ≤ g t) → f i < g i → sum_below n f < sum_below n g
unfolding sum_below
sum_less zero i f g h le lt = absurd (omega arith)
sum_less (suc n) i f g h le lt = same_or i n
    (λ e. omega (arith, sum_le n f g (λ t x. le t (omega arith)), ap f e, ap g e))
    (λ d. omega (arith, sum_less n i f g (omega arith) (λ t x. le t (omega arith)) lt, le n (omega arith)))

-- the first term taken out
pub sum_front : (n : ℕ) (f : ℕ → ℕ) → sum_below (suc n) f ≡ f 0 + sum_below n (λ t. f (suc t))
unfolding sum_below
sum_front zero f = omega arith
sum_front (suc n) f = omega (arith, sum_front n f)

-- a sum of which at most one term counts
pub sum_alone : (n : ℕ) (f : ℕ → ℕ) → ((t : ℕ) → t < n → f t ≤ 1) → ((t u : ℕ) → t < n → u < n → 1 ≤ f t → 1 ≤ f u → t ≡ u) → sum_below n f ≤ 1
unfolding sum_below
sum_alone zero f le one = omega arith
sum_alone (suc n) f le one = below_or (f n) 1
    (λ z. omega (arith, sum_alone n f (λ t x. le t (omega arith)) (λ t u x y. one t u (omega arith) (omega arith))))
    (λ z.
    let none : sum_below n f ≡ 0 = sum_zero n f (λ t x. below_or (f t) 1 (λ y. omega arith) (λ y. absurd (omega (arith, one t n (omega arith) (omega arith) y z)))) in
    omega (arith, le n (omega arith)))

-- a sum that is not 0 has such a term
pub sum_some : (n : ℕ) (f : ℕ → ℕ) → 1 ≤ sum_below n f → (t : ℕ) × (t < n) × (1 ≤ f t)
unfolding sum_below
sum_some zero f h = absurd (omega arith)
sum_some (suc n) f h = below_or (f n) 1
    (λ z. let r = sum_some n f (omega arith) in (r.0, omega (arith, r.1), r.2))
    (λ z. (n, omega arith, z))

-- ---- the places of a key

abbrev pub is_key : ℕ → ℕ → ℕ
is_key k x = one_if_same (compare x k)

is_most : (k x : ℕ) → is_key k x ≤ 1
is_most k x = same_le (compare x k)

pub is_key_lem : (k : ℕ) → is_key k k ≡ 1
is_key_lem k = rw (tri_same k) refl

pub is_same : (k x : ℕ) → 1 ≤ is_key k x → x ≡ k
is_same k x h = same_or x k (λ e. e) (λ d. absurd (omega (arith, one_other x k d)))

-- one number is k
one_key : (n k : ℕ) → sum_below n (is_key k) ≤ 1
one_key n k = sum_alone n (is_key k) (λ t x. is_most k t) (λ t u x y a b. is_same k t a ∙ sym (is_same k u b))

-- n terms of c each
sum_const : (n c : ℕ) (f : ℕ → ℕ) → ((t : ℕ) → t < n → f t ≡ c) → sum_below n f ≡ n * c
unfolding sum_below
sum_const zero c f h = omega arith
sum_const (suc n) c f h = omega (arith, sum_const n c f (λ t x. h t (omega arith)), h n (omega arith))

-- every layer has the same sectors of the key, and sixteen places in each
module _ (H L k : ℕ) where
  sectors_of_lem : sum_below (H * L) (λ q. is_key k (q % H)) ≡ L * sum_below H (is_key k)
  sectors_of_lem =
      sum_regroup H L (λ q. is_key k (q % H))
      ∙ sum_const L (sum_below H (is_key k)) (λ l. sum_below H (λ j. is_key k ((H * l + j) % H))) (λ l x.
      sum_ext H (λ j. is_key k ((H * l + j) % H)) (is_key k) (λ j y. ap (is_key k) (mul-add-mod_self_left H l j ∙ mod-eq_of_lt y)))

  places-sum : sum_below (place_count H L) (λ t. is_key k (t / 16 % H)) ≡ 16 * (L * sum_below H (is_key k))
  places-sum =
      sum_regroup 16 (H * L) (λ t. is_key k (t / 16 % H))
      ∙ sum_ext (H * L) (λ q. sum_below 16 (λ j. is_key k ((16 * q + j) / 16 % H))) (λ q. 16 * is_key k (q % H)) (λ q x.
      sum_const 16 (is_key k (q % H)) (λ j. is_key k ((16 * q + j) / 16 % H)) (λ j y.
      ap (λ (n : ℕ). is_key k (n % H)) (let e : (16 * q + j) / 16 ≡ q = omega arith in e)))
      ∙ sum_times (H * L) 16 (λ q. is_key k (q % H)) ∙ ap (λ (n : ℕ). 16 * n) sectors_of_lem

  -- no number is twice a key, and each below H once
  pub places_of_lem : sum_below (place_count H L) (λ t. is_key k (t / 16 % H)) ≤ 16 * L
  places_of_lem = omega (arith, places-sum, mul-le-mul_left L (one_key H k))

  pub places_least : k < H → 16 * L ≤ sum_below (place_count H L) (λ t. is_key k (t / 16 % H))
  places_least low =
      let once : 1 ≤ sum_below H (is_key k) = omega (arith, sum_term H k (is_key k) low, is_key_lem k) in omega (arith, places-sum, mul-le-mul_left L once)
