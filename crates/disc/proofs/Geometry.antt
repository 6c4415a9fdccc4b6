-- Where the sectors of a list of slices lie, and when two of them are the same.
use mathlib.Core.Path.{◌≡◌, refl, sym, ap, ap₂, ◌∙◌}
use mathlib.Core.List.{List, [], ◌∷◌}
use mathlib.Core.Logic.{◌≢◌}
use Prim.Native.Nat.{ℕ, zero, suc, ◌+◌, ◌*◌, ◌-◌, ◌/◌, ◌%◌, ◌≤◌, ◌<◌}
use native.Mathlib.Omega.{arith}
use native.Mathlib.Nat.{div-add-mod', mod-lt, div-lt_iff_lt-mul, mul-le-mul_right}
use lib.ListN.{length, get_or}
use Rattle.disc.specs.Numbers.{need, ceil_div}
use Rattle.disc.specs.Slices.{InRangeOnce, occurrences}
use Rattle.disc.specs.Stretches.{sector_in}
use Rattle.disc.proofs.Compare.{compare_cases}
use Rattle.disc.proofs.SliceLaws.{in_unit_le, in_unit_out, occurrences_self}

-- quotient and rest are known by the number
pub split_unique : (s a r b t : ℕ) → r < s → t < s → a * s + r ≡ b * s + t → (a ≡ b) × (r ≡ t)
split_unique s a r b t hr ht e = compare_cases a b (λ _. (a ≡ b) × (r ≡ t))
    (λ h. absurd (omega (arith, mul-le-mul_right s h)))
    (λ q. (q, (let z : b * s + r ≡ b * s + t = rw q at e in omega arith)))
    (λ h. absurd (omega (arith, mul-le-mul_right s h)))

pub occurrences_in : (l : List ℕ) (j : ℕ) → j < length l → 1 ≤ occurrences (get_or l j 0) l
occurrences_in [] j h = absurd (omega arith)
occurrences_in (x ∷ l) zero h = omega (arith, occurrences_self x l)
occurrences_in (x ∷ l) (suc j) h = omega (arith, occurrences_in l j (omega arith))

-- a slice that stands once stands at one place
once : (l : List ℕ) (a b : ℕ) → a < length l → b < length l → get_or l a 0 ≡ get_or l b 0 → occurrences (get_or l a 0) l ≤ 1 → a ≡ b
once [] a b p q e t = absurd (omega arith)
once (x ∷ l) zero zero p q e t = refl
once (x ∷ l) zero (suc b) p q e t =
    absurd (omega (arith, occurrences_self x l, occurrences_in l b (omega arith), ap (λ (y : ℕ). occurrences y l) e))
once (x ∷ l) (suc a) zero p q e t =
    absurd (omega (arith, occurrences_self x l, occurrences_in l a (omega arith), ap (λ (y : ℕ). occurrences y (x ∷ l)) e, ap (λ (y : ℕ). occurrences y l) e))
once (x ∷ l) (suc a) (suc b) p q e t = ap suc (once l a b (omega arith) (omega arith) e (omega arith))

-- F is the first data sector, s the sectors of a slice, m the slices, h those held
module _ (F s m : ℕ) (h : List ℕ) (pos : 0 < s) (fit : InRangeOnce m h) where
  pub quot : (b c : ℕ) → b < c * s → b / s < c
  quot b c x = (div-lt_iff_lt-mul pos).1 x

  -- a list whose slices are among those held
  abbrev pub Part : List ℕ → Type 0
  Part l = (k : ℕ) → occurrences k l ≤ occurrences k h

  pub in_range : (l : List ℕ) (j : ℕ) → Part l → j < length l → (1 ≤ get_or l j 0) × (get_or l j 0 ≤ m)
  in_range l j q x = in_unit_out m (get_or l j 0) (omega (arith, occurrences_in l j x, q (get_or l j 0), fit (get_or l j 0)))

  -- the sectors of a held slice are data sectors
  pub data_sector : (l : List ℕ) (b : ℕ) → Part l → b / s < length l → (F ≤ sector_in F s l b) × (sector_in F s l b < F + m * s)
  data_sector l b q x =
      let r = in_range l (b / s) q x in
      let c : ℕ = get_or l (b / s) 0 in
      let a : c - 1 + 1 ≤ m = omega (arith, r.0, r.1) in
      let d : (c - 1 + 1) * s ≤ m * s = mul-le-mul_right s a in
      (omega arith, omega (arith, d, mod-lt b pos))

  -- sectors are the same only for one slice and one place in it
  same_sector : (l k : List ℕ) (a b : ℕ) → Part l → Part k → a / s < length l → b / s < length k → sector_in F s l a ≡ sector_in F s k b
      → (get_or l (a / s) 0 ≡ get_or k (b / s) 0) × (a % s ≡ b % s)
  same_sector l k a b ql qm ha hb e =
      let x = in_range l (a / s) ql ha in
      let y = in_range k (b / s) qm hb in
      let u = split_unique s (get_or l (a / s) 0 - 1) (a % s) (get_or k (b / s) 0 - 1) (b % s) (mod-lt a pos) (mod-lt b pos) (omega arith) in
      (omega (arith, u.0, x.0, y.0), u.1)

  -- two lists with no slice in common
  pub apart : (l k : List ℕ) (a b : ℕ) → ((x : ℕ) → occurrences x l + occurrences x k ≤ occurrences x h) → a / s < length l → b / s < length k → sector_in F s l a ≢ sector_in F s k b
  apart l k a b q ha hb e =
      let u = same_sector l k a b (λ x. omega (arith, q x)) (λ x. omega (arith, q x)) ha hb e in
      let c : ℕ = get_or l (a / s) 0 in
      omega (arith, q c, fit c, in_unit_le m c, occurrences_in l (a / s) ha, occurrences_in k (b / s) hb, ap (λ (z : ℕ). occurrences z k) u.0)

  -- one list, two of its sectors
  pub within : (l : List ℕ) (a b : ℕ) → Part l → a / s < length l → b / s < length l → sector_in F s l a ≡ sector_in F s l b → a ≡ b
  within l a b q ha hb e =
      let u = same_sector l l a b q q ha hb e in
      let c : ℕ = get_or l (a / s) 0 in
      let d : a / s ≡ b / s = once l (a / s) (b / s) ha hb u.0 (omega (arith, q c, fit c, in_unit_le m c)) in
      sym (div-add-mod' a s) ∙ ap₂ (λ (x y : ℕ). x * s + y) d u.1 ∙ div-add-mod' b s

-- n sectors and the index lie within the slices that n needs
pub need_cover : (s n c : ℕ) → 0 < s → need s n ≤ c → (b : ℕ) → b < n → b + 1 < c * s
need_cover s zero c pos h b lt = absurd (omega arith)
need_cover s (suc n) c pos h b lt =
    let q : suc n + 1 + (s - 1) < suc c * s = (div-lt_iff_lt-mul pos).0 (omega arith) in
    omega arith

pub ceil_cover : (s n c : ℕ) → 0 < s → ceil_div n s ≤ c → n ≤ c * s
ceil_cover s n c pos h =
    let q : n + (s - 1) < suc c * s = (div-lt_iff_lt-mul pos).0 (omega arith) in
    omega arith
