-- Where a stretch ends, the sectors of its slices, and those of the slices after it.
use mathlib.Core.Path.{◌≡◌, ap, ap₂, ◌∙◌}
use mathlib.Core.List.{List, ◌++◌}
use Prim.Native.Nat.{ℕ, zero, suc, ◌+◌, ◌*◌, ◌-◌, ◌/◌, ◌%◌, ◌≤◌, ◌<◌}
use native.Mathlib.Omega.{arith}
use native.Mathlib.Nat.{div-add-mod', div-lt_iff_lt-mul, add-mul, eq_of_mul-eq-mul_right, add-mul-div_left, add-mul-mod_self_left}
use lib.ListN.{length, get_or}
use lib.Seq.{get_or-append-add}
use Rattle.disc.specs.Numbers.{slice_start}
use Rattle.disc.specs.Stretches.{span, sector_in}
use Rattle.disc.proofs.CutLaws.{length_span}

-- c slices from slice x on end where slice k starts exactly if k comes after them
module _ (F s x c k : ℕ) (pos : 1 ≤ s) (p : 1 ≤ x) (r : 1 ≤ k) where
  pub ends_before : slice_start F s x + s * c ≡ slice_start F s k → x + c ≡ k
  ends_before e =
      let m : (x - 1 + c) * s ≡ (k - 1) * s = omega (arith, add-mul (x - 1) c s) in
      let f : x - 1 + c ≡ k - 1 = eq_of_mul-eq-mul_right s pos (x - 1 + c) (k - 1) m in
      omega arith

  pub before_ends : x + c ≡ k → slice_start F s x + s * c ≡ slice_start F s k
  before_ends e =
      let f : x - 1 + c ≡ k - 1 = omega arith in
      omega (arith, add-mul (x - 1) c s, ap (λ (n : ℕ). n * s) f)

get_d_span : (c x i : ℕ) (l : List ℕ) → i < c → get_or (span x c ++ l) i 0 ≡ x + i
get_d_span zero x i l h = absurd (omega arith)
get_d_span (suc c) x zero l h = omega arith
get_d_span (suc c) x (suc i) l h = get_d_span c (suc x) i l (omega arith) ∙ omega arith

module _ (F s x c : ℕ) (l : List ℕ) (b : ℕ) (pos : 1 ≤ s) where
  -- sector b of c slices from slice x on
  pub sector_span : 1 ≤ x → b < s * c → sector_in F s (span x c ++ l) b ≡ slice_start F s x + b
  sector_span p h =
      let d : b / s < c = (div-lt_iff_lt-mul pos).1 (omega arith) in
      let e : x + b / s - 1 ≡ x - 1 + b / s = omega arith in
      ap (λ (k : ℕ). slice_start F s k + b % s) (get_d_span c x (b / s) l d)
      ∙ omega (arith, ap (λ (n : ℕ). n * s) e, add-mul (x - 1) (b / s) s, div-add-mod' b s)

  -- a sector past those slices
  pub sector_past : s * c ≤ b → sector_in F s (span x c ++ l) b ≡ sector_in F s l (b - s * c)
  sector_past h =
      let e : b ≡ b - s * c + s * c = omega arith in
      let d : b / s ≡ (b - s * c) / s + c = ap (λ (n : ℕ). n / s) e ∙ add-mul-div_left (b - s * c) c pos in
      let r : b % s ≡ (b - s * c) % s = ap (λ (n : ℕ). n % s) e ∙ add-mul-mod_self_left (b - s * c) s c in
      let i : b / s ≡ length (span x c) + (b - s * c) / s = omega (arith, length_span x c) in
      ap₂ (λ (k o : ℕ). slice_start F s (get_or (span x c ++ l) k 0) + o) i r
      ∙ ap (λ (k : ℕ). slice_start F s k + (b - s * c) % s) (get_or-append-add (span x c) l ((b - s * c) / s) 0)
