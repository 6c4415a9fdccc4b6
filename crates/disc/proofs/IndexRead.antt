-- The slices that an index block describes are those it was written for.
use mathlib.Core.Path.{◌≡◌, refl, ap, ap₂, ◌∙◌}
use mathlib.Core.List.{List, ◌∷◌}
use Prim.Native.Nat.{ℕ, ◌+◌, ◌-◌, ◌/◌, ◌≤◌, ◌<◌}
use native.Mathlib.Omega.{arith}
use native.Mathlib.Nat.{mul-div_cancel_left}
use lib.ListN.{length, get_or}
use Rattle.disc.specs.Words.{Holds}
use Rattle.disc.specs.Stretches.{Stretch, stretches, stretch_count, index_words, expand, stretch_at, stretches_from, slices_at}
use Rattle.disc.specs.Pairs.{pair_length, pair_start}
use Rattle.disc.proofs.NumberLaws.{slice_of_start}
use Rattle.disc.proofs.StretchLaws.{expand_stretches}
use Rattle.disc.proofs.IndexUnique as unique
use Rattle.disc.proofs.IndexUnique.{Firsts, firsts}
use Rattle.disc.proofs.IndexLaws.{Described, none, more, described}

module _ (image : List ℕ) (F s q : ℕ) (pos : 1 ≤ s) where
  stretches_read : {rs : List Stretch} {j : ℕ} → Firsts rs → Described image F s q j rs → stretches_from image F s q (length rs) j ≡ rs
  stretches_read a none = refl
  stretches_read (unique.next p a) (more {j = j} {r = r} {rs = rs} x y d) =
      let c : pair_length image q j / s ≡ r.count = ap (λ (n : ℕ). n / s) x ∙ mul-div_cancel_left r.count pos in
      let f : (pair_start image q j - F) / s + 1 ≡ r.first = ap (λ (n : ℕ). (n - F) / s + 1) y ∙ slice_of_start F s r.first pos p in
      let e : stretch_at image F s q j ≡ r = λ i. record { first = f i; count = c i } in
      ap₂ (λ (t : Stretch) (ts : List Stretch). t ∷ ts) e (stretches_read a d)

  pub slices_read : (l : List ℕ) → ((j : ℕ) → j < length l → 1 ≤ get_or l j 0) → stretch_count l ≤ 127 → Holds image q (index_words F s l) → slices_at image F s q ≡ l
  slices_read l above few h =
      ap (λ (n : ℕ). expand (stretches_from image F s q n 0)) (h.at 0 (omega arith) (omega arith))
      ∙ ap expand (stretches_read (firsts l above) (described image F s q (stretches l) few h))
      ∙ expand_stretches l
