-- A block's joined sectors walked along: where the walk begins, and one pair further.
use mathlib.Core.Path.{◌≡◌, sym, ap, ◌∙◌}
use mathlib.Core.List.{List}
use Prim.Native.Nat.{ℕ, ◌+◌, ◌-◌, ◌<◌}
use native.Mathlib.Omega.{arith}
use Rattle.disc.specs.Pairs.{pair_length}
use Rattle.index.specs.Block.{pair_count, sector_from, joint_sector}
use Rattle.index.specs.Along.{Along}
use Rattle.index.proofs.WalkLaws.{sector_next}

pub along_start : (l : List ℕ) → Along l 0 0
along_start l = record {
  within = omega arith;
  same = λ b.
      ap (λ (n : ℕ). sector_from l 0 n 0 b) (let e : pair_count l 0 - 0 ≡ pair_count l 0 = omega arith in e)
      ∙ ap (joint_sector l 0) (let e : b ≡ 0 + b = omega arith in e);
}

pub along_next : (l : List ℕ) (j before after : ℕ) → Along l j before → j < pair_count l 0 → after ≡ before + pair_length l 0 j → Along l (j + 1) after
along_next l j before after along lt e = record {
  within = omega arith;
  same = λ b.
      let w : ℕ = pair_length l 0 j in
      ap (sector_from l 0 (pair_count l 0 - (j + 1)) (j + 1)) (let e : b ≡ w + b - w = omega arith in e)
      ∙ sym (sector_next l 0 (pair_count l 0) j (w + b) lt (omega arith)) ∙ along.same (w + b)
      ∙ ap (joint_sector l 0) (let f : before + (w + b) ≡ after + b = omega arith in f);
}
