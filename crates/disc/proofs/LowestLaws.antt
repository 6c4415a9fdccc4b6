-- The lowest of some numbers whose bit is not 0.
use mathlib.Core.Path.{◌≡◌, refl, ap}
use mathlib.Core.Logic.{◌≢◌}
use Prim.Native.Nat.{ℕ, zero, suc, ◌+◌, ◌≤◌, ◌<◌}
use native.Mathlib.Omega.{arith}
use Rattle.disc.specs.Slices.{first_if, lowest_one}
use Rattle.disc.proofs.Compare.{same_or}

pub first_some : (d k rest : ℕ) → d ≢ 0 → first_if d k rest ≡ k
first_some zero k rest h = absurd (h refl)
first_some (suc d) k rest h = refl

module _ (bits : ℕ → ℕ) where
  pub lowest_none : (n a : ℕ) → ((j : ℕ) → a ≤ j → j < a + n → bits j ≡ 0) → lowest_one bits n a ≡ 0
  unfolding lowest_one
  lowest_none zero a none = refl
  lowest_none (suc n) a none =
      rw (none a (omega arith) (omega arith)) (lowest_none n (suc a) (λ j p q. none j (omega arith) (omega arith)))

  pub lowest_is : (n a k : ℕ) → a ≤ k → k < a + n → bits k ≢ 0 → ((j : ℕ) → a ≤ j → j < k → bits j ≡ 0) → lowest_one bits n a ≡ k
  unfolding lowest_one
  lowest_is zero a k l h one none = absurd (omega arith)
  lowest_is (suc n) a k l h one none = same_or a k
      (λ e. rw e (first_some (bits k) k (lowest_one bits n (suc k)) one))
      (λ d. rw (none a (omega arith) (omega arith)) (lowest_is n (suc a) k (omega arith) (omega arith) one (λ j p q. none j (omega arith) q)))

  -- what is found is a one of the n bits from a on
  pub lowest_found : (n a k : ℕ) → lowest_one bits n a ≡ suc k → (a ≤ suc k) × (suc k < a + n) × (bits (suc k) ≢ 0)
  unfolding lowest_one
  lowest_found zero a k e = absurd (omega arith)
  lowest_found (suc n) a k e = go (bits a) refl e (λ f. lowest_found n (suc a) k f)
    where
      go : (d : ℕ) → bits a ≡ d → first_if d a (lowest_one bits n (suc a)) ≡ suc k
          → (lowest_one bits n (suc a) ≡ suc k → (suc a ≤ suc k) × (suc k < suc a + n) × (bits (suc k) ≢ 0))
          → (a ≤ suc k) × (suc k < a + suc n) × (bits (suc k) ≢ 0)
      go zero f e rest = let r = rest e in (omega (arith, r.0), omega (arith, r.1), r.2)
      go (suc d) f e rest = (omega arith, omega arith, λ z. omega (arith, f, z, ap bits e))

-- bits that agree have the same lowest one
pub lowest_agree : (bits other : ℕ → ℕ) (n a : ℕ) → ((j : ℕ) → bits j ≡ other j) → lowest_one bits n a ≡ lowest_one other n a
unfolding lowest_one
lowest_agree bits other zero a e = refl
lowest_agree bits other (suc n) a e = rw (e a, lowest_agree bits other n (suc a) e) refl
