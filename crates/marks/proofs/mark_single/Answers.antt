-- `marks::mark_single` meets its contract: where a slice starts at sector q, and the sectors are whole slices, the reciprocal gives
-- both numbers. Assumes nothing.
use mathlib.Core.Path.{◌≡◌, sym, ap, ◌∙◌}
use mathlib.Core.List.{List}
use Prim.Native.Nat.{ℕ, ◌+◌, ◌-◌, ◌*◌, ◌/◌, ◌≤◌}
use native.Mathlib.Omega.{arith}
use Rattle.disc.specs.Numbers.{slice_start}
use Rattle.kit.specs.declared.Geometry.{Geometry}
use Rattle.kit.specs.Geometry.{UnitOf}
use Rattle.marks.specs.Indexed.{SingleFile}
use Rattle.marks.proofs.SingleLaws.{single_left, single_fits, single_starts, single_count, single_marked}
use Rattle.marks.proofs.mark_single.Goals as goal
use Rattle.marks.proofs.mark_single.Goals.{then-count-g-via-then-count-g, then-count-g-via-else-count-g+then-g-k, then-count-g-via-else-count-g+else-g-k+then-not-one_pair}

module _ {image : List ℕ} {g : Geometry} {q sectors reciprocal : ℕ} {marks : List ℕ} (unit : UnitOf image g) (is : reciprocal ≡ 65536 / g.slice + 1)
    (file : SingleFile image g q sectors marks) where
  -- the guesses are right for a file in one stretch
  guessed_slice : {k : ℕ}
      → ((s k' : ℕ) → 2 ≤ s → reciprocal ≡ 65536 / s + 1 → 1 ≤ k' → q ≡ slice_start g.first.0 s k' → k ≡ k')
      → k ≡ (q - g.first.0) / g.slice + 1
  guessed_slice guess = guess g.slice ((q - g.first.0) / g.slice + 1) unit.limits.slice_low is (omega arith) (single_starts image g q sectors unit file)

  guessed_count : {n : ℕ} → ((s c : ℕ) → 2 ≤ s → reciprocal ≡ 65536 / s + 1 → sectors ≡ c * s → n ≡ c) → n ≡ sectors / g.slice
  guessed_count guess = guess g.slice (sectors / g.slice) unit.limits.slice_low is (single_count image g q sectors unit file).0

pub returns-then-count-lt1 : goal.returns-then-count-lt1
returns-then-count-lt1 c =
    let a = c.args in
    single_left _ _ _ _ (λ file.
    let n = guessed_count c.requires.0 c.requires.1 file c.slices_by-count.ensures.whole in
    omega (arith, c.if-count-lt1.true, n, (single_count a.image.now a.g a.q.0 a.sectors c.requires.0 file).1))

pub returns-then-not-starts_at : goal.returns-then-not-starts_at
returns-then-not-starts_at c =
    let a = c.args in
    let unit = c.requires.0 in
    single_left _ _ _ _ (λ file.
    let k = guessed_slice unit c.requires.1 file c.slice_by-k.ensures.starts in
    let e : a.q.0 ≡ slice_start a.g.first.0 a.g.slice c.slice_by-k.result.0 =
    single_starts a.image.now a.g a.q.0 a.sectors unit file ∙ ap (slice_start a.g.first.0 a.g.slice) (sym k) in
    c.starts_at.ensures.not c.if-not-starts_at.true e)

pub returns-then-count-g : goal.returns-then-count-g
returns-then-count-g c =
    let a = c.args in
    let unit = c.requires.0 in
    single_left _ _ _ _ (λ file.
    let k = guessed_slice unit c.requires.1 file c.slice_by-k.ensures.starts in
    let n = guessed_count unit c.requires.1 file c.slices_by-count.ensures.whole in
    elim c.then-count-g.branch [
      | then-count-g-via-then-count-g w ↦ w.if-count-g.true (ap (λ (m : ℕ). m * a.g.slice) n ∙ sym (single_count a.image.now a.g a.q.0 a.sectors unit file).0)
      | then-count-g-via-else-count-g+then-g-k w ↦ omega (arith, w.if-g-k.true, k, n, single_fits a.image.now a.g a.q.0 a.sectors unit file)
      | then-count-g-via-else-count-g+else-g-k+then-not-one_pair w ↦ w.one_pair.ensures.not w.if-not-one_pair.true file.pair
    ])

pub returns : goal.returns
returns c =
    let a = c.args in
    single_marked a.image.now a.g a.q.0 a.sectors c.requires.0 c.slice_by-k.result.0 c.slices_by-count.result
    (omega (arith, c.slice_by-k.ensures.exactly.0)) (c.starts_at.ensures.yes c.if-not-starts_at.false) c.if-count-g.false (omega arith) c.if-g-k.false
    (c.one_pair.ensures.yes c.if-not-one_pair.false) c.mark_slices.ensures
