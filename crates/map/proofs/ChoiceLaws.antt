-- Laws of the choice by the bits of the map: in a sound map it is the choice among the slices that are not held.
use Rattle.std.specs.Prelude.{Option, Some, None}
use mathlib.Core.Path.{◌≡◌, refl, sym, ap, ap₂, ◌∙◌}
use mathlib.Core.List.{List}
use mathlib.Core.Logic.{◌≢◌}
use Prim.Native.Nat.{ℕ, zero, suc, ◌+◌, ◌-◌, ◌*◌, ◌≤◌, ◌<◌}
use native.Mathlib.Nat.{zero-mul, mul-zero, suc-mul}
use native.Mathlib.Numerals.{add-one}
use native.Mathlib.Omega.{arith}
use Rattle.types.specs.declared.Slice.{Slice}
use Rattle.disc.specs.Slices.{occurrences, in_unit, one_if_none, free_count, first_if, lowest_one, lowest_from, next_or, choose}
use Rattle.disc.specs.Map.{map_bit, MapOf}
use Rattle.disc.proofs.Compare.{same_or}
use Rattle.disc.proofs.LowestLaws.{first_some, lowest_none, lowest_is, lowest_found}
use Rattle.disc.proofs.SliceLaws.{in_unit_le, in_unit_in, in_unit_no, in_unit_out, choose_law}
use Rattle.map.specs.Choice.{lowest_free, chosen, choice_of}
use Rattle.map.proofs.CountLaws.{bit_free, bit_past}

-- ---- the lowest one among any bits

pub choice_at : (k : ℕ) → 1 ≤ k → Some (record { 0 = k }) ≡ choice_of k
choice_at zero h = absurd (omega arith)
choice_at (suc k) h = refl

module _ (bits : ℕ → ℕ) where
  -- no bit below k is one
  abbrev pub NoneBelow : ℕ → Type 0
  NoneBelow k = (j : ℕ) → 1 ≤ j → j < k → bits j ≡ 0

  -- bits that are 0 past the first n say nothing
  lowest_past : (n r a : ℕ) → ((j : ℕ) → a + n ≤ j → j < a + n + r → bits j ≡ 0) → lowest_one bits (n + r) a ≡ lowest_one bits n a
  unfolding lowest_one
  lowest_past zero r a none =
      ap (λ (x : ℕ). lowest_one bits x a) (let e : 0 + r ≡ r = omega arith in e) ∙ lowest_none bits r a (λ j p q. none j (omega arith) (omega arith))
  lowest_past (suc n) r a none =
      ap (λ (x : ℕ). lowest_one bits x a) (let e : suc n + r ≡ suc (n + r) = omega arith in e)
      ∙ ap (first_if (bits a) a) (lowest_past n r (suc a) (λ j p q. none j (omega arith) (omega arith)))

  -- ---- what a scan answers

  pub scan_none : (n : ℕ) → 4096 < n → NoneBelow n → None ≡ choice_of (lowest_free bits)
  scan_none n h none = ap choice_of (sym (lowest_none bits 4096 1 (λ j p q. none j p (omega arith))))

  pub scan_found : (k : ℕ) → 1 ≤ k → k ≤ 4096 → bits k ≢ 0 → NoneBelow k → Some (record { 0 = k }) ≡ choice_of (lowest_free bits)
  scan_found k a b one none = choice_at k a ∙ ap choice_of (sym (lowest_is bits 4096 1 k a (omega arith) one none))

  -- ---- the next after the last, or the lowest

  chosen_next : (m last : ℕ) → last < m → bits (suc last) ≡ 1 → chosen bits m last ≡ suc last
  unfolding chosen
  chosen_next m last h one = rw (in_unit_in m (suc last) (omega arith) h, one) refl

  chosen_used : (m last : ℕ) → bits (suc last) ≡ 0 → chosen bits m last ≡ lowest_free bits
  unfolding chosen
  chosen_used m last none = rw (none, mul-zero) refl

  chosen_end : (m last : ℕ) → in_unit m (suc last) ≡ 0 → chosen bits m last ≡ lowest_free bits
  unfolding chosen
  chosen_end m last none = rw (none, zero-mul) refl

  -- the answers of the code, whose next slice is last + 1
  pub answer_next : (m last : ℕ) → last < m → bits (last + 1) ≡ 1 → Some (record { 0 = last + 1 }) ≡ choice_of (chosen bits m last)
  answer_next m last h one =
      choice_at (last + 1) (omega arith)
      ∙ ap choice_of (add-one last ∙ sym (chosen_next m last h (ap bits (sym (add-one last)) ∙ one)))

  pub answer_used : (m last : ℕ) → bits (last + 1) ≡ 0 → choice_of (lowest_free bits) ≡ choice_of (chosen bits m last)
  answer_used m last none = ap choice_of (sym (chosen_used m last (ap bits (sym (add-one last)) ∙ none)))

  pub answer_end : (m last : ℕ) → m ≤ last → choice_of (lowest_free bits) ≡ choice_of (chosen bits m last)
  answer_end m last h = ap choice_of (sym (chosen_end m last (in_unit_no m (suc last) (omega arith))))

  -- whatever is chosen is a slice of the map whose bit is one
  pub chosen_one : (m last k : ℕ) → m ≤ 4096 → 1 ≤ k → chosen bits m last ≡ k → (k ≤ 4096) × (bits k ≢ 0)
  unfolding chosen
  chosen_one m last zero few p e = absurd (omega arith)
  chosen_one m last (suc k) few p e = go (in_unit m (suc last)) refl (bits (suc last)) refl e
    where
      low : lowest_free bits ≡ suc k → (suc k ≤ 4096) × (bits (suc k) ≢ 0)
      low e = let r = lowest_found bits 4096 1 k e in (omega (arith, r.1), r.2)

      go : (r : ℕ) → in_unit m (suc last) ≡ r → (d : ℕ) → bits (suc last) ≡ d → first_if (r * d) (suc last) (lowest_free bits) ≡ suc k
          → (suc k ≤ 4096) × (bits (suc k) ≢ 0)
      go zero u d f e = low (rw zero-mul at e)
      go (suc r) u zero f e = low (rw mul-zero at e)
      go (suc r) u (suc d) f e =
          let same : suc last ≡ suc k = sym (first_some (suc r * suc d) (suc last) (lowest_free bits) (λ z. omega (arith, z, suc-mul r (suc d)))) ∙ e in
          (omega (arith, (in_unit_out m (suc last) (omega arith)).1), λ z. omega (arith, f, ap bits same, z))

-- ---- in a sound map

free_one : (m k : ℕ) (held : List ℕ) → 1 ≤ k → k ≤ m → occurrences k held ≡ 0 → 1 ≤ free_count m held
free_one zero k held a b none = absurd (omega arith)
free_one (suc m) k held a b none = same_or k (suc m)
    (λ e. let this : occurrences (suc m) held ≡ 0 = ap (λ (j : ℕ). occurrences j held) (sym e) ∙ none in omega (arith, ap one_if_none this))
    (λ d. omega (arith, free_one m k held a (omega arith) none))

module _ (m : ℕ) (held image : List ℕ) (few : m ≤ 4096) (is : MapOf image m held) where
  lowest_held : (n k : ℕ) → 1 ≤ k → k + n ≤ suc m → lowest_one (map_bit image) n k ≡ lowest_from n k held
  unfolding lowest_one
  lowest_held zero k a h = refl
  lowest_held (suc n) k a h =
      ap₂ (λ (d r : ℕ). first_if d k r) (bit_free m held image few is k a (omega arith)) (lowest_held n (suc k) (omega arith) (omega arith))

  -- the lowest one of the map is the lowest slice that is not held
  pub lowest_choose : lowest_free (map_bit image) ≡ lowest_from m 1 held
  lowest_choose =
      ap (λ (n : ℕ). lowest_one (map_bit image) n 1) (let e : 4096 ≡ m + (4096 - m) = omega arith in e)
      ∙ lowest_past (map_bit image) m (4096 - m) 1 (λ j p q. bit_past m held image few is j (omega arith) (omega arith))
      ∙ lowest_held m 1 (omega arith) (omega arith)

  -- the choice by the map's bits is the plain unit's choice
  pub chosen_choose : (last : ℕ) → chosen (map_bit image) m last ≡ choose m held last
  chosen_choose last = go (in_unit m (suc last)) refl (occurrences (suc last) held) refl
    where
      go : (r : ℕ) → in_unit m (suc last) ≡ r → (t : ℕ) → occurrences (suc last) held ≡ t
          → chosen (map_bit image) m last ≡ next_or r t (suc last) (lowest_from m 1 held)
      go zero e t f = chosen_end (map_bit image) m last e ∙ lowest_choose
      go (suc r) e zero f =
          let inside = in_unit_out m (suc last) (omega arith) in
          let one : map_bit image (suc last) ≡ 1 = omega (arith, is (suc last) inside.0 (omega (arith, inside.1)), in_unit_le m (suc last)) in
          chosen_next (map_bit image) m last inside.1 one
      go (suc r) e (suc t) f =
          let inside = in_unit_out m (suc last) (omega arith) in
          let none : map_bit image (suc last) ≡ 0 = omega (arith, is (suc last) inside.0 (omega (arith, inside.1)), in_unit_le m (suc last)) in
          chosen_used (map_bit image) m last none ∙ lowest_choose

  -- the answer while a slice is free, and when none is
  pub choice_some : (last : ℕ) → 1 ≤ free_count m held → choice_of (chosen (map_bit image) m last) ≡ Some (record { 0 = choose m held last })
  choice_some last some =
      ap choice_of (chosen_choose last)
      ∙ sym (choice_at (choose m held last) (in_unit_out m (choose m held last) (omega (arith, (choose_law m last held some).1))).0)

  pub choice_full : (last : ℕ) → free_count m held ≡ 0 → choice_of (chosen (map_bit image) m last) ≡ None
  choice_full last full = same_or (chosen (map_bit image) m last) 0
      (λ z. ap choice_of z)
      (λ d. let k = chosen (map_bit image) m last in
      let one = chosen_one (map_bit image) m last k few (omega arith) refl in
      let sound = is k (omega arith) one.0 in
      let inside = in_unit_out m k (omega (arith, one.1)) in
      absurd (omega (arith, free_one m k held inside.0 inside.1 (omega (arith, in_unit_le m k, one.1)))))

-- ---- the answer's number

abbrev number_of : Option Slice → ℕ
number_of (Some k) = k.0
number_of None = 0

number_of_lem : (n : ℕ) → number_of (choice_of n) ≡ n
number_of_lem zero = refl
number_of_lem (suc n) = refl

pub choice_free : (n : ℕ) (k : Slice) → choice_of n ≡ Some k → (n ≡ k.0) × (1 ≤ k.0)
choice_free zero k e = let z : ◌≡◌ {A = ℕ} 0 1 = cc in absurd (omega arith)
choice_free (suc n) k e = let f : suc n ≡ k.0 = ap number_of e in (f, omega arith)

pub choice_none : (n : ℕ) → choice_of n ≡ None → n ≡ 0
choice_none n e = sym (number_of_lem n) ∙ ap number_of e
