-- The words that a search of the map answers: 0 exactly if a slice is free; in a sound map, exactly if some slice is not held.
use Rattle.std.specs.Prelude.{Option}
use mathlib.Core.Path.{◌≡◌, refl, ap, ◌∙◌}
use mathlib.Core.Bool.{cond}
use mathlib.Core.List.{List}
use mathlib.Core.Logic.{◌≢◌}
use Prim.Native.Nat.{ℕ, zero, suc, ◌+◌, ◌*◌, ◌≤◌, ◌<◌}
use native.Mathlib.Omega.{arith}
use lib.Dec.{eqb, leb}
use borrow.Author.Tests.{ne_eqb, le-leb}
use Rattle.types.specs.declared.Slice.{Slice}
use Rattle.disc.specs.Decide.{Decides}
use Rattle.disc.specs.Slices.{in_unit, free_count, first_if, lowest_one}
use Rattle.disc.specs.Map.{map_bit, MapOf}
use Rattle.disc.proofs.Compare.{same_or}
use Rattle.disc.proofs.LowestLaws.{lowest_found}
use Rattle.disc.proofs.DecideLaws.{holds, fails}
use Rattle.map.specs.Choice.{lowest_free, chosen, choice_of, word_of, SomeFree, Answers}
use Rattle.map.proofs.MarkLaws.{map_bit_le}
use Rattle.map.proofs.ChoiceLaws.{chosen_one, choice_some, choice_full}

-- where nothing is found, no bit is one
lowest_zero : (bits : ℕ → ℕ) (n a : ℕ) → 1 ≤ a → lowest_one bits n a ≡ 0 → (j : ℕ) → a ≤ j → j < a + n → bits j ≡ 0
unfolding lowest_one
lowest_zero bits zero a p e j l h = absurd (omega arith)
lowest_zero bits (suc n) a p e j l h = go (bits a) refl e (λ f d. lowest_zero bits n (suc a) (omega arith) f j (omega arith) (omega arith))
  where
    go : (d : ℕ) → bits a ≡ d → first_if d a (lowest_one bits n (suc a)) ≡ 0 → (lowest_one bits n (suc a) ≡ 0 → j ≢ a → bits j ≡ 0) → bits j ≡ 0
    go zero f e rest = same_or j a (λ q. ap bits q ∙ f) (λ d. rest e d)
    go (suc d) f e rest = absurd (omega arith)

chosen_zero : (bits : ℕ → ℕ) (m last : ℕ) → chosen bits m last ≡ 0 → lowest_free bits ≡ 0
unfolding chosen
chosen_zero bits m last e = go (in_unit m (suc last) * bits (suc last)) e
  where
    go : (d : ℕ) → first_if d (suc last) (lowest_free bits) ≡ 0 → lowest_free bits ≡ 0
    go zero e = e
    go (suc d) e = absurd (omega arith)

module _ (image : List ℕ) (k : ℕ) (one : 1 ≤ k → (k ≤ 4096) × (map_bit image k ≢ 0)) (none : k ≡ 0 → lowest_free (map_bit image) ≡ 0) where
  -- a question's word is 0 exactly if a slice is free
  word_decides : (refusal : ℕ) → 1 ≤ refusal → Decides (eqb (word_of refusal (choice_of k)) 0) (SomeFree image)
  word_decides refusal p = go k refl
    where
      go : (j : ℕ) → k ≡ j → Decides (eqb (word_of refusal (choice_of j)) 0) (SomeFree image)
      go zero e =
          let zeros = lowest_zero (map_bit image) 4096 1 (omega arith) (none e) in
          rw (ne_eqb refusal 0 (λ z. omega arith)) (fails (λ f. omega (arith, f.free, zeros f.slice f.low (omega (arith, f.high)))))
      go (suc j) e =
          let o = one (omega arith) in
          holds (record { slice = k; low = omega arith; high = o.0; free = omega (arith, map_bit_le image k, o.1) })

  pub answers : {r : Option Slice} → r ≡ choice_of k → Answers image k r
  answers e = rw e (record { slice = refl; appends = word_decides 0x0900 (omega arith); takes = word_decides 0x1100 (omega arith) })

-- the two searches
pub lowest_answers : (image : List ℕ) {r : Option Slice} → r ≡ choice_of (lowest_free (map_bit image)) → Answers image (lowest_free (map_bit image)) r
lowest_answers image e = go (lowest_free (map_bit image)) refl e
  where
    go : (k : ℕ) → lowest_free (map_bit image) ≡ k → {r : Option Slice} → r ≡ choice_of k → Answers image k r
    go zero f = answers image zero (λ p. absurd (omega arith)) (λ _. f)
    go (suc k) f = let o = lowest_found (map_bit image) 4096 1 k f in answers image (suc k) (λ _. (omega (arith, o.1), o.2)) (λ z. absurd (omega arith))

pub chosen_answers : (image : List ℕ) (m last : ℕ) {r : Option Slice} → m ≤ 4096 → r ≡ choice_of (chosen (map_bit image) m last)
    → Answers image (chosen (map_bit image) m last) r
chosen_answers image m last few e =
    answers image (chosen (map_bit image) m last) (λ p. chosen_one (map_bit image) m last _ few p refl) (chosen_zero (map_bit image) m last) e

-- in a sound map a question's word is the plain unit's: "Free means in no list"
pub choice_word : (m : ℕ) (held image : List ℕ) (last refusal : ℕ) → m ≤ 4096 → MapOf image m held
    → word_of refusal (choice_of (chosen (map_bit image) m last)) ≡ cond (leb 1 (free_count m held)) 0 refusal
choice_word m held image last refusal few is = go (free_count m held) refl
  where
    go : (n : ℕ) → free_count m held ≡ n → word_of refusal (choice_of (chosen (map_bit image) m last)) ≡ cond (leb 1 n) 0 refusal
    go zero e = rw (choice_full m held image few is last e)
    go (suc n) e = rw (choice_some m held image few is last (omega arith), le-leb 1 (suc n) (omega arith))
