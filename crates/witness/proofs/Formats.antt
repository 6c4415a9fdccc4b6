-- Format has a result, whatever it is called with: each of its questions has an answer.
use mathlib.Core.Path.{refl}
use mathlib.Core.List.{List}
use Prim.Native.Nat.{ℕ, ◌*◌, ◌-◌, ◌%◌}
use native.Mathlib.Omega.{arith}
use lib.ListN.{length}
use Rattle.types.specs.declared.State.{State}
use Rattle.types.specs.declared.Message.TheVariants.{Init}
use Rattle.disc.specs.Numbers.{ceil_div, slice_count}
use Rattle.disc.specs.Kit.{Limits}
use Rattle.disc.proofs.Compare.{same_or, below_or}
use Rattle.format.specs.Format.{lent_unit, lent_keys, lent_slice, lent_sectors, lent_free, lent_first, lent_top, RecordLent, Formattable, formatted_by, uninitialized, FormatAnswer, not_lent, not_allowed, written}
use Rattle.witness.specs.Total.{FormatOf}
use Rattle.witness.proofs.Known.{at_most, known_or}

-- ---- a question is answered yes or no

limits_or : (H s F N : ℕ) {C : Type 0} → (Limits H s F N → C) → ((Limits H s F N → ⊥) → C) → C
limits_or H s F N f h =
    at_most 1 H (λ a. at_most H 64 (λ b. at_most 2 s (λ c. at_most s 64 (λ d. at_most 10 F (λ e. below_or F N (λ g. at_most N 32767 (λ i.
    same_or ((N - F) % s) 0 (λ j. at_most (slice_count s F N) 4096 (λ k. at_most (ceil_div H s) (slice_count s F N) (λ l.
    f (record { keys_low = a; keys_high = b; slice_low = c; slice_high = d; first = e; some_data = g; sectors = i; whole = j; slices_high = k; slices_low = l }))
    (λ n. h (λ m. n m.slices_low))) (λ n. h (λ m. n m.slices_high))) (λ n. h (λ m. n m.whole))) (λ n. h (λ m. n m.sectors)))
    (λ n. h (λ m. omega (arith, m.some_data)))) (λ n. h (λ m. n m.first))) (λ n. h (λ m. n m.slice_high))) (λ n. h (λ m. n m.slice_low))) (λ n. h (λ m. n m.keys_high))) (λ n. h (λ m. n m.keys_low))

record_or : (bytes : ℕ) (lent : List ℕ) {C : Type 0} → (RecordLent bytes lent → C) → ((RecordLent bytes lent → ⊥) → C) → C
record_or bytes lent f h =
    same_or bytes 18 (λ e. at_most 9 (length lent) (λ x. f (record { count = e; words = x })) (λ n. h (λ r. n r.words))) (λ n. h (λ r. n r.count))

module _ (image : List ℕ) (state : State) (lent : List ℕ) where
  formattable_or : {C : Type 0} → (Formattable image state lent → C) → ((Formattable image state lent → ⊥) → C) → C
  formattable_or f h =
      known_or state (Init (lent_unit lent)) (λ k. limits_or (lent_keys lent) (lent_slice lent) (lent_first lent) (lent_sectors lent) (λ d.
      same_or (lent_free lent) (lent_sectors lent - lent_first lent) (λ e. same_or (lent_top lent) (lent_sectors lent) (λ g. same_or (length image) (256 * lent_sectors lent) (λ i.
      f (record { known = k; limits = d; free = e; top = g; size = i }))
      (λ n. h (λ m. n m.size))) (λ n. h (λ m. n m.top))) (λ n. h (λ m. n m.free))) (λ n. h (λ m. n m.limits))) (λ n. h (λ m. n m.known))

  pub some_format : (bytes : ℕ) → FormatOf FormatAnswer image state bytes lent
  some_format bytes = record_or bytes lent (λ l. formattable_or (allowed l) (illegal l)) short
    where
      short : (RecordLent bytes lent → ⊥) → FormatOf FormatAnswer image state bytes lent
      short n = record { after = image; result = record { result = 0x1080; state = state }; given = not_lent n (record { word = refl; same = refl; kept = refl }) }

      illegal : RecordLent bytes lent → (Formattable image state lent → ⊥) → FormatOf FormatAnswer image state bytes lent
      illegal l n = record { after = image; result = record { result = 0x1200; state = state }; given = not_allowed l n (record { word = refl; same = refl; kept = refl }) }

      allowed : RecordLent bytes lent → Formattable image state lent → FormatOf FormatAnswer image state bytes lent
      allowed l f = record {
        after = formatted_by image lent;
        result = record { result = 0; state = uninitialized state };
        given = written l f (record { word = refl; whole = refl; left = refl });
      }
