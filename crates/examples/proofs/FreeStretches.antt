-- The units with 127 and 128 free stretches are good; the rest is computed.
use mathlib.Core.Path.{◌≡◌, refl, ◌∙◌, subst, sym}
use mathlib.Core.Bool.{Bool, true, ◌&&◌}
use mathlib.Core.List.{List, [], ◌∷◌}
use Prim.Native.Nat.{ℕ, ◌≤◌}
use native.Mathlib.Omega.{arith}
use lib.Dec.{T, leb, ltb, leb→le, ltb→lt}
use lib.ListN.{length}
use Rattle.disc.specs.Names.{named}
use Rattle.disc.specs.Slices.{occurrences, in_unit, InRangeOnce, lowest_one}
use Rattle.disc.specs.Stretches.{stretch_count}
use Rattle.disc.specs.OneStretch.{lowest_stretch, taken_for_file}
use Rattle.disc.specs.FreeStretches.{ones_from}
use Rattle.disc.proofs.Compare.{same_or}
use Rattle.disc.proofs.SliceLaws.{same_le, in_unit_in, occurrences_self, occurrences_other}
use Rattle.plain.specs.Table.{table_put}
use Rattle.plain.specs.Unit.{File, M, held, sys_of, entry}
use Rattle.plain.specs.Taking.{zero_sectors}
use Rattle.plain.specs.Questions.{asks}
use Rattle.plain.specs.Catalog.{new_file}
use Rattle.plain.specs.Good.{Good, GoodFile}
use Rattle.plain.proofs.QuestionLaws.{and_left, and_right}
use Rattle.plain.proofs.TableLaws.{every_put, some≢none}
use Rattle.plain.proofs.WordLaws.{words_of_zeros, zero_sectors_words}
use Rattle.plain.proofs.CreateUnit.{booked_good}
use Rattle.examples.specs.Paper.{file_with}
use Rattle.examples.specs.ExampleUnits.{a_name, b_name, alternate, alternating, free127, free128}
use Rattle.examples.specs.FreeStretches.{Tried, cases127, cases128, FreeStretches}

-- ---- slices in ascending order are distinct

-- Each is above the one before it, the first above x, and none above m.
abbrev rising : ℕ → ℕ → List ℕ → Bool
rising m x [] = true
rising m x (y ∷ l) = ltb x y && (leb y m && rising m y l)

rising_once : (m x : ℕ) (l : List ℕ) → T (rising m x l) → (k : ℕ) → (k ≤ x → occurrences k l ≡ 0) × (occurrences k l ≤ in_unit m k)
rising_once m x [] t k = (λ h. refl, omega arith)
rising_once m x (y ∷ l) t k =
    let above = ltb→lt x y (and_left (ltb x y) _ t) in
    let rest = and_right (ltb x y) (leb y m && rising m y l) t in
    let low = leb→le y m (and_left (leb y m) _ rest) in
    let tail = rising_once m y l (and_right (leb y m) (rising m y l) rest) in (
      λ h. occurrences_other k y l (λ e. omega arith) ∙ (tail k).0 (omega arith),
      same_or k y
          (λ e. subst (λ (i : ℕ). occurrences i (y ∷ l) ≤ in_unit m i) (sym e) (omega (arith, occurrences_self y l, (tail y).0 (omega arith), in_unit_in m y (omega arith) low)))
          (λ d. omega (arith, occurrences_other k y l d, (tail k).1)),
    )

-- ---- the units

module _ (slices : List ℕ) where
  abbrev P : ℕ → File → Type 0
  P = GoodFile (sys_of (alternating 526 slices [])) 2 []

  a_good : P (named a_name) (file_with 1 (alternate 3 127) (zero_sectors 253))
  a_good =
      booked_good _ 2 [] (named a_name) _ tt tt tt tt (words_of_zeros 3) (words_of_zeros 6) (zero_sectors_words 253) refl refl (leb→le _ _ tt) (leb→le _ _ tt)

  module _ (some : 2 ≤ length slices) (few : stretch_count slices ≤ 127) where
    b_good : P (named b_name) (file_with 1 slices (zero_sectors 3))
    b_good = booked_good _ 2 [] (named b_name) _ tt tt tt tt (words_of_zeros 3) (words_of_zeros 6) (zero_sectors_words 3) refl refl some few

    alternating_good : InRangeOnce 258 (held (alternating 526 slices [])) → Good (alternating 526 slices [])
    alternating_good once = record {
      limits = record {
        keys_low = omega arith;
        keys_high = omega arith;
        slice_low = omega arith;
        slice_high = omega arith;
        first = omega arith;
        some_data = omega arith;
        sectors = omega arith;
        whole = refl;
        slices_high = omega arith;
        slices_low = omega arith;
      };
      catalog = record {
        layered = omega arith;
        count = refl;
        few = leb→le _ _ tt;
        names = (leb→le _ _ tt, (leb→le _ _ tt, tt));
        chains = λ k. omega (arith, same_le);
        files = every_put P (named b_name) _ (table_put (named a_name) (file_with 1 (alternate 3 127) (zero_sectors 253)) []) (every_put P (named a_name) _ [] (λ n f e. absurd (some≢none (sym e))) a_good) b_good;
      };
      sys_first = refl;
      once = once;
      area_names = tt;
      eight = omega arith;
      areas = λ n users e. absurd (some≢none (sym e));
    }

-- ---- the cases

refused : Tried free128 128 128 cases128
unfolding ones_from lowest_one lowest_stretch taken_for_file entry asks new_file
refused = record {
  good = alternating_good (256 ∷ 258 ∷ []) (leb→le _ _ tt) (leb→le _ _ tt) (λ k. (rising_once 258 0 (held free128) tt k).1);
  slices = refl;
  counted = refl;
  no_layer = refl;
  answered = refl;
}

accepted : Tried free127 127 127 cases127
unfolding ones_from lowest_one lowest_stretch taken_for_file entry asks new_file
accepted = record {
  good = alternating_good (256 ∷ 257 ∷ 258 ∷ []) (leb→le _ _ tt) (leb→le _ _ tt) (λ k. (rising_once 258 0 (held free127) tt k).1);
  slices = refl;
  counted = refl;
  no_layer = refl;
  answered = refl;
}

pub free_stretches_lem : FreeStretches
unfolding ones_from lowest_one lowest_stretch taken_for_file entry asks new_file
free_stretches_lem = record { refused = refused; accepted = accepted; sys_counted = refl; sys_layers = refl; sys_refused = refl }
