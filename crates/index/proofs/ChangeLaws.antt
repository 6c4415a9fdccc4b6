-- The block of a slice list with one slice more, and with the first n slices only.
use mathlib.Core.Path.{◌≡◌, refl, sym, ap, ap₂, ◌∙◌}
use mathlib.Core.Bool.{true, false}
use mathlib.Core.List.{List, [], ◌∷◌, ◌++◌}
use Prim.Native.Nat.{ℕ, zero, suc, ◌+◌, ◌-◌, ◌*◌, ◌/◌, ◌≤◌, ◌<◌, min}
use native.Mathlib.Omega.{arith}
use native.Mathlib.Nat.{mul-zero, mul-pos, mul-sub, min-eq_left, min-eq_right, mul-div_cancel_left, mul-le-mul_left}
use native.Mathlib.Numerals.{add-one}
use lib.ListN.{length, get_or, take, length-append}
use Rattle.disc.specs.Numbers.{slice_start}
use Rattle.disc.specs.Slices.{last_of}
use Rattle.disc.specs.Stretches.{Stretch, stretches, stretch_count, pairs}
use Rattle.disc.specs.Pairs.{pair_length, pair_start}
use Rattle.disc.proofs.Compare.{below_or, same_or}
use Rattle.disc.proofs.StretchLaws.{count_le}
use Rattle.disc.proofs.AppendLaws.{ending, final_end, stretches_joined, stretches_apart, count_joined, count_apart}
use Rattle.disc.proofs.CutLaws.{cut_stretches, stretches-take}
use Rattle.disc.proofs.IndexUnique.{length_pairs}
use Rattle.disc.proofs.IndexLaws.{Described, none, more, described}
use Rattle.index.specs.Block.{whole, whole_index, pair_count, joins, with_pair, appended, lengthened, extended, Appendable, cut_pair, cut_pairs, cut_to}
use Rattle.index.proofs.BlockLaws.{whole_count, whole_pair, whole_last, holds-whole_index}
use Rattle.index.proofs.CaseLaws.{appended_joined, appended_apart}
use Rattle.index.proofs.ReadLaws.{described_last, no_slices, read_count, read_sectors, read_joined, read_apart, read_none, read_with}

pairs_append : (F s : ℕ) (rs ts : List Stretch) → pairs F s (rs ++ ts) ≡ pairs F s rs ++ pairs F s ts
pairs_append F s [] ts = refl
pairs_append F s (r ∷ rs) ts = ap (λ (v : List ℕ). s * r.count ∷ slice_start F s r.first ∷ v) (pairs_append F s rs ts)

-- the words of stretches, the last pair of them set apart
shape : (F s : ℕ) (front : List Stretch) (r : Stretch)
    → whole (length (front ++ (r ∷ [])) ∷ pairs F s (front ++ (r ∷ []))) ≡ whole ((suc (length front) ∷ pairs F s front) ++ (s * r.count ∷ slice_start F s r.first ∷ []))
shape F s front r =
    let n : length (front ++ (r ∷ [])) ≡ suc (length front) = length-append front (r ∷ []) ∙ omega arith in
    ap₂ (λ (a : ℕ) (v : List ℕ). whole (a ∷ v)) n (pairs_append F s front (r ∷ []))

-- ---- one slice more

-- no stretch is lost
pub count_more : (l : List ℕ) (k : ℕ) → stretch_count l ≤ stretch_count (l ++ (k ∷ []))
count_more [] k = omega arith
count_more (x ∷ l) k = same_or (suc (last_of (x ∷ l))) k
    (λ e. omega (arith, count_joined (x ∷ l) k (omega arith) e)) (λ d. omega (arith, count_apart (x ∷ l) k (omega arith) d))

module _ (F s : ℕ) (l : List ℕ) (k : ℕ) (pos : 1 ≤ s) (above : (j : ℕ) → j < length l → 1 ≤ get_or l j 0) (o : 1 ≤ k) (few : stretch_count (l ++ (k ∷ [])) ≤ 127) where
  before : stretch_count l ≤ 127
  before = omega (arith, count_more l k)

  count : pair_count (whole_index F s l) 0 ≡ stretch_count l
  count = read_count (whole_index F s l) F s 0 l before (holds-whole_index F s l)

  -- the slice makes a pair of its own
  alone : stretches (l ++ (k ∷ [])) ≡ stretches l ++ (record { first = k; count = 1 } ∷ []) → joins F s k (whole_index F s l) 0 ≡ false
      → appended F s k (whole_index F s l) ≡ whole_index F s (l ++ (k ∷ []))
  unfolding whole_index extended
  alone e f =
      let rs = stretches l in
      let n : ℕ = length rs in
      let one : Stretch = record { first = k; count = 1 } in
      let lt : n < 127 = omega (arith, ap length e, length-append rs (one ∷ [])) in
      let m : s ≡ s * 1 = omega arith in
      sym (appended_apart F s k (whole_index F s l) n (sym count) false (sym f) _ _ refl refl refl)
      ∙ ap (λ (w : List ℕ). with_pair w n s (slice_start F s k)) (whole_count n (n + 1) (pairs F s rs))
      ∙ whole_pair ((n + 1) ∷ pairs F s rs) n s (slice_start F s k) (omega (arith, length_pairs F s rs)) lt
      ∙ ap₂ (λ (a b : ℕ). whole ((a ∷ pairs F s rs) ++ (b ∷ slice_start F s k ∷ []))) (add-one n) m
      ∙ sym (shape F s rs one) ∙ ap (λ (ts : List Stretch). whole (length ts ∷ pairs F s ts)) (sym e)

  -- there is no slice before it
  none_before : l ≡ [] → appended F s k (whole_index F s l) ≡ whole_index F s (l ++ (k ∷ []))
  none_before z = alone
      (ap (λ (m : List ℕ). stretches (m ++ (k ∷ []))) z ∙ ap (λ (m : List ℕ). stretches m ++ (record { first = k; count = 1 } ∷ [])) (sym z))
      (read_none (whole_index F s l) F s 0 l before (holds-whole_index F s l) pos above k z)

  final_pair : (front : List Stretch) (r : Stretch) → stretches l ≡ front ++ (r ∷ [])
      → (pair_length (whole_index F s l) 0 (0 + length front) ≡ s * r.count) × (pair_start (whole_index F s l) 0 (0 + length front) ≡ slice_start F s r.first)
  final_pair front r e =
      described_last (whole_index F s l) F s 0 front r 0 (rw e at (described (whole_index F s l) F s 0 (stretches l) before (holds-whole_index F s l)))

  -- the slice joins the last pair
  joined : 1 ≤ length l → suc (last_of l) ≡ k → (front : List Stretch) (r : Stretch) → stretches l ≡ front ++ (r ∷ []) → appended F s k (whole_index F s l) ≡ whole_index F s (l ++ (k ∷ []))
  unfolding whole_index lengthened
  joined some next front r e =
      let w = whole_index F s l in
      let j : ℕ = length front in
      let d = final_pair front r e in
      let t = read_joined w F s 0 l before (holds-whole_index F s l) pos above k o some next in
      let i : stretch_count l - 1 ≡ 0 + j = omega (arith, ap length e, length-append front (r ∷ [])) in
      let i' : 0 + j ≡ j = omega arith in
      let m : s * r.count + s ≡ s * suc r.count = omega arith in
      sym (appended_joined F s k w (stretch_count l) (sym count) true (sym t) _ refl refl)
      ∙ ap (λ (a : ℕ). with_pair w a (pair_length w 0 a + s) (pair_start w 0 a)) i
      ∙ ap₂ (λ (a b : ℕ). with_pair w (0 + j) (a + s) b) d.0 d.1
      ∙ ap₂ (λ (u : List ℕ) (a : ℕ). with_pair u a (s * r.count + s) (slice_start F s r.first)) (ap (λ (ts : List Stretch). whole (length ts ∷ pairs F s ts)) e ∙ shape F s front r) i'
      ∙ whole_last (suc j ∷ pairs F s front) j (s * r.count) (slice_start F s r.first) (s * r.count + s) (slice_start F s r.first) (omega (arith, length_pairs F s front))
      ∙ ap (λ (a : ℕ). whole ((suc j ∷ pairs F s front) ++ (a ∷ slice_start F s r.first ∷ []))) m
      ∙ sym (shape F s front (record { first = r.first; count = suc r.count }))
      ∙ ap (λ (ts : List Stretch). whole (length ts ∷ pairs F s ts)) (sym (stretches_joined l front r e k (final_end l front r e ∙ next)))

  pub append_whole : appended F s k (whole_index F s l) ≡ whole_index F s (l ++ (k ∷ []))
  append_whole = go (stretches l) refl
    where
      go : (rs : List Stretch) → stretches l ≡ rs → appended F s k (whole_index F s l) ≡ whole_index F s (l ++ (k ∷ []))
      go [] z = none_before (no_slices l z)
      go (r ∷ rs) z =
          let x = ending r rs in
          let e : stretches l ≡ x.front ++ (x.final ∷ []) = z ∙ x.whole in
          let some : 1 ≤ length l = omega (arith, ap length z, count_le l) in
          same_or (suc (last_of l)) k
          (λ next. joined some next x.front x.final e)
          (λ d. alone (stretches_apart l x.front x.final e k (λ q. d (sym (final_end l x.front x.final e) ∙ q)))
          (read_apart (whole_index F s l) F s 0 l before (holds-whole_index F s l) pos above k o some d))

  -- what the function asks, for the block of a slice list
  pub append_ready : slice_start F s k < 65536 → s * suc (length l) < 65536 → Appendable F s k (whole_index F s l)
  append_ready start sectors =
      let w = whole_index F s l in
      let h = holds-whole_index F s l in
      record {
        slice = o;
        room = rw (read_with w F s 0 l before h pos above k o) few;
        start = start;
        sectors = omega (arith, read_sectors w F s 0 l before h);
      }

-- ---- the first n slices

-- lengths cut to n slices
min-mul : (s a b : ℕ) → min (s * a) (s * b) ≡ s * min a b
min-mul s a b = below_or a b
    (λ (h : a < b). let m : a ≤ b = omega arith in min-eq_left (mul-le-mul_left s m) ∙ ap (λ (n : ℕ). s * n) (sym (min-eq_left m)))
    (λ (h : b ≤ a). min-eq_right (mul-le-mul_left s h) ∙ ap (λ (n : ℕ). s * n) (sym (min-eq_right h)))

cut_some : (b size start : ℕ) (rest : List ℕ) → 1 ≤ b → cut_pair b size start rest ≡ min size b ∷ start ∷ rest
unfolding cut_pair
cut_some zero size start rest h = absurd (omega arith)
cut_some (suc b) size start rest h = refl

described_cut : (w : List ℕ) (F s : ℕ) {rs : List Stretch} {j : ℕ} → 1 ≤ s → Described w F s 0 j rs → (n : ℕ) → cut_pairs w (length rs) j (s * n) ≡ pairs F s (cut_stretches n rs)
unfolding cut_pairs cut_pair
described_cut w F s pos none n = refl
described_cut w F s pos (more x y d) zero = rw mul-zero
described_cut w F s pos (more {j = j} {r = r} {rs = rs} x y d) (suc n) =
    cut_some (s * suc n) (pair_length w 0 j) (pair_start w 0 j) (cut_pairs w (length rs) (suc j) (s * suc n - pair_length w 0 j)) (mul-pos pos (omega arith))
    ∙ ap₂ (λ (a b : ℕ). min a (s * suc n) ∷ b ∷ cut_pairs w (length rs) (suc j) (s * suc n - a)) x y
    ∙ ap₂ (λ (a b : ℕ). a ∷ slice_start F s r.first ∷ cut_pairs w (length rs) (suc j) b) (min-mul s r.count (suc n)) (sym (mul-sub s (suc n) r.count))
    ∙ ap (λ (v : List ℕ). s * min r.count (suc n) ∷ slice_start F s r.first ∷ v) (described_cut w F s pos d (suc n - r.count))

pub cut_whole : (F s n : ℕ) (l : List ℕ) → 1 ≤ s → stretch_count l ≤ 127 → cut_to s n (whole_index F s l) ≡ whole_index F s (take n l)
unfolding cut_to whole_index
cut_whole F s n l pos few =
    let w = whole_index F s l in
    let h = holds-whole_index F s l in
    let rs = stretches (take n l) in
    let c : cut_pairs w (pair_count w 0) 0 (s * n) ≡ pairs F s rs =
    ap (λ (k : ℕ). cut_pairs w k 0 (s * n)) (read_count w F s 0 l few h)
    ∙ described_cut w F s pos (described w F s 0 (stretches l) few h) n ∙ ap (pairs F s) (sym (stretches-take n l)) in
    let m : length (pairs F s rs) / 2 ≡ length rs = ap (λ (k : ℕ). k / 2) (length_pairs F s rs) ∙ mul-div_cancel_left (length rs) (omega arith) in
    ap (λ (v : List ℕ). whole (length v / 2 ∷ v)) c ∙ ap (λ (k : ℕ). whole (k ∷ pairs F s rs)) m
