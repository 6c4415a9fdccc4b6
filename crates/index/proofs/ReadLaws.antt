-- What is read from the index words of a slice list, in the image or in a block held by itself: its slices and sectors.
use mathlib.Core.Path.{◌≡◌, refl, sym, ap, ap₂, ◌∙◌}
use mathlib.Core.Bool.{true, false}
use mathlib.Core.List.{List, [], ◌∷◌, ◌++◌}
use mathlib.Core.Logic.{◌≢◌}
use Prim.Native.Nat.{ℕ, suc, ◌+◌, ◌-◌, ◌*◌, ◌/◌, ◌%◌, ◌≤◌, ◌<◌}
use native.Mathlib.Omega.{arith}
use native.Mathlib.Nat.{add-zero, min-eq_left, mul-add, mod-eq_of_lt, mul-div_cancel_left, mul-mod_right, mul-le-mul_left}
use lib.ListN.{length, get_or, length-append}
use borrow.Author.Tests.{lt-ltb, le-ltb, eq-eqb, ne_eqb}
use Rattle.disc.specs.Numbers.{slice_start}
use Rattle.disc.specs.Words.{word, Holds}
use Rattle.disc.specs.Slices.{last_of}
use Rattle.disc.specs.Stretches.{Stretch, stretches, stretch_count, pairs, index_words, expand, sector_in}
use Rattle.disc.specs.Pairs.{pair_length, pair_start}
use Rattle.disc.proofs.Compare.{below_or, same_or}
use Rattle.disc.proofs.NumberLaws.{slice_of_start}
use Rattle.disc.proofs.StretchLaws.{expand_stretches}
use Rattle.disc.proofs.AppendLaws.{ending, final_end, count_joined, count_apart}
use Rattle.disc.proofs.CutLaws.{length_expand}
use Rattle.disc.proofs.SectorLaws.{ends_before, before_ends, sector_span, sector_past}
use Rattle.disc.proofs.IndexUnique as unique
use Rattle.disc.proofs.IndexUnique.{Firsts, firsts}
use Rattle.disc.proofs.IndexLaws.{Described, none, more, described}
use Rattle.index.specs.Block.{whole, whole_index, pair_count, pairs_from, block_at, sectors_from, sector_total, slice_total, last_slice_of, last_slice, sector_from, joint_sector, slice_number, joins_last, joins, stretches_with}

-- ---- pairs that describe stretches

module _ (w : List ℕ) (F s q : ℕ) where
  described_pairs : {rs : List Stretch} {j : ℕ} → Described w F s q j rs → pairs_from w q (length rs) j ≡ pairs F s rs
  unfolding pairs_from
  described_pairs none = refl
  described_pairs (more {r = r} x y d) = rw (x, y) (ap (λ (t : List ℕ). s * r.count ∷ slice_start F s r.first ∷ t) (described_pairs d))

  described_sectors : {rs : List Stretch} {j : ℕ} → Described w F s q j rs → sectors_from w q (length rs) j ≡ s * length (expand rs)
  unfolding sectors_from
  described_sectors none = omega arith
  described_sectors (more {r = r} {rs = rs} x y d) =
      let e : s * length (expand (r ∷ rs)) ≡ s * r.count + s * length (expand rs) = ap (λ (k : ℕ). s * k) (length_expand r rs) ∙ mul-add s r.count (length (expand rs)) in
      omega (arith, described_sectors d)

  described_joint : {rs : List Stretch} {j : ℕ} → 1 ≤ s → Firsts rs → Described w F s q j rs → (b : ℕ) → b < s * length (expand rs)
      → sector_from w q (length rs) j b ≡ sector_in F s (expand rs) b % 65536
  unfolding sector_from
  described_joint pos a none b h = absurd (omega arith)
  described_joint pos (unique.next p a) (more {j = j} {r = r} {rs = rs} x y d) b h =
      let e : s * length (expand (r ∷ rs)) ≡ s * r.count + s * length (expand rs) = ap (λ (k : ℕ). s * k) (length_expand r rs) ∙ mul-add s r.count (length (expand rs)) in
      below_or b (pair_length w q j)
      (λ (t : b < pair_length w q j).
      rw (lt-ltb b (pair_length w q j) t)
      (ap (λ (n : ℕ). (n + b) % 65536) y ∙ ap (λ (n : ℕ). n % 65536) (sym (sector_span F s r.first r.count (expand rs) b pos p (omega arith)))))
      (λ (t : pair_length w q j ≤ b).
      rw (le-ltb b (pair_length w q j) t)
      (ap (λ (n : ℕ). sector_from w q (length rs) (suc j) (b - n)) x
      ∙ described_joint pos a d (b - s * r.count) (omega arith)
      ∙ ap (λ (n : ℕ). n % 65536) (sym (sector_past F s r.first r.count (expand rs) b pos (omega arith)))))

  -- the pair of the last stretch
  pub described_last : (front : List Stretch) (r : Stretch) (j : ℕ) → Described w F s q j (front ++ (r ∷ []))
      → (pair_length w q (j + length front) ≡ s * r.count) × (pair_start w q (j + length front) ≡ slice_start F s r.first)
  described_last [] r j (more x y d) = rw add-zero (x, y)
  described_last (t ∷ front) r j (more x y d) = let e : j + suc (length front) ≡ suc j + length front = omega arith in rw e (described_last front r (suc j) d)

-- ---- first and last stretches

first_final : (front : List Stretch) (r : Stretch) → Firsts (front ++ (r ∷ [])) → 1 ≤ r.first
first_final [] r (unique.next p a) = p
first_final (t ∷ front) r (unique.next p a) = first_final front r a

-- a list without stretches, and one with some
pub no_slices : (l : List ℕ) → stretches l ≡ [] → l ≡ []
no_slices l e = sym (expand_stretches l) ∙ ap expand e

-- the last of suc j pairs describes the last stretch, c slices from slice f on
record LastPair (w : List ℕ) (F s q : ℕ) (l : List ℕ) : Type 0 where
  pub j : ℕ
  pub f : ℕ
  pub c : ℕ
  pub count : pair_count w q ≡ suc j
  pub size : pair_length w q j ≡ s * c
  pub start : pair_start w q j ≡ slice_start F s f
  pub low : 1 ≤ f
  pub end : f + c ≡ suc (last_of l)

-- ---- the words of a slice list

module _ (w : List ℕ) (F s q : ℕ) (l : List ℕ) (few : stretch_count l ≤ 127) (h : Holds w q (index_words F s l)) where
  pub read_count : pair_count w q ≡ stretch_count l
  read_count = let e : word w q 0 ≡ stretch_count l = h.at 0 (omega arith) (omega arith) in rw e (min-eq_left few)

  all : Described w F s q 0 (stretches l)
  all = described w F s q (stretches l) few h

  -- the block as a value
  pub read_block : block_at w q ≡ whole_index F s l
  unfolding block_at whole_index
  read_block = rw read_count (ap (λ (t : List ℕ). whole (stretch_count l ∷ t)) (described_pairs w F s q all))

  pub read_sectors : sector_total w q ≡ s * length l
  read_sectors = rw read_count (described_sectors w F s q all ∙ ap (λ (t : List ℕ). s * length t) (expand_stretches l))

  module _ (pos : 1 ≤ s) where
    pub read_total : slice_total s w q ≡ length l
    read_total = ap (λ (n : ℕ). n / s) read_sectors ∙ mul-div_cancel_left (length l) pos

    module _ (above : (j : ℕ) → j < length l → 1 ≤ get_or l j 0) where
      -- the joined sectors, as words
      read_joint : (b : ℕ) → b < s * length l → joint_sector w q b ≡ sector_in F s l b % 65536
      read_joint b x =
          let e = expand_stretches l in
          rw read_count (described_joint w F s q pos (firsts l above) all b (rw e x) ∙ ap (λ (t : List ℕ). sector_in F s t b % 65536) e)

      pub read_sector : (b : ℕ) → b < s * length l → sector_in F s l b < 65536 → joint_sector w q b ≡ sector_in F s l b
      read_sector b x fits = read_joint b x ∙ mod-eq_of_lt fits

      pub read_number : (j : ℕ) → j < length l → slice_start F s (get_or l j 0) < 65536 → slice_number F s j w q ≡ get_or l j 0
      read_number j x fits =
          let d : s * j / s ≡ j = mul-div_cancel_left j pos in
          let r : s * j % s ≡ 0 = mul-mod_right s j in
          let z : slice_start F s (get_or l j 0) + 0 ≡ slice_start F s (get_or l j 0) = omega arith in
          let e : sector_in F s l (s * j) ≡ slice_start F s (get_or l j 0) = ap₂ (λ (a b : ℕ). slice_start F s (get_or l a 0) + b) d r ∙ z in
          ap (λ (n : ℕ). (n - F) / s + 1) (read_sector (s * j) (omega (arith, mul-le-mul_left s x)) (rw e fits) ∙ e)
          ∙ slice_of_start F s (get_or l j 0) pos (above j x)

      last_pair : 1 ≤ length l → LastPair w F s q l
      last_pair some = go (stretches l) refl
        where
          go : (rs : List Stretch) → stretches l ≡ rs → LastPair w F s q l
          go [] z = absurd (omega (arith, ap length (no_slices l z)))
          go (r ∷ rs) z =
              let x = ending r rs in
              let e : stretches l ≡ x.front ++ (x.final ∷ []) = z ∙ x.whole in
              let d = described_last w F s q x.front x.final 0 (rw e at all) in
              let i : 0 + length x.front ≡ length x.front = omega arith in
              record {
                j = length x.front;
                f = x.final.first;
                c = x.final.count;
                count = read_count ∙ ap length e ∙ length-append x.front (x.final ∷ []) ∙ omega arith;
                size = ap (pair_length w q) (sym i) ∙ d.0;
                start = ap (pair_start w q) (sym i) ∙ d.1;
                low = first_final x.front x.final (rw e at (firsts l above));
                end = final_end l x.front x.final e;
              }

      pub read_last : last_slice F s w q ≡ last_of l
      unfolding last_slice_of
      read_last = go l refl
        where
          go : (m : List ℕ) → l ≡ m → last_slice F s w q ≡ last_of l
          go [] z = ap (last_slice_of F s w q) (read_count ∙ ap stretch_count z) ∙ sym (ap last_of z)
          go (y ∷ m) z =
              let p = last_pair (omega (arith, ap length z)) in
              let a : (pair_start w q p.j - F) / s + 1 ≡ p.f = ap (λ (n : ℕ). (n - F) / s + 1) p.start ∙ slice_of_start F s p.f pos p.low in
              let b : pair_length w q p.j / s ≡ p.c = ap (λ (n : ℕ). n / s) p.size ∙ mul-div_cancel_left p.c pos in
              ap (last_slice_of F s w q) p.count ∙ omega (arith, p.end)

      -- slice k joins the last pair exactly if it comes right after the last slice
      pub read_joined : (k : ℕ) → 1 ≤ k → 1 ≤ length l → suc (last_of l) ≡ k → joins F s k w q ≡ true
      unfolding joins_last
      read_joined k o some e =
          let p = last_pair some in
          ap (joins_last F s k w q) p.count
          ∙ eq-eqb (pair_start w q p.j + pair_length w q p.j) (slice_start F s k)
          (ap₂ (λ (a b : ℕ). a + b) p.start p.size ∙ before_ends F s p.f p.c k pos p.low o (p.end ∙ e))

      pub read_apart : (k : ℕ) → 1 ≤ k → 1 ≤ length l → suc (last_of l) ≢ k → joins F s k w q ≡ false
      unfolding joins_last
      read_apart k o some d =
          let p = last_pair some in
          ap (joins_last F s k w q) p.count
          ∙ ne_eqb (pair_start w q p.j + pair_length w q p.j) (slice_start F s k)
          (λ e. d (sym p.end ∙ ends_before F s p.f p.c k pos p.low o (ap₂ (λ (a b : ℕ). a + b) (sym p.start) (sym p.size) ∙ e)))

      pub read_none : (k : ℕ) → l ≡ [] → joins F s k w q ≡ false
      unfolding joins_last
      read_none k z = ap (joins_last F s k w q) (read_count ∙ ap stretch_count z)

      pub read_with : (k : ℕ) → 1 ≤ k → stretches_with F s k w q ≡ stretch_count (l ++ (k ∷ []))
      read_with k o = go l refl
        where
          go : (m : List ℕ) → l ≡ m → stretches_with F s k w q ≡ stretch_count (l ++ (k ∷ []))
          go [] z = rw (read_none k z) (omega (arith, read_count, ap stretch_count z, ap (λ (t : List ℕ). stretch_count (t ++ (k ∷ []))) z))
          go (y ∷ m) z =
              let some : 1 ≤ length l = omega (arith, ap length z) in
              same_or (suc (last_of l)) k
              (λ e. rw (read_joined k o some e) (read_count ∙ sym (count_joined l k some e)))
              (λ d. rw (read_apart k o some d) (omega (arith, read_count, count_apart l k some d)))
