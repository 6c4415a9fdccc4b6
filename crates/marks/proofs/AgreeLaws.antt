-- The map agrees with the marks exactly if each of its words and the marks of its slices add up to the word of the unit's
-- slices: FFFFh, ones up to the last slice, or 0.
use mathlib.Core.Path.{◌≡◌, sym, ap, ◌∙◌}
use mathlib.Core.Bool.{Bool}
use mathlib.Core.List.{List}
use Prim.Native.Nat.{ℕ, zero, suc, ◌+◌, ◌-◌, ◌*◌, ◌/◌, ◌%◌, ◌^◌, ◌≤◌, ◌<◌}
use native.Mathlib.Numerals.{add-one}
use native.Mathlib.Omega.{arith}
use lib.ListN.{get_or}
use Rattle.disc.specs.Decide.{Decides}
use Rattle.disc.specs.Numbers.{bit_word}
use Rattle.disc.specs.Words.{word, Words}
use Rattle.disc.specs.Kit.{map_sector}
use Rattle.disc.specs.Slices.{occurrences, in_unit, InRangeOnce}
use Rattle.disc.specs.Map.{map_bit, MapOf}
use Rattle.disc.proofs.Compare.{same_or, below_or}
use Rattle.disc.proofs.SliceLaws.{in_unit_le, in_unit_in, in_unit_no}
use Rattle.map.proofs.MarkLaws.{map_bit_le}
use Rattle.map.proofs.CountLaws.{map_bit_at}
use Rattle.sound.specs.Sound.{SoundMap}
use Rattle.sound.specs.Parts.{MarksOf}
use Rattle.marks.specs.Packed.{packed, packed_marks, Filled, Cleared}
use Rattle.marks.proofs.PackedLaws.{packed_same, packed-sum, packed_unique, packed_digits, packed_zeros, packed_ones, packed_edge}

-- ---- the words of a unit's slices

module _ (m : ℕ) where
  abbrev unit_at : ℕ → ℕ
  unit_at i = in_unit m (suc i)

  abbrev unit_word : ℕ → ℕ
  unit_word w = packed unit_at (16 * w) 16

  unit_full : (w : ℕ) → w < m / 16 → unit_word w ≡ 0xFFFF
  unit_full w h = omega (arith, packed_ones unit_at (16 * w) 16 (λ b l. in_unit_in m (suc (16 * w + b)) (omega arith) (omega arith)))

  unit_past : (w : ℕ) → m / 16 < w → unit_word w ≡ 0
  unit_past w h = packed_zeros unit_at (16 * w) 16 (λ b l. in_unit_no m (suc (16 * w + b)) (omega arith))

  unit_edge : unit_word (m / 16) + 2 * bit_word (m % 16) ≡ 65536
  unit_edge =
      let e = m % 16 in
      let at = 16 * (m / 16) in
      let sixteen : e + (16 - e) ≡ 16 = omega arith in
      let edge = packed_edge unit_at at e (16 - e)
      (λ b l. in_unit_in m (suc (at + b)) (omega arith) (omega arith))
      (λ b l h. in_unit_no m (suc (at + b)) (omega arith)) in
      let whole : packed unit_at at 16 + 2 ^ (16 - e) ≡ 2 ^ 16 = rw sixteen at edge in
      let next : 16 - e ≡ suc (15 - e) = omega arith in
      let twice : 2 ^ (16 - e) ≡ 2 * 2 ^ (15 - e) = rw next (omega arith) in
      omega arith

-- ---- a map that agrees, bit by bit and word by word

module _ (image marks : List ℕ) (m : ℕ) (all : List ℕ) (words : Words image) (few : m ≤ 4096) (is : MarksOf marks all)
    (once : InRangeOnce m all) where
  abbrev bit_at : ℕ → ℕ
  bit_at i = map_bit image (suc i)

  abbrev mark_at : ℕ → ℕ
  mark_at i = get_or marks i 0

  mark_is : (i : ℕ) → i < 4096 → mark_at i ≡ occurrences (suc i) all
  mark_is i h = ap mark_at (let e : i ≡ suc i - 1 = omega arith in e) ∙ is.each (suc i) (omega arith) (omega arith)

  mark_le : (i : ℕ) → i < 4096 → mark_at i ≤ unit_at m i
  mark_le i h = omega (arith, mark_is i h, once (suc i))

  word_bits : (w : ℕ) → w < 256 → packed bit_at (16 * w) 16 ≡ word image map_sector w
  word_bits w h =
      packed_digits bit_at (16 * w) 16 (word image map_sector w) (words.each (map_sector * 256 + w)) (λ b l.
      ap (map_bit image) (sym (add-one (16 * w + b))) ∙ map_bit_at image w b l)

  abbrev WordAgrees : ℕ → Type 0
  WordAgrees w = word image map_sector w + packed_marks marks w ≡ unit_word m w

  words_agree : MapOf image m all → (w : ℕ) → w < 256 → WordAgrees w
  words_agree map w h =
      let same = packed_same (λ i. bit_at i + mark_at i) (unit_at m) (16 * w) 16 (λ b l.
      omega (arith, map (suc (16 * w + b)) (omega arith) (omega arith), mark_is (16 * w + b) (omega arith))) in
      omega (arith, word_bits w h, packed-sum bit_at mark_at (16 * w) 16, same)

  bits_agree : (w : ℕ) → w < 256 → WordAgrees w → (b : ℕ) → b < 16 → bit_at (16 * w + b) + mark_at (16 * w + b) ≡ unit_at m (16 * w + b)
  bits_agree w h e b l =
      let rest : ℕ → ℕ = λ i. unit_at m i - mark_at i in
      let same : packed (λ i. rest i + mark_at i) (16 * w) 16 ≡ unit_word m w = packed_same (λ i. rest i + mark_at i) (unit_at m) (16 * w) 16 (λ c k.
      omega (arith, mark_le (16 * w + c) (omega arith))) in
      let equal : packed bit_at (16 * w) 16 ≡ packed rest (16 * w) 16 = omega (arith, word_bits w h, packed-sum rest mark_at (16 * w) 16, same) in
      let bit = packed_unique bit_at rest (16 * w) 16 (λ i. map_bit_le image (suc i)) (λ i. omega (arith, in_unit_le m (suc i))) equal b l in
      omega (arith, mark_le (16 * w + b) (omega arith), bit)

  map_agrees : ((w : ℕ) → w < 256 → WordAgrees w) → MapOf image m all
  map_agrees agree zero low high = absurd (omega arith)
  map_agrees agree (suc k) low high =
      let w = k / 16 in
      let b = k % 16 in
      let at : 16 * w + b ≡ k = omega arith in
      let bit = bits_agree w (omega arith) (agree w (omega arith)) b (omega arith) in
      let here : bit_at k + mark_at k ≡ unit_at m k = rw at at bit in
      omega (arith, mark_is k (omega arith))

  map_sound : MapOf image m all → SoundMap image m all
  map_sound map = record {
    marked = λ k low high.
        let e : map_bit image k + occurrences k all ≡ 1 = map k low (omega arith) ∙ in_unit_in m k low high in
        (λ z. omega arith, λ o. omega arith);
    past = λ k low high. omega (arith, map k (omega arith) high, in_unit_no m k low);
  }

  sound-map : SoundMap image m all → MapOf image m all
  sound-map sound k low high = below_or m k
      (λ past. omega (arith, sound.past k past high, once k, in_unit_no m k past))
      (λ inside.
      let one = in_unit_in m k low inside in
      let used = sound.marked k low inside in
      same_or (map_bit image k) 0
      (λ z. omega (arith, used.0 z, once k, in_unit_le m k))
      (λ d. same_or (occurrences k all) 0
      (λ none. omega (arith, map_bit_le image k))
      (λ some. absurd (d (used.1 (omega arith))))))

  -- ---- as the code goes

  pub agree_filled : SoundMap image m all → Filled image marks (m / 16)
  agree_filled sound = record { each = λ w h. words_agree (sound-map sound) w (omega arith) ∙ unit_full m w h }

  -- x is the word in which the slices end, y its marks, and p the word of the first bit past them
  pub agree_edge : (x y p : ℕ) → x ≡ word image map_sector (m / 16) → y ≡ packed_marks marks (m / 16) → p ≡ bit_word (m % 16) → m / 16 < 256
      → SoundMap image m all → x + y + 2 * p ≡ 65536
  agree_edge x y p ex ey ep h sound = omega (arith, words_agree (sound-map sound) (m / 16) h, unit_edge m)

  marks_past : (w : ℕ) → m / 16 < w → w < 256 → packed_marks marks w ≡ 0
  marks_past w l h = packed_zeros mark_at (16 * w) 16 (λ b k. omega (arith, mark_le (16 * w + b) (omega arith), in_unit_no m (suc (16 * w + b)) (omega arith)))

  agree_cleared : SoundMap image m all → Cleared image (m / 16 + 1)
  agree_cleared sound = record { each = λ w l h. omega (arith, words_agree (sound-map sound) w h, unit_past m w (omega arith)) }

  pub agree_full : m / 16 ≡ 256 → Filled image marks (m / 16) → SoundMap image m all
  agree_full e filled = map_sound (map_agrees (λ w h. filled.each w (omega arith) ∙ sym (unit_full m w (omega arith))))

  agree_all : Filled image marks (m / 16) → word image map_sector (m / 16) + packed_marks marks (m / 16) + 2 * bit_word (m % 16) ≡ 65536
      → Cleared image (m / 16 + 1) → SoundMap image m all
  agree_all filled edge cleared = map_sound (map_agrees (λ w h. below_or w (m / 16)
      (λ l. filled.each w l ∙ sym (unit_full m w l))
      (λ ge. same_or w (m / 16)
      (λ s. rw s (omega (arith, unit_edge m)))
      (λ d. omega (arith, cleared.each w (omega arith) h, marks_past w (omega arith) h, unit_past m w (omega arith))))))

  -- the words past it decide, where the others agree
  pub agree_past : {r : Bool} (x y p : ℕ) → x ≡ word image map_sector (m / 16) → y ≡ packed_marks marks (m / 16) → p ≡ bit_word (m % 16)
      → Filled image marks (m / 16) → x + y + 2 * p ≡ 65536 → Decides r (Cleared image (m / 16 + 1)) → Decides r (SoundMap image m all)
  agree_past x y p ex ey ep filled edge d = record {
    yes = λ e. agree_all filled (omega arith) (d.yes e);
    not = λ e sound. d.not e (agree_cleared sound);
  }
