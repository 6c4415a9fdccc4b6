-- A fresh map: the bits of its slices, a word made of its bits one after the other, and its words one after the other.
use mathlib.Core.Path.{◌≡◌, refl, sym, ap, ap₂, ◌∙◌}
use mathlib.Core.List.{List, [], ◌∷◌, ◌++◌}
use Prim.Native.Nat.{ℕ, zero, suc, ◌+◌, ◌-◌, ◌*◌, ◌^◌, ◌≤◌, ◌<◌}
use native.Mathlib.Nat.{add-zero, add-mul, mul_assoc, pow-succ', le-mul_of_pos_right}
use native.Mathlib.Numerals.{add-one}
use native.Mathlib.Omega.{arith}
use lib.Pow.{pow_pos}
use lib.Dec.{leb, ltb}
use lib.ListN.{length}
use mir.Val.{bool_byte}
use borrow.Author.Tests.{le-leb, lt-leb, le-ltb}
use Rattle.disc.specs.Stretches.{span}
use Rattle.disc.specs.Kit.{map_sector}
use Rattle.disc.specs.Map.{map_bits, map_word}
use Rattle.disc.proofs.Compare.{below_or}
use Rattle.disc.proofs.SliceLaws.{in_unit_in, in_unit_no}
use Rattle.disc.proofs.SpanLaws.{span_in, span_past}
use Rattle.map.proofs.MapWordLaws.{free_bit, map_word_lt}
use Rattle.words.specs.Store.{store}
use Rattle.words.proofs.StoreLaws.{store_none, store_append}
use Rattle.refine.specs.Format.{store_block, map_words}
use Rattle.refine.proofs.FormatImage.{length-map_words}
use Rattle.format.proofs.BlockLaws.{block_full}

-- ---- a bit: SYS has the first slices, and the unit's others are free

pub bit_used : (used m k : ℕ) → 1 ≤ k → k ≤ used → bool_byte (ltb used k) ≡ free_bit m (span 1 used) k
bit_used used m k a b = rw (le-ltb used k b, span_in used 1 k a (omega arith)) (omega arith)

pub bit_past : (used m k : ℕ) → m < k → 0 ≡ free_bit m (span 1 used) k
bit_past used m k h = rw (in_unit_no m k h) (omega arith)

pub bit_free : (used m k : ℕ) → 1 ≤ k → used < k → k ≤ m → 1 ≡ free_bit m (span 1 used) k
bit_free used m k a b c = rw (in_unit_in m k a c, span_past used 1 k (omega arith)) (omega arith)

-- a slice that SYS does not have: whether it is one of the unit's
pub bit_tested : (used m k : ℕ) → 1 ≤ k → used < k → bool_byte (leb k m) ≡ free_bit m (span 1 used) k
bit_tested used m k a b = below_or m k
    (λ h. rw (lt-leb k m h) (bit_past used m k h))
    (λ h. rw (le-leb k m h) (bit_free used m k a b h))

-- ---- a word

-- x is made of the first b bits of word w: with the rest behind them it is the word
pub record BitsDone (m : ℕ) (held : List ℕ) (w b x : ℕ) : Type 0 where
  pub sum : x * 2 ^ (16 - b) + map_bits m held (16 - b) (16 * w + 1 + b) ≡ map_word m held w

module _ (m : ℕ) (held : List ℕ) (w : ℕ) where
  pub bits_none : BitsDone m held w 0 0
  bits_none = record { sum = none 16 (16 * w + 1 + 0) (16 * w + 1) (omega arith) }
    where
      none : (n k j : ℕ) → k ≡ j → 0 * 2 ^ n + map_bits m held n k ≡ map_bits m held n j
      none n k j e = omega (arith, ap (map_bits m held n) e)

  pub bits_more : (b x : ℕ) → b < 16 → BitsDone m held w b x → BitsDone m held w (b + 1) (x * 2 + free_bit m held (16 * w + 1 + b))
  bits_more b x h d = record { sum = go (16 - (b + 1)) refl }
    where
      go : (n : ℕ) → 16 - (b + 1) ≡ n → (x * 2 + free_bit m held (16 * w + 1 + b)) * 2 ^ n + map_bits m held n (16 * w + 1 + (b + 1)) ≡ map_word m held w
      go n e =
          let k : ℕ = 16 * w + 1 + b in
          let f : 16 - b ≡ suc n = omega arith in
          let g : 16 * w + 1 + (b + 1) ≡ suc k = omega arith in
          let before : x * 2 ^ suc n + (free_bit m held k * 2 ^ n + map_bits m held n (suc k)) ≡ map_word m held w = rw f at d.sum in
          rw g (omega (arith, before, add-mul (x * 2) (free_bit m held k) (2 ^ n), mul_assoc x 2 (2 ^ n), ap (λ (y : ℕ). x * y) (pow-succ' 2 n)))

  -- a turn of the loop, whose bit is that of the slice in the word's place
  pub bits_next : (b x : ℕ) → b < 16 → BitsDone m held w b x → {k v : ℕ} → k ≡ 16 * w + b + 1 → v ≡ free_bit m held k → BitsDone m held w (b + 1) (x * 2 + v)
  bits_next b x h d {k} e f = let g : k ≡ 16 * w + 1 + b = omega arith in rw (f, g) (bits_more b x h d)

  pub bits_fit : (b x : ℕ) → BitsDone m held w b x → x < 65536
  bits_fit b x d = omega (arith, le-mul_of_pos_right {m = 2 ^ (16 - b)} x (pow_pos (16 - b)), d.sum, map_word_lt m held w)

  pub bits_done : (b x : ℕ) → b ≡ 16 → BitsDone m held w b x → x ≡ map_word m held w
  bits_done b x e d =
      let s : x * 2 ^ (16 - 16) + map_bits m held (16 - 16) (16 * w + 1 + 16) ≡ map_word m held w = rw e at d.sum in omega arith

-- ---- the words of the map

map_words_suc : (m : ℕ) (held : List ℕ) (w n : ℕ) → map_words m held w n ++ (map_word m held (w + n) ∷ []) ≡ map_words m held w (suc n)
unfolding map_words
map_words_suc m held w zero = ap (λ (k : ℕ). map_word m held k ∷ []) (add-zero w)
map_words_suc m held w (suc n) =
    let e : w + suc n ≡ suc w + n = omega arith in
    ap (λ (k : ℕ). map_word m held w ∷ (map_words m held (suc w) n ++ (map_word m held k ∷ []))) e
    ∙ ap (λ (l : List ℕ). map_word m held w ∷ l) (map_words_suc m held (suc w) n)

module _ (image : List ℕ) (m : ℕ) (held : List ℕ) where
  -- before the first turn of a loop that stores word after word, after a turn, and at its end
  pub map_none : image ≡ store image (map_sector * 256) (map_words m held 0 0)
  unfolding map_words
  map_none = sym (store_none image (map_sector * 256))

  pub map_more : (w v : ℕ) (now after : List ℕ) → v ≡ map_word m held w → now ≡ store image (map_sector * 256) (map_words m held 0 w)
      → after ≡ store now (map_sector * 256 + w) (v ∷ []) → after ≡ store image (map_sector * 256) (map_words m held 0 (w + 1))
  map_more w v now after e f g =
      let n : length (map_words m held 0 w) ≡ w = length-map_words m held 0 w in
      let z : v ≡ map_word m held (0 + w) = e ∙ ap (map_word m held) (let k : w ≡ 0 + w = omega arith in k) in
      g ∙ ap₂ (λ (l : List ℕ) (k : ℕ). store l (map_sector * 256 + k) (v ∷ [])) f (sym n)
      ∙ sym (store_append image (map_sector * 256) (map_words m held 0 w) (v ∷ []))
      ∙ ap (store image (map_sector * 256)) (ap (λ (k : ℕ). map_words m held 0 w ++ (k ∷ [])) z ∙ map_words_suc m held 0 w ∙ ap (map_words m held 0) (sym (add-one w)))

  pub map_done : (w : ℕ) → w ≡ 256 → store image (map_sector * 256) (map_words m held 0 w) ≡ store_block image map_sector (map_words m held 0 256)
  map_done w e = ap (λ (k : ℕ). store image (map_sector * 256) (map_words m held 0 k)) e ∙ block_full image map_sector (map_words m held 0 256) (length-map_words m held 0 256)
