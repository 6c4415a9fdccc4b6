-- The words of a unit's map: an image has those that `map_word` gives, since its bits are those of an image that has them.
use mathlib.Core.Path.{◌≡◌, sym, ap, ◌∙◌}
use mathlib.Core.List.{List, ◌++◌}
use Prim.Native.Nat.{ℕ, zero, suc, ◌+◌, ◌-◌, ◌*◌, ◌/◌, ◌^◌, ◌<◌}
use native.Mathlib.Omega.{arith}
use lib.ListN.{length, get_or, replicate, length-replicate}
use lib.Seq.{get_or-append-add}
use Rattle.disc.specs.Words.{word, Words}
use Rattle.disc.specs.Kit.{map_sector}
use Rattle.disc.specs.Slices.{InRangeOnce}
use Rattle.disc.specs.Map.{map_bit, map_word, MapOf}
use Rattle.map.proofs.Digits.{digit, digit_zero, digit_suc}
use Rattle.map.proofs.CountLaws.{map_bit_at}
use Rattle.map.proofs.MapWordLaws.{map_word_lt, map_of_words}
use Rattle.refine.specs.Format.{map_words}
use Rattle.refine.proofs.FormatImage.{get_d_map_words}

-- numbers of n digits with the same digits
same_digits : (n x y : ℕ) → x < 2 ^ n → y < 2 ^ n → ((e : ℕ) → e < n → digit x e ≡ digit y e) → x ≡ y
same_digits zero x y a b h = omega arith
same_digits (suc n) x y a b h =
    let rest = same_digits n (x / 2) (y / 2) (omega arith) (omega arith) (λ e l. sym (digit_suc x e) ∙ h (suc e) (omega arith) ∙ digit_suc y e) in
    omega (arith, rest, digit_zero x, digit_zero y, h 0 (omega arith))

module _ (m : ℕ) (held : List ℕ) where
  -- an image with these words
  before : List ℕ
  before = replicate (map_sector * 256) 0

  abbrev model : List ℕ
  model = before ++ map_words m held 0 256

  before-length : length before ≡ map_sector * 256
  unfolding before
  before-length = length-replicate {A = ℕ} (map_sector * 256) 0

  model_word : (w : ℕ) → w < 256 → word model map_sector w ≡ map_word m held w
  model_word w h =
      let e : 0 + w ≡ w = omega arith in
      ap (λ (n : ℕ). get_or model (n + w) 0) (sym before-length) ∙ get_or-append-add before (map_words m held 0 256) w 0
      ∙ get_d_map_words m held 0 256 w h ∙ ap (map_word m held) e

  pub words_of-map : (image : List ℕ) → InRangeOnce m held → Words image → MapOf image m held → (w : ℕ) → w < 256 → word image map_sector w ≡ map_word m held w
  words_of-map image once words map w h =
      same_digits 16 (word image map_sector w) (map_word m held w) (words.each (map_sector * 256 + w)) (map_word_lt m held w) (λ e l.
      let b : ℕ = 15 - e in
      let back : 15 - b ≡ e = omega arith in
      let k : ℕ = 16 * w + b + 1 in
      let bits : map_bit image k ≡ map_bit model k = omega (arith, map k (omega arith) (omega arith), map_of_words model m held once model_word k (omega arith) (omega arith)) in
      ap (digit (word image map_sector w)) (sym back) ∙ sym (map_bit_at image w b (omega arith)) ∙ bits ∙ map_bit_at model w b (omega arith)
      ∙ ap (λ (x : ℕ). digit x (15 - b)) (model_word w h) ∙ ap (digit (map_word m held w)) back)
