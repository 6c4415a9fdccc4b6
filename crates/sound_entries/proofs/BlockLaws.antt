-- Laws of the blocks of SYS: the places of a block are those of its sector, each by its sixteen words.
use Rattle.std.proofs.Common.{◌≡◌, ℕ, ◌+◌, ◌*◌, ◌/◌, ◌%◌, ◌<◌, Bool, List, get_or, take, drop, sym, ap, ◌∙◌, subst, arith, lit<}
use native.Mathlib.Nat.{mod-add-mod}
use Rattle.std.proofs.lemmas.List.{get_or-take, get_or-drop}
use Rattle.types.specs.declared.Name.{Name}
use Rattle.disc.specs.Decide.{Decides}
use Rattle.disc.specs.Words.{word}
use Rattle.disc.specs.Stretches.{sector_in, sys_from}
use Rattle.disc.specs.Entries.{place_word}
use Rattle.sound_entries.specs.Legal.{place_of, NameIn, PlaceLegal}
use Rattle.sound_entries.proofs.PlaceLaws.{SameWords, same_back, place_moved}

-- the next key, where the key of block b + c is counted up from that of block b
pub key_next : {k n : ℕ} (key H c : ℕ) → k ≡ (key + c) % H → n ≡ (k + 1) % H → n ≡ (key + (c + 1)) % H
key_next key H c e f = f ∙ ap (λ (x : ℕ). (x + 1) % H) e ∙ mod-add-mod (key + c) H 1 ∙ ap (λ (x : ℕ). x % H) (let g : key + c + 1 ≡ key + (c + 1) = omega arith in g)

-- a name that was read from the same words
pub name_at_same : {P R : ℕ → ℕ → ℕ} {t u : ℕ} {name : Name} → SameWords P t R u → NameIn R u name → NameIn P t name
name_at_same same n = record {
  first = n.first ∙ sym (same.words 0 (lit< tt));
  second = n.second ∙ sym (same.words 1 (lit< tt));
  third = n.third ∙ sym (same.words 2 (lit< tt));
  first_word = n.first_word;
  second_word = n.second_word;
  third_word = n.third_word;
}

module _ (image : List ℕ) (F s : ℕ) (slices : List ℕ) where
  -- the sixteen words of place i of block b, which is sector q
  pub in_part : {words : List ℕ} (b i q : ℕ) → i < 16 → q ≡ sector_in F s slices b → words ≡ take 16 (drop (q * 256 + i * 16) image)
      → SameWords (place_word image F s slices sys_from) (16 * b + i) (place_of words) 0
  in_part {words} b i q h e f =
      let at : ℕ = q * 256 + i * 16 in
      let block : (16 * b + i) / 16 + 0 ≡ b = omega arith in
      let slot : (16 * b + i) % 16 ≡ i = omega arith in
      record {
        words = λ w k.
            let offset : q * 256 + (i * 16 + w) ≡ at + w = omega arith in
            ap (λ (x : ℕ). word image (sector_in F s slices x) ((16 * b + i) % 16 * 16 + w)) block
            ∙ ap (λ (x : ℕ). word image (sector_in F s slices b) (x * 16 + w)) slot
            ∙ ap (λ (x : ℕ). word image x (i * 16 + w)) (sym e)
            ∙ ap (λ (x : ℕ). get_or image x 0) offset
            ∙ sym (get_or-drop at image w 0) ∙ sym (get_or-take 16 (drop at image) w 0 k) ∙ ap (λ (l : List ℕ). get_or l w 0) (sym f);
      }

  -- a place that was judged by its words, in a sector of its key
  pub place_block_lem : {r : Bool} {H G key : ℕ} {sys : List ℕ} (words : List ℕ) (b i : ℕ) → i < 16 → SameWords (place_word image F s slices sys_from) (16 * b + i) (place_of words) 0
      → H ≡ G → key ≡ b % G
      → Decides r (PlaceLegal (place_of words) H key sys 0) → Decides r (PlaceLegal (place_word image F s slices sys_from) G ((16 * b + i) / 16 % G) sys (16 * b + i))
  place_block_lem {r} {H} {G} {key} {sys} words b i h same f k d =
      let x : (16 * b + i) / 16 ≡ b = omega arith in
      let key_is : key ≡ (16 * b + i) / 16 % G = k ∙ ap (λ (y : ℕ). y % G) (sym x) in
      let m : Decides r (PlaceLegal (place_of words) G ((16 * b + i) / 16 % G) sys 0) =
      subst (λ (y : ℕ). Decides r (PlaceLegal (place_of words) G y sys 0)) key_is (subst (λ (y : ℕ). Decides r (PlaceLegal (place_of words) y key sys 0)) f d) in
      record { yes = λ y. place_moved (same_back same) (m.yes y); not = λ y p. m.not y (place_moved same p) }
