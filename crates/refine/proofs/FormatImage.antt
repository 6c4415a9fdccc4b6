-- The image that Format writes, word by word: sectors 6 to 9, SYS's places, and the words that stay.
use mathlib.Core.Path.{◌≡◌, refl, ap, ◌∙◌}
use mathlib.Core.List.{List, ◌++◌}
use mathlib.Core.Logic.{◌≢◌, ◌⊎◌, inl, inr, ⊎_elim}
use Prim.Native.Nat.{ℕ, zero, suc, ◌+◌, ◌*◌, ◌-◌, ◌≤◌, ◌<◌, compare}
use native.Mathlib.Nat.{mod-lt}
use native.Mathlib.Omega.{arith}
use lib.ListN.{length, get_or, length-append, get_or-append}
use Rattle.disc.specs.Numbers.{slice_count}
use Rattle.disc.specs.Words.{word, Words, Holds}
use Rattle.disc.specs.Names.{SYS, MAP, key_of}
use Rattle.disc.specs.Kit.{sys_index_sector, map_index_sector, kit_sector, map_sector}
use Rattle.disc.specs.Map.{map_word}
use Rattle.disc.specs.Entries.{sys_entry, map_entry}
use Rattle.disc.proofs.WordLaws.{words_none, words_cons, words_append}
use Rattle.disc.proofs.SliceLaws.{same_le}
use Rattle.map.proofs.MapWordLaws.{map_word_lt}
use Rattle.words.specs.Store.{store, zero_words}
use Rattle.words.proofs.StoreLaws.{length_store, store_below, store_above, store_inside, words_store, length-zero_words, get_d_zero_words, words-zero_words, word_sector_other, word_sector_in, holds_same}
use Rattle.refine.specs.Format.{sys_slices, store_block, sys_index, map_index, kit_words, map_words, system_sectors, clear_sys, enter_at, map_place, fresh_catalog, formatted}

-- ---- a sector's words and zeros behind them

block_words : (vs : List ℕ) → length vs ≤ 256 → length (vs ++ zero_words (256 - length vs)) ≡ 256
block_words vs h = omega (arith, length-append vs (zero_words (256 - length vs)), length-zero_words (256 - length vs))

pub length_block : (image : List ℕ) (q : ℕ) (vs : List ℕ) → length (store_block image q vs) ≡ length image
unfolding store_block
length_block image q vs = length_store image (q * 256) (vs ++ zero_words (256 - length vs))

block_other : (image : List ℕ) (q : ℕ) (vs : List ℕ) → length vs ≤ 256 → (r b : ℕ) → r ≢ q → b < 256 → word (store_block image q vs) r b ≡ word image r b
unfolding store_block
block_other image q vs h r b d l =
    word_sector_other image q (vs ++ zero_words (256 - length vs)) (omega (arith, block_words vs h)) r b d l

block_holds : (image : List ℕ) (q : ℕ) (vs : List ℕ) → length vs ≤ 256 → q * 256 + 256 ≤ length image → Holds (store_block image q vs) q vs
unfolding store_block
block_holds image q vs h inside = record {
  at = λ b x y.
      word_sector_in image q (vs ++ zero_words (256 - length vs)) (omega (arith, block_words vs h)) b (omega (arith, block_words vs h))
      ∙ get_or-append vs (zero_words (256 - length vs)) 0 b x;
}

words_block : (image : List ℕ) (q : ℕ) (vs : List ℕ) → Words image → Words vs → Words (store_block image q vs)
unfolding store_block
words_block image q vs w x =
    words_store image (q * 256) (vs ++ zero_words (256 - length vs)) w (words_append vs (zero_words (256 - length vs)) x (words-zero_words (256 - length vs)))

-- ---- the words of the map

pub length-map_words : (m : ℕ) (held : List ℕ) (w n : ℕ) → length (map_words m held w n) ≡ n
unfolding map_words
length-map_words m held w zero = refl
length-map_words m held w (suc n) = ap suc (length-map_words m held (suc w) n)

pub get_d_map_words : (m : ℕ) (held : List ℕ) (w n i : ℕ) → i < n → get_or (map_words m held w n) i 0 ≡ map_word m held (w + i)
unfolding map_words
get_d_map_words m held w zero i h = absurd (omega arith)
get_d_map_words m held w (suc n) zero h = let e : w ≡ w + 0 = omega arith in ap (map_word m held) e
get_d_map_words m held w (suc n) (suc i) h =
    let e : suc w + i ≡ w + suc i = omega arith in get_d_map_words m held (suc w) n i (omega arith) ∙ ap (map_word m held) e

words-map_words : (m : ℕ) (held : List ℕ) (w n : ℕ) → Words (map_words m held w n)
unfolding map_words
words-map_words m held w zero = words_none
words-map_words m held w (suc n) = words_cons (map_word m held w) (map_words m held (suc w) n) (map_word_lt m held w) (words-map_words m held (suc w) n)

pub key_lt : (H n : ℕ) → 1 ≤ H → key_of H n < H
key_lt H n h = mod-lt _ h

-- ---- sectors 6 to 9

module _ (image : List ℕ) (H s F N k6 k7 : ℕ) where
  abbrev i₆ : List ℕ
  i₆ = store_block image sys_index_sector (sys_index H s F)

  abbrev i₇ : List ℕ
  i₇ = store_block i₆ map_index_sector map_index

  abbrev i₈ : List ℕ
  i₈ = store_block i₇ kit_sector (kit_words H s F N k6 k7)

  abbrev map : List ℕ
  map = map_words (slice_count s F N) (sys_slices H s) 0 256

  after₆ : (r b : ℕ) → r ≢ 6 → b < 256 → word i₆ r b ≡ word image r b
  after₆ = block_other image sys_index_sector (sys_index H s F) (omega arith)

  after₇ : (r b : ℕ) → r ≢ 7 → b < 256 → word i₇ r b ≡ word i₆ r b
  after₇ = block_other i₆ map_index_sector map_index (omega arith)

  after₈ : (r b : ℕ) → r ≢ 8 → b < 256 → word i₈ r b ≡ word i₇ r b
  after₈ = block_other i₇ kit_sector (kit_words H s F N k6 k7) (omega arith)

  after₉ : (r b : ℕ) → r ≢ 9 → b < 256 → word (system_sectors image H s F N k6 k7) r b ≡ word i₈ r b
  unfolding system_sectors
  after₉ = block_other i₈ map_sector map (omega (arith, length-map_words (slice_count s F N) (sys_slices H s) 0 256))

  pub length_system : length (system_sectors image H s F N k6 k7) ≡ length image
  unfolding system_sectors
  length_system =
      length_block i₈ map_sector map ∙ length_block i₇ kit_sector (kit_words H s F N k6 k7) ∙ length_block i₆ map_index_sector map_index
      ∙ length_block image sys_index_sector (sys_index H s F)

  -- all other sectors keep their words
  system_other : (r b : ℕ) → (r < 6) ⊎ (10 ≤ r) → b < 256 → word (system_sectors image H s F N k6 k7) r b ≡ word image r b
  system_other r b h l =
      let out : (r ≢ 6) × (r ≢ 7) × (r ≢ 8) × (r ≢ 9) = ⊎_elim (λ (x : r < 6). omega arith) (λ (x : 10 ≤ r). omega arith) h in
      after₉ r b out.3 l ∙ after₈ r b out.2 l ∙ after₇ r b out.1 l ∙ after₆ r b out.0 l

  module _ (long : 2560 ≤ length image) where
    system_6 : Holds (system_sectors image H s F N k6 k7) sys_index_sector (sys_index H s F)
    system_6 = holds_same (λ b l. after₉ 6 b (omega arith) l ∙ after₈ 6 b (omega arith) l ∙ after₇ 6 b (omega arith) l)
        (block_holds image sys_index_sector (sys_index H s F) (omega arith) (omega arith))

    system_7 : Holds (system_sectors image H s F N k6 k7) map_index_sector map_index
    system_7 = holds_same (λ b l. after₉ 7 b (omega arith) l ∙ after₈ 7 b (omega arith) l)
        (block_holds i₆ map_index_sector map_index (omega arith) (omega (arith, length_block image sys_index_sector (sys_index H s F))))

    system_8 : Holds (system_sectors image H s F N k6 k7) kit_sector (kit_words H s F N k6 k7)
    system_8 = holds_same (λ b l. after₉ 8 b (omega arith) l)
        (block_holds i₇ kit_sector (kit_words H s F N k6 k7) (omega arith)
        (omega (arith, length_block i₆ map_index_sector map_index, length_block image sys_index_sector (sys_index H s F))))

    system_9 : Holds (system_sectors image H s F N k6 k7) map_sector map
    unfolding system_sectors
    system_9 =
        block_holds i₈ map_sector map (omega (arith, length-map_words (slice_count s F N) (sys_slices H s) 0 256))
        (omega (arith, length_block i₇ kit_sector (kit_words H s F N k6 k7), length_block i₆ map_index_sector map_index, length_block image sys_index_sector (sys_index H s F)))

  -- ---- SYS's sectors

  abbrev pub cleared : List ℕ
  cleared = clear_sys (system_sectors image H s F N k6 k7) H F

  -- SYS's place, and MAP's
  abbrev pub sys_at : ℕ
  sys_at = 16 * key_of H SYS

  abbrev pub map_at : ℕ
  map_at = 16 * key_of H MAP + map_place H

  abbrev pub sys_words : List ℕ
  sys_words = sys_entry H s 1 (sys_slices H s)

  -- an entry stored at its place
  abbrev pub with_sys : List ℕ
  with_sys = store cleared (F * 256 + 16 * sys_at) sys_words

  pub formatted_stores : formatted image H s F N k6 k7 ≡ store with_sys (F * 256 + 16 * map_at) map_entry
  unfolding formatted fresh_catalog enter_at
  formatted_stores =
      let a : (F + key_of H SYS) * 256 + 16 * 0 ≡ F * 256 + 16 * sys_at = omega arith in
      let b : (F + key_of H MAP) * 256 + 16 * map_place H ≡ F * 256 + 16 * map_at = omega arith in
      rw (a, b)

  pub length_cleared : length cleared ≡ length image
  unfolding clear_sys
  length_cleared = length_store (system_sectors image H s F N k6 k7) (F * 256) (zero_words (256 * H)) ∙ length_system

  pub length_with_sys : length with_sys ≡ length image
  length_with_sys = length_store cleared (F * 256 + 16 * sys_at) sys_words ∙ length_cleared

  pub length_formatted : length (formatted image H s F N k6 k7) ≡ length image
  length_formatted = ap length formatted_stores ∙ length_store with_sys (F * 256 + 16 * map_at) map_entry ∙ length_with_sys

  pub cleared_zero : (k : ℕ) → F * 256 ≤ k → k < F * 256 + 256 * H → k < length image → get_or cleared k 0 ≡ 0
  unfolding clear_sys
  cleared_zero k lo hi inside =
      store_inside (system_sectors image H s F N k6 k7) (F * 256) (zero_words (256 * H)) k lo (omega (arith, length-zero_words (256 * H))) (omega (arith, length_system))
      ∙ get_d_zero_words (256 * H) (k - F * 256)

  pub map_place_lem : map_place H ≤ 1
  map_place_lem = same_le (compare (key_of H MAP) (key_of H SYS))

  -- the words before SYS's sectors and behind them
  outside : 1 ≤ H → (k : ℕ) → (k < F * 256) ⊎ (F * 256 + 256 * H ≤ k)
      → get_or (formatted image H s F N k6 k7) k 0 ≡ get_or (system_sectors image H s F N k6 k7) k 0
  unfolding clear_sys
  outside h k out =
      let a = key_lt H SYS h in
      let b = key_lt H MAP h in
      let c = map_place_lem in
      let z = length-zero_words (256 * H) in
      let system = system_sectors image H s F N k6 k7 in
      ap (λ (l : List ℕ). get_or l k 0) formatted_stores
      ∙ ⊎_elim
      (λ (x : k < F * 256). store_below with_sys (F * 256 + 16 * map_at) map_entry k (omega arith)
      ∙ store_below cleared (F * 256 + 16 * sys_at) sys_words k (omega arith) ∙ store_below system (F * 256) (zero_words (256 * H)) k x)
      (λ (x : F * 256 + 256 * H ≤ k). store_above with_sys (F * 256 + 16 * map_at) map_entry k (omega arith)
      ∙ store_above cleared (F * 256 + 16 * sys_at) sys_words k (omega arith) ∙ store_above system (F * 256) (zero_words (256 * H)) k (omega arith))
      out

  -- sectors 0 to 5, 10 to F - 1 and those behind SYS's H sectors, slack among them, keep their words
  pub format_keeps : 1 ≤ H → 10 ≤ F → (q b : ℕ) → (q < 6) ⊎ ((10 ≤ q) × (q < F)) ⊎ (F + H ≤ q) → b < 256
      → word (formatted image H s F N k6 k7) q b ≡ word image q b
  format_keeps h low q b out l =
      ⊎_elim
      (λ (x : q < 6). outside h (q * 256 + b) (inl (omega arith)) ∙ system_other q b (inl x) l)
      (⊎_elim
      (λ (x : (10 ≤ q) × (q < F)). outside h (q * 256 + b) (inl (omega arith)) ∙ system_other q b (inr x.0) l)
      (λ (x : F + H ≤ q). outside h (q * 256 + b) (inr (omega arith)) ∙ system_other q b (inr (omega arith)) l))
      out

  module _ (h : 1 ≤ H) (low : 10 ≤ F) (long : 2560 ≤ length image) where
    same_below : (q b : ℕ) → q < 10 → b < 256 → word (formatted image H s F N k6 k7) q b ≡ word (system_sectors image H s F N k6 k7) q b
    same_below q b x l = outside h (q * 256 + b) (inl (omega arith))

    pub formatted_6 : Holds (formatted image H s F N k6 k7) sys_index_sector (sys_index H s F)
    formatted_6 = holds_same (λ b l. same_below 6 b (omega arith) l) (system_6 long)

    pub formatted_7 : Holds (formatted image H s F N k6 k7) map_index_sector map_index
    formatted_7 = holds_same (λ b l. same_below 7 b (omega arith) l) (system_7 long)

    pub formatted_8 : Holds (formatted image H s F N k6 k7) kit_sector (kit_words H s F N k6 k7)
    formatted_8 = holds_same (λ b l. same_below 8 b (omega arith) l) (system_8 long)

    pub formatted-map : (w : ℕ) → w < 256 → word (formatted image H s F N k6 k7) map_sector w ≡ map_word (slice_count s F N) (sys_slices H s) w
    formatted-map w x =
        let n = length-map_words (slice_count s F N) (sys_slices H s) 0 256 in
        let e : 0 + w ≡ w = omega arith in
        same_below 9 w (omega arith) x ∙ (system_9 long).at w (omega arith) x
        ∙ get_d_map_words (slice_count s F N) (sys_slices H s) 0 256 w x ∙ ap (map_word (slice_count s F N) (sys_slices H s)) e

  -- ---- every word is one

  pub words_formatted : Words image → Words (sys_index H s F) → Words (kit_words H s F N k6 k7) → Words sys_words → Words map_entry
      → Words (formatted image H s F N k6 k7)
  unfolding system_sectors clear_sys
  words_formatted w a b d e =
      let map_words_words : Words map = words-map_words (slice_count s F N) (sys_slices H s) 0 256 in
      let w₆ : Words i₆ = words_block image sys_index_sector (sys_index H s F) w a in
      let w₇ : Words i₇ = words_block i₆ map_index_sector map_index w₆ (words_cons 1 _ (omega arith) (words_cons 1 _ (omega arith) (words_cons 9 _ (omega arith) words_none))) in
      let w₈ : Words i₈ = words_block i₇ kit_sector (kit_words H s F N k6 k7) w₇ b in
      let w₉ : Words (system_sectors image H s F N k6 k7) = words_block i₈ map_sector map w₈ map_words_words in
      let z : Words cleared = words_store (system_sectors image H s F N k6 k7) (F * 256) (zero_words (256 * H)) w₉ (words-zero_words (256 * H)) in
      rw formatted_stores
      (words_store with_sys (F * 256 + 16 * map_at) map_entry (words_store cleared (F * 256 + 16 * sys_at) sys_words z d) e)
