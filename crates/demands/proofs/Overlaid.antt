-- An image with sectors 0 to 5 of another: every write of the layout passes by those sectors, and so does every read.
use mathlib.Core.Path.{◌≡◌, refl, sym, ap, ◌∙◌}
use mathlib.Core.Bool.{Bool, true, false, cond}
use mathlib.Core.List.{List, [], ◌∷◌}
use Prim.Native.Nat.{ℕ, zero, suc, ◌+◌, ◌-◌, ◌*◌, ◌/◌, ◌%◌, ◌≤◌, ◌<◌}
use native.Mathlib.Nat.{zero-add}
use native.Mathlib.Omega.{arith}
use lib.Dec.{leb}
use lib.ListN.{length, get_or, take, drop, length-take, get_or-eq_default}
use lib.Seq.{get_or-take, ext_get_or}
use Rattle.disc.specs.Words.{word, Words}
use Rattle.disc.specs.Stretches.{sector_in}
use Rattle.disc.specs.Kit.{map_sector}
use Rattle.disc.specs.Map.{ones_in_map}
use Rattle.disc.proofs.Compare.{below_or}
use Rattle.disc.proofs.WordLaws.{words_take}
use Rattle.words.specs.Store.{store, zero_words}
use Rattle.words.proofs.StoreLaws.{length_store, store_one, store_in, store_above, store_store, words_store}
use Rattle.map.specs.Marks.{with_bit, marked, all_marked}
use Rattle.map.proofs.MarkLaws.{length_marked}
use Rattle.refine.specs.Writes.{counted_free, zeroed_sectors, taken_image, cut_block, cut_image}
use Rattle.refine.proofs.Sectors.{ones_kept}
use Rattle.demands.specs.Reserved.{reserved_words, SameReserved, SameOthers}

-- ---- the image i with sectors 0 to 5 of x

unfoldable pub overlaid : List ℕ → List ℕ → List ℕ
overlaid x i = store i 0 (take reserved_words x)

module _ (x : List ℕ) where
  short : length (take reserved_words x) ≤ reserved_words
  short = omega (arith, length-take reserved_words x)

  pub length_overlaid : (i : List ℕ) → length (overlaid x i) ≡ length i
  unfolding overlaid
  length_overlaid i = length_store i 0 (take reserved_words x)

  pub words_overlaid : (i : List ℕ) → Words x → Words i → Words (overlaid x i)
  unfolding overlaid
  words_overlaid i w v = words_store i 0 (take reserved_words x) v (words_take reserved_words x w)

  -- the words of the other sectors
  pub overlaid_above : (i : List ℕ) (k : ℕ) → reserved_words ≤ k → get_or (overlaid x i) k 0 ≡ get_or i k 0
  unfolding overlaid
  overlaid_above i k h = store_above i 0 (take reserved_words x) k (omega (arith, short))

  pub word_overlaid : (i : List ℕ) (q b : ℕ) → 6 ≤ q → word (overlaid x i) q b ≡ word i q b
  word_overlaid i q b h = overlaid_above i (q * 256 + b) (omega arith)

  -- those of sectors 0 to 5
  pub overlaid_below : (i : List ℕ) (k : ℕ) → length i ≡ length x → k < reserved_words → get_or (overlaid x i) k 0 ≡ get_or x k 0
  unfolding overlaid
  overlaid_below i k e h = below_or k (length x)
      (λ l. ap (λ (n : ℕ). get_or (overlaid x i) n 0) (sym (zero-add k)) ∙ store_in i 0 (take reserved_words x) k (omega (arith, length-take reserved_words x)) (omega arith) ∙ get_or-take reserved_words x k 0 h)
      (λ l. get_or-eq_default (overlaid x i) 0 (omega (arith, length_overlaid i)) ∙ sym (get_or-eq_default x 0 l))

-- an image with its own sectors 0 to 5, and with those of another that is the same beside them
pub overlaid_own : (i : List ℕ) → overlaid i i ≡ i
overlaid_own i = ext_get_or 0 (overlaid i i) i (length_overlaid i i)
    (λ k h. below_or k reserved_words (λ l. overlaid_below i i k refl l) (λ l. overlaid_above i i k l))

pub overlaid_is : (a b : List ℕ) → SameOthers a b → overlaid b a ≡ b
overlaid_is a b same = ext_get_or 0 (overlaid b a) b (length_overlaid b a ∙ same.size)
    (λ k h. below_or k reserved_words (λ l. overlaid_below b a k same.size l) (λ l. overlaid_above b a k l ∙ same.words k l))

pub overlaid_others : (x i : List ℕ) → SameOthers i (overlaid x i)
overlaid_others x i = record { size = sym (length_overlaid x i); words = λ k h. sym (overlaid_above x i k h) }

-- ---- writes that pass by sectors 0 to 5: they neither read them nor write them

pub record Beyond (w : List ℕ → List ℕ) : Type 0 where
  pub size : (i : List ℕ) → length (w i) ≡ length i
  pub past : (x i : List ℕ) → overlaid x (w i) ≡ w (overlaid x i)

pub beyond_kept : {w : List ℕ → List ℕ} → Beyond w → (i : List ℕ) → SameReserved i (w i)
beyond_kept {w} b i = record {
  size = sym (b.size i);
  words = λ k h.
      sym (overlaid_below i (w i) k (b.size i) h)
      ∙ ap (λ (j : List ℕ). get_or j k 0) (b.past i i ∙ ap w (overlaid_own i));
}

pub beyond_none : Beyond (λ i. i)
beyond_none = record { size = λ i. refl; past = λ x i. refl }

pub beyond_then : {v w : List ℕ → List ℕ} → Beyond v → Beyond w → Beyond (λ i. v (w i))
beyond_then {v} {w} b c = record { size = λ i. b.size (w i) ∙ c.size i; past = λ x i. b.past x (w i) ∙ ap v (c.past x i) }

pub beyond_cond : {v w : List ℕ → List ℕ} (b : Bool) → Beyond v → Beyond w → Beyond (λ i. cond b (v i) (w i))
beyond_cond true c d = c
beyond_cond false c d = d

-- words stored behind them; the words may depend on those behind them
pub beyond_store : (at : ℕ) (vs : List ℕ) → reserved_words ≤ at → Beyond (λ i. store i at vs)
unfolding overlaid
beyond_store at vs h = record {
  size = λ i. length_store i at vs;
  past = λ x i. sym (store_store i 0 (take reserved_words x) at vs (omega (arith, short x)));
}

beyond_store_of : (at : ℕ) (f : List ℕ → List ℕ) → reserved_words ≤ at → ((x i : List ℕ) → f (overlaid x i) ≡ f i) → Beyond (λ i. store i at (f i))
beyond_store_of at f h e = record {
  size = λ i. length_store i at (f i);
  past = λ x i. (beyond_store at (f i) h).past x i ∙ ap (store (overlaid x i) at) (sym (e x i));
}

-- ---- the map and the kit

beyond_marked : (v k : ℕ) → Beyond (λ i. marked v i k)
unfolding marked
beyond_marked v k =
    let at : ℕ = map_sector * 256 + (k - 1) / 16 in
    let new : List ℕ → ℕ = λ i. with_bit ((k - 1) % 16) v (word i map_sector ((k - 1) / 16)) in
    let b = beyond_store_of at (λ i. new i ∷ []) (omega arith) (λ x i. rw (word_overlaid x i map_sector ((k - 1) / 16) (omega arith)) refl) in
    record {
      size = λ i. length_marked v i k;
      past = λ x i. ap (overlaid x) (sym (store_one i at (new i))) ∙ b.past x i ∙ store_one (overlaid x i) at (new (overlaid x i));
    }

pub beyond_all_marked : (v : ℕ) (l : List ℕ) → Beyond (λ i. all_marked v i l)
unfolding all_marked
beyond_all_marked v [] = beyond_none
beyond_all_marked v (k ∷ l) = beyond_then (beyond_all_marked v l) (beyond_marked v k)

pub beyond_counted : (s : ℕ) → Beyond (λ i. counted_free i s)
unfolding counted_free
beyond_counted s =
    beyond_store_of _ (λ i. s * ones_in_map i ∷ []) (omega arith)
    (λ x i. ap (λ (n : ℕ). s * n ∷ []) (ones_kept {i = i} {j = overlaid x i} (record { at = λ b h. word_overlaid x i map_sector b (omega arith) })))

-- ---- data sectors and index blocks

pub beyond_sector : (q : ℕ) (vs : List ℕ) → 6 ≤ q → Beyond (λ i. store i (q * 256) vs)
beyond_sector q vs h = beyond_store (q * 256) vs (omega arith)

pub beyond_zeroed : (F s : ℕ) (slices : List ℕ) (b n : ℕ) → 6 ≤ F → Beyond (λ i. zeroed_sectors i F s slices b n)
unfolding zeroed_sectors
beyond_zeroed F s slices b zero h = beyond_none
beyond_zeroed F s slices b (suc n) h = beyond_then (beyond_sector (sector_in F s slices (b + n)) (zero_words 256) (omega arith)) (beyond_zeroed F s slices b n h)

pub beyond_taken : (q F s : ℕ) (slices new : List ℕ) → 6 ≤ q → Beyond (λ i. taken_image i q F s slices new)
unfolding taken_image
beyond_taken q F s slices [] h = beyond_none
beyond_taken q F s slices (k ∷ new) h = beyond_then (beyond_sector q _ h) (beyond_all_marked 0 (k ∷ new))

beyond_cut_block : (q F s : ℕ) (slices : List ℕ) (keep : ℕ) → 6 ≤ q → Beyond (λ i. cut_block i q F s slices keep)
unfolding cut_block
beyond_cut_block q F s slices zero h = beyond_none
beyond_cut_block q F s slices (suc keep) h = beyond_sector q _ h

pub beyond_cut : (q F s : ℕ) (slices : List ℕ) (keep : ℕ) → 6 ≤ q → Beyond (λ i. cut_image i q F s slices keep)
unfolding cut_image
beyond_cut q F s slices keep h =
    beyond_cond (leb (length slices) keep) beyond_none (beyond_then (beyond_cut_block q F s slices keep h) (beyond_all_marked 1 (drop keep slices)))
