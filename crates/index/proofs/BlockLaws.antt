-- Whole blocks: their words, and one pair or another count stored in them.
use mathlib.Core.Path.{◌≡◌, refl, sym, ap, ap₂, ◌∙◌}
use mathlib.Core.List.{List, [], ◌∷◌, ◌++◌, append_assoc}
use Prim.Native.Nat.{ℕ, zero, suc, ◌+◌, ◌-◌, ◌*◌, ◌≤◌, ◌<◌}
use native.Mathlib.Omega.{arith}
use native.Mathlib.Nat.{zero-add}
use lib.ListN.{length, get_or, set, length-append, get_or-append}
use lib.Seq.{set_at, set-append_left}
use Rattle.disc.specs.Words.{word, Words, Holds}
use Rattle.disc.specs.Stretches.{index_words, stretch_count}
use Rattle.disc.proofs.WordLaws.{words_append}
use Rattle.disc.proofs.IndexUnique.{length_index}
use Rattle.disc.proofs.IndexLaws.{words_index}
use Rattle.words.specs.Store.{store, zero_words}
use Rattle.words.proofs.StoreLaws.{holds_store, length-zero_words, words-zero_words}
use Rattle.index.specs.Block.{whole, whole_index, with_pair}

pub length_whole : (v : List ℕ) → length v ≤ 256 → length (whole v) ≡ 256
unfolding whole
length_whole v h = omega (arith, length-append v (zero_words (256 - length v)), length-zero_words (256 - length v))

-- no words
pub whole_none : zero_words 256 ≡ whole (0 ∷ [])
unfolding whole zero_words
whole_none = refl

pub word_whole : (v : List ℕ) (b : ℕ) → b < length v → word (whole v) 0 b ≡ get_or v b 0
unfolding whole
word_whole v b h = ap (λ (i : ℕ). get_or (v ++ zero_words (256 - length v)) i 0) (zero-add b) ∙ get_or-append v (zero_words (256 - length v)) 0 b h

pub whole_count : (n m : ℕ) (v : List ℕ) → set (whole (n ∷ v)) 0 m ≡ whole (m ∷ v)
unfolding whole
whole_count n m v = refl

-- zeros, the first of them set apart
zero_more : (n : ℕ) → 1 ≤ n → zero_words n ≡ 0 ∷ zero_words (n - 1)
unfolding zero_words
zero_more zero h = absurd (omega arith)
zero_more (suc n) h = let e : n ≡ suc n - 1 = omega arith in ap (λ (k : ℕ). 0 ∷ zero_words k) e

whole_set : (v : List ℕ) (i x : ℕ) → length v ≡ i → i < 256 → set (whole v) i x ≡ whole (v ++ (x ∷ []))
unfolding whole
whole_set v i x e h =
    let n : 256 - length v - 1 ≡ 256 - length (v ++ (x ∷ [])) = omega (arith, length-append v (x ∷ [])) in
    ap (λ (z : List ℕ). set (v ++ z) i x) (zero_more (256 - length v) (omega arith))
    ∙ set_at v 0 (zero_words (256 - length v - 1)) x i e
    ∙ ap (λ (k : ℕ). v ++ x ∷ zero_words k) n
    ∙ sym (append_assoc v (x ∷ []) (zero_words (256 - length (v ++ (x ∷ [])))))

-- a pair after those that are there
pub whole_pair : (v : List ℕ) (j x y : ℕ) → length v ≡ 2 * j + 1 → j < 127 → with_pair (whole v) j x y ≡ whole (v ++ (x ∷ y ∷ []))
whole_pair v j x y e h =
    ap (λ (w : List ℕ). set w (2 * j + 2) y) (whole_set v (2 * j + 1) x e (omega arith))
    ∙ whole_set (v ++ (x ∷ [])) (2 * j + 2) y (omega (arith, length-append v (x ∷ []))) (omega arith)
    ∙ ap whole (append_assoc v (x ∷ []) (y ∷ []))

-- another last pair
pub whole_last : (v : List ℕ) (j x y x' y' : ℕ) → length v ≡ 2 * j + 1 → with_pair (whole (v ++ (x ∷ y ∷ []))) j x' y' ≡ whole (v ++ (x' ∷ y' ∷ []))
unfolding whole
whole_last v j x y x' y' e =
    let a = length-append v (x ∷ y ∷ []) in
    let b = length-append v (x' ∷ y ∷ []) in
    let c = length-append v (x' ∷ y' ∷ []) in
    let z = zero_words (256 - length (v ++ (x ∷ y ∷ []))) in
    let n : 256 - length (v ++ (x ∷ y ∷ [])) ≡ 256 - length (v ++ (x' ∷ y' ∷ [])) = omega arith in
    ap (λ (w : List ℕ). set w (2 * j + 2) y') (set-append_left (v ++ (x ∷ y ∷ [])) z (2 * j + 1) x' (omega arith) ∙ ap (λ (w : List ℕ). w ++ z) (set_at v x (y ∷ []) x' (2 * j + 1) e))
    ∙ set-append_left (v ++ (x' ∷ y ∷ [])) z (2 * j + 2) y' (omega arith)
    ∙ ap (λ (w : List ℕ). set w (2 * j + 2) y' ++ z) (sym (append_assoc v (x' ∷ []) (y ∷ [])))
    ∙ ap (λ (w : List ℕ). w ++ z) (set_at (v ++ (x' ∷ [])) y [] y' (2 * j + 2) (omega (arith, length-append v (x' ∷ []))))
    ∙ ap₂ (λ (w : List ℕ) (k : ℕ). w ++ zero_words k) (append_assoc v (x' ∷ []) (y' ∷ [])) n

-- ---- the block of a slice list

pub length-whole_index : (F s : ℕ) (l : List ℕ) → stretch_count l ≤ 127 → length (whole_index F s l) ≡ 256
unfolding whole_index
length-whole_index F s l few = length_whole (index_words F s l) (omega (arith, length_index F s l))

pub whole_index_none : (F s : ℕ) → whole_index F s [] ≡ zero_words 256
unfolding whole_index
whole_index_none F s = sym whole_none

pub holds-whole_index : (F s : ℕ) (l : List ℕ) → Holds (whole_index F s l) 0 (index_words F s l)
unfolding whole_index
holds-whole_index F s l = record { at = λ b h k. word_whole (index_words F s l) b h }

pub words-whole_index : (F s m : ℕ) (l : List ℕ) → 1 ≤ s → F + s * m < 65536 → s * length l < 65536 → ((j : ℕ) → j < length l → get_or l j 0 ≤ m)
    → Words (whole_index F s l)
unfolding whole_index whole
words-whole_index F s m l pos high some le =
    words_append (index_words F s l) (zero_words (256 - length (index_words F s l))) (words_index F s m l pos high some le) (words-zero_words (256 - length (index_words F s l)))

-- the block stored in sector q
pub holds_stored : (image : List ℕ) (q F s : ℕ) (l : List ℕ) → stretch_count l ≤ 127 → q * 256 + 256 ≤ length image
    → Holds (store image (q * 256) (whole_index F s l)) q (index_words F s l)
holds_stored image q F s l few inside =
    let n = length-whole_index F s l few in
    let h = holds_store image q (whole_index F s l) (omega arith) in
    record {
      at = λ b x y. h.at b (omega arith) y ∙ ap (λ (i : ℕ). get_or (whole_index F s l) i 0) (sym (zero-add b)) ∙ (holds-whole_index F s l).at b x y;
    }
