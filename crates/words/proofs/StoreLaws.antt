-- Laws of `store`, `sector_words` and `zero_words`: what a store changes and what it leaves, by index and by sector.
use mathlib.Core.Path.{◌≡◌, refl, sym, ap, ◌∙◌}
use mathlib.Core.Logic.{◌≢◌, ◌⊎◌, ⊎_elim}
use mathlib.Core.List.{List, [], ◌∷◌, ◌++◌}
use Prim.Native.Nat.{ℕ, zero, suc, ◌+◌, ◌-◌, ◌*◌, ◌≤◌, ◌<◌}
use native.Mathlib.Nat.{add-zero}
use native.Mathlib.Omega.{arith}
use native.Mathlib.Numerals.{add-one}
use lib.ListN.{length, get_or, set, take, drop, length-set, length-replicate, length-drop, get_or-eq_default}
use mathlib.Core.List.{append_assoc}
use borrow.Rule.Slice.PartMut.{put_mid}
use Rattle.std.proofs.lemmas.List.{drop-drop}
use lib.Seq.{sets, length-sets, sets-eq, set_comm, get_or-set_same, get_or-set_other, get_or-take, get_or-drop, ext_get_or, length-take-le, set-get_or, take-suc}
use Rattle.disc.specs.Words.{word, Words, Holds}
use Rattle.disc.proofs.Compare.{below_or}
use Rattle.disc.proofs.WordLaws.{words-set, words_head, words_tail, words_take, words-drop, words_replicate}
use Rattle.words.specs.Store.{store, sector_words, zero_words}

-- ---- by index

pub length_store : (l : List ℕ) (i : ℕ) (vs : List ℕ) → length (store l i vs) ≡ length l
unfolding store
length_store l i vs = length-sets l i vs

pub store_none : (l : List ℕ) (i : ℕ) → store l i [] ≡ l
unfolding store
store_none l i = refl

pub store_one : (l : List ℕ) (i v : ℕ) → store l i (v ∷ []) ≡ set l i v
unfolding store
store_one l i v = refl

-- one run after the other
pub store_append : (l : List ℕ) (i : ℕ) (us vs : List ℕ) → store l i (us ++ vs) ≡ store (store l i us) (i + length us) vs
unfolding store
store_append l i [] vs = rw add-zero
store_append l i (u ∷ us) vs =
    let e : suc i + length us ≡ i + length (u ∷ us) = omega arith in
    store_append (set l i u) (suc i) us vs ∙ ap (λ (k : ℕ). sets (sets (set l i u) (suc i) us) k vs) e

-- one more word at the end of a run
pub store_snoc : (l : List ℕ) (i : ℕ) (vs : List ℕ) (v : ℕ) → store l i (vs ++ (v ∷ [])) ≡ set (store l i vs) (i + length vs) v
store_snoc l i vs v = store_append l i vs (v ∷ []) ∙ store_one (store l i vs) (i + length vs) v

-- one turn of a loop that stores word after word: j words are stored, and the next is
pub store_more : (l : List ℕ) (i j v : ℕ) (us vs m : List ℕ) → length us ≡ j → us ++ (v ∷ []) ≡ vs → m ≡ store l i us → set m (i + j) v ≡ store l i vs
store_more l i j v us vs m n e f = rw (← e, ← n, f) (sym (store_snoc l i us v))

-- what is left after a write to the part from i up to e
pub store_part : (l vs : List ℕ) (i e : ℕ) → i + length vs ≡ e → e ≤ length l → put_mid i (e - i) l vs ≡ store l i vs
unfolding store
store_part l vs i e n h =
    let p : i + (e - i) ≡ i + length vs = omega arith in
    rw drop-drop (ap (λ (k : ℕ). take i l ++ (vs ++ drop k l)) p ∙ sym (sets-eq vs l i (omega arith) ∙ append_assoc (take i l) vs _))

pub store_below : (l : List ℕ) (i : ℕ) (vs : List ℕ) (j : ℕ) → j < i → get_or (store l i vs) j 0 ≡ get_or l j 0
unfolding store
store_below l i [] j h = refl
store_below l i (v ∷ vs) j h = store_below (set l i v) (suc i) vs j (omega arith) ∙ get_or-set_other l i j v 0 (omega arith)

pub store_above : (l : List ℕ) (i : ℕ) (vs : List ℕ) (j : ℕ) → i + length vs ≤ j → get_or (store l i vs) j 0 ≡ get_or l j 0
unfolding store
store_above l i [] j h = refl
store_above l i (v ∷ vs) j h = store_above (set l i v) (suc i) vs j (omega arith) ∙ get_or-set_other l i j v 0 (omega arith)

pub store_in : (l : List ℕ) (i : ℕ) (vs : List ℕ) (k : ℕ) → k < length vs → i + k < length l → get_or (store l i vs) (i + k) 0 ≡ get_or vs k 0
unfolding store
store_in l i [] k h m = absurd (omega arith)
store_in l i (v ∷ vs) zero h m = rw add-zero (store_below (set l i v) (suc i) vs i (omega arith) ∙ get_or-set_same l i v 0 (omega arith))
store_in l i (v ∷ vs) (suc k) h m =
    let e : i + suc k ≡ suc i + k = omega arith in
    rw e (store_in (set l i v) (suc i) vs k (omega arith) (rw length-set (omega arith)))

-- the same at an index that is written out
pub store_inside : (l : List ℕ) (i : ℕ) (vs : List ℕ) (j : ℕ) → i ≤ j → j < i + length vs → j < length l → get_or (store l i vs) j 0 ≡ get_or vs (j - i) 0
store_inside l i vs j a b m =
    let e : j ≡ i + (j - i) = omega arith in
    ap (λ (n : ℕ). get_or (store l i vs) n 0) e ∙ store_in l i vs (j - i) (omega arith) (omega arith)

-- words that stand there already
pub store_same : (l : List ℕ) (i : ℕ) (vs : List ℕ) → ((j : ℕ) → j < length vs → get_or l (i + j) 0 ≡ get_or vs j 0) → store l i vs ≡ l
unfolding store
store_same l i [] h = refl
store_same l i (v ∷ vs) h =
    let e : v ≡ get_or l i 0 = sym (h 0 (omega arith)) ∙ ap (λ (k : ℕ). get_or l k 0) (add-zero i) in
    let s : set l i v ≡ l = ap (set l i) e ∙ set-get_or l i 0 in
    ap (λ (m : List ℕ). sets m (suc i) vs) s ∙ store_same l (suc i) vs
    (λ j m. let g : suc i + j ≡ i + suc j = omega arith in ap (λ (k : ℕ). get_or l k 0) g ∙ h (suc j) (omega arith))

-- two stores, the second behind the first, in either order
set_store : (l : List ℕ) (i u j : ℕ) (vs : List ℕ) → i < j → store (set l i u) j vs ≡ set (store l j vs) i u
unfolding store
set_store l i u j [] h = refl
set_store l i u j (v ∷ vs) h = ap (λ (m : List ℕ). sets m (suc j) vs) (set_comm l i j u v (omega arith)) ∙ set_store (set l j v) i u (suc j) vs (omega arith)

pub store_store : (l : List ℕ) (i : ℕ) (us : List ℕ) (j : ℕ) (vs : List ℕ) → i + length us ≤ j → store (store l i us) j vs ≡ store (store l j vs) i us
unfolding store
store_store l i [] j vs h = refl
store_store l i (u ∷ us) j vs h = store_store (set l i u) (suc i) us j vs (omega arith) ∙ ap (λ (m : List ℕ). sets m (suc i) us) (set_store l i u j vs (omega arith))

-- words that fill the start of a list
pub store_front : (l vs : List ℕ) → length vs ≤ length l → store l 0 vs ≡ vs ++ drop (length vs) l
unfolding store
store_front l vs h = let e : 0 + length vs ≡ length vs = omega arith in sets-eq vs l 0 (omega arith) ∙ ap (λ (n : ℕ). vs ++ drop n l) e

pub words_store : (l : List ℕ) (i : ℕ) (vs : List ℕ) → Words l → Words vs → Words (store l i vs)
unfolding store
words_store l i [] w x = w
words_store l i (v ∷ vs) w x = words_store (set l i v) (suc i) vs (words-set l i v (words_head v vs x) w) (words_tail v vs x)

-- ---- zero words

pub length-zero_words : (n : ℕ) → length (zero_words n) ≡ n
unfolding zero_words
length-zero_words n = length-replicate n 0

pub get_d_zero_words : (n i : ℕ) → get_or (zero_words n) i 0 ≡ 0
unfolding zero_words
get_d_zero_words zero i = refl
get_d_zero_words (suc n) zero = refl
get_d_zero_words (suc n) (suc i) = get_d_zero_words n i

pub words-zero_words : (n : ℕ) → Words (zero_words n)
unfolding zero_words
words-zero_words n = words_replicate n 0 (omega arith)

-- ---- parts of a list

pub length_part : (l : List ℕ) (i j : ℕ) → i + j ≤ length l → length (take j (drop i l)) ≡ j
length_part l i j h = length-take-le j (drop i l) (rw length-drop (omega arith))

-- ---- the words of a sector

-- past the image's end
pub word_past : (image : List ℕ) (q b : ℕ) → length image ≤ q * 256 + b → word image q b ≡ 0
word_past image q b h = get_or-eq_default image 0 h

pub length-sector_words : (image : List ℕ) (q : ℕ) → q * 256 + 256 ≤ length image → length (sector_words image q) ≡ 256
unfolding sector_words
length-sector_words image q h = length_part image (q * 256) 256 h

pub get_d_sector_words : (image : List ℕ) (q b : ℕ) → b < 256 → get_or (sector_words image q) b 0 ≡ word image q b
unfolding sector_words
get_d_sector_words image q b h = get_or-take 256 (drop (q * 256) image) b 0 h ∙ get_or-drop (q * 256) image b 0

-- a sector's words at the start of the lent ones
pub sector_words_front : (image : List ℕ) (q : ℕ) (lent filled : List ℕ) → q * 256 + 256 ≤ length image → 256 ≤ length lent
    → filled ≡ store lent 0 (take 256 (drop (q * 256) image)) → filled ≡ sector_words image q ++ drop 256 lent
unfolding sector_words
sector_words_front image q lent filled inside room e =
    let part = take 256 (drop (q * 256) image) in
    let n : length part ≡ 256 = length_part image (q * 256) 256 inside in
    e ∙ store_front lent part (omega arith) ∙ ap (λ (k : ℕ). part ++ drop k lent) n

pub words-sector_words : (image : List ℕ) (q : ℕ) → Words image → Words (sector_words image q)
unfolding sector_words
words-sector_words image q w = words_take 256 (drop (q * 256) image) (words-drop (q * 256) image w)

-- ---- words stored inside sector q

module _ (image : List ℕ) (q a : ℕ) (vs : List ℕ) where
  -- the other sectors keep theirs
  pub word_store_other : a + length vs ≤ 256 → (r b : ℕ) → r ≢ q → b < 256 → word (store image (q * 256 + a) vs) r b ≡ word image r b
  word_store_other fits r b d h =
      below_or r q
      (λ (l : r < q). store_below image (q * 256 + a) vs (r * 256 + b) (omega arith))
      (λ (l : q ≤ r). store_above image (q * 256 + a) vs (r * 256 + b) (omega arith))

  -- the stored words
  pub word_store_in : q * 256 + a + length vs ≤ length image → (b : ℕ) → b < length vs → word (store image (q * 256 + a) vs) q (a + b) ≡ get_or vs b 0
  word_store_in inside b h =
      let e : q * 256 + (a + b) ≡ q * 256 + a + b = omega arith in
      ap (λ (n : ℕ). get_or (store image (q * 256 + a) vs) n 0) e ∙ store_in image (q * 256 + a) vs b h (omega arith)

  -- the words beside them
  pub word_store_beside : (b : ℕ) → (b < a) ⊎ (a + length vs ≤ b) → word (store image (q * 256 + a) vs) q b ≡ word image q b
  word_store_beside b h =
      ⊎_elim
      (λ (l : b < a). store_below image (q * 256 + a) vs (q * 256 + b) (omega arith))
      (λ (l : a + length vs ≤ b). store_above image (q * 256 + a) vs (q * 256 + b) (omega arith)) h

-- ---- words stored from the start of sector q

module _ (image : List ℕ) (q : ℕ) (vs : List ℕ) where
  pub store_start : store image (q * 256 + 0) vs ≡ store image (q * 256) vs
  store_start = rw add-zero

  pub word_sector_other : length vs ≤ 256 → (r b : ℕ) → r ≢ q → b < 256 → word (store image (q * 256) vs) r b ≡ word image r b
  word_sector_other fits r b d h = ap (λ (l : List ℕ). word l r b) (sym store_start) ∙ word_store_other image q 0 vs (omega arith) r b d h

  pub word_sector_in : q * 256 + length vs ≤ length image → (b : ℕ) → b < length vs → word (store image (q * 256) vs) q b ≡ get_or vs b 0
  word_sector_in inside b h = store_in image (q * 256) vs b h (omega arith)

-- ---- what a sector holds

-- two images with the same words in a sector
pub holds_same : {image changed : List ℕ} {q : ℕ} {v : List ℕ} → ((b : ℕ) → b < 256 → word changed q b ≡ word image q b) → Holds image q v → Holds changed q v
holds_same e k = record { at = λ b h l. e b l ∙ k.at b h l }

-- the words stored from a sector's start
pub holds_store : (image : List ℕ) (q : ℕ) (vs : List ℕ) → q * 256 + length vs ≤ length image → Holds (store image (q * 256) vs) q vs
holds_store image q vs inside = record { at = λ b h l. word_sector_in image q vs inside b h }

pub holds-sector_words : (image : List ℕ) (q : ℕ) → Holds image q (sector_words image q)
holds-sector_words image q = record { at = λ b h l. sym (get_d_sector_words image q b l) }

-- a sector that holds 256 words holds those
pub sector_words_holds : (image : List ℕ) (q : ℕ) (v : List ℕ) → q * 256 + 256 ≤ length image → length v ≡ 256 → Holds image q v → sector_words image q ≡ v
sector_words_holds image q v inside e k =
    let n : length (sector_words image q) ≡ 256 = length-sector_words image q inside in
    ext_get_or 0 (sector_words image q) v (n ∙ sym e)
    (λ b h. get_d_sector_words image q b (omega arith) ∙ k.at b (omega arith) (omega arith))

-- one more word of a part
pub part_snoc : (l : List ℕ) (i j : ℕ) → i + j < length l → take j (drop i l) ++ (get_or l (i + j) 0 ∷ []) ≡ take (j + 1) (drop i l)
part_snoc l i j h =
    let n : j < length (drop i l) = rw length-drop (omega arith) in
    rw (add-one, take-suc (drop i l) j 0 n, get_or-drop)
