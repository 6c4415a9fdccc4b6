-- Laws of lists whose every element has a property, and of sectors of 256 words.
use mathlib.Core.Path.{◌≡◌}
use mathlib.Core.List.{List, [], ◌∷◌, ◌++◌}
use Prim.Native.Nat.{ℕ, zero, suc, ◌+◌, ◌-◌, ◌≤◌, ◌<◌}
use native.Mathlib.Omega.{arith}
use lib.ListN.{length, get_or, take, drop, set, replicate, length-append, length-take, length-drop, length-set, length-replicate, get_or-replicate, get_or-append}
use lib.Seq.{get_or-take, get_or-append-add, get_or-set_same, get_or-set_other, length-take-le}
use Rattle.disc.specs.Words.{Words}
use Rattle.disc.proofs.WordLaws.{words_take, words-drop, words_replicate}
use Rattle.disc.proofs.Compare.{same_or, below_or}
use Rattle.plain.specs.Taking.{zero_sectors}
use Rattle.plain.specs.Catalog.{optional_in, tail_in, resized}
use Rattle.plain.specs.Good.{WordsOf}

-- What holds of every element of a list.
abbrev pub EachOf : {A : Type 0} → (A → Type 0) → A → List A → Type 0
EachOf P d l = (k : ℕ) → k < length l → P (get_or l k d)

module _ {A : Type 0} (P : A → Type 0) (d : A) where
  pub each_take : (n : ℕ) (l : List A) → EachOf P d l → EachOf P d (take n l)
  each_take n l ok k h = rw (get_or-take n l k d (omega (arith, length-take n l))) (ok k (omega (arith, length-take n l)))

  pub each_append : (l m : List A) → EachOf P d l → EachOf P d m → EachOf P d (l ++ m)
  each_append l m p q k h = below_or k (length l) first second
    where
      first : k < length l → P (get_or (l ++ m) k d)
      first lt = rw (get_or-append l m d k lt) (p k lt)

      second : length l ≤ k → P (get_or (l ++ m) k d)
      second le =
          let j : ℕ = k - length l in
          let e : k ≡ length l + j = omega arith in
          rw (e, get_or-append-add l m j d) (q j (omega (arith, length-append l m)))

  pub each_set : (l : List A) (i : ℕ) (a : A) → EachOf P d l → P a → EachOf P d (set l i a)
  each_set l i a ok pa k h =
      let lt : k < length l = omega (arith, length-set l i a) in
      same_or k i (λ e. let z : i < length l = omega arith in rw (e, get_or-set_same l i a d z) pa) (λ ne. rw (get_or-set_other l i k a d ne) (ok k lt))

  pub each_one : (a : A) → P a → EachOf P d (a ∷ [])
  each_one a pa zero h = pa
  each_one a pa (suc k) h = absurd (omega arith)

  pub each_replicate : (n : ℕ) (a : A) → P a → EachOf P d (replicate n a)
  each_replicate n a pa k h = rw (get_or-replicate n k a d (omega (arith, length-replicate n a))) pa

-- ---- a number of words

pub words_of_zeros : (n : ℕ) → WordsOf n (replicate n 0)
words_of_zeros n = record { count = length-replicate n 0; words = words_replicate n 0 (omega arith) }

pub words_of_take : (n : ℕ) (l : List ℕ) → n ≤ length l → Words l → WordsOf n (take n l)
words_of_take n l le w = record { count = length-take-le n l le; words = words_take n l w }

-- ---- sectors

pub length-zero_sectors : (n : ℕ) → length (zero_sectors n) ≡ n
length-zero_sectors n = length-replicate n (replicate 256 0)

pub zero_sectors_words : (n : ℕ) → EachOf (WordsOf 256) [] (zero_sectors n)
zero_sectors_words n = each_replicate (WordsOf 256) [] n (replicate 256 0) (words_of_zeros 256)

-- a resized file has sectors of the old or zero ones
pub length_resized : (n : ℕ) (l : List (List ℕ)) → length (resized n l) ≡ n
length_resized n l = omega (arith, length-append (take n l) (zero_sectors (n - length l)), length-take n l, length-zero_sectors (n - length l))

pub resized_words : (n : ℕ) (l : List (List ℕ)) → EachOf (WordsOf 256) [] l → EachOf (WordsOf 256) [] (resized n l)
resized_words n l ok =
    each_append (WordsOf 256) [] (take n l) (zero_sectors (n - length l)) (each_take (WordsOf 256) [] n l ok) (zero_sectors_words (n - length l))

-- ---- the words of a lent record

pub optional_words : (lent : List ℕ) → Words lent → 16 ≤ length lent → WordsOf 3 (optional_in lent)
optional_words lent w long = words_of_take 3 (drop 3 lent) (omega (arith, length-drop 3 lent)) (words-drop 3 lent w)

pub tail_words : (lent : List ℕ) → Words lent → 16 ≤ length lent → WordsOf 6 (tail_in lent)
tail_words lent w long = words_of_take 6 (drop 10 lent) (omega (arith, length-drop 10 lent)) (words-drop 10 lent w)
