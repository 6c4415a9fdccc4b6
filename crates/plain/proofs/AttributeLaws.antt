-- Laws of legal attributes, and of those that a message gives.
use mathlib.Core.Path.{◌≡◌}
use mathlib.Core.Bool.{Bool, true, false, not, ◌&&◌, cond}
use Prim.Native.Nat.{ℕ, ◌≤◌, ◌<◌}
use native.Mathlib.Omega.{arith}
use lib.Dec.{T, T_not, eqb, ltb, eqb→eq}
use borrow.Author.Tests.{lt-leb}
use Rattle.disc.specs.Numbers.{bit, bit_word, negative}
use Rattle.disc.specs.Attributes.{word_if, entry_only, extendable, legal_attributes, legal_with, gives_entry_only}
use Rattle.plain.specs.Catalog.{kept_or}
use Rattle.plain.specs.Transput.{one_if}
use Rattle.plain.proofs.QuestionLaws.{and_left, and_not}

word_most : (b : Bool) (w : ℕ) → word_if b w ≤ w
word_most true w = omega arith
word_most false w = omega arith

-- bit 0 is none of the five
pub not_negative : (a : ℕ) → T (legal_attributes a) → a < 0x8000
not_negative a t =
    omega (
      arith,
      eqb→eq a _ (and_left (eqb a _) (not (entry_only a && extendable a)) t),
      word_most (bit 1 a) (bit_word 1),
      word_most (bit 11 a) (bit_word 11),
      word_most (bit 12 a) (bit_word 12),
      word_most (bit 13 a) (bit_word 13),
      word_most (bit 15 a) (bit_word 15),
    )

-- legal attributes that a message may give are none of an entry-only file
pub given_ordinary : (a : ℕ) → T (legal_attributes a) → T (not (gives_entry_only a)) → T (not (entry_only a))
given_ordinary a t u = and_not (not (negative a)) (entry_only a) u (rw (lt-leb 0x8000 a (not_negative a t)) tt)

-- they stand beside any number of slices
pub given_legal : (a slices : ℕ) → T (legal_attributes a) → T (not (gives_entry_only a)) → T (legal_with a slices)
given_legal a slices t u = go (entry_only a) (given_ordinary a t u)
  where
    go : (b : Bool) → T (not b) → T (not (b && ltb 0 slices))
    go true v = elim v [ ]
    go false v = tt

-- they are not those of an entry-only file, a
pub ordinary_most : (w n : ℕ) → T (not (entry_only w)) → (a : ℕ) → T (entry_only a) → one_if (eqb w a) ≤ n
ordinary_most w n u a t = go (eqb w a) (eqb→eq w a)
  where
    go : (b : Bool) → (T b → w ≡ a) → one_if b ≤ n
    go true e = absurd (T_not (entry_only w) u (rw (e tt) t))
    go false e = omega arith

-- a changed file has the attributes a where it had them and they are kept
pub kept_most : (w old : ℕ) → T (not (gives_entry_only w)) → (a : ℕ) → T (entry_only a) → one_if (eqb (kept_or w old) a) ≤ one_if (eqb old a)
kept_most w old u a t = go (negative w) u
  where
    go : (b : Bool) → T (not (not b && entry_only w)) → one_if (eqb (cond b old w) a) ≤ one_if (eqb old a)
    go true v = omega arith
    go false v = ordinary_most w _ v a t
