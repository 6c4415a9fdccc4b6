-- Laws of `Words`: a list is one of words where it is made of words.
use mathlib.Core.List.{List, [], ◌∷◌, ◌++◌}
use Prim.Native.Nat.{ℕ, zero, suc, ◌<◌}
use native.Mathlib.Omega.{arith}
use lib.ListN.{get_or, take, drop, set, replicate}
use Rattle.disc.specs.Words.{Words}

pub words_none : Words []
words_none = record { each = λ k. omega arith }

pub words_cons : (v : ℕ) (l : List ℕ) → v < 65536 → Words l → Words (v ∷ l)
words_cons v l h w = record { each = go }
  where
    go : (k : ℕ) → get_or (v ∷ l) k 0 < 65536
    go zero = h
    go (suc k) = w.each k

pub words_head : (v : ℕ) (l : List ℕ) → Words (v ∷ l) → v < 65536
words_head v l w = w.each 0

pub words_tail : (v : ℕ) (l : List ℕ) → Words (v ∷ l) → Words l
words_tail v l w = record { each = λ k. w.each (suc k) }

pub words_append : (l m : List ℕ) → Words l → Words m → Words (l ++ m)
words_append [] m w x = x
words_append (v ∷ l) m w x = words_cons v (l ++ m) (words_head v l w) (words_append l m (words_tail v l w) x)

pub words_take : (n : ℕ) (l : List ℕ) → Words l → Words (take n l)
words_take zero l w = words_none
words_take (suc n) [] w = words_none
words_take (suc n) (v ∷ l) w = words_cons v (take n l) (words_head v l w) (words_take n l (words_tail v l w))

pub words-drop : (n : ℕ) (l : List ℕ) → Words l → Words (drop n l)
words-drop zero l w = w
words-drop (suc n) [] w = words_none
words-drop (suc n) (v ∷ l) w = words-drop n l (words_tail v l w)

pub words-set : (l : List ℕ) (i v : ℕ) → v < 65536 → Words l → Words (set l i v)
words-set [] i v h w = words_none
words-set (x ∷ l) zero v h w = words_cons v l h (words_tail x l w)
words-set (x ∷ l) (suc i) v h w = words_cons x (set l i v) (words_head x l w) (words-set l i v h (words_tail x l w))

pub words_replicate : (n v : ℕ) → v < 65536 → Words (replicate n v)
words_replicate zero v h = words_none
words_replicate (suc n) v h = words_cons v (replicate n v) h (words_replicate n v h)
