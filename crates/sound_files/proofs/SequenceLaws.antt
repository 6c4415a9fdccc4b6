-- Laws of a sequence that is judged and marked in order: its lists joined, some of it passed, and its end.
use mathlib.Core.Path.{◌≡◌, refl, sym, ap, ap₂, ◌∙◌, subst}
use mathlib.Core.Bool.{Bool, true, false}
use mathlib.Core.List.{List, ◌++◌, append_assoc, append-nil}
use Prim.Native.Nat.{ℕ, zero, suc, ◌+◌, ◌-◌, ◌≤◌, ◌<◌}
use native.Mathlib.Nat.{add-zero}
use native.Mathlib.Omega.{arith}
use Rattle.disc.specs.Slices.{occurrences, InRangeOnce}
use Rattle.disc.proofs.Compare.{below_or}
use Rattle.disc.proofs.SliceLaws.{occurrences_append}
use Rattle.sound.specs.Parts.{MarksOf, Marking}
use Rattle.marks.specs.Marked.{Marked, SomeMarked}
use Rattle.marks.proofs.MarkLaws.{marks, refuses}
use Rattle.sound_files.specs.Walk.{joined}

pub marking-map : {r : Bool} {Q R : Type 0} {m : ℕ} {after held new other : List ℕ} → (Q → R) → (R → Q) → new ≡ other → Marking r Q m after held new → Marking r R m after held other
marking-map {m = m} {after} {held} to fro e k =
    record {
      yes = λ t. let y = k.yes t in (to y.0, subst (λ (l : List ℕ). InRangeOnce m (held ++ l)) e y.1, subst (λ (l : List ℕ). MarksOf after (held ++ l)) e y.2);
      not = λ t q once. k.not t (fro q) (subst (λ (l : List ℕ). InRangeOnce m (held ++ l)) (sym e) once);
    }

-- ---- lists joined

pub joined_same : (f h : ℕ → List ℕ) (n : ℕ) → ((i : ℕ) → i < n → f i ≡ h i) → joined f n ≡ joined h n
unfolding joined
joined_same f h zero e = refl
joined_same f h (suc n) e = ap₂ (λ (a b : List ℕ). a ++ b) (joined_same f h n (λ i l. e i (omega arith))) (e n (omega arith))

pub joined_join : (f : ℕ → List ℕ) (b n : ℕ) → joined f (b + n) ≡ joined f b ++ joined (λ i. f (b + i)) n
unfolding joined
joined_join f b zero = ap (joined f) (add-zero b) ∙ sym (append-nil (joined f b))
joined_join f b (suc n) =
    let e : b + suc n ≡ suc (b + n) = omega arith in
    ap (joined f) e ∙ ap (λ (l : List ℕ). l ++ f (b + n)) (joined_join f b n) ∙ append_assoc (joined f b) (joined (λ i. f (b + i)) n) (f (b + n))

joined_le : (f : ℕ → List ℕ) (k a b : ℕ) → a ≤ b → occurrences k (joined f a) ≤ occurrences k (joined f b)
joined_le f k a b h =
    let e : a + (b - a) ≡ b = omega arith in
    let j : occurrences k (joined f b) ≡ occurrences k (joined f a) + occurrences k (joined (λ i. f (a + i)) (b - a)) =
    ap (λ (n : ℕ). occurrences k (joined f n)) (sym e) ∙ ap (occurrences k) (joined_join f a (b - a)) ∙ occurrences_append k (joined f a) (joined (λ i. f (a + i)) (b - a)) in
    omega arith

-- ---- some of it passed

module _ (m : ℕ) (R : ℕ → Type 0) (f : ℕ → List ℕ) where
  -- the first n are legal, and their slices marked
  pub record Passed (before marks : List ℕ) (n : ℕ) : Type 0 where
    pub each : (t : ℕ) → t < n → R t
    pub marked : (held : List ℕ) → Marked m before held → Marked m marks (held ++ joined f n)

  pub passed_none : (before : List ℕ) → Passed before before 0
  unfolding joined
  passed_none before = record { each = λ t h. absurd (omega arith); marked = λ held k. rw append-nil k }

  module _ {before mid : List ℕ} {b : ℕ} (pass : Passed before mid b) where
    pub passed_some : SomeMarked m before → SomeMarked m mid
    passed_some s = record { slices = s.slices ++ joined f b; marked = pass.marked s.slices s.marked }

    -- n more are judged
    pub passed_more : {after : List ℕ} {r : Bool} (n : ℕ) → SomeMarked m before
        → ((held : List ℕ) → Marked m mid held → Marking r ((i : ℕ) → i < n → R (b + i)) m after held (joined (λ i. f (b + i)) n)) → r ≡ true
        → Passed before after (b + n)
    passed_more {after} n s step t-is = record {
      each = λ t h. below_or t b (λ l. pass.each t l) (λ l.
          let e : b + (t - b) ≡ t = omega arith in
          subst R e (((step (s.slices ++ joined f b) (pass.marked s.slices s.marked)).yes t-is).0 (t - b) (omega arith)));
      marked = λ held k.
          let y = (step (held ++ joined f b) (pass.marked held k)).yes t-is in
          let both : Marked m after ((held ++ joined f b) ++ joined (λ i. f (b + i)) n) = record { is = y.2; once = y.1 } in
          rw (joined_join f b n, ← append_assoc) both;
    }

    pub passed_stop : {after : List ℕ} {r : Bool} (n count : ℕ) → b + n ≤ count
        → ((held : List ℕ) → Marked m mid held → Marking r ((i : ℕ) → i < n → R (b + i)) m after held (joined (λ i. f (b + i)) n)) → r ≡ false
        → (held : List ℕ) → Marked m before held → Marking false ((t : ℕ) → t < count → R t) m after held (joined f count)
    passed_stop n count fits step no_way held k = refuses (λ all once.
        (step (held ++ joined f b) (pass.marked held k)).not no_way (λ i h. all (b + i) (omega arith)) (λ x.
        omega (
          arith,
          once x,
          occurrences_append x held (joined f count),
          occurrences_append x (held ++ joined f b) (joined (λ i. f (b + i)) n),
          occurrences_append x held (joined f b),
          occurrences_append x (joined f b) (joined (λ i. f (b + i)) n),
          ap (occurrences x) (joined_join f b n),
          joined_le f x (b + n) count fits,
        )))

    -- all are
    pub passed_all : (count : ℕ) → b ≡ count → SomeMarked m before
        → (held : List ℕ) → Marked m before held → Marking true ((t : ℕ) → t < count → R t) m mid held (joined f count)
    passed_all count e s held k = marks (λ t h. pass.each t (omega arith)) (subst (λ (n : ℕ). Marked m mid (held ++ joined f n)) e (pass.marked held k))

  -- one place as a sequence
  pub one_more : {after held : List ℕ} {r : Bool} (b : ℕ) → Marking r (R b) m after held (f b) → Marking r ((i : ℕ) → i < 1 → R (b + i)) m after held (joined (λ i. f (b + i)) 1)
  unfolding joined
  one_more b k =
      let z : b + 0 ≡ b = add-zero b in
      marking-map
      (λ x i h. let e : b ≡ b + i = omega arith in subst R e x)
      (λ x. subst R z (x 0 (omega arith)))
      (ap f (sym z)) k
