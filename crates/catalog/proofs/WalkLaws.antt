-- The walks along the words of a slot, the slots of a sector and the layers of a key: one step of each, and its end. Then the
-- words of a place.
use Rattle.std.specs.Prelude.{Option, Some, None}
use mathlib.Core.Path.{◌≡◌, refl, sym, ap, ◌∙◌}
use mathlib.Core.Bool.{Bool, true, false, cond}
use lib.Dec.{ltb}
use mathlib.Core.List.{List, ◌++◌}
use mathlib.Core.Logic.{◌≢◌}
use Prim.Native.Nat.{ℕ, suc, ◌+◌, ◌-◌, ◌*◌, ◌≤◌, ◌<◌}
use native.Mathlib.Nat.{add-zero}
use native.Mathlib.Numerals.{add-one}
use native.Mathlib.Omega.{arith}
use lib.ListN.{length, get_or, take, drop}
use lib.Seq.{get_or-take, get_or-drop}
use borrow.Author.Tests.{eq-eqb, ne_eqb, lt-ltb, le-ltb, ltb-true, ltb-false}
use Rattle.disc.specs.Words.{word}
use Rattle.words.specs.Store.{store}
use Rattle.words.proofs.StoreLaws.{store_front, length_part}
use Rattle.catalog.specs.declared.Place.{Place}
use Rattle.catalog.specs.Catalog.{place_at, place_start, entry_word, entry_at, zero_run, slot_unused, slot_from, first_slot, slot_answer, place_from}

step : {j n : ℕ} → j < n → n - j ≡ suc (n - (j + 1))
step h = omega arith

-- ---- the words of a slot

module _ (image : List ℕ) (q i w : ℕ) where
  -- what is asked is whether the words from w on are zero
  abbrev pub WordsLeft : Type 0
  WordsLeft = zero_run image q (16 - w) (i * 16 + w) ≡ slot_unused image q i

  pub run_stop : {v : ℕ} → WordsLeft → w < 16 → v ≡ word image q (i * 16 + w) → v ≢ 0 → false ≡ slot_unused image q i
  unfolding zero_run
  run_stop {v} inv h e d =
      let s : zero_run image q (16 - w) (i * 16 + w) ≡ false = rw (step h, ← e, ne_eqb v 0 d) in
      sym s ∙ inv

  pub run_next : {v : ℕ} → WordsLeft → w < 16 → v ≡ word image q (i * 16 + w) → v ≡ 0
      → zero_run image q (16 - (w + 1)) (i * 16 + (w + 1)) ≡ slot_unused image q i
  unfolding zero_run
  run_next {v} inv h e z =
      let k : suc (i * 16 + w) ≡ i * 16 + (w + 1) = omega arith in
      let s : zero_run image q (16 - w) (i * 16 + w) ≡ zero_run image q (16 - (w + 1)) (i * 16 + (w + 1)) = rw (step h, ← e, eq-eqb v 0 z, k) in
      sym s ∙ inv

  pub run_end : WordsLeft → 16 ≤ w → true ≡ slot_unused image q i
  unfolding zero_run
  run_end inv h =
      let z : 16 - w ≡ 0 = omega arith in
      let s : zero_run image q (16 - w) (i * 16 + w) ≡ true = rw z in
      sym s ∙ inv

pub run_start : (image : List ℕ) (q i : ℕ) → WordsLeft image q i 0
unfolding slot_unused
run_start image q i = rw add-zero refl

-- ---- the slots of a sector

module _ (test : ℕ → Bool) (i : ℕ) where
  -- what is sought is the first slot from i on
  abbrev pub SlotsLeft : Type 0
  SlotsLeft = slot_from test (16 - i) i ≡ first_slot test

  pub slot_here : {b : Bool} → SlotsLeft → i < 16 → b ≡ test i → b ≡ true → i ≡ first_slot test
  unfolding slot_from
  slot_here inv h e t = let s : slot_from test (16 - i) i ≡ i = rw (step h, ← e, t) in sym s ∙ inv

  pub slot_next : {b : Bool} → SlotsLeft → i < 16 → b ≡ test i → b ≡ false → slot_from test (16 - (i + 1)) (i + 1) ≡ first_slot test
  unfolding slot_from
  slot_next inv h e t =
      let s : slot_from test (16 - i) i ≡ slot_from test (16 - (i + 1)) (i + 1) = rw (step h, ← e, t, add-one i) in
      sym s ∙ inv

  pub slot_none : SlotsLeft → i ≤ 16 → 16 ≤ i → 16 ≡ first_slot test
  unfolding slot_from
  slot_none inv a b =
      let e : i ≡ 16 = omega arith in
      let z : 16 - i ≡ 0 = omega arith in
      let s : slot_from test (16 - i) i ≡ i = rw z in
      sym e ∙ sym s ∙ inv

-- what an answer says of the slot that was found
pub slot_told : (k i : ℕ) → slot_answer k ≡ Some i → (i ≡ k) × (i < 16)
slot_told k i e = go (ltb k 16) refl e
  where
    go : (b : Bool) → ltb k 16 ≡ b → cond b (Some k) None ≡ Some i → (i ≡ k) × (i < 16)
    go true t e = let same : i ≡ k = cc in (same, omega (arith, ltb-true k 16 t))
    go false t e = absurd (let z : ◌≡◌ {A = ℕ} 0 1 = cc in omega arith)

pub none_told : (k : ℕ) → slot_answer k ≡ None → 16 ≤ k
none_told k e = go (ltb k 16) refl e
  where
    go : (b : Bool) → ltb k 16 ≡ b → cond b (Some k) None ≡ None → 16 ≤ k
    go true t e = absurd (let z : ◌≡◌ {A = ℕ} 0 1 = cc in omega arith)
    go false t e = ltb-false k 16 t

-- ---- the layers of a key

module _ (test : ℕ → ℕ → Bool) (sectors : ℕ → ℕ) (n l : ℕ) where
  pub place_here : {f : Option Place} (q i : ℕ) → place_from test sectors (n - l) l ≡ f → l < n → q ≡ sectors l → i ≡ first_slot (test q) → i < 16 → Some (place_at q i) ≡ f
  unfolding place_from
  place_here q i inv h e f x =
      let s : place_from test sectors (n - l) l ≡ Some (place_at q i) = rw (step h, ← e, ← f, lt-ltb i 16 x) in
      sym s ∙ inv

  pub place_next : {f : Option Place} (q i : ℕ) → place_from test sectors (n - l) l ≡ f → l < n → q ≡ sectors l → i ≡ first_slot (test q) → 16 ≤ i
      → place_from test sectors (n - (l + 1)) (l + 1) ≡ f
  unfolding place_from
  place_next q i inv h e f x =
      let s : place_from test sectors (n - l) l ≡ place_from test sectors (n - (l + 1)) (l + 1) = rw (step h, ← e, ← f, le-ltb i 16 x, add-one l) in
      sym s ∙ inv

  pub place_none : {f : Option Place} → place_from test sectors (n - l) l ≡ f → n ≤ l → None ≡ f
  unfolding place_from
  place_none inv h =
      let z : n - l ≡ 0 = omega arith in
      let s : place_from test sectors (n - l) l ≡ None = rw z in
      sym s ∙ inv

-- ---- the words of a place

pub length-entry_at : (image : List ℕ) (p : Place) → place_start p + 16 ≤ length image → length (entry_at image p) ≡ 16
unfolding entry_at
length-entry_at image p inside = length_part image (place_start p) 16 inside

pub get_d_entry_at : (image : List ℕ) (p : Place) (w : ℕ) → w < 16 → get_or (entry_at image p) w 0 ≡ entry_word image p w
unfolding entry_at
get_d_entry_at image p w h =
    let e : place_start p + w ≡ p.sector.0 * 256 + (p.slot * 16 + w) = omega arith in
    get_or-take 16 (drop (place_start p) image) w 0 h ∙ get_or-drop (place_start p) image w 0 ∙ ap (λ (k : ℕ). get_or image k 0) e

-- handed out as the first of the lent words
pub entry_front : (image : List ℕ) (p : Place) (lent filled : List ℕ) → place_start p + 16 ≤ length image → 16 ≤ length lent
    → filled ≡ store lent 0 (take 16 (drop (place_start p) image)) → filled ≡ entry_at image p ++ drop 16 lent
unfolding entry_at
entry_front image p lent filled inside room e =
    let n = length-entry_at image p inside in
    e ∙ store_front lent (entry_at image p) (omega arith) ∙ ap (λ (k : ℕ). entry_at image p ++ drop k lent) n
