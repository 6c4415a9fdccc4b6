-- Taking slices: which one is next, what one step takes, and that the rest of the taking goes on as it would have.
use mathlib.Core.Path.{◌≡◌, refl, sym, ap, ◌∙◌}
use mathlib.Core.Bool.{Bool, true, false, cond}
use Rattle.std.specs.Prelude.{Result, Ok, Err, is_ok, Option, Some, None}
use Rattle.std.specs.Result.{IsErr}
use mathlib.Core.List.{List, [], ◌∷◌, ◌++◌, append_assoc, append-nil}
use Prim.Native.Nat.{ℕ, suc, ◌+◌, ◌≤◌, ◌<◌}
use native.Mathlib.Omega.{arith}
use native.Mathlib.Nat.{mul-le-mul_left}
use lib.Dec.{leb, leb→le}
use lib.ListN.{length, length-append}
use lib.Seq.{take-append_seam}
use borrow.Author.Tests.{le-leb, lt-leb}
use Rattle.types.specs.declared.Slice.{Slice}
use Rattle.disc.specs.Slices.{occurrences, InRangeOnce, free_count, choose, taken, last_of}
use Rattle.disc.specs.Stretches.{stretch_count}
use Rattle.disc.specs.OneStretch.{taken_for_file}
use Rattle.disc.specs.Map.{map_bit}
use Rattle.disc.proofs.Compare.{same_or}
use Rattle.disc.proofs.DecideLaws.{true≢false, holds, fails}
use Rattle.disc.proofs.SliceLaws.{choose_law, in_unit_out, occurrences_self, occurrences_append, sum_law, taken_law, length_taken, last_snoc}
use Rattle.disc.proofs.OneStretchLaws.{for_file_law, length_for_file, for_file_one}
use Rattle.disc.proofs.CutLaws.{count-take}
use Rattle.map.specs.Marks.{all_marked, all_used, marked_used}
use Rattle.map.specs.Choice.{chosen, choice_of}
use Rattle.map.proofs.MarkLaws.{all_marked_one, map_taken, length_all_marked}
use Rattle.map.proofs.ChoiceLaws.{chosen_choose, choice_full, choice_free, choice_none}
use Rattle.index.specs.Block.{whole_index, last_slice, stretches_with, appended, Appendable}
use Rattle.index.proofs.ChangeLaws.{append_whole, append_ready}
use Rattle.plain.specs.Unit.{Plain, M, held, free_slices}
use Rattle.refine.specs.OnDisc.{OnDisc}
use Rattle.slices.specs.declared.Lack.{Lack}
use Rattle.slices.specs.declared.Lack.TheVariants.{NoneFree, Crowded}
use Rattle.slices.specs.FileBlock.{SliceBlock, FileBlock}
use Rattle.slices.specs.Take.{CanTakeFrom, CanTake, next_of, next_word, next_asked, ChosenFrom, TakenFrom, Taken}
use Rattle.slices.proofs.BlockLaws.{slice_in, start_small, block_last, block_with}

-- a longer list has no fewer stretches
count_prefix : (l m : List ℕ) → stretch_count l ≤ stretch_count (l ++ m)
count_prefix l m = rw (take-append_seam l m) at (count-take (length l) (l ++ m))

-- n slices that are not held, none of them twice
pub record Fresh (m n : ℕ) (held more : List ℕ) : Type 0 where
  pub once : InRangeOnce m (more ++ held)
  pub count : length more ≡ n

-- those of 01's choice, and those that a file takes
pub fresh_taken : (m : ℕ) (held : List ℕ) (last n : ℕ) → InRangeOnce m held → n ≤ free_count m held → Fresh m n held (taken m held last n)
fresh_taken m held last n once enough = record { once = taken_law m held last n once enough; count = length_taken m held last n }

pub fresh_by : (m : ℕ) (held slices : List ℕ) (n : ℕ) → InRangeOnce m held → n ≤ free_count m held → Fresh m n held (taken_for_file m held slices n)
fresh_by m held slices n once enough = record { once = for_file_law m held slices n once enough; count = length_for_file m held slices n }

module _ {image block : List ℕ} {F s m n : ℕ} {held slices : List ℕ} (can : CanTakeFrom image block F s m n held slices) where
  -- fewer can be taken too
  pub can_fewer : {k : ℕ} → k ≤ n → CanTakeFrom image block F s m k held slices
  can_fewer x = record {
    own = can.own;
    long = can.long;
    map = can.map;
    once = can.once;
    enough = omega (arith, can.enough);
    part = can.part;
  }

  pub can_fresh : Fresh m n held (taken m held (last_of slices) n)
  can_fresh = fresh_taken m held (last_of slices) n can.once can.enough

  module _ {more : List ℕ} (fresh : Fresh m n held more) where
    -- all slices of the longer file are the unit's, and none stands in it twice
    pub longer_once : InRangeOnce m (slices ++ more)
    longer_once k = omega (arith, occurrences_append k slices more, occurrences_append k more held, fresh.once k, can.part k)

    -- the block of the longer file
    pub longer_own : {longer : List ℕ} → stretch_count (slices ++ more) ≤ 127 → longer ≡ whole_index F s (slices ++ more) → SliceBlock longer F s m (slices ++ more)
    longer_own few words = record {
      size = can.own.size;
      most = can.own.most;
      top = can.own.top;
      words = words;
      few = few;
      once = longer_once;
    }

-- once n of n + r slices are taken, the map is that of a file whose slices are among those held then
pub can_after : {image block : List ℕ} {F s m : ℕ} (n r : ℕ) {held slices more : List ℕ} → CanTakeFrom image block F s m (n + r) held slices → Fresh m n held more
    → {other l : List ℕ} → SliceBlock other F s m l → ((k : ℕ) → occurrences k l ≤ occurrences k (more ++ held)) → CanTakeFrom (all_used image more) other F s m r (more ++ held) l
can_after {image} {m = m} n r {held} {more = more} can fresh own part = record {
  own = own;
  long = omega (arith, can.long, length_all_marked 0 more image);
  map = map_taken m more held image own.most can.long can.map fresh.once;
  once = fresh.once;
  enough = omega (arith, can.enough, sum_law m held can.once, sum_law m (more ++ held) fresh.once, length-append more held, fresh.count);
  part = part;
}

-- slices of a file of a unit on the image
pub unit-take : {image block : List ℕ} {p : Plain} {n : ℕ} {slices : List ℕ} → OnDisc image p → FileBlock image block p.F p.s (M p) slices → n ≤ free_slices p
    → ((k : ℕ) → occurrences k slices ≤ occurrences k (held p)) → CanTakeFrom image block p.F p.s (M p) n (held p) slices
unit-take on file enough part =
    record { own = file.own; long = file.long; map = on.layout.map; once = on.good.once; enough = enough; part = part }

-- ---- the next slice

-- its word
answered : {m : ℕ} {held slices : List ℕ} {r : Result Slice Lack} → r ≡ next_of m held slices → ChosenFrom m held slices r
unfolding next_of next_asked
answered {m} {held} {slices} e =
    let k : ℕ = choose m held (last_of slices) in
    record {
      next = e;
      word = ap next_word e ∙ go (leb 1 (free_count m held)) (leb (stretch_count (slices ++ (k ∷ []))) 127) k
          ∙ ap (λ (l : List ℕ). cond (leb 1 (free_count m held)) (cond (leb (stretch_count (slices ++ l)) 127) 0 0x0808) 0x0900) (sym (for_file_one m held slices));
    }
  where
    go : (a b : Bool) (k : ℕ) → next_word (cond a (cond b (Ok (record { 0 = k })) (Err Crowded)) (Err NoneFree)) ≡ cond a (cond b 0 0x0808) 0x0900
    go true true k = refl
    go true false k = refl
    go false b k = refl

module _ {image block : List ℕ} {F s m : ℕ} {held slices : List ℕ} (can : CanTakeFrom image block F s m 0 held slices) where
  module _ {last : ℕ} {r : Option Slice} (l : last ≡ last_slice F s block 0) (q : r ≡ choice_of (chosen (map_bit image) m last)) where
    choice : choice_of (chosen (map_bit image) m (last_of slices)) ≡ r
    choice = ap (λ (x : ℕ). choice_of (chosen (map_bit image) m x)) (sym (l ∙ block_last can.own)) ∙ sym q

    picked : chosen (map_bit image) m (last_of slices) ≡ choose m held (last_of slices)
    picked = chosen_choose m held image can.own.most can.map (last_of slices)

    pub next_none : r ≡ None → ChosenFrom m held slices (Err NoneFree)
    unfolding next_of
    next_none z = same_or (free_count m held) 0
        (λ full. answered (rw (lt-leb 1 (free_count m held) (omega arith)) refl))
        (λ d.
        let inside = (in_unit_out m (choose m held (last_of slices)) (omega (arith, (choose_law m (last_of slices) held (omega arith)).1))).0 in
        absurd (omega (arith, choice_none (chosen (map_bit image) m (last_of slices)) (choice ∙ z), picked, inside)))

    module _ {k : Slice} (at : r ≡ Some k) where
      is : (chosen (map_bit image) m (last_of slices) ≡ k.0) × (1 ≤ k.0)
      is = choice_free (chosen (map_bit image) m (last_of slices)) k (choice ∙ at)

      some : 1 ≤ free_count m held
      some = same_or (free_count m held) 0
          (λ full.
          let none = choice_none (chosen (map_bit image) m (last_of slices)) (choice_full m held image can.own.most can.map (last_of slices) full) in
          absurd (omega (arith, none, is)))
          (λ d. omega arith)

      stretches_is : stretches_with F s k.0 block 0 ≡ stretch_count (slices ++ (choose m held (last_of slices) ∷ []))
      stretches_is = block_with can.own k.0 is.1 ∙ ap (λ (x : ℕ). stretch_count (slices ++ (x ∷ []))) (sym is.0 ∙ picked)

      pub next_crowded : 127 < stretches_with F s k.0 block 0 → ChosenFrom m held slices (Err Crowded)
      unfolding next_of
      next_crowded x =
          let many : 127 < stretch_count (slices ++ (choose m held (last_of slices) ∷ [])) = omega (arith, stretches_is) in
          answered (rw (le-leb 1 (free_count m held) some, lt-leb (stretch_count (slices ++ (choose m held (last_of slices) ∷ []))) 127 many) refl)

      pub next_at : stretches_with F s k.0 block 0 ≤ 127 → ChosenFrom m held slices (Ok k)
      unfolding next_of
      next_at x =
          let few : stretch_count (slices ++ (choose m held (last_of slices) ∷ [])) ≤ 127 = omega (arith, stretches_is) in
          let e : k.0 ≡ choose m held (last_of slices) = sym is.0 ∙ picked in
          answered (rw (le-leb 1 (free_count m held) some, le-leb (stretch_count (slices ++ (choose m held (last_of slices) ∷ []))) 127 few) (ap (λ (x : ℕ). Ok (record { 0 = x })) e))

-- ---- one slice

-- an error says that there is no room
pub refused : {T E : Type 0} {image : List ℕ} {F s : ℕ} {slices more after new : List ℕ} (r : Result T E) → IsErr r → (stretch_count (slices ++ more) ≤ 127 → ⊥)
    → TakenFrom image F s slices more after new (is_ok r)
refused (Ok _) e none = absurd (true≢false (sym e))
refused (Err _) e none = record { fits = fails none; marked = λ t. absurd (true≢false (sym t)); words = λ t. absurd (true≢false (sym t)) }

-- a slice that is not held, put at the end of the block
module _ {image block : List ℕ} {F s m : ℕ} {held slices : List ℕ} (can : CanTakeFrom image block F s m 1 held slices) {k : ℕ} (fresh : Fresh m 1 held (k ∷ [])) where
  pub inside : (1 ≤ k) × (k ≤ m)
  inside = in_unit_out m k (omega (arith, fresh.once k, occurrences_self k held))

  module _ (few : stretch_count (slices ++ (k ∷ [])) ≤ 127) where
    pub ready : Appendable F s k block
    ready =
        let own = can.own in
        let all : suc (length slices) ≤ m = omega (arith, sum_law m (slices ++ (k ∷ [])) (longer_once can fresh), length-append slices (k ∷ [])) in
        rw own.words
        (append_ready F s slices k (omega (arith, own.size)) (λ j x. (slice_in own j x).0) inside.0 few (start_small own k inside.1)
        (omega (arith, mul-le-mul_left s all, own.top)))

    pub appended_is : appended F s k block ≡ whole_index F s (slices ++ (k ∷ []))
    appended_is =
        ap (appended F s k) can.own.words
        ∙ append_whole F s slices k (omega (arith, can.own.size)) (λ j x. (slice_in can.own j x).0) inside.0 few

module _ {image block : List ℕ} {F s m : ℕ} {held slices : List ℕ} (can : CanTakeFrom image block F s m 1 held slices) where
  -- the slice that is taken
  abbrev pub next : ℕ
  next = choose m held (last_of slices)

  -- the answer, as one is free
  answer : next_of m held slices ≡ cond (leb (stretch_count (slices ++ (next ∷ []))) 127) (Ok (record { 0 = next })) (Err Crowded)
  unfolding next_of
  answer = rw (le-leb 1 (free_count m held) (omega (arith, can.enough))) refl

  pub one_at : {k : Slice} → Ok k ≡ next_of m held slices → (k.0 ≡ next) × (stretch_count (slices ++ (next ∷ [])) ≤ 127)
  one_at {k} e = go (leb (stretch_count (slices ++ (next ∷ []))) 127) refl (e ∙ answer)
    where
      go : (b : Bool) → leb (stretch_count (slices ++ (next ∷ []))) 127 ≡ b → Ok k ≡ cond b (Ok (record { 0 = next })) (Err Crowded)
          → (k.0 ≡ next) × (stretch_count (slices ++ (next ∷ [])) ≤ 127)
      go true f g = (ap slice_of g, leb→le _ _ (rw f tt))
        where
          slice_of : Result Slice Lack → ℕ
          slice_of (Ok k) = k.0
          slice_of (Err _) = 0
      go false f g = let z : ◌≡◌ {A = ℕ} 0 1 = cc in absurd (omega arith)

  pub one_few : stretch_count (slices ++ (next ∷ [])) ≤ 127 → next_of m held slices ≡ Ok (record { 0 = next })
  one_few few = answer ∙ rw (le-leb (stretch_count (slices ++ (next ∷ []))) 127 few) refl

  pub took_one : {k : Slice} {after new : List ℕ} → Ok k ≡ next_of m held slices → after ≡ marked_used image k.0 → new ≡ appended F s k.0 block
      → TakenFrom image F s slices (taken m held (last_of slices) 1) after new true
  took_one {k} e a b =
      let is = one_at e in
      record {
        fits = holds is.1;
        marked = λ _. a ∙ ap (marked_used image) is.0 ∙ sym (all_marked_one 0 image next);
        words = λ _. b ∙ ap (λ (x : ℕ). appended F s x block) is.0 ∙ appended_is can (can_fresh can) is.1;
      }

-- ---- several slices: what is left to take gives what was to be taken

pub record Left (image₀ image block : List ℕ) (F s m n r : ℕ) (held slices : List ℕ) : Type 0 where
  pub now_held : List ℕ
  pub now_slices : List ℕ
  pub can : CanTakeFrom image block F s m r now_held now_slices
  pub same_image : all_used image (taken m now_held (last_of now_slices) r) ≡ all_used image₀ (taken m held (last_of slices) n)
  pub same_slices : now_slices ++ taken m now_held (last_of now_slices) r ≡ slices ++ taken m held (last_of slices) n

module _ {image₀ image block : List ℕ} {F s m n r : ℕ} {held slices : List ℕ} (left : Left image₀ image block F s m n (suc r) held slices) where
  abbrev k : ℕ
  k = choose m left.now_held (last_of left.now_slices)

  abbrev rest : List ℕ
  rest = taken m (k ∷ left.now_held) k r

  one : CanTakeFrom image block F s m 1 left.now_held left.now_slices
  one = can_fewer left.can (omega arith)

  pub left_one : CanTake image block F s m 1
  left_one = record { held = left.now_held; slices = left.now_slices; can = one }

  module _ {after new : List ℕ} {b : Bool} (took : Taken image block F s m 1 after new b) where
    pub left_next : b ≡ true → Left image₀ after new F s m n r held slices
    unfolding all_marked
    left_next e =
        let t = took.all left.now_held left.now_slices one in
        let own = longer_own one (can_fresh one) (t.fits.yes e) refl in
        rw (t.marked e, t.words e) (record {
          now_held = k ∷ left.now_held;
          now_slices = left.now_slices ++ (k ∷ []);
          can = can_after 1 r (can_fewer left.can (omega arith)) (can_fresh one) own (λ j. omega (arith, occurrences_append j left.now_slices (k ∷ []), left.can.part j));
          same_image = rw (last_snoc left.now_slices k) left.same_image;
          same_slices = rw (last_snoc left.now_slices k, append_assoc left.now_slices (k ∷ []) rest) left.same_slices;
        })

    -- one slice has no room: then all have none
    pub left_full : b ≡ false → stretch_count (slices ++ taken m held (last_of slices) n) ≤ 127 → ⊥
    left_full e few =
        let t = took.all left.now_held left.now_slices one in
        let longer : List ℕ = left.now_slices ++ (k ∷ []) in
        t.fits.not e (omega (arith, count_prefix longer rest, ap stretch_count (append_assoc left.now_slices (k ∷ []) rest ∙ left.same_slices)))

pub left_done : {image₀ image block : List ℕ} {F s m n : ℕ} {held slices : List ℕ} → Left image₀ image block F s m n 0 held slices
    → TakenFrom image₀ F s slices (taken m held (last_of slices) n) image block true
unfolding all_marked
left_done {F = F} {s = s} left =
    let e = sym (append-nil left.now_slices) ∙ left.same_slices in
    record {
      fits = holds (rw e at left.can.own.few);
      marked = λ _. left.same_image;
      words = λ _. left.can.own.words ∙ ap (whole_index F s) e;
    }
