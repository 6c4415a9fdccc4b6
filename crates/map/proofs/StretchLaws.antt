-- Laws of the search for a stretch of n free slices: what each kind of word does to `Passed`, and what the search answers.
use Rattle.std.specs.Prelude.{Some, None}
use mathlib.Core.Path.{◌≡◌, sym, ap, ◌∙◌}
use mathlib.Core.List.{List}
use mathlib.Core.Logic.{◌≢◌}
use Prim.Native.Nat.{ℕ, ◌+◌, ◌-◌, ◌*◌, ◌^◌, ◌≤◌, ◌<◌}
use native.Mathlib.Omega.{arith}
use lib.Count.{count_leading_zeros, count_trailing_zeros}
use Rattle.types.specs.declared.Slice.{Slice}
use Rattle.disc.specs.Words.{word}
use Rattle.disc.specs.Kit.{map_sector}
use Rattle.disc.specs.Map.{map_bit}
use Rattle.disc.proofs.Compare.{below_or}
use Rattle.map.specs.Stretch.{FreeFrom, FindsStretch, Passed, OnesFrom, Beginnings}
use Rattle.map.proofs.Digits.{digit, leading_digit}
use Rattle.map.proofs.DigitOps.{zero_digit, not_digit, leading_some, leading_one, trailing_digit, trailing_one}
use Rattle.map.proofs.CountLaws.{map_bit_at, map_bit_in}
use Rattle.map.proofs.ChoiceLaws.{choice_at, choice_free, choice_none}
use Rattle.map.proofs.BeginningLaws.{first_begins, none_begins}

-- the digits of a complement, turned back
not_zero : (x e : ℕ) → x < 2 ^ 16 → e < 16 → digit (65535 - x) e ≡ 0 → digit x e ≡ 1
not_zero x e h l z = omega (arith, not_digit 16 x e h l)

not_one : (x e : ℕ) → x < 2 ^ 16 → e < 16 → digit (65535 - x) e ≡ 1 → digit x e ≡ 0
not_one x e h l z = omega (arith, not_digit 16 x e h l)

-- ---- a search that passes a word

module _ (image : List ℕ) (n : ℕ) where
  pub passed_first : Passed image n 0 0
  passed_first = record { within = omega arith; free = λ j a b c. absurd (omega arith); none = λ j a f. absurd (omega (arith, f.low)) }

  -- no n free slices have a used one among them
  used_blocks : (z j : ℕ) → map_bit image z ≡ 0 → j ≤ z → z < j + n → FreeFrom image n j → ⊥
  used_blocks z j e a b f = omega (arith, f.free z a b)

  -- the free slices go on, as far as they are needed
  pub passed_on : (d e start : ℕ) → d ≤ e → Passed image n d start
      → ((j : ℕ) → d < j → j ≤ start + n → j ≤ e → map_bit image j ≡ 1) → Passed image n e start
  passed_on d e start l p more = record {
    within = omega (arith, p.within);
    free = λ j a b c. below_or d j (λ g. more j g b c) (λ g. p.free j a b g);
    none = p.none;
  }

  -- they begin anew after the slice r
  passed_anew : (d e start r : ℕ) → r ≤ e → Passed image n d start → ((j : ℕ) → start < j → j ≤ r → FreeFrom image n j → ⊥)
      → ((j : ℕ) → r < j → j ≤ r + n → j ≤ e → map_bit image j ≡ 1) → Passed image n e r
  passed_anew d e start r l p never more = record {
    within = l;
    free = more;
    none = λ j a f. below_or start j (λ g. never j g a f) (λ g. p.none j g f);
  }

module _ (image : List ℕ) (n w : ℕ) where
  abbrev x : ℕ
  x = word image map_sector w

  -- n free slices that begin and end in word w are n ones of it
  free_ones : (j : ℕ) → 16 * w < j → j + n ≤ 16 * w + 17 → FreeFrom image n j → OnesFrom x n (j - 1 - 16 * w)
  free_ones j a c f = record {
    high = omega arith;
    ones = λ i g h. sym (map_bit_at image w i (omega arith)) ∙ f.free (16 * w + i + 1) (omega arith) (omega arith);
  }

  abbrev first_zero : ℕ
  first_zero = count_leading_zeros 16 (65535 - x)

  abbrev last_zero : ℕ
  last_zero = count_trailing_zeros 16 (65535 - x)

  module _ (fits : x < 2 ^ 16) (start : ℕ) (short : 16 * w < start + n) (p : Passed image n (16 * w) start) where
    -- every slice of the word is free
    pub past_ones : x ≡ 65535 → Passed image n (16 * w + 16) start
    past_ones e = passed_on image n (16 * w) (16 * w + 16) start (omega arith) p
        (λ j a b c. map_bit_in image w j a c ∙ not_zero x _ fits (omega arith) (rw e (zero_digit (15 - (j - 1 - 16 * w)))))

    -- none is
    pub past_zeros : x ≡ 0 → Passed image n (16 * w + 16) (16 * w + 16)
    past_zeros e = passed_anew image n (16 * w) (16 * w + 16) start (16 * w + 16) (omega arith) p never (λ j a b c. absurd (omega arith))
      where
        used : (j : ℕ) → 16 * w < j → j ≤ 16 * w + 16 → map_bit image j ≡ 0
        used j a c = map_bit_in image w j a c ∙ rw e (zero_digit (15 - (j - 1 - 16 * w)))

        never : (j : ℕ) → start < j → j ≤ 16 * w + 16 → FreeFrom image n j → ⊥
        never j a b = below_or (16 * w) j
            (λ g. used_blocks image n j j (used j g b) (omega arith) (omega (arith, p.within)))
            (λ g. used_blocks image n (16 * w + 1) j (used (16 * w + 1) (omega arith) (omega arith)) (omega arith) (omega arith))

    -- the slices as far as the first used one of the word are enough
    pub past_enough : start + n ≤ 16 * w + first_zero → Passed image n (16 * w + 16) start
    past_enough l = passed_on image n (16 * w) (16 * w + 16) start (omega arith) p
        (λ j a b c. map_bit_in image w j a c
        ∙ not_zero x _ fits (omega arith) (leading_digit (65535 - x) (j - 1 - 16 * w) (omega arith) (omega arith)))

    -- they are too few
    module _ (some : x ≢ 65535) (few : 16 * w + first_zero < start + n) where
      first_in : first_zero < 16
      first_in = leading_some (65535 - x) (omega arith) (omega arith)

      first_one : digit (65535 - x) (15 - first_zero) ≡ 1
      first_one = leading_one (65535 - x) (omega arith) first_in

      too_short : (j : ℕ) → start < j → j ≤ 16 * w + first_zero + 1 → FreeFrom image n j → ⊥
      too_short j a b =
          let used = map_bit_at image w first_zero first_in ∙ not_one x (15 - first_zero) fits (omega arith) first_one in
          used_blocks image n (16 * w + first_zero + 1) j used b (omega arith)

      -- n free slices begin in the word
      pub past_begin : (r : ℕ) → r < 2 ^ 16 → Beginnings x n r → count_leading_zeros 16 r < 16
          → Passed image n (16 * w + 16) (16 * w + count_leading_zeros 16 r)
      past_begin r h is l =
          let o = first_begins x n r h is l in
          passed_anew image n (16 * w) (16 * w + 16) start (16 * w + count_leading_zeros 16 r) (omega arith) p
          (λ j a b f. below_or (16 * w) j
          (λ g. none_begins x n r (j - 1 - 16 * w) h (omega (arith, p.within)) is (omega arith) (free_ones j g (omega (arith, o.high)) f))
          (λ g. too_short j a (omega arith) f))
          (λ j a b c. map_bit_in image w j (omega arith) c ∙ o.ones (j - 1 - 16 * w) (omega arith) (omega arith))

      last_in : last_zero < 16
      last_in = below_or last_zero 16 (λ l. l)
          (λ g. absurd (omega (arith, first_one, trailing_digit 16 (65535 - x) (15 - first_zero) (omega arith))))

      -- none do: a stretch between two used slices of the word has at most 14
      pub past_last : (n < 15 → (b : ℕ) → OnesFrom x n b → ⊥) → Passed image n (16 * w + 16) (16 * w + 16 - last_zero)
      past_last none = passed_anew image n (16 * w) (16 * w + 16) start z (omega arith) p never
          (λ j a b c. map_bit_in image w j (omega (arith, last_in)) c
          ∙ not_zero x _ fits (omega arith) (trailing_digit 16 (65535 - x) _ (omega arith)))
        where
          z : ℕ
          z = 16 * w + 16 - last_zero

          used : map_bit image z ≡ 0
          used =
              map_bit_in image w z (omega (arith, last_in)) (omega arith)
              ∙ not_one x _ fits (omega arith) (ap (digit (65535 - x)) (omega (arith, last_in)) ∙ trailing_one 16 (65535 - x) last_in)

          never : (j : ℕ) → start < j → j ≤ z → FreeFrom image n j → ⊥
          never j a b f = below_or z (j + n)
              (λ g. used_blocks image n z j used b g f)
              (λ g. below_or (16 * w + first_zero + 1) j
              (λ k. none (omega arith) (j - 1 - 16 * w) (free_ones j (omega arith) (omega arith) f))
              (λ k. too_short j a k f))

-- ---- what the search answers

pub stretch_found : (image : List ℕ) (n e start : ℕ) → e ≤ 4096 → start + n ≤ e → Passed image n e start
    → FindsStretch image n (Some (record { 0 = start + 1 }))
stretch_found image n e start h l p = record {
  found = λ k q. let same = number k q in record {
    low = omega arith;
    high = omega arith;
    free = λ j a b. p.free j (omega arith) (omega arith) (omega arith);
  };
  lowest = λ k q j f. let same = number k q in below_or start j (λ g. omega arith) (λ g. absurd (p.none j g f));
  none = λ q j f. absurd (omega (arith, choice_none (start + 1) (sym (choice_at (start + 1) (omega arith)) ∙ q)));
}
  where
    number : (k : Slice) → Some (record { 0 = start + 1 }) ≡ Some k → start + 1 ≡ k.0
    number k q = (choice_free (start + 1) k (sym (choice_at (start + 1) (omega arith)) ∙ q)).0

pub stretch_none : (image : List ℕ) (n e start : ℕ) → e ≡ 4096 → e < start + n → Passed image n e start → FindsStretch image n None
stretch_none image n e start h l p = record {
  found = λ k q. absurd (never k q);
  lowest = λ k q. absurd (never k q);
  none = λ q j f. below_or start j (λ g. omega (arith, f.high)) (λ g. p.none j g f);
}
  where
    never : (k : Slice) → None ≡ Some k → ⊥
    never k q = let z = choice_free 0 k q in omega arith
