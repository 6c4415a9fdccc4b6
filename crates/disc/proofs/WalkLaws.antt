-- The sectors that an index block describes, walked pair by pair: where the sectors of each pair lie among the joined ones,
-- and how many there are in all.
use mathlib.Core.Path.{◌≡◌, refl, sym, ap, ◌∙◌}
use mathlib.Core.List.{List, ◌++◌}
use Prim.Native.Nat.{ℕ, zero, suc, ◌+◌, ◌*◌, ◌-◌, ◌≤◌, ◌<◌}
use native.Mathlib.Omega.{arith}
use native.Mathlib.Nat.{add-zero, zero-add, mul-add, mul_comm}
use lib.ListN.{length, length-append}
use Rattle.disc.specs.Words.{word, Holds}
use Rattle.disc.specs.Slices.{InRangeOnce}
use Rattle.disc.specs.Stretches.{Stretch, stretches, stretch_count, index_words, span, expand, slices_at, sector_in}
use Rattle.disc.specs.Pairs.{pair_length, pair_start}
use Rattle.disc.proofs.StretchLaws.{expand_stretches}
use Rattle.disc.proofs.CutLaws.{length_span}
use Rattle.disc.proofs.IndexUnique as unique
use Rattle.disc.proofs.IndexUnique.{Firsts, firsts}
use Rattle.disc.proofs.IndexLaws.{Described, none, more, described, slices_at_above}
use Rattle.disc.proofs.SectorLaws.{sector_span, sector_past}
use Rattle.disc.proofs.Geometry.{quot, data_sector}

-- the sectors of the pairs before pair j of the index block in sector q
abbrev pub sectors_before : List ℕ → ℕ → ℕ → ℕ
sectors_before image q zero = 0
sectors_before image q (suc j) = sectors_before image q j + pair_length image q j

pub before_mono : (image : List ℕ) (q j i : ℕ) → sectors_before image q j ≤ sectors_before image q (j + i)
before_mono image q j zero = rw add-zero (omega arith)
before_mono image q j (suc i) =
    let e : j + suc i ≡ suc (j + i) = omega arith in rw e (omega (arith, before_mono image q j i))

-- pairs that describe some stretches
module _ (image : List ℕ) (F s q : ℕ) (pos : 1 ≤ s) where
  abbrev B : ℕ → ℕ
  B = sectors_before image q

  described_sector : {rs : List Stretch} {j : ℕ} → Firsts rs → Described image F s q j rs → (i c : ℕ) → i < length rs → c < pair_length image q (j + i)
      → sector_in F s (expand rs) (B (j + i) - B j + c) ≡ pair_start image q (j + i) + c
  described_sector a none i c h k = absurd (omega arith)
  described_sector (unique.next p a) (more {j = j} {r = r} {rs = rs} x y d) zero c h k =
      let z : j + 0 ≡ j = add-zero j in
      let l : c < pair_length image q j = rw z at k in
      let e : B j - B j + c ≡ c = omega arith in
      rw (z, e) (sector_span F s r.first r.count (expand rs) c pos p (omega arith) ∙ omega arith)
  described_sector (unique.next p a) (more {j = j} {r = r} {rs = rs} x y d) (suc i) c h k =
      let z : j + suc i ≡ suc j + i = omega arith in
      let l : c < pair_length image q (suc j + i) = rw z at k in
      let m : B (suc j) ≤ B (suc j + i) = before_mono image q (suc j) i in
      let e : B (suc j + i) - B j + c - s * r.count ≡ B (suc j + i) - B (suc j) + c = omega arith in
      rw z (sector_past F s r.first r.count (expand rs) (B (suc j + i) - B j + c) pos (omega arith) ∙ ap (sector_in F s (expand rs)) e ∙ described_sector a d i c (omega arith) l)

  described_total : {rs : List Stretch} {j : ℕ} → Described image F s q j rs → B (j + length rs) ≡ B j + s * length (expand rs)
  described_total (none {j = j}) = ap B (add-zero j) ∙ omega arith
  described_total (more {j = j} {r = r} {rs = rs} x y d) =
      let z : j + suc (length rs) ≡ suc j + length rs = omega arith in
      let n : length (span r.first r.count ++ expand rs) ≡ r.count + length (expand rs) =
      length-append (span r.first r.count) (expand rs) ∙ ap (λ (k : ℕ). k + length (expand rs)) (length_span r.first r.count) in
      let w : s * length (span r.first r.count ++ expand rs) ≡ s * r.count + s * length (expand rs) = ap (λ (k : ℕ). s * k) n ∙ mul-add s r.count (length (expand rs)) in
      ap B z ∙ omega (arith, described_total d, x, w)

  -- the slices that the index block in sector q describes, where its words are their index words
  module _ (few : word image q 0 ≤ 127) (block : Holds image q (index_words F s (slices_at image F s q))) where
    abbrev l : List ℕ
    l = slices_at image F s q

    count : word image q 0 ≡ stretch_count l
    count = block.at 0 (omega arith) (omega arith)

    pairs : Described image F s q 0 (stretches l)
    pairs = described image F s q (stretches l) (omega (arith, count)) block

    -- sector c of pair j
    pub walk_sector : (j c : ℕ) → j < word image q 0 → c < pair_length image q j → sector_in F s l (sectors_before image q j + c) ≡ pair_start image q j + c
    walk_sector j c h k =
        let z : 0 + j ≡ j = zero-add j in
        let k' : c < pair_length image q (0 + j) = rw z k in
        let e : B (0 + j) - B 0 + c ≡ B j + c = ap (λ (n : ℕ). B n - B 0 + c) z ∙ omega arith in
        ap (λ (m : List ℕ). sector_in F s m (B j + c)) (sym (expand_stretches l))
        ∙ ap (sector_in F s (expand (stretches l))) (sym e)
        ∙ described_sector (firsts l (slices_at_above image F s q)) pairs j c (omega (arith, count)) k'
        ∙ ap (λ (n : ℕ). pair_start image q n + c) z

    -- all sectors
    pub walk_total : sectors_before image q (word image q 0) ≡ s * length l
    walk_total =
        ap B (count ∙ sym (zero-add (stretch_count l))) ∙ described_total pairs
        ∙ zero-add (s * length (expand (stretches l))) ∙ ap (λ (m : List ℕ). s * length m) (expand_stretches l)

    -- a pair before which not all sectors lie
    pub walk_more : (j : ℕ) → j ≤ word image q 0 → sectors_before image q j < s * length l → j < word image q 0
    walk_more j h k = go (word image q 0 - j) refl
      where
        go : (i : ℕ) → word image q 0 - j ≡ i → j < word image q 0
        go zero z = absurd (let e : j ≡ word image q 0 = omega arith in omega (arith, walk_total, ap B e))
        go (suc i) z = omega arith

    -- the sectors of the pairs up to j are some of them
    pub walk_within : (j : ℕ) → j < word image q 0 → sectors_before image q j + pair_length image q j ≤ s * length l
    walk_within j h =
        let e : suc j + (word image q 0 - suc j) ≡ word image q 0 = omega arith in
        omega (arith, before_mono image q (suc j) (word image q 0 - suc j), ap B e, walk_total)

-- the sectors of slices 1 to m are data sectors
pub sector_inside : (F s m : ℕ) (l : List ℕ) → 1 ≤ s → InRangeOnce m l → (b : ℕ) → b < s * length l → (F ≤ sector_in F s l b) × (sector_in F s l b < F + m * s)
sector_inside F s m l pos fit b h =
    data_sector F s m l pos fit l b (λ k. omega arith) (quot F s m l pos fit b (length l) (omega (arith, mul_comm s (length l))))
