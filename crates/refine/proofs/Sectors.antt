-- The image by sectors: what two images share, and what a write leaves alone. The frame laws of all messages.
use mathlib.Core.Path.{◌≡◌, refl, ap₂, ◌∙◌}
use mathlib.Core.List.{List, [], ◌∷◌, ◌++◌}
use mathlib.Core.Logic.{◌≢◌}
use Prim.Native.Nat.{ℕ, zero, suc, ◌+◌, ◌-◌, ◌*◌, ◌/◌, ◌≤◌, ◌<◌}
use native.Mathlib.Omega.{arith}
use lib.Count.{ones}
use lib.ListN.{length}
use Rattle.disc.specs.Words.{word, Holds}
use Rattle.disc.specs.Kit.{map_sector}
use Rattle.disc.specs.Map.{map_bit, ones_below, ones_in_map}
use Rattle.words.specs.Store.{store}
use Rattle.words.proofs.StoreLaws.{length_store, word_store_other}
use Rattle.map.specs.Marks.{all_marked}
use Rattle.map.proofs.MarkLaws.{InMap, length_all_marked, all_marked_outside}

-- two images with the same words in sector q
pub record Same (i j : List ℕ) (q : ℕ) : Type 0 where
  pub at : (b : ℕ) → b < 256 → word j q b ≡ word i q b

pub same_refl : (i : List ℕ) (q : ℕ) → Same i i q
same_refl i q = record { at = λ b h. refl }

pub same_trans : {i j k : List ℕ} {q : ℕ} → Same i j q → Same j k q → Same i k q
same_trans a c = record { at = λ b h. c.at b h ∙ a.at b h }

pub holds_kept : {i j : List ℕ} {q : ℕ} {v : List ℕ} → Holds i q v → Same i j q → Holds j q v
holds_kept a c = record { at = λ b h l. c.at b l ∙ a.at b h l }

-- ---- sets of sectors, as lists

abbrev pub NotIn : ℕ → List ℕ → Type 0
NotIn q [] = Unit {0}
NotIn q (x ∷ l) = (q ≢ x) × NotIn q l

pub notin_left : (q : ℕ) (l m : List ℕ) → NotIn q (l ++ m) → NotIn q l
notin_left q [] m h = tt
notin_left q (x ∷ l) m h = (h.0, notin_left q l m h.1)

pub notin_right : (q : ℕ) (l m : List ℕ) → NotIn q (l ++ m) → NotIn q m
notin_right q [] m h = h
notin_right q (x ∷ l) m h = notin_right q l m h.1

-- j has the size of i, and differs from it in the sectors Q at most
pub record Outside (i j : List ℕ) (Q : List ℕ) : Type 0 where
  pub size : length j ≡ length i
  pub same : (q : ℕ) → NotIn q Q → Same i j q

-- ---- one write

-- words stored inside sector q
pub store_outside : (i vs : List ℕ) (q a : ℕ) → a + length vs ≤ 256 → Outside i (store i (q * 256 + a) vs) (q ∷ [])
store_outside i vs q a fits = record {
  size = length_store i (q * 256 + a) vs;
  same = λ r h. record { at = λ b l. word_store_other i q a vs fits r b h.0 l };
}

-- words stored from the start of sector q
pub sector_outside : (i vs : List ℕ) (q : ℕ) → length vs ≤ 256 → Outside i (store i (q * 256) vs) (q ∷ [])
sector_outside i vs q fits = let e : q * 256 ≡ q * 256 + 0 = omega arith in rw e (store_outside i vs q 0 (omega arith))

-- slices marked in the map
pub marked_outside-map : (v : ℕ) (i l : List ℕ) → v ≤ 1 → InMap l → 2560 ≤ length i → Outside i (all_marked v i l) (map_sector ∷ [])
marked_outside-map v i l le inm long = record {
  size = length_all_marked v l i;
  same = λ r h. record { at = λ b x. all_marked_outside v le l i inm long r b h.0 x };
}

-- ---- map bits read sector 9

pub bit_kept : {i j : List ℕ} (k : ℕ) → 1 ≤ k → k ≤ 4096 → Same i j map_sector → map_bit j k ≡ map_bit i k
unfolding map_bit
bit_kept {i} {j} k a b e = rw (e.at ((k - 1) / 16) (omega arith)) refl

pub ones_kept : {i j : List ℕ} → Same i j map_sector → ones_in_map j ≡ ones_in_map i
unfolding ones_in_map
ones_kept {i} {j} e = go 256 (omega arith)
  where
    go : (n : ℕ) → n ≤ 256 → ones_below j n ≡ ones_below i n
    go zero h = refl
    go (suc n) h = ap₂ (λ (a b : ℕ). a + ones b) (go n (omega arith)) (e.at n (omega arith))
