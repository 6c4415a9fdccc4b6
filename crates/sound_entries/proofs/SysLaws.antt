-- The walk over SYS's stretches: where each turn of it is, what it passes, and that all of it lies in the image.
use Rattle.std.proofs.Common.{◌≡◌, ℕ, suc, ◌+◌, ◌-◌, ◌*◌, ◌<◌, ◌≤◌, min, List, length, sym, ap, ◌∙◌, mul_comm, mul-le-mul_left, div-mul-le_self, add-one, arith}
use Rattle.disc.specs.Words.{word}
use Rattle.disc.specs.Stretches.{stretch_count, sector_in}
use Rattle.disc.specs.Kit.{sys_index_sector}
use Rattle.disc.specs.Pairs.{pair_length, pair_start}
use Rattle.disc.proofs.SliceLaws.{sum_law}
use Rattle.disc.proofs.IndexLaws.{index_pairs}
use Rattle.disc.proofs.WalkLaws.{sectors_before, walk_sector, walk_more, walk_within, sector_inside}
use Rattle.kit.specs.declared.Geometry.{Geometry}
use Rattle.sound_entries.specs.Sys.{sys_slices, SysOf}

-- one turn: n blocks from block b on are the sectors from `start` on, those of pair j or the first of them
pub record Turn (image : List ℕ) (g : Geometry) (size j b n start : ℕ) : Type 0 where
  pub more : j < word image 6 0
  pub walk : (c : ℕ) → c < n → sector_in g.first.0 g.slice (sys_slices image g) (b + c) ≡ start + c
  pub fits : 256 * (start + n) ≤ length image
  pub small : start + n < 65536
  pub high : b + n ≤ size
  pub next : b + n < size → b + n ≡ sectors_before image 6 (j + 1)

module _ {image : List ℕ} {g : Geometry} (sys : SysOf image g) where
  pos : 1 ≤ g.slice
  pos = omega (arith, sys.unit.limits.slice_low)

  -- a sector of SYS is in the image
  pub sys_inside : (b : ℕ) → b < g.slice * length (sys_slices image g) → sector_in g.first.0 g.slice (sys_slices image g) b < g.sectors
  sys_inside b h =
      let i = sector_inside g.first.0 g.slice g.slices (sys_slices image g) pos sys.once b h in
      omega (arith, i.1, ap (λ (m : ℕ). m * g.slice) sys.unit.slices, div-mul-le_self (g.sectors - g.first.0) g.slice, sys.unit.limits.some_data)

  pub sys_few_lem : stretch_count (sys_slices image g) ≤ 127
  sys_few_lem = omega (arith, sys.index.few, sys.index.pairs.at 0 (omega arith) (omega arith))

  sys_sector : (j c : ℕ) → j < word image 6 0 → c < pair_length image 6 j
      → sector_in g.first.0 g.slice (sys_slices image g) (sectors_before image 6 j + c) ≡ pair_start image 6 j + c
  sys_sector = walk_sector image g.first.0 g.slice 6 pos sys.index.few sys.index.pairs

  sys_more : (j : ℕ) → j ≤ word image 6 0 → sectors_before image 6 j < g.slice * length (sys_slices image g) → j < word image 6 0
  sys_more = walk_more image g.first.0 g.slice 6 pos sys.index.few sys.index.pairs

  sys_within : (j : ℕ) → j < word image 6 0 → sectors_before image 6 j + pair_length image 6 j ≤ g.slice * length (sys_slices image g)
  sys_within = walk_within image g.first.0 g.slice 6 pos sys.index.few sys.index.pairs

  -- SYS's sectors are some of the data sectors
  pub sys_small : g.slice * length (sys_slices image g) ≤ g.sectors - g.first.0
  sys_small =
      let m : length (sys_slices image g) ≤ g.slices = omega (arith, sum_law g.slices (sys_slices image g) sys.once) in
      omega (arith, mul-le-mul_left g.slice m, mul_comm g.slice g.slices, ap (λ (k : ℕ). k * g.slice) sys.unit.slices, div-mul-le_self (g.sectors - g.first.0) g.slice)

  -- no pair is empty
  pair_some : (j : ℕ) → j < word image 6 0 → 1 ≤ pair_length image 6 j
  pair_some j h = (((index_pairs image g.first.0 g.slice 6 pos).1 (sys.index.some, sys.index.few, sys.index.pairs)).each j h).some

  pair_inside : (j : ℕ) → j < word image 6 0 → pair_start image 6 j + pair_length image 6 j ≤ g.sectors
  pair_inside j h =
      let p = pair_some j h in
      let l : ℕ = pair_length image 6 j - 1 in
      let e = sys_sector j l h (omega arith) in
      omega (arith, sys_inside (sectors_before image 6 j + l) (omega (arith, sys_within j h)), e)

  pub turn : {size b l n start q : ℕ} → q ≡ sys_index_sector → (j : ℕ) → size ≤ g.slice * length (sys_slices image g) → j ≤ word image 6 0 → (b < size → b ≡ sectors_before image 6 j) → b < size
      → l ≡ pair_length image q j → n ≡ min l (size - b) → start ≡ pair_start image q j → Turn image g size j b n start
  turn {size} {b} {l} {n} {start} own j room low at lt e' f i' =
      let e = e' ∙ ap (λ (x : ℕ). pair_length image x j) own in
      let i = i' ∙ ap (λ (x : ℕ). pair_start image x j) own in
      let x = at lt in
      let h = sys_more j low (omega arith) in
      let p = pair_inside j h in
      let q : n ≤ pair_length image 6 j = omega arith in
      record {
        more = h;
        walk = λ c k. ap (λ (y : ℕ). sector_in g.first.0 g.slice (sys_slices image g) (y + c)) x ∙ sys_sector j c h (omega arith) ∙ ap (λ (y : ℕ). y + c) (sym i);
        fits = omega (arith, sys.unit.size);
        small = omega (arith, sys.unit.limits.sectors);
        high = omega arith;
        next = λ k. let z : n ≡ pair_length image 6 j = omega arith in x' x z ∙ ap (sectors_before image 6) (sym (add-one j));
      }
    where
      x' : b ≡ sectors_before image 6 j → n ≡ pair_length image 6 j → b + n ≡ sectors_before image 6 (suc j)
      x' x z = omega arith
