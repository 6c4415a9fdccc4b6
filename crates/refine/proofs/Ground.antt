-- What keeps the lists of a unit apart, less than `Good` and true half way through a call too; which sectors they read; the
-- entries by name.
use mathlib.Core.Path.{◌≡◌, sym, ap, ◌∙◌}
use mathlib.Core.List.{List}
use mathlib.Core.Logic.{◌≢◌}
use mathlib.Core.Option.{some}
use Prim.Native.Nat.{ℕ, zero, ◌+◌, ◌*◌, ◌-◌, ◌/◌, ◌≤◌, ◌<◌}
use native.Mathlib.Omega.{arith}
use native.Mathlib.Nat.{mul-le-mul_left, mul-le-mul_right, div-mul-le_self}
use lib.ListN.{length, get_or}
use lib.Dec.{T}
use Rattle.disc.specs.Numbers.{need}
use Rattle.disc.specs.Names.{legal_name}
use Rattle.disc.specs.Slices.{occurrences, InRangeOnce}
use Rattle.disc.specs.Stretches.{sector_in}
use Rattle.disc.specs.Kit.{Limits}
use Rattle.disc.specs.Entries.{index_sector}
use Rattle.disc.proofs.Compare.{below_or}
use Rattle.disc.specs.Catalog.{Catalog, places_of}
use Rattle.disc.proofs.SliceLaws.{occurrences_append, sum_law}
use Rattle.disc.proofs.Geometry.{quot, in_range, data_sector, apart, within, need_cover}
use Rattle.disc.proofs.EntryLaws.{length_entry}
use Rattle.disc.proofs.NameLaws.{pack_words}
use Rattle.plain.specs.Table.{table_find, SortedFrom, Every}
use Rattle.plain.specs.Unit.{Plain, File, M, held, slices_of, file_entry, entry, sys_of}
use Rattle.plain.specs.Good.{Good}
use Rattle.plain.proofs.TableLaws.{find_below, total_one, total_two}
use Rattle.plain.proofs.CatalogLaws.{catalog_cover}
use Rattle.plain.proofs.UnitLaws.{holds, occurrences_held, map_some, entry_other, entry_cases}
use Rattle.refine.proofs.CatalogLaws.{Named, name_in}

pub record Ground (p : Plain) : Type 0 where
  pub limits : Limits p.H p.s p.F p.N
  pub once : InRangeOnce (M p) (held p)
  pub names : SortedFrom 0 p.files
  pub sys_cover : p.H * p.layers ≤ length p.sys * p.s
  pub cover : Every (λ n f. need p.s (length f.sectors) ≤ length f.slices) p.files

pub ground : (p : Plain) → Good p → Ground p
ground p g =
    let room : p.H * p.layers ≤ length p.sys * p.s = omega (arith, catalog_cover g.catalog (omega (arith, g.limits.slice_low))) in
    let cover : Every (λ n f. need p.s (length f.sectors) ≤ length f.slices) p.files = λ n f h. (g.catalog.files n f h).covered in
    search g

-- ---- entries by name

pub entry_named : (p : Plain) → SortedFrom 0 p.files → Named (entry p)
entry_named p sorted = record {
  name = λ n e h. entry_cases p n h (λ q z. ap name_in z ∙ sym q) (λ q z. ap name_in z ∙ sym q) (λ f q z. ap name_in z ∙ pack_words n);
  zero = entry_other p 0 (omega arith) (omega arith) ∙ ap (map_some (file_entry p.F p.s 0)) (find_below 0 0 p.files sorted (omega arith));
}

-- every name with an entry is legal, and every entry has 16 words
module _ (p : Plain) (g : Good p) (n : ℕ) (e : List ℕ) (entered : entry p n ≡ some e) where
  pub entry_legal : T (legal_name n)
  entry_legal = entry_cases p n entered (λ q z. rw q tt) (λ q z. rw q tt) (λ f q z. (g.catalog.files n f q).name)

  pub entry_length : length e ≡ 16
  entry_length = entry_cases p n entered (λ q z. ap length z) (λ q z. ap length z) (λ f q z.
      let fg = g.catalog.files n f q in
      ap length z
      ∙ length_entry n f.optional f.attributes f.booked (index_sector p.F p.s f.booked_slices f.slices) (p.s * f.booked_slices) f.tail fg.optional.count fg.tail.count)

-- ---- the sectors of a unit's lists

module _ (p : Plain) (g : Ground p) where
  pub positive : 0 < p.s
  positive = omega (arith, g.limits.slice_low)

  -- the data sectors end at N
  pub top : p.F + M p * p.s ≤ p.N
  top = omega (arith, div-mul-le_self (p.N - p.F) p.s, g.limits.some_data)

  pub part_file : (m : ℕ) (a : File) → table_find m p.files ≡ some a → (k : ℕ) → occurrences k a.slices ≤ occurrences k (held p)
  part_file m a e k = omega (arith, occurrences_held k p.sys p.files, total_one (holds k) m a p.files e)

  -- slices of the unit, each once: no more than it has
  pub part_few : (l : List ℕ) → ((k : ℕ) → occurrences k l ≤ occurrences k (held p)) → length l ≤ M p
  part_few l q = omega (arith, sum_law (M p) l (λ k. omega (arith, q k, g.once k)))

  pub part_sectors : (l : List ℕ) → ((k : ℕ) → occurrences k l ≤ occurrences k (held p)) → p.s * length l + 10 ≤ 32767
  part_sectors l q = omega (arith, mul-le-mul_left p.s (part_few l q), top, g.limits.sectors, g.limits.first)

  -- a file's length is below 32,768: it needs a sector more than it has, within the data sectors
  pub length_small : (n : ℕ) (f : File) → table_find n p.files ≡ some f → length f.sectors ≤ 32767
  length_small n f h = below_or (length f.sectors) 32768 (λ x. omega arith) (λ x.
      absurd (omega (
        arith,
        need_cover p.s (length f.sectors) (length f.slices) positive (g.cover n f h) 32767 (omega arith),
        part_sectors f.slices (part_file n f h),
      )))

  pub first_in : (l : List ℕ) → 0 < length l → 0 / p.s < length l
  first_in l x = quot p.F p.s (M p) (held p) positive g.once 0 (length l) (omega (arith, mul-le-mul_right p.s x, positive))

  pub block_in : (m : ℕ) (a : File) → table_find m p.files ≡ some a → (b : ℕ) → b < length a.sectors → (b + 1) / p.s < length a.slices
  block_in m a e b q =
      quot p.F p.s (M p) (held p) positive g.once (b + 1) (length a.slices)
      (need_cover p.s (length a.sectors) (length a.slices) positive (g.cover m a e) b q)

  -- every one is a data sector
  pub file_data : (m : ℕ) (a : File) → table_find m p.files ≡ some a → (b : ℕ) → b / p.s < length a.slices
      → (10 ≤ sector_in p.F p.s a.slices b) × (sector_in p.F p.s a.slices b < p.N)
  file_data m a e b x =
      let r = data_sector p.F p.s (M p) (held p) positive g.once a.slices b (part_file m a e) x in
      (omega (arith, r.0, g.limits.first), omega (arith, r.1, top))

  -- two files: no sector in common
  pub file_file : (m n : ℕ) (a f : File) → m ≢ n → table_find m p.files ≡ some a → table_find n p.files ≡ some f → (b c : ℕ) → b / p.s < length a.slices → c / p.s < length f.slices
      → sector_in p.F p.s a.slices b ≢ sector_in p.F p.s f.slices c
  file_file m n a f d e h b c x y =
      apart p.F p.s (M p) (held p) positive g.once a.slices f.slices b c
      (λ k. omega (arith, occurrences_held k p.sys p.files, total_two (holds k) n m f a p.files g.names h e d)) x y

  pub in_file : (m : ℕ) (a : File) → table_find m p.files ≡ some a → (b c : ℕ) → b / p.s < length a.slices → c / p.s < length a.slices
      → sector_in p.F p.s a.slices b ≡ sector_in p.F p.s a.slices c → b ≡ c
  in_file m a e b c x y = within p.F p.s (M p) (held p) positive g.once a.slices b c (part_file m a e) x y

  -- the slices of a file are above 0
  pub file_slices_lem : (n : ℕ) (f : File) → table_find n p.files ≡ some f → (j : ℕ) → j < length f.slices → 1 ≤ get_or f.slices j 0
  file_slices_lem n f h j x = (in_range p.F p.s (M p) (held p) positive g.once f.slices j (part_file n f h) x).0

-- ---- a catalog of the unit

-- its slices are the unit's and no file's, and hold its blocks, of which none is its index block
pub record CatalogGround (p : Plain) (c : Catalog) : Type 0 where
  pub unit : Ground p
  pub part : (k : ℕ) → occurrences k c.slices ≤ occurrences k (held p)
  pub beside : (m : ℕ) (a : File) → table_find m p.files ≡ some a → (k : ℕ) → occurrences k a.slices + occurrences k c.slices ≤ occurrences k (held p)
  pub cover : p.H * c.layers + c.from ≤ length c.slices * p.s
  pub index : (b : ℕ) → c.from ≤ b → b / p.s < length c.slices → sector_in p.F p.s c.slices b ≢ c.index

pub sys_ground : {p : Plain} → Ground p → CatalogGround p (sys_of p)
sys_ground {p} g = record {
  unit = g;
  part = part_sys;
  beside = λ m a e k. omega (arith, occurrences_held k p.sys p.files, total_one (holds k) m a p.files e);
  cover = omega (arith, g.sys_cover);
  index = λ b lo x e.
      let r = data_sector p.F p.s (M p) (held p) (positive p g) g.once p.sys b part_sys x in omega (arith, r.0, g.limits.first, e);
}
  where
    part_sys : (k : ℕ) → occurrences k p.sys ≤ occurrences k (held p)
    part_sys k = omega (arith, occurrences_append k p.sys (slices_of p.files))

module _ {p : Plain} {c : Catalog} (g : CatalogGround p c) where
  abbrev sector : ℕ → ℕ
  sector b = sector_in p.F p.s c.slices b

  pub joined_in : (b : ℕ) → b < p.H * c.layers + c.from → b / p.s < length c.slices
  joined_in b x = quot p.F p.s (M p) (held p) (positive p g.unit) g.unit.once b (length c.slices) (omega (arith, g.cover))

  -- every one is a data sector, and no file's
  pub catalog_data : (b : ℕ) → b / p.s < length c.slices → (10 ≤ sector b) × (sector b < p.N)
  catalog_data b x =
      let r = data_sector p.F p.s (M p) (held p) (positive p g.unit) g.unit.once c.slices b g.part x in
      (omega (arith, r.0, g.unit.limits.first), omega (arith, r.1, top p g.unit))

  pub catalog_file : (m : ℕ) (a : File) → table_find m p.files ≡ some a → (b q : ℕ) → b / p.s < length a.slices → q / p.s < length c.slices
      → sector_in p.F p.s a.slices b ≢ sector q
  catalog_file m a e b q x y = apart p.F p.s (M p) (held p) (positive p g.unit) g.unit.once a.slices c.slices b q (g.beside m a e) x y

  pub in_catalog : (a b : ℕ) → a / p.s < length c.slices → b / p.s < length c.slices → sector a ≡ sector b → a ≡ b
  in_catalog a b x y = within p.F p.s (M p) (held p) (positive p g.unit) g.unit.once c.slices a b g.part x y

  -- its slices are above 0
  pub catalog_slices_lem : (j : ℕ) → j < length c.slices → 1 ≤ get_or c.slices j 0
  catalog_slices_lem j x = (in_range p.F p.s (M p) (held p) (positive p g.unit) g.unit.once c.slices j g.part x).0

  -- place t lies in one of its sectors
  pub place_in : (t : ℕ) → t < places_of p.H c → (t / 16 + c.from) / p.s < length c.slices
  place_in t x = joined_in (t / 16 + c.from) (omega arith)
