-- What the image says of a file: its attributes, the sectors of its blocks, and their words.
use Rattle.std.specs.Prelude.{Option, Some}
use mathlib.Core.Path.{◌≡◌, sym, ap, ◌∙◌}
use mathlib.Core.List.{List, ◌++◌}
use mathlib.Core.Option.{some}
use Prim.Native.Nat.{ℕ, ◌+◌, ◌*◌, ◌≤◌}
use native.Mathlib.Omega.{arith}
use native.Mathlib.Nat.{mul_comm}
use lib.ListN.{length, take, drop}
use Rattle.disc.specs.Stretches.{block_sector, file_from}
use Rattle.disc.specs.Entries.{index_sector}
use Rattle.disc.proofs.Geometry.{need_cover}
use Rattle.disc.proofs.EntryLaws.{entry_attributes_lem}
use Rattle.words.specs.Store.{store, sector_words}
use Rattle.index.specs.Block.{whole_index, joint_sector}
use Rattle.index.proofs.BlockLaws.{holds-whole_index}
use Rattle.index.proofs.ReadLaws.{read_sector}
use Rattle.catalog.specs.declared.Place.{Place}
use Rattle.catalog.specs.declared.Unit.{Unit}
use Rattle.catalog.specs.Catalog.{entry_word}
use Rattle.plain.specs.Table.{table_find}
use Rattle.plain.specs.Unit.{Plain, File}
use Rattle.plain.proofs.UnitLaws.{entry_of}
use Rattle.refine.specs.OnDisc.{OnDisc}
use Rattle.refine.specs.Writes.{replaced_image}
use Rattle.refine.proofs.Ground.{ground, block_in, file_data, file_slices_lem}
use Rattle.preservation.proofs.OutputStep.{block_inside}
use Rattle.lookup.specs.Unit.{NumbersOf}
use Rattle.lookup.specs.Find.{FindsName}
use Rattle.lookup.specs.Files.{BlockOf}
use Rattle.lookup.proofs.UnitLaws.{on_catalog}
use Rattle.blocks.specs.Blocks.{entry_attributes, AttributesOf, BlockFrom, SomeBlock, BlockSectorOf, BlockRead, BlockReplaced}

-- ---- attributes

module _ {image : List ℕ} {o : Unit} {n : ℕ} {found : Option Place} (finds : FindsName image o n found) where
  pub attributes_some : {place : Place} {r : ℕ} → found ≡ Some place → r ≡ entry_word image place 6 → AttributesOf image o n r
  attributes_some {place} e w = record {
    all = λ p on num.
        let a = (finds.all p on num).at place e in
        w ∙ a.holds 6 (omega arith) ∙ sym (ap entry_attributes a.entered);
  }

-- those of a file
pub file_attributes : {image : List ℕ} {o : Unit} {n r : ℕ} {p : Plain} {f : File} → AttributesOf image o n r → OnDisc image p → NumbersOf o p → table_find n p.files ≡ some f → r ≡ f.attributes
file_attributes {n = n} {p = p} {f = f} h on num file =
    let good = on.good.catalog.files n f file in
    h.all p (on_catalog on) num ∙ ap entry_attributes (entry_of p n f good.ordinary file)
    ∙ entry_attributes_lem n f.optional f.attributes f.booked (index_sector p.F p.s f.booked_slices f.slices) (p.s * f.booked_slices) f.tail good.optional.count

-- ---- the sector of a block

-- that which the file's index block tells
sector_is : {image : List ℕ} {index k : ℕ} {p : Plain} {n : ℕ} {f : File} (from : BlockFrom image index k p n f) {words : List ℕ} → words ≡ whole_index p.F p.s f.slices
    → joint_sector words 0 (k + 1) ≡ block_sector p.F p.s f.slices file_from k
sector_is {k = k} {p} {n} {f} from e =
    let good = from.on.good in
    let g = ground p good in
    let positive : 1 ≤ p.s = omega (arith, good.limits.slice_low) in
    let inside = need_cover p.s (length f.sectors) (length f.slices) positive (good.catalog.files n f from.file).covered k from.below in
    let far = file_data p g n f from.file (k + 1) (block_in p g n f from.file k from.below) in
    ap (λ (w : List ℕ). joint_sector w 0 (k + 1)) e
    ∙ read_sector (whole_index p.F p.s f.slices) p.F p.s 0 f.slices (good.catalog.files n f from.file).few (holds-whole_index p.F p.s f.slices) positive
    (file_slices_lem p g n f from.file) (k + 1) (omega (arith, mul_comm p.s (length f.slices))) (omega (arith, far.1, good.limits.sectors))

pub block_sector_of : {image : List ℕ} {index k r : ℕ} {words : List ℕ} → BlockOf image index words → r ≡ joint_sector words 0 (k + 1) → BlockSectorOf image index k r
block_sector_of b e = record { all = λ p n f from. e ∙ sector_is from (b.all p from.on n f from.file from.first) }

-- ---- the words of a block

module _ {image : List ℕ} {index k r : ℕ} (at : BlockSectorOf image index k r) where
  pub sector_inside : SomeBlock image index k → r * 256 + 256 ≤ length image
  sector_inside h =
      let from = h.from in
      omega (arith, at.all h.p h.n h.f from, block_inside from.on h.n from.file k from.below)

  pub block_read : {lent after : List ℕ} → after ≡ sector_words image r ++ drop 256 lent → BlockRead image index k lent after
  block_read {lent} e = record { all = λ p n f from. e ∙ ap (λ (q : ℕ). sector_words image q ++ drop 256 lent) (at.all p n f from) }

  pub block_replaced : {lent after : List ℕ} → after ≡ store image (r * 256) (take 256 lent) → BlockReplaced image index k lent after
  unfolding replaced_image
  block_replaced {lent} e = record { all = λ p n f from. e ∙ ap (λ (q : ℕ). store image (q * 256) (take 256 lent)) (at.all p n f from) }
