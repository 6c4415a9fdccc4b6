-- A file's index block by its index sector, a file by the place of its name, and whether a name is open in the state and in the unit.
use Rattle.std.specs.Prelude.{Option, Some, None}
use mathlib.Core.Path.{◌≡◌, refl, sym, ap, ap₂, ◌∙◌}
use mathlib.Core.List.{List, []}
use mathlib.Core.Logic.{◌≢◌}
use mathlib.Core.Bool.{false, not}
use mathlib.Core.Option.{none, some}
use Prim.Native.Nat.{ℕ, zero, suc, ◌*◌, ◌≤◌, ◌<◌}
use native.Mathlib.Omega.{arith}
use lib.Dec.{T}
use lib.ListN.{length, get_or}
use Rattle.types.specs.declared.State.{State}
use Rattle.disc.specs.Names.{is_system}
use Rattle.disc.specs.Entries.{index_sector}
use Rattle.disc.proofs.Compare.{below_or}
use Rattle.disc.proofs.DecideLaws.{true≢false}
use Rattle.disc.proofs.EntryLaws.{sector_first, index_none, index_zero, entry_attributes_lem, entry_size, entry_index}
use Rattle.words.specs.Store.{zero_words}
use Rattle.index.specs.Block.{whole_index, block_at, slice_total}
use Rattle.index.proofs.BlockLaws.{whole_index_none, holds-whole_index}
use Rattle.index.proofs.ReadLaws.{read_block, read_total}
use Rattle.catalog.specs.declared.Place.{Place}
use Rattle.catalog.specs.declared.Unit.{Unit}
use Rattle.catalog.specs.Catalog.{entry_word}
use Rattle.state.specs.Areas.{area_named}
use Rattle.plain.specs.Table.{table_find, is_some}
use Rattle.plain.specs.Unit.{Plain, File, file_entry}
use Rattle.plain.specs.Good.{Good}
use Rattle.plain.proofs.TableLaws.{some_inj}
use Rattle.plain.proofs.UnitLaws.{entry_file, entry_of}
use Rattle.plain.proofs.QuestionLaws.{not_some, false_no}
use Rattle.refine.specs.Represents.{SameAreas}
use Rattle.refine.specs.OnDisc.{OnDisc}
use Rattle.refine.proofs.Ground.{ground, part_file, part_few}
use Rattle.refine.proofs.StateLaws.{same_found, same_absent}
use Rattle.lookup.specs.Unit.{NumbersOf, UnitOn, Represented}
use Rattle.lookup.specs.Find.{NameAt}
use Rattle.lookup.specs.Files.{ClosedFile, own_block, BlockOf, is_found, name_open}

-- ---- a represented unit is on its image

pub represented_on : {image : List ℕ} {state : State} {o : Unit} → Represented image state o → UnitOn image o
represented_on h =
    record { unit = h.unit; on = record { good = h.good; words = h.represents.words; layout = h.represents.layout }; numbers = h.numbers }

-- ---- the index block

pub block_none : (image : List ℕ) (index : ℕ) {words : List ℕ} → index ≡ 0 → words ≡ zero_words 256 → BlockOf image index words
block_none image index z e = record {
  all = λ p on n f found at.
      let none : f.slices ≡ [] = index_zero p.F p.s f.slices (omega (arith, on.good.limits.first)) (sym at ∙ z) in
      e ∙ sym (whole_index_none p.F p.s) ∙ ap (whole_index p.F p.s) (sym none);
}

pub block_some : (image : List ℕ) (index : ℕ) {words : List ℕ} → index ≢ 0 → words ≡ block_at image index → BlockOf image index words
block_some image index d e = record {
  all = λ p on n f found at. below_or 0 (length f.slices)
      (λ (some : 0 < length f.slices).
      let here = sector_first p.F p.s f.slices some ∙ sym at in
      e ∙ read_block image p.F p.s index f.slices (on.good.catalog.files n f found).few (rw here at ((on.layout.files n f found).index some)))
      (λ none. absurd (d (at ∙ index_none p.F p.s f.slices none)));
}

pub own_none : (image : List ℕ) (index : ℕ) → index ≡ 0 → zero_words 256 ≡ own_block image index
unfolding own_block
own_none image index z = rw z refl

pub own_some : (image : List ℕ) (index : ℕ) → index ≢ 0 → block_at image index ≡ own_block image index
unfolding own_block
own_some image zero d = absurd (d refl)
own_some image (suc q) d = refl

-- the block of a file of the unit, and its number of slices
module _ {image : List ℕ} {o : Unit} {p : Plain} {index : ℕ} {block : List ℕ} (on : OnDisc image p) (num : NumbersOf o p) (n : ℕ) (f : File)
    (found : table_find n p.files ≡ some f) (of : BlockOf image index block) (at : index ≡ index_sector p.F p.s (length f.slices) f.slices) where
  pub block_is : block ≡ whole_index p.F p.s f.slices
  block_is = of.all p on n f found at

  pub block_total : slice_total o.slice block 0 ≡ length f.slices
  block_total =
      ap₂ (λ (s : ℕ) (w : List ℕ). slice_total s w 0) num.slice block_is
      ∙ read_total (whole_index p.F p.s f.slices) p.F p.s 0 f.slices (on.good.catalog.files n f found).few
      (holds-whole_index p.F p.s f.slices) (omega (arith, on.good.limits.slice_low))

  pub total_fits : (1 ≤ o.slice) × (slice_total o.slice block 0 < 65536)
  total_fits =
      let gr = ground p on.good in (
        omega (arith, num.slice, on.good.limits.slice_low),
        omega (arith, block_total, part_few p gr f.slices (part_file p gr n f found), on.good.limits.slices_high),
      )

-- ---- the file of a name that was found

pub found_file : {image : List ℕ} {p : Plain} {n : ℕ} {place : Place} → NameAt image p n place → T (not (is_system n)) → (f : File) × (table_find n p.files ≡ some f)
found_file {p = p} {n = n} a ordinary = entry_file p n (rw a.entered tt) ordinary

-- the words of its place
pub record FileWords (image : List ℕ) (p : Plain) (place : Place) (f : File) : Type 0 where
  pub attributes : entry_word image place 6 ≡ f.attributes
  pub size : entry_word image place 7 ≡ f.booked
  pub index : entry_word image place 8 ≡ index_sector p.F p.s f.booked_slices f.slices

module _ {image : List ℕ} {p : Plain} {n : ℕ} {place : Place} (g : Good p) (a : NameAt image p n place) (f : File) (found : table_find n p.files ≡ some f) where
  pub file_entry_lem : a.words ≡ file_entry p.F p.s n f
  file_entry_lem = some_inj (sym a.entered ∙ entry_of p n f (g.catalog.files n f found).ordinary found)

  pub file_words : FileWords image p place f
  file_words =
      let index : ℕ = index_sector p.F p.s f.booked_slices f.slices in
      let three = (g.catalog.files n f found).optional.count in
      let at : (w : ℕ) → w < 16 → entry_word image place w ≡ get_or (file_entry p.F p.s n f) w 0 = λ w x. a.holds w x ∙ ap (λ (l : List ℕ). get_or l w 0) file_entry_lem in
      record {
        attributes = at 6 (omega arith) ∙ entry_attributes_lem n f.optional f.attributes f.booked index (p.s * f.booked_slices) f.tail three;
        size = at 7 (omega arith) ∙ entry_size n f.optional f.attributes f.booked index (p.s * f.booked_slices) f.tail three;
        index = at 8 (omega arith) ∙ entry_index n f.optional f.attributes f.booked index (p.s * f.booked_slices) f.tail three;
      }

  -- with no area process the length and the slices are those booked
  pub live_size : table_find n p.areas ≡ none → entry_word image place 7 ≡ length f.sectors
  live_size closed = file_words.size ∙ ((g.catalog.files n f found).closed closed).0

  pub live_index_lem : table_find n p.areas ≡ none → entry_word image place 8 ≡ index_sector p.F p.s (length f.slices) f.slices
  live_index_lem closed = file_words.index ∙ ap (λ (b : ℕ). index_sector p.F p.s b f.slices) ((g.catalog.files n f found).closed closed).1

-- its block, read from the sector that the entry names
module _ {image : List ℕ} {o : Unit} {place : Place} {p : Plain} {n : ℕ} {f : File} (can : ClosedFile image o place p n f)
    {index : ℕ} {block : List ℕ} (e : index ≡ entry_word image place 8) (of : BlockOf image index block) where
  abbrev own_index : index ≡ index_sector p.F p.s (length f.slices) f.slices
  own_index = e ∙ live_index_lem can.on.good can.at f can.file can.closed

  pub closed_block : block ≡ whole_index p.F p.s f.slices
  closed_block = block_is can.on can.numbers n f can.file of own_index

  pub closed_total : slice_total o.slice block 0 ≡ length f.slices
  closed_total = block_total can.on can.numbers n f can.file of own_index

  pub closed_fits : (1 ≤ o.slice) × (slice_total o.slice block 0 < 65536)
  closed_fits = total_fits can.on can.numbers n f can.file of own_index

-- ---- open names

pub name_open_lem : {state : State} {p : Plain} → SameAreas state p → (n : ℕ) → name_open n state ≡ is_some (table_find n p.areas)
name_open_lem {state} {p} r n = go (area_named n state) refl
  where
    go : (found : Option ℕ) → area_named n state ≡ found → is_found found ≡ is_some (table_find n p.areas)
    go (Some j) e = sym (ap is_some (same_found state p r n j e))
    go None e = sym (ap is_some (same_absent state p r n e))

pub name_closed : {state : State} {p : Plain} → SameAreas state p → (n : ℕ) → name_open n state ≡ false → table_find n p.areas ≡ none
name_closed {p = p} r n e = not_some (table_find n p.areas) (false_no (sym (name_open_lem r n) ∙ e))

pub name_absent : (n : ℕ) (state : State) → name_open n state ≡ false → area_named n state ≡ None
name_absent n state e = go (area_named n state) refl
  where
    go : (found : Option ℕ) → area_named n state ≡ found → found ≡ None
    go (Some j) q = absurd (true≢false (sym (ap is_found q) ∙ e))
    go None q = refl
