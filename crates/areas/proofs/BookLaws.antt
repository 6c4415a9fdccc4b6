-- Booking: the entry read, three of its words replaced, and the entry written back.
use mathlib.Core.Path.{◌≡◌, refl, ap, ap₂, ◌∙◌}
use mathlib.Core.List.{List, [], ◌++◌, append-nil}
use Prim.Native.Nat.{ℕ, ◌+◌, ◌*◌, ◌≤◌, ◌<◌}
use native.Mathlib.Omega.{arith}
use lib.ListN.{length, set, take, length-set}
use lib.Seq.{take_all}
use Rattle.disc.specs.Entries.{entry_words, index_sector}
use Rattle.disc.proofs.EntryLaws.{length_entry, three_words}
use Rattle.words.specs.Store.{store}
use Rattle.index.specs.Block.{slice_total}
use Rattle.catalog.specs.declared.Place.{Place}
use Rattle.catalog.specs.declared.Unit.{Unit}
use Rattle.catalog.specs.Catalog.{place_start, entry_at}
use Rattle.catalog.proofs.WalkLaws.{length-entry_at}
use Rattle.plain.specs.Unit.{Plain, File, sys_of, file_entry}
use Rattle.plain.specs.Areas.{book_live}
use Rattle.refine.specs.Writes.{booked_image}
use Rattle.refine.proofs.Ground.{Ground, ground, part_file, part_sectors}
use Rattle.lookup.specs.Files.{BlockOf}
use Rattle.lookup.proofs.UnitLaws.{on_catalog}
use Rattle.lookup.proofs.FindLaws.{place_room}
use Rattle.lookup.proofs.LookUpLaws.{entry_at_lem}
use Rattle.lookup.proofs.FileLaws.{block_total, total_fits, file_entry_lem}
use Rattle.areas.specs.Areas.{CanBookFrom}

-- ---- words 7, 8 and 9 of an entry

abbrev pub rebooked : List ℕ → ℕ → ℕ → ℕ → List ℕ
rebooked e size index reserved = set (set (set e 7 size) 8 index) 9 reserved

rebooked_entry : (name : ℕ) (optional : List ℕ) (attributes size index reserved : ℕ) (tail : List ℕ) (size' index' reserved' : ℕ) → length optional ≡ 3
    → rebooked (entry_words name optional attributes size index reserved tail) size' index' reserved' ≡ entry_words name optional attributes size' index' reserved' tail
rebooked_entry name optional attributes size index reserved tail size' index' reserved' three =
    three_words (λ l. rebooked (entry_words name l attributes size index reserved tail) size' index' reserved' ≡ entry_words name l attributes size' index' reserved' tail)
    optional three (λ x y z. refl)

-- ---- the writes

module _ {image : List ℕ} {o : Unit} {place : Place} {sector size : ℕ} {p : Plain} {n : ℕ} {f : File} (can : CanBookFrom image o place sector size p n f) where
  gr : Ground p
  gr = ground p can.on.good

  pub book_room : place_start place + 16 ≤ length image
  book_room = place_room (on_catalog can.on) can.at.is

  pub entry_length : {read : List ℕ} (size' index' reserved' : ℕ) → read ≡ entry_at image place ++ [] → 16 ≤ length (rebooked read size' index' reserved')
  entry_length {read} size' index' reserved' e =
      let l : length read ≡ 16 = ap length (e ∙ append-nil (entry_at image place)) ∙ length-entry_at image place book_room in
      omega (arith, length-set (set (set read 7 size') 8 index') 9 reserved', length-set (set read 7 size') 8 index', length-set read 7 size')

  module _ {block : List ℕ} (of : BlockOf image sector block) where
    pub slices_fit : (1 ≤ o.slice) × (slice_total o.slice block 0 < 65536)
    slices_fit = total_fits can.on can.numbers n f can.file of can.index

    module _ {total : ℕ} (all : total ≡ slice_total o.slice block 0) where
      reserved_is : o.slice * total ≡ p.s * length f.slices
      reserved_is = ap₂ (λ (a b : ℕ). a * b) can.numbers.slice (all ∙ block_total can.on can.numbers n f can.file of can.index)

      pub reserved_fits : o.slice * total < 65536
      reserved_fits = omega (arith, reserved_is, part_sectors p gr f.slices (part_file p gr n f can.file))

      -- the entry with the three words
      abbrev new : List ℕ
      new = file_entry p.F p.s n (book_live f)

      new_entry : rebooked (entry_at image place) size sector (o.slice * total) ≡ new
      new_entry =
          let index : ℕ = index_sector p.F p.s f.booked_slices f.slices in
          let live : ℕ = index_sector p.F p.s (length f.slices) f.slices in
          let three = (can.on.good.catalog.files n f can.file).optional.count in
          ap (λ (e : List ℕ). rebooked e size sector (o.slice * total)) (entry_at_lem (on_catalog can.on) can.at ∙ file_entry_lem can.on.good can.at f can.file)
          ∙ rebooked_entry n f.optional f.attributes f.booked index (p.s * f.booked_slices) f.tail size sector (o.slice * total) three
          ∙ ap₂ (λ (a b : ℕ). entry_words n f.optional f.attributes a b (o.slice * total) f.tail) can.live can.index
          ∙ ap (λ (a : ℕ). entry_words n f.optional f.attributes (length f.sectors) live a f.tail) reserved_is

      new-length : length new ≡ 16
      new-length =
          let fg = can.on.good.catalog.files n f can.file in
          length_entry n f.optional f.attributes (length f.sectors) (index_sector p.F p.s (length f.slices) f.slices) (p.s * length f.slices) f.tail
          fg.optional.count fg.tail.count

      pub booked : {read after : List ℕ} → read ≡ entry_at image place ++ [] → after ≡ store image (place_start place) (take 16 (rebooked read size sector (o.slice * total)))
          → after ≡ booked_image p (sys_of p) image can.at.number n f
      unfolding booked_image
      booked whole e =
          let words =
          ap (λ (l : List ℕ). take 16 (rebooked l size sector (o.slice * total))) (whole ∙ append-nil (entry_at image place)) ∙ ap (take 16) new_entry
          ∙ take_all 16 new (omega (arith, new-length)) in
          e ∙ ap (store image (place_start place)) words
          ∙ ap₂ (λ (q t : ℕ). store image (q * 256 + t * 16) new) can.at.is.sector can.at.is.slot
