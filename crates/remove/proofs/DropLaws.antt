-- The writes of Remove: what each asks, and the image that they leave.
use mathlib.Core.Path.{◌≡◌, ap, ap₂, ◌∙◌}
use mathlib.Core.List.{List}
use Prim.Native.Nat.{ℕ, ◌+◌, ◌*◌, ◌≤◌, ◌<◌}
use native.Mathlib.Omega.{arith}
use lib.ListN.{length}
use Rattle.disc.specs.Slices.{InRangeOnce}
use Rattle.disc.specs.Map.{ones_in_map}
use Rattle.words.specs.Store.{store, zero_words}
use Rattle.words.proofs.StoreLaws.{length_store}
use Rattle.map.specs.Marks.{all_free}
use Rattle.index.specs.Block.{slice_total}
use Rattle.catalog.specs.declared.Place.{Place}
use Rattle.catalog.specs.declared.Unit.{Unit}
use Rattle.catalog.specs.Catalog.{place_start, entry_word}
use Rattle.plain.specs.Table.{table_remove}
use Rattle.plain.specs.Unit.{Plain, File, sys_of, M, held, with_files}
use Rattle.plain.proofs.KeepsCatalog.{removed_good}
use Rattle.refine.specs.Writes.{counted_free, empty_place, removed_image}
use Rattle.refine.proofs.Ground.{Ground, ground, top, part_file}
use Rattle.refine.proofs.Writers.{long}
use Rattle.preservation.proofs.RemoveStep.{freed_layout, freed_words}
use Rattle.lookup.specs.Files.{ClosedFile, BlockOf}
use Rattle.lookup.proofs.UnitLaws.{on_catalog}
use Rattle.lookup.proofs.FindLaws.{place_room}
use Rattle.lookup.proofs.FileLaws.{closed_block, closed_total}
use Rattle.slices.specs.Give.{CanFreeFrom, CanCutFrom, CanFree, Freed}
use Rattle.slices.proofs.BlockLaws.{unit_file}
use Rattle.slices.proofs.GiveLaws.{free_from}
use Rattle.slices.proofs.ZeroLaws.{count_fits}

module _ {image : List ℕ} {o : Unit} {place : Place} {p : Plain} {n : ℕ} {f : File} (can : ClosedFile image o place p n f) where
  gr : Ground p
  gr = ground p can.on.good

  -- the words of the place are in the image
  pub drop_room : place_start place + 16 ≤ length image
  drop_room = place_room (on_catalog can.on) can.at.is

  abbrev freed : List ℕ
  freed = all_free (empty_place p (sys_of p) image can.at.number) f.slices

  -- the index block, read from the sector that the entry names
  module _ {index : ℕ} {block : List ℕ} (e : index ≡ entry_word image place 8) (of : BlockOf image index block) where
    -- the place emptied, all slices are given back
    module _ {cleared : List ℕ} {total : ℕ} (empty : cleared ≡ store image (place_start place) (zero_words 16)) (all : total ≡ slice_total o.slice block 0) where
      cleared_is : cleared ≡ empty_place p (sys_of p) image can.at.number
      cleared_is = empty ∙ ap₂ (λ (q t : ℕ). store image (q * 256 + t * 16) (zero_words 16)) can.at.is.sector can.at.is.slot

      can_from : CanFreeFrom cleared block p.F p.s total f.slices
      can_from =
          let g = can.on.good in
          let once : InRangeOnce (M p) f.slices = λ k. omega (arith, g.once k, part_file p gr n f can.file k) in
          let cut : CanCutFrom cleared block p.F p.s (M p) total f.slices = record {
            file = unit_file cleared block f.slices g.limits (ap length empty ∙ length_store image _ _ ∙ can.on.layout.size) (closed_block can e of) (g.catalog.files n f can.file).few once;
            count = omega (arith, closed_total can e of);
          } in
          free_from cut

      pub can_give_all : CanFree cleared block o.first.0 o.slice total
      can_give_all = rw (can.numbers.first, can.numbers.slice) (record { slices = f.slices; can = can_from })

      module _ {given : List ℕ} (back : Freed cleared block o.first.0 o.slice 0 total given) where
        given_is : given ≡ freed
        given_is =
            let b : Freed cleared block p.F p.s 0 total given = rw (can.numbers.first, can.numbers.slice) at back in
            b.all f.slices can_from ∙ ap (λ (l : List ℕ). all_free l f.slices) cleared_is

        pub can_count : (2560 ≤ length given) × (o.slice * ones_in_map given < 65536)
        can_count =
            let t = can.at.number in
            let layout = freed_layout can.on n f can.file can.closed t can.at.is.inside can.at.named in
            let words = freed_words can.on n f can.file can.closed t can.at.is.inside can.at.named in
            let good = removed_good p n can.on.good can.closed in
            rw (given_is, can.numbers.slice) (
              long gr layout,
              count_fits p.F p.s (M p) (held (with_files p (table_remove n p.files))) freed gr.limits.slices_high (omega (arith, top p gr, gr.limits.sectors)) layout.map good.once words,
            )

        pub dropped : {after : List ℕ} → after ≡ counted_free given o.slice → after ≡ removed_image p (sys_of p) image can.at.number f
        unfolding removed_image
        dropped x = x ∙ ap₂ counted_free given_is can.numbers.slice
