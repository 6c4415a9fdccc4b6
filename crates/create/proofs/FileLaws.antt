-- A new file written in an unused place: what the writes ask for, and that they leave `created_image`.
use mathlib.Core.Path.{◌≡◌, refl, sym, ap, ap₂, ◌∙◌}
use mathlib.Core.List.{List, []}
use Prim.Native.Nat.{ℕ, ◌+◌, ◌*◌, ◌%◌, ◌≤◌, ◌<◌}
use native.Mathlib.Omega.{arith}
use native.Mathlib.Nat.{mul_comm, mul-le-mul_left}
use lib.ListN.{length}
use Rattle.disc.specs.Numbers.{need}
use Rattle.disc.specs.Map.{ones_in_map}
use Rattle.disc.specs.Stretches.{sector_in, file_from}
use Rattle.disc.specs.Entries.{entry_words, index_sector}
use Rattle.disc.specs.Catalog.{place_sector}
use Rattle.disc.proofs.NumberLaws.{need_le}
use Rattle.disc.proofs.SliceLaws.{sum_law}
use Rattle.disc.proofs.OneStretchLaws.{length_for_file}
use Rattle.words.specs.Store.{store, zero_words}
use Rattle.words.proofs.StoreLaws.{length_store}
use Rattle.index.specs.Block.{whole_index, joint_sector}
use Rattle.index.proofs.BlockLaws.{whole_index_none}
use Rattle.catalog.specs.declared.Place.{Place}
use Rattle.catalog.specs.declared.Unit.{Unit}
use Rattle.catalog.specs.Catalog.{place_start}
use Rattle.plain.specs.Unit.{Plain, File, sys_of, M, held, file_entry}
use Rattle.plain.specs.Catalog.{optional_in, tail_in}
use Rattle.plain.specs.Good.{WordsOf}
use Rattle.plain.proofs.AttributeLaws.{given_legal}
use Rattle.plain.proofs.WordLaws.{optional_words, tail_words, length-zero_sectors}
use Rattle.plain.proofs.CreateUnit.{NewFile}
use Rattle.refine.specs.OnDisc.{OnDisc}
use Rattle.refine.specs.Writes.{counted_free, store_place, zeroed_sectors, taken_image, created_image}
use Rattle.refine.proofs.Ground.{Ground, ground, top}
use Rattle.preservation.proofs.WriteLaws.{counted_word, zeroed_size}
use Rattle.preservation.proofs.CreateStep.{create_on}
use Rattle.preservation.specs.Units.{new_file_of}
use Rattle.lookup.specs.Unit.{NumbersOf}
use Rattle.lookup.proofs.UnitLaws.{on_catalog}
use Rattle.lookup.proofs.FindLaws.{place_room}
use Rattle.slices.specs.FileBlock.{FileBlock}
use Rattle.slices.specs.Take.{CanLengthenFrom, CanLengthenFile, Lengthened}
use Rattle.slices.specs.Zero.{CanZeroFrom, CanZero, Zeroed}
use Rattle.slices.proofs.BlockLaws.{unit_file, index_told}
use Rattle.slices.proofs.StoreLaws.{length_taken_image, file_fresh, longer_file}
use Rattle.create.specs.Create.{unit_with, CreatedOn, AskedFrom, CanWriteFrom}
use Rattle.create.proofs.LegalLaws.{Legal, legal_all}

module _ {image : List ℕ} {o : Unit} {n size attributes : ℕ} {words : List ℕ} {p : Plain} (asked : AskedFrom image o n size attributes words p) where
  pub three : WordsOf 3 (optional_in words)
  three = optional_words words asked.lent asked.long

  pub six : WordsOf 6 (tail_in words)
  six = tail_words words asked.lent asked.long

  pub legal : Legal n size attributes
  legal = legal_all n size attributes asked.legal

-- the block of no slices
pub none_file : {image none : List ℕ} {p : Plain} → OnDisc image p → none ≡ zero_words 256 → FileBlock image none p.F p.s (M p) []
none_file {image} {none} {p} on e =
    unit_file image none [] on.good.limits on.layout.size (e ∙ sym (whole_index_none p.F p.s)) (omega arith) (λ k. omega arith)

module _ {image : List ℕ} {o : Unit} {place : Place} {n size attributes : ℕ} {words : List ℕ} {p : Plain}
    (can : CanWriteFrom image o place n size attributes words p) where
  asked : AskedFrom image o n size attributes words p
  asked = can.place_for.asked

  num : NumbersOf o p
  num = asked.numbers

  abbrev count : ℕ
  count = need p.s size

  abbrev f : File
  f = new_file_of p size attributes (optional_in words) (tail_in words)

  abbrev t : ℕ
  t = can.place_for.at.number

  gr : Ground p
  gr = ground p asked.on.good

  new : NewFile p n f
  new =
      let ok = legal asked in
      record {
        name = ok.name;
        fresh = asked.fresh;
        attributes = ok.allowed;
        entry_only = given_legal attributes count ok.allowed ok.given;
        optional = three asked;
        tail = six asked;
        slices = refl;
        sectors = refl;
        booked_slices = refl;
        room = can.room;
        few = can.few;
      }

  on_created : OnDisc (created_image p (sys_of p) image t n f) (unit_with p n size attributes (optional_in words) (tail_in words))
  on_created = let a = can.place_for.at in create_on asked.on new t a.is.inside a.first.unused a.first.key

  length_slices : length f.slices ≡ count
  length_slices = length_for_file (M p) (held p) [] count

  -- ---- the slices

  count_is : {k : ℕ} → k ≡ need o.slice size → k ≡ count
  count_is e = e ∙ ap (λ (s : ℕ). need s size) num.slice

  pub reserved_small : {k : ℕ} → k ≡ need o.slice size → o.slice * k < 65536
  reserved_small {k} e =
      let q : o.slice * k ≡ p.s * count = ap₂ (λ (a b : ℕ). a * b) num.slice (count_is e) in
      let all : count ≤ M p = omega (arith, can.room, sum_law (M p) (held p) asked.on.good.once) in
      omega (arith, q, mul-le-mul_left p.s all, mul_comm p.s (M p), top p gr, asked.on.good.limits.sectors)

  can_own : {none : List ℕ} → none ≡ zero_words 256 → CanLengthenFrom image none p.F p.s (M p) count (held p) [] f.slices
  can_own e = record {
    file = none_file asked.on e;
    map = asked.on.layout.map;
    once = asked.on.good.once;
    enough = can.room;
    part = λ k. omega arith;
    few = can.few;
  }

  pub can-take : {none : List ℕ} {k : ℕ} → none ≡ zero_words 256 → k ≡ need o.slice size → CanLengthenFile image none o.first.0 o.slice o.slices k
  can-take {none} {k} e q = record {
    held = held p;
    slices = [];
    can = rw (num.first, num.slice, num.slices, count_is q) (can_own e);
  }

  abbrev i₂ : List ℕ
  i₂ = taken_image image (sector_in p.F p.s f.slices 0) p.F p.s [] f.slices

  abbrev i₃ : List ℕ
  i₃ = zeroed_sectors i₂ p.F p.s f.slices file_from (length f.sectors)

  module _ {none taken block : List ℕ} {k : ℕ} (e : none ≡ zero_words 256) (q : k ≡ need o.slice size)
      (took : Lengthened image none o.first.0 o.slice o.slices k taken block) where
    took_is : (taken ≡ i₂) × (block ≡ whole_index p.F p.s f.slices)
    took_is =
        let own : Lengthened image none p.F p.s (M p) count taken block = rw (num.first, num.slice, num.slices, count_is q) at took in
        own.all (held p) [] (can_own e)

    same : length taken ≡ length image
    same = ap length took_is.0 ∙ length_taken_image image (sector_in p.F p.s f.slices 0) p.F p.s [] f.slices

    file : FileBlock taken block p.F p.s (M p) f.slices
    file = longer_file (can_own e) (file_fresh (can_own e)) same took_is.1

    -- ---- the blocks

    zero_own : CanZeroFrom taken block 1 size p.F p.s (M p) f.slices
    zero_own = record {
      file = file;
      room = λ some.
          let own : count ≤ count = omega arith in
          omega (arith, (need_le p.s size count (omega (arith, asked.on.good.limits.slice_low)) some).0 own, ap (λ (c : ℕ). p.s * c) length_slices, mul_comm p.s count);
    }

    pub can_zero : CanZero taken block 1 size
    can_zero = record { F = p.F; s = p.s; m = M p; slices = f.slices; can = zero_own }

    module _ {zeroed : List ℕ} (z : Zeroed taken block 1 size zeroed) where
      zeroed_is : zeroed ≡ i₃
      zeroed_is =
          z.all p.F p.s (M p) f.slices zero_own
          ∙ ap₂ (λ (l : List ℕ) (c : ℕ). zeroed_sectors l p.F p.s f.slices file_from c) took_is.0 (sym (length-zero_sectors size))

      length_zeroed_image : length zeroed ≡ length image
      length_zeroed_image =
          ap length zeroed_is ∙ zeroed_size i₂ p.F p.s f.slices file_from (length f.sectors)
          ∙ length_taken_image image (sector_in p.F p.s f.slices 0) p.F p.s [] f.slices

      pub can_enter : (16 ≤ length words) × (place_start place + 16 ≤ length zeroed)
      can_enter = (asked.long, omega (arith, place_room (on_catalog asked.on) can.place_for.at.is, length_zeroed_image))

      -- ---- the entry

      module _ {entered : List ℕ} {sector : ℕ} (first : sector ≡ joint_sector block 0 0)
          (stored : entered ≡ store zeroed (place_start place) (entry_words n (optional_in words) attributes size sector (o.slice * k) (tail_in words))) where
        entered_is : entered ≡ store_place p (sys_of p) i₃ t (file_entry p.F p.s n f)
        entered_is =
            let is = can.place_for.at.is in
            let start : place_start place ≡ place_sector p.F p.s (sys_of p) t * 256 + t % 16 * 16 = ap₂ (λ (q i : ℕ). q * 256 + i * 16) is.sector is.slot in
            let index : sector ≡ index_sector p.F p.s count f.slices = first ∙ index_told file ∙ ap (λ (c : ℕ). index_sector p.F p.s c f.slices) length_slices in
            let reserved : o.slice * k ≡ p.s * count = ap₂ (λ (a b : ℕ). a * b) num.slice (count_is q) in
            stored
            ∙ ap₂ (λ (l : List ℕ) (i : ℕ). store l i (entry_words n (optional_in words) attributes size sector (o.slice * k) (tail_in words))) zeroed_is start
            ∙ ap₂ (λ (a b : ℕ). store i₃ (place_sector p.F p.s (sys_of p) t * 256 + t % 16 * 16) (entry_words n (optional_in words) attributes size a b (tail_in words))) index reserved

        pub can_count : (2560 ≤ length entered) × (o.slice * ones_in_map entered < 65536)
        unfolding created_image
        can_count =
            let far : 2560 ≤ length entered =
            omega (arith, ap length stored, length_store zeroed (place_start place) (entry_words n (optional_in words) attributes size sector (o.slice * k) (tail_in words)), length_zeroed_image, (none_file asked.on refl).long) in
            let fits : p.s * ones_in_map entered < 65536 = counted_word entered p.s far (rw entered_is on_created.words) in
            (far, rw num.slice fits)

        pub file_written : {after : List ℕ} → after ≡ counted_free entered o.slice → CreatedOn p image n f after
        unfolding created_image
        file_written c =
            let a = can.place_for.at in
            record {
              place = t;
              first = a.first;
              written = c ∙ ap₂ counted_free entered_is num.slice;
            }
