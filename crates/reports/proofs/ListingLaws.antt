-- The records of SYS's places are those of the plain unit's entries, each once; what the listing answers and writes.
use mathlib.Core.Path.{◌≡◌, refl, sym, ap, ◌∙◌, subst}
use mathlib.Core.Bool.{◌&&◌}
use mathlib.Core.List.{List}
use mathlib.Core.Logic.{◌≢◌, ⊎_elim}
use mathlib.Core.Option.{Option, none}
use Prim.Native.Nat.{ℕ, ◌+◌, ◌*◌, ◌/◌, ◌%◌, ◌≤◌, ◌<◌}
use native.Mathlib.Omega.{arith}
use native.Mathlib.Nat.{mul_comm, mul-le-mul_right}
use lib.ListN.{length, get_or}
use lib.Dec.{T, eqb, eqb→eq}
use borrow.Author.Tests.{le-leb, lt-leb}
use Rattle.disc.specs.Names.{pack, letter, legal_name}
use Rattle.disc.specs.Stretches.{sector_in, block_sector, sys_from}
use Rattle.disc.specs.Kit.{sys_index_sector}
use Rattle.disc.specs.Entries.{place_count, name_at}
use Rattle.disc.proofs.SliceLaws.{sum_law}
use Rattle.words.specs.Store.{store}
use Rattle.index.proofs.ReadLaws.{read_sector}
use Rattle.plain.specs.Table.{Row, Table}
use Rattle.plain.specs.Unit.{Plain, sys_of, M, entries, entry}
use Rattle.plain.specs.Questions.{answer, fill}
use Rattle.plain.specs.Reports.{joined, step_listing}
use Rattle.plain.specs.Good.{Good}
use Rattle.plain.proofs.QuestionLaws.{and_right, asks_yes, asks_no}
use Rattle.plain.proofs.UnitLaws.{sorted_entries}
use Rattle.sound_entries.proofs.PlaceLaws.{legal_first}
use Rattle.sound.specs.Places.{Unused}
use Rattle.catalog.specs.declared.Catalog.{Catalog}
use Rattle.catalog.specs.declared.Unit.{Unit}
use Rattle.catalog.specs.Value.{value_of}
use Rattle.catalog.proofs.ValueLaws.{is_value}
use Rattle.refine.specs.Represents.{PlaceOf}
use Rattle.refine.specs.OnDisc.{OnDisc}
use Rattle.refine.proofs.CatalogLaws.{Named, name_zero}
use Rattle.refine.proofs.Ground.{Ground, ground, entry_named, entry_legal, entry_length, positive, top, joined_in, sys_ground, catalog_data, catalog_slices_lem}
use Rattle.refine.proofs.PlaceFiles.{row_of, row_at, positive_name, one_place, collected}
use Rattle.lookup.specs.Unit.{NumbersOf, UnitOn, unit_places}
use Rattle.lookup.proofs.UnitLaws.{on_catalog, sys_once}
use Rattle.order.specs.Records.{record_at, record_of}
use Rattle.order.specs.ByName.{CanOrder, ByName}
use Rattle.reports.specs.Listing.{in_turn, slot_start, entry_record, slot_record, slot_records, catalog_sector, block_records, Readable, CountOf, Lists}
use Rattle.reports.proofs.OrderLaws.{Entries, table_listing, names_increase}
use Rattle.reports.proofs.RecordLaws.{NotesOf, RowNote, PlaceNote, collect_notes, can_order, in_name_order}
use Rattle.reports.proofs.TurnLaws.{turn_ext, turn_groups, first_word, slot_none, slot_some}

-- ---- the record of an entry, and its name

record_made : (a b c g : ℕ) → c % 256 ≡ 0 → record_at (entry_record a b c g) 0 ≡ record_of (pack a b c) g
unfolding record_at
record_made a b c g e = omega arith

-- a legal name's sixth character
legal_sixth : (n : ℕ) → T (legal_name n) → n % 256 ≡ 0
legal_sixth n t = eqb→eq (n % 256) 0 (and_right (letter (n / 0x10000000000) && _) (eqb (n % 256) 0) t)

-- each entry of a unit has 16 words, with its name
pub entries_named : (p : Plain) → Good p → Entries (entries p)
unfolding entry
entries_named p g n e h = (entry_length p g n e h, (entry_named p g.catalog.names).name n e h)

-- ---- the places of a unit on the image

module _ {image : List ℕ} {p : Plain} (on : OnDisc image p) where
  abbrev P : ℕ → ℕ → ℕ
  P = unit_places image p

  abbrev N : ℕ
  N = place_count p.H p.layers

  abbrev block : ℕ → ℕ
  block b = block_sector p.F p.s p.sys sys_from b

  abbrev sys : Catalog
  sys = value_of p.H (sys_of p)

  gr : Ground p
  gr = ground p on.good

  nm : Named (entry p)
  nm = entry_named p on.good.catalog.names

  block_inside : (b : ℕ) → b < p.H * p.layers → block b < p.N
  block_inside b x = let e : b + sys_from ≡ b = omega arith in rw e (catalog_data (sys_ground gr) b (joined_in (sys_ground gr) b (omega (arith, x)))).1

  sys_block : (b : ℕ) → b < p.H * p.layers → catalog_sector image sys b ≡ block b
  sys_block b x =
      let e : b + sys_from ≡ b = omega arith in
      let fits : block b < p.N = block_inside b x in
      let room : b < p.s * length p.sys = omega (arith, gr.sys_cover, mul_comm p.s (length p.sys)) in
      let small : sector_in p.F p.s p.sys b < 65536 = rw e at (let z : block b < 65536 = omega (arith, on.good.limits.sectors) in z) in
      rw e (read_sector image p.F p.s sys_index_sector p.sys on.good.catalog.few on.layout.sys.index (positive p gr) (catalog_slices_lem (sys_ground gr)) b room small)

  -- as many sectors as SYS has are in the unit
  few_blocks : p.H * p.layers ≤ 32767
  few_blocks =
      let most : length p.sys ≤ M p = omega (arith, sum_law (M p) p.sys (sys_once (on_catalog on))) in
      omega (arith, gr.sys_cover, mul-le-mul_right p.s most, top p gr, on.good.limits.sectors)

  readable : Readable image sys (p.H * p.layers)
  readable = record {
    few = few_blocks;
    inside = λ b x. rw (sys_block b x) (let h = block_inside b x in omega (arith, on.layout.size));
  }

  -- ---- the record of a place

  abbrev sector : ℕ → ℕ
  sector t = block (t / 16)

  abbrev place_record : ℕ → List ℕ
  place_record t = slot_record image (sector t) (t % 16)

  unused_row : (t : ℕ) → Unused P t → row_of (name_at P t) (entry p (name_at P t)) ≡ none
  unused_row t z = ap (λ (n : ℕ). row_of n (entry p n)) (name_zero P t z) ∙ ap (row_of 0) nm.zero

  -- word w of place t
  word_at : (t w k : ℕ) → k ≡ slot_start (sector t) (t % 16) + w → get_or image k 0 ≡ P t w
  word_at t w k e = let f : k ≡ sector t * 256 + (t % 16 * 16 + w) = omega arith in ap (λ (j : ℕ). get_or image j 0) f

  module _ (t : ℕ) (x : t < N) where
    sector_few : sector t < 32767
    sector_few = omega (arith, block_inside (t / 16) (omega arith), on.good.limits.sectors)

    module _ (u : PlaceOf P p.H (entry p) t) where
      legal : T (legal_name (name_at P t))
      legal = entry_legal p on.good (name_at P t) u.words u.entered

      -- a name's first word is above 0
      used_first : first_word image (sector t) (t % 16) ≢ 0
      used_first e =
          let z : P t 0 ≡ 0 = sym (word_at t 0 (slot_start (sector t) (t % 16)) (omega arith)) ∙ e in
          legal_first (name_at P t) legal (omega (arith, on.words.each (sector t * 256 + (t % 16 * 16 + 1)), on.words.each (sector t * 256 + (t % 16 * 16 + 2))))

      place_record_lem : place_record t ≡ entry_record (P t 0) (P t 1) (P t 2) (sector t * 16 + t % 16)
      place_record_lem =
          let s = slot_start (sector t) (t % 16) in
          slot_some image (sector t) (t % 16) used_first
          ∙ rw (word_at t 0 s (omega arith), word_at t 1 (s + 1) (omega arith), word_at t 2 (s + 2) (omega arith)) refl

      used_note : RowNote image (record { key = name_at P t; val = u.words }) (entry_record (P t 0) (P t 1) (P t 2) (sector t * 16 + t % 16))
      used_note =
          let sixth : name_at P t % 256 ≡ 0 = legal_sixth (name_at P t) legal in
          record {
            size = refl;
            group = sector t * 16 + t % 16;
            few = omega (arith, sector_few);
            made = record_made (P t 0) (P t 1) (P t 2) (sector t * 16 + t % 16) (omega arith);
            sixth = sixth;
            words = λ w y. word_at t w (16 * (sector t * 16 + t % 16) + w) (omega arith) ∙ u.holds w y;
            name = nm.name (name_at P t) u.words u.entered;
            inside = omega (arith, block_inside (t / 16) (omega arith), on.layout.size);
          }

    place_note : PlaceNote image (row_of (name_at P t) (entry p (name_at P t))) (place_record t)
    place_note = ⊎_elim
        (λ (z : Unused P t).
        let e : first_word image (sector t) (t % 16) ≡ 0 = word_at t 0 (slot_start (sector t) (t % 16)) (omega arith) ∙ z.zero 0 (omega arith) in
        subst (λ (o : Option (Row (List ℕ))). PlaceNote image o (place_record t)) (sym (unused_row t z)) (slot_none image (sector t) (t % 16) e))
        (λ (u : PlaceOf P p.H (entry p) t).
        subst (λ (o : Option (Row (List ℕ))). PlaceNote image o (place_record t)) (sym (ap (row_of (name_at P t)) u.entered)) (rw (place_record_lem u) (used_note u)))
        (on.layout.sys.places.each t x)

  places_noted : NotesOf image (entries p) (block_records image (value_of p.H (sys_of p)) (p.H * p.layers))
  unfolding entry
  places_noted =
      let cat = on.layout.sys.places in
      let sorted = sorted_entries p on.good.catalog.names in
      let n : ℕ = p.H * p.layers in
      let by_place : NotesOf image (entries p) (in_turn place_record N) =
      subst (λ (T : Table (List ℕ)). NotesOf image T (in_turn place_record N)) (collected P (entries p) sorted cat.there cat.alone)
      (collect_notes (row_at P (entries p)) (positive_name P (entries p) sorted cat.there cat.alone) N (one_place P (entries p) sorted cat.there cat.alone) image place_record place_note N (omega arith)) in
      let by_block : in_turn place_record N ≡ in_turn (λ b. slot_records image (block b) 16) n = turn_groups (λ b. slot_record image (block b)) n in
      let same : in_turn (λ b. slot_records image (block b) 16) n ≡ block_records image sys n =
      turn_ext (λ b. slot_records image (block b) 16) (λ b. slot_records image (catalog_sector image sys b) 16) n (λ b x. ap (λ (q : ℕ). slot_records image q 16) (sym (sys_block b x))) in
      rw (← same, ← by_block) by_place

  -- ---- the plain unit's listing

  module _ (lent : List ℕ) (room : 16 * length (entries p) ≤ length lent) where
    abbrev noted : List ℕ
    noted = store lent (4 * length (entries p)) (block_records image (value_of p.H (sys_of p)) (p.H * p.layers))

    listing_can : length (entries p) < 4294967296 → CanOrder image (length (entries p)) noted
    listing_can few = can_order places_noted lent room few

    listing_done : {after : List ℕ} → ByName image (length (entries p)) noted after → after ≡ fill (joined (entries p)) lent
    listing_done by =
        let sorted = sorted_entries p on.good.catalog.names in
        in_name_order places_noted lent room by (table_listing 0 (entries p) sorted (entries_named p on.good)) (names_increase 0 (entries p) sorted (entries_named p on.good))

  -- as many entries as are counted
  entries_counted : {o : Unit} {count : ℕ} → NumbersOf o p → CountOf (block_records image o.catalog (o.catalog.keys * o.catalog.layers)) count → count ≡ length (entries p)
  entries_counted {o} num n =
      let own = rw (is_value num.catalog) at n in
      omega (arith, own.words, places_noted.size)

-- ---- the listing

pub can_read : {image : List ℕ} {o : Unit} → UnitOn image o → Readable image o.catalog (o.catalog.keys * o.catalog.layers)
can_read h = rw (is_value h.numbers.catalog) (readable h.on)

-- the records stored, in the numbers of a unit on the image
own_noted : (image lent : List ℕ) {o : Unit} {p : Plain} {count : ℕ} {noted : List ℕ} → NumbersOf o p → count ≡ length (entries p) → noted ≡ store lent (4 * count) (block_records image o.catalog (o.catalog.keys * o.catalog.layers))
    → noted ≡ store lent (4 * length (entries p)) (block_records image (value_of p.H (sys_of p)) (p.H * p.layers))
own_noted image lent num c e = rw (← c) (rw (is_value num.catalog) at e)

module _ {image : List ℕ} {o : Unit} {count : ℕ} (lent : List ℕ) (n : CountOf (block_records image o.catalog (o.catalog.keys * o.catalog.layers)) count) where
  pub lists_short : length lent < 16 * count → Lists image o lent (answer 0x1200 0 0 0) lent
  unfolding step_listing
  lists_short short = record {
    all = λ p on num unit mine.
        let c : count ≡ length (entries p) = entries_counted on num n in
        asks_yes _ _ _ mine ∙ asks_no _ _ _ (rw (← c, lt-leb _ _ short) tt);
  }

  module _ (room : 16 * count ≤ length lent) {noted : List ℕ} (e : noted ≡ store lent (4 * count) (block_records image o.catalog (o.catalog.keys * o.catalog.layers))) where
    pub lists_can : count < 4294967296 → UnitOn image o → CanOrder image count noted
    lists_can few h =
        let c : count ≡ length (entries h.unit) = entries_counted h.on h.numbers n in
        rw (own_noted image lent h.numbers c e, c) (listing_can h.on lent (rw (← c) room) (rw (← c) few))

    pub lists_done : {after : List ℕ} → ByName image count noted after → Lists image o lent (answer 0 0 0 count) after
    unfolding step_listing
    lists_done {after} by = record {
      all = λ p on num unit mine.
          let c : count ≡ length (entries p) = entries_counted on num n in
          let done : after ≡ fill (joined (entries p)) lent = listing_done on lent (rw (← c) room) (rw (own_noted image lent num c e, c) at by) in
          asks_yes _ _ _ mine ∙ asks_yes _ _ _ (rw (← c, le-leb _ _ room) tt) ∙ rw (c, done) refl;
    }
