-- A catalog's growth on the image of a unit, and SYS's: what its steps ask for, and that they leave the grown unit's image.
use Rattle.std.specs.Prelude.{Option, Some, None}
use mathlib.Core.Path.{◌≡◌, refl, sym, ap, ap₂, ◌∙◌}
use mathlib.Core.List.{List, [], ◌++◌}
use mathlib.Core.Option.{none}
use Prim.Native.Nat.{ℕ, suc, ◌+◌, ◌*◌, ◌-◌, ◌%◌, ◌≤◌, ◌<◌}
use native.Mathlib.Omega.{arith}
use native.Mathlib.Nat.{mul_comm, mul-le-mul_left, mul-le-mul_right}
use native.Mathlib.Numerals.{add-one}
use lib.ListN.{length, length-append}
use Rattle.disc.specs.Names.{SYS}
use Rattle.disc.specs.Slices.{InRangeOnce, last_of}
use Rattle.disc.specs.Kit.{sys_index_sector}
use Rattle.disc.specs.Map.{ones_in_map}
use Rattle.disc.specs.Entries.{system_entry, sys_entry}
use Rattle.disc.specs.Catalog.{Catalog, slices_for, slices_needed, place_sector}
use Rattle.disc.proofs.NumberLaws.{ceil_div_mono}
use Rattle.disc.proofs.Geometry.{ceil_cover}
use Rattle.disc.proofs.SliceLaws.{sum_law, length_taken}
use Rattle.words.specs.Store.{store}
use Rattle.words.proofs.StoreLaws.{length_store}
use Rattle.index.specs.Block.{whole_index, block_at, slice_total}
use Rattle.catalog.specs.declared.Place.{Place}
use Rattle.catalog.specs.declared.Unit.{Unit}
use Rattle.catalog.specs.Catalog.{place_start}
use Rattle.plain.specs.Unit.{Plain, sys_of, M, held, entry}
use Rattle.plain.specs.Taking.{taking}
use Rattle.plain.proofs.TableLaws.{some≢none}
use Rattle.plain.proofs.UnitLaws.{entry_sys}
use Rattle.refine.specs.OnDisc.{OnDisc}
use Rattle.refine.specs.Writes.{counted_free, store_place, zeroed_sectors, taken_image, layered_image, grown_image, grown_sys}
use Rattle.refine.proofs.Ground.{Ground, ground, top}
use Rattle.preservation.proofs.WriteLaws.{counted_word, zeroed_size}
use Rattle.preservation.proofs.GrowStep.{grow_on}
use Rattle.preservation.specs.Units.{layer_of, layer_slices, grown_unit}
use Rattle.lookup.specs.Unit.{NumbersWith}
use Rattle.lookup.specs.Unit.{NumbersOf}
use Rattle.lookup.specs.Find.{NameAt, FindsName}
use Rattle.lookup.proofs.UnitLaws.{on_catalog}
use Rattle.lookup.proofs.FindLaws.{place_room}
use Rattle.slices.specs.Take.{CanLengthenFrom, CanLengthen, LengthenedAt}
use Rattle.slices.specs.Zero.{CanZeroFrom, CanZero, Zeroed}
use Rattle.slices.proofs.StoreLaws.{length_taken_image, catalog_fresh, longer_file}
use Rattle.grow.specs.Grow.{CanGrowFrom, LayerAdded, with_layers, GrownFrom}
use Rattle.grow.proofs.BlockLaws.{slices_for_lem, catalog_file, catalog_block, catalog_had}

module _ {image : List ℕ} {o : Unit} {p : Plain} {c : Catalog} (can : CanGrowFrom image o p c) where
  on : OnDisc image p
  on = can.catalog.on

  num : NumbersWith o p c
  num = can.catalog.numbers

  abbrev more : ℕ
  more = (taking p c (suc c.layers) [] 0).for_catalog

  gr : Ground p
  gr = ground p on.good

  -- ---- its index block

  can_own : {block : List ℕ} → block ≡ block_at image o.catalog.index.0 → CanLengthenFrom image block p.F p.s (M p) more (held p) c.slices (layer_of p c)
  can_own e = record {
    file = catalog_block can.catalog e;
    map = on.layout.map;
    once = on.good.once;
    enough = can.room;
    part = can.catalog.part;
    few = can.few;
  }

  -- ---- numbers

  -- the slices with the layer are those of a unit
  longer_once : InRangeOnce (M p) (c.slices ++ layer_of p c)
  longer_once = (longer_file (can_own refl) (catalog_fresh (can_own refl)) {after = image} {longer = whole_index p.F p.s (c.slices ++ layer_of p c)} refl refl).own.once

  longer_sectors : p.s * length (c.slices ++ layer_of p c) + 10 ≤ 32767
  longer_sectors =
      let few : length (c.slices ++ layer_of p c) ≤ M p = omega (arith, sum_law (M p) (c.slices ++ layer_of p c) longer_once) in
      omega (arith, mul-le-mul_left p.s few, top p gr, on.good.limits.sectors, on.good.limits.first)

  layer_count : length (c.slices ++ layer_of p c) ≡ slices_needed p.H p.s c (suc c.layers)
  layer_count =
      omega (
        arith,
        length-append c.slices (layer_of p c),
        length_taken (M p) (held p) (last_of c.slices) more,
        can.catalog.count,
        slices_for_lem c.from p.s (p.H * c.layers),
        slices_for_lem c.from p.s (p.H * suc c.layers),
        ceil_div_mono p.s {a = p.H * c.layers + c.from} {b = p.H * suc c.layers + c.from} (omega (arith, on.good.limits.slice_low)) (omega arith),
      )

  -- its sectors too, with those before its blocks
  cover : p.H * suc c.layers + c.from ≤ length (c.slices ++ layer_of p c) * p.s
  cover =
      ceil_cover p.s (p.H * suc c.layers + c.from) (length (c.slices ++ layer_of p c)) (omega (arith, on.good.limits.slice_low))
      (omega (arith, layer_count, slices_for_lem c.from p.s (p.H * suc c.layers)))

  small : p.H * suc c.layers + c.from + 10 ≤ 32767
  small = omega (arith, cover, longer_sectors, mul_comm p.s (length (c.slices ++ layer_of p c)))

  pub layers_small : o.catalog.layers + 1 < 32768
  layers_small = omega (arith, small, num.catalog.layers, mul-le-mul_right (suc c.layers) on.good.limits.keys_low)

  pub blocks_small : o.catalog.keys * (o.catalog.layers + 1) < 32768
  blocks_small = rw (num.catalog.keys, num.catalog.layers, add-one c.layers) (omega (arith, small))

  pub from_small : o.catalog.keys * o.catalog.layers + o.catalog.from < 32768
  from_small = rw (num.catalog.keys, num.catalog.layers, num.catalog.from) (omega (arith, small))

  slices_is : slices_for o.catalog.from o.slice (o.catalog.keys * (o.catalog.layers + 1)) ≡ length (c.slices ++ layer_of p c)
  slices_is = rw (num.catalog.keys, num.catalog.from, num.slice, num.catalog.layers, add-one c.layers) (sym layer_count)

  pub reserved_small : o.slice * slices_for o.catalog.from o.slice (o.catalog.keys * (o.catalog.layers + 1)) < 32768
  reserved_small = rw (slices_is, num.slice) (omega (arith, longer_sectors))

  pub slices_small : slices_for o.catalog.from o.slice (o.catalog.keys * (o.catalog.layers + 1)) < 32768
  slices_small = omega (arith, slices_is, longer_sectors, mul-le-mul_right (length (c.slices ++ layer_of p c)) on.good.limits.slice_low)

  -- ---- its slices

  pub more_is : {block : List ℕ} {n : ℕ} → block ≡ block_at image o.catalog.index.0 → n ≡ slices_for o.catalog.from o.slice (o.catalog.keys * (o.catalog.layers + 1)) - slice_total o.slice block 0 → n ≡ more
  more_is e q = q ∙ ap₂ (λ (a b : ℕ). a - b) (slices_is ∙ layer_count) (catalog_had can.catalog e)

  pub more_small : more < 65536
  more_small = omega (arith, can.room, sum_law (M p) (held p) on.good.once, on.good.limits.slices_high)

  pub can_lengthen : {block : List ℕ} {n : ℕ} → block ≡ block_at image o.catalog.index.0 → n ≡ more → CanLengthen image block o.first.0 o.slice o.slices n
  can_lengthen {block} {n} e q = record {
    held = held p;
    slices = c.slices;
    can = rw (num.first, num.slice, num.slices, q) (can_own e);
  }

  pub index_inside : o.catalog.index.0 * 256 + 256 ≤ length image
  index_inside = rw num.catalog.index can.catalog.inside

  module _ {block taken longer : List ℕ} {n : ℕ} (e : block ≡ block_at image o.catalog.index.0) (q : n ≡ more)
      (took : LengthenedAt image block o.catalog.index.0 o.first.0 o.slice o.slices n taken longer) where
    took_is : (taken ≡ taken_image image c.index p.F p.s c.slices (layer_of p c)) × (longer ≡ whole_index p.F p.s (c.slices ++ layer_of p c))
    took_is =
        let own : LengthenedAt image block c.index p.F p.s (M p) more taken longer = rw (num.catalog.index, num.first, num.slice, num.slices, q) at took in
        own.all (held p) c.slices (can_own e)

    same : length taken ≡ length image
    same = ap length took_is.0 ∙ length_taken_image image c.index p.F p.s c.slices (layer_of p c)

    zero_own : CanZeroFrom taken longer (p.H * c.layers + c.from) p.H p.F p.s (M p) (c.slices ++ layer_of p c)
    zero_own = record {
      file = longer_file (can_own e) (catalog_fresh (can_own e)) same took_is.1;
      room = λ some. omega (arith, cover, mul_comm p.s (length (c.slices ++ layer_of p c)));
    }

    pub can_zero : CanZero taken longer (o.catalog.keys * o.catalog.layers + o.catalog.from) o.catalog.keys
    can_zero = record {
      F = p.F;
      s = p.s;
      m = M p;
      slices = c.slices ++ layer_of p c;
      can = rw (num.catalog.keys, num.catalog.layers, num.catalog.from) zero_own;
    }

    pub layer_added : {after : List ℕ} → Zeroed taken longer (o.catalog.keys * o.catalog.layers + o.catalog.from) o.catalog.keys after → after ≡ layered_image p c image (layer_of p c)
    layer_added {after} z =
        let own : Zeroed taken longer (p.H * c.layers + c.from) p.H after = rw (num.catalog.keys, num.catalog.layers, num.catalog.from) at z in
        own.all p.F p.s (M p) (c.slices ++ layer_of p c) zero_own
        ∙ ap (λ (l : List ℕ). zeroed_sectors l p.F p.s (c.slices ++ layer_of p c) (p.H * c.layers + c.from) p.H) took_is.0

  length_layered : length (layered_image p c image (layer_of p c)) ≡ length image
  length_layered =
      zeroed_size (taken_image image c.index p.F p.s c.slices (layer_of p c)) p.F p.s (c.slices ++ layer_of p c) (p.H * c.layers + c.from) p.H
      ∙ length_taken_image image c.index p.F p.s c.slices (layer_of p c)

-- ---- SYS's place

module _ {image : List ℕ} {o : Unit} {p : Plain} (can : CanGrowFrom image o p (sys_of p)) where
  module _ {n : ℕ} {found : Option Place} (is : n ≡ SYS) (finds : FindsName image o n found) where
    -- SYS is entered
    pub never_nothing : found ≡ None → ⊥
    never_nothing e =
        let h : entry p n ≡ none = (finds.all p (on_catalog (on can)) (num can)).nothing e in
        some≢none (sym (entry_sys p) ∙ ap (entry p) (sym is) ∙ h)

    module _ {place : Place} (e : found ≡ Some place) where
      at : NameAt image p n place
      at = (finds.all p (on_catalog (on can)) (num can)).at place e

      abbrev t : ℕ
      t = at.number

      module _ {layered : List ℕ} (added : LayerAdded image o layered) where
        pub place_inside : place_start place + 16 ≤ length layered
        place_inside = omega (arith, place_room (on_catalog (on can)) at.is, ap length (added.all p (sys_of p) can), length_layered can)

        module _ {entered : List ℕ} {size reserved : ℕ} (stored : entered ≡ store layered (place_start place) (system_entry SYS size o.catalog.index.0 reserved))
            (long : size ≡ o.catalog.keys * (o.catalog.layers + 1)) (booked : reserved ≡ o.slice * slices_for o.catalog.from o.slice (o.catalog.keys * (o.catalog.layers + 1))) where
          entered_is : entered ≡ store_place p (sys_of p) (layered_image p (sys_of p) image (layer_slices p)) t (sys_entry p.H p.s (suc p.layers) (p.sys ++ layer_slices p))
          entered_is =
              let start : place_start place ≡ place_sector p.F p.s (sys_of p) t * 256 + t % 16 * 16 = ap₂ (λ (q i : ℕ). q * 256 + i * 16) at.is.sector at.is.slot in
              let a : size ≡ p.H * suc p.layers = rw (← (num can).catalog.keys, ← add-one p.layers, ← (num can).catalog.layers) long in
              let b : reserved ≡ p.s * length (p.sys ++ layer_slices p) = booked ∙ ap₂ (λ (s c : ℕ). s * c) (num can).slice (slices_is can) in
              stored ∙ ap (λ (q : ℕ). store layered (place_start place) (system_entry SYS size q reserved)) (num can).catalog.index
              ∙ ap₂ (λ (l : List ℕ) (i : ℕ). store l i (system_entry SYS size sys_index_sector reserved)) (added.all p (sys_of p) can) start
              ∙ ap₂ (λ (x y : ℕ). store (layered_image p (sys_of p) image (layer_slices p)) (place_sector p.F p.s (sys_of p) t * 256 + t % 16 * 16) (system_entry SYS x sys_index_sector y)) a b

          on_grown : OnDisc (grown_sys p image t (layer_slices p)) (grown_unit p)
          on_grown = grow_on (on can) can.room can.few t at.is.inside (at.named ∙ is)

          pub can_count : (2560 ≤ length entered) × (o.slice * ones_in_map entered < 65536)
          unfolding grown_image
          can_count =
              let far : 2560 ≤ length entered =
              omega (arith, ap length stored, length_store layered (place_start place) (system_entry SYS size o.catalog.index.0 reserved), ap length (added.all p (sys_of p) can), length_layered can, (catalog_file can.catalog refl).long) in
              let fits : p.s * ones_in_map entered < 65536 = counted_word entered p.s far (rw entered_is on_grown.words) in
              (far, rw (num can).slice fits)

          pub grown_from : {after : List ℕ} → after ≡ counted_free entered o.slice → GrownFrom image p after
          unfolding grown_image
          grown_from q = record {
            place = t;
            inside = at.is.inside;
            named = at.named ∙ is;
            written = q ∙ ap₂ counted_free entered_is (num can).slice;
          }

  -- the image afterwards is that of the grown unit
  pub grown_on : {after : List ℕ} → GrownFrom image p after → OnDisc after (grown_unit p)
  grown_on g = rw g.written (grow_on (on can) can.room can.few g.place g.inside g.named)

  -- the numbers of the grown unit
  pub grown_numbers : (r : Unit) → r ≡ with_layers o (o.catalog.layers + 1) → NumbersOf r (grown_unit p)
  grown_numbers r e =
      let c = (num can).catalog in
      rw e (record {
        slice = (num can).slice;
        first = (num can).first;
        slices = (num can).slices;
        catalog = record { index = c.index; from = c.from; keys = c.keys; layers = ap (λ (l : ℕ). l + 1) c.layers ∙ add-one p.layers };
      })
