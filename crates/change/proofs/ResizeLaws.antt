-- The slices and blocks of a file cut or lengthened: what the writes ask for, and that they leave the image of the file after it.
use mathlib.Core.Path.{◌≡◌, refl, sym, ap, ap₂, ◌∙◌}
use mathlib.Core.List.{List, [], ◌++◌, append-nil}
use Prim.Native.Nat.{ℕ, zero, suc, ◌+◌, ◌*◌, ◌-◌, ◌≤◌, ◌<◌}
use native.Mathlib.Omega.{arith}
use native.Mathlib.Nat.{mul_comm}
use lib.ListN.{length, take, drop, drop_of_length-le}
use lib.Seq.{take_all, drop_at}
use Rattle.disc.specs.Numbers.{need}
use Rattle.disc.specs.Slices.{occurrences, InRangeOnce}
use Rattle.disc.specs.OneStretch.{taken_for_file}
use Rattle.disc.specs.Stretches.{sector_in, file_from}
use Rattle.disc.proofs.NumberLaws.{ceil_div_le}
use Rattle.disc.proofs.SliceLaws.{occurrences_append, length_after, occurrences-take}
use Rattle.disc.proofs.OneStretchLaws.{length_for_file, for_file_law, for_file_none}
use Rattle.index.specs.Block.{whole_index}
use Rattle.catalog.specs.declared.Unit.{Unit}
use Rattle.plain.specs.Unit.{Plain, File, M, held}
use Rattle.refine.specs.Writes.{zeroed_sectors, taken_image, cut_image, resized_image}
use Rattle.refine.proofs.Ground.{Ground, ground, part_file}
use Rattle.preservation.proofs.ResizeLaws.{Resizes, resizes_taken, cut_none, resliced_size}
use Rattle.preservation.proofs.WriteLaws.{taken_none}
use Rattle.slices.specs.FileBlock.{FileBlock}
use Rattle.slices.specs.Take.{CanLengthenFrom, CanLengthenFile, Lengthened}
use Rattle.slices.specs.Give.{CanCutFrom, CanCut, Cut}
use Rattle.slices.specs.Zero.{CanZeroFrom, CanZero, Zeroed}
use Rattle.slices.proofs.BlockLaws.{unit_file}
use Rattle.change.specs.declared.resize.Extent.{Extent}
use Rattle.change.specs.Resize.{slices_then, CanResliceFrom, sliced_image, Resliced, CanResizeFrom}

-- ---- the slices

module _ {image : List ℕ} {o : Unit} {block : List ℕ} {had has : ℕ} {p : Plain} {n : ℕ} {f : File} (can : CanResliceFrom image o block had has p n f) where
  abbrev l : List ℕ
  l = f.slices

  abbrev new : List ℕ
  new = taken_for_file (M p) (held p) l (has - length l)

  abbrev l' : List ℕ
  l' = slices_then p f has

  gr : Ground p
  gr = ground p can.on.good

  part : (k : ℕ) → occurrences k l ≤ occurrences k (held p)
  part = part_file p gr n f can.file

  had_file : FileBlock image block p.F p.s (M p) l
  had_file =
      unit_file image block l can.on.good.limits can.on.layout.size can.words (can.on.good.catalog.files n f can.file).few
      (λ k. omega (arith, part k, can.on.good.once k))

  new-length : length new ≡ has - length l
  new-length = length_for_file (M p) (held p) l (has - length l)

  pub then_resizes : Resizes l (slices_then p f has)
  then_resizes = resizes_taken l l' new has new-length refl

  pub then-length : length (slices_then p f has) ≡ has
  then-length = length_after l l' new has new-length refl

  -- fewer, or as many
  module _ (fewer : has ≤ had) where
    then_cut : slices_then p f has ≡ take has l
    then_cut =
        let z : has - length l ≡ 0 = omega (arith, can.count) in
        ap (λ (x : ℕ). take has l ++ taken_for_file (M p) (held p) l x) z ∙ ap (λ (x : List ℕ). take has l ++ x) (for_file_none (M p) (held p) l) ∙ append-nil (take has l)

    cut_from : CanCutFrom image block p.F p.s (M p) had l
    cut_from = record { file = had_file; count = sym can.count }

    pub can_cut : CanCut image block o.first.0 o.slice had
    can_cut = rw (can.numbers.first, can.numbers.slice) (record { m = M p; slices = l; can = cut_from })

    pub cut_sliced : {after cut : List ℕ} → Cut image block o.first.0 o.slice has had after cut
        → (after ≡ sliced_image p image l (slices_then p f has)) × (cut ≡ whole_index p.F p.s (slices_then p f has))
    cut_sliced {after} {cut} c =
        let own : Cut image block p.F p.s has had after cut = rw (can.numbers.first, can.numbers.slice) at c in
        let r = own.all (M p) l cut_from in
        let q : ℕ = sector_in p.F p.s l' 0 in
        let none_new : drop (length l) l' ≡ [] = drop_of_length-le l' {i = length l} (omega (arith, then-length, can.count)) in
        let i : List ℕ = cut_image image q p.F p.s l (length l') in (
          r.0 ∙ ap (λ (k : List ℕ). cut_image image (sector_in p.F p.s k 0) p.F p.s l has) (sym then_cut)
              ∙ ap (cut_image image q p.F p.s l) (sym then-length) ∙ sym (taken_none i q p.F p.s l)
              ∙ ap (taken_image i q p.F p.s l) (sym none_new),
          r.1 ∙ ap (whole_index p.F p.s) (sym then_cut),
        )

  -- more
  module _ (more : had < has) where
    then_longer : slices_then p f has ≡ l ++ new
    then_longer = ap (λ (k : List ℕ). k ++ new) (take_all has l (omega (arith, can.count)))

    longer_from : {k : ℕ} → k ≡ has - had → CanLengthenFrom image block p.F p.s (M p) k (held p) l (taken_for_file (M p) (held p) l k)
    longer_from {k} e =
        let z : has - length l ≡ k = omega (arith, can.count) in
        record {
          file = had_file;
          map = can.on.layout.map;
          once = can.on.good.once;
          enough = omega (arith, can.room);
          part = part;
          few = rw z at (rw then_longer at can.few);
        }

    pub can_lengthen : CanLengthenFile image block o.first.0 o.slice o.slices (has - had)
    can_lengthen = rw (can.numbers.first, can.numbers.slice, can.numbers.slices) (record { held = held p; slices = l; can = longer_from refl })

    pub longer_sliced : {after longer : List ℕ} → Lengthened image block o.first.0 o.slice o.slices (has - had) after longer
        → (after ≡ sliced_image p image l (slices_then p f has)) × (longer ≡ whole_index p.F p.s (slices_then p f has))
    longer_sliced {after} {longer} c =
        let own : Lengthened image block p.F p.s (M p) (has - had) after longer = rw (can.numbers.first, can.numbers.slice, can.numbers.slices) at c in
        let z : has - had ≡ has - length l = omega (arith, can.count) in
        let r = own.all (held p) l (longer_from refl) in
        let e : l ++ taken_for_file (M p) (held p) l (has - had) ≡ l' = ap (λ (x : ℕ). l ++ taken_for_file (M p) (held p) l x) z ∙ sym then_longer in
        let q : ℕ = sector_in p.F p.s l' 0 in
        let same : cut_image image q p.F p.s l (length l') ≡ image = cut_none image q p.F p.s l (length l') (omega (arith, then-length, can.count)) in
        let last : taken_for_file (M p) (held p) l (has - had) ≡ drop (length l) l' =
        ap (taken_for_file (M p) (held p) l) z ∙ sym (drop_at l new (length l) refl) ∙ ap (drop (length l)) (sym then_longer) in (
          r.0 ∙ ap (λ (k : List ℕ). taken_image image (sector_in p.F p.s k 0) p.F p.s l (taken_for_file (M p) (held p) l (has - had))) e
              ∙ ap₂ (λ (i k : List ℕ). taken_image i q p.F p.s l k) (sym same) last,
          r.1 ∙ ap (whole_index p.F p.s) e,
        )

  -- the block afterwards is a file's
  pub then_once : InRangeOnce (M p) (slices_then p f has)
  then_once k =
      omega (
        arith,
        occurrences_append k (take has l) new,
        occurrences_append k new (held p),
        occurrences-take k has l,
        part k,
        for_file_law (M p) (held p) l (has - length l) can.on.good.once can.room k,
      )

  pub then_file : {after block' : List ℕ} → Resliced image o block had has after block' → FileBlock after block' p.F p.s (M p) (slices_then p f has)
  then_file {after} {block'} r =
      let e = r.all p n f can in
      unit_file after block' l' can.on.good.limits
      (ap length e.0 ∙ resliced_size image (sector_in p.F p.s l' 0) p.F p.s then_resizes ∙ can.on.layout.size) e.1 can.few then_once

-- ---- the blocks

need_sectors : (s n k : ℕ) → 1 ≤ s → 1 ≤ n → need s n ≤ k → n + 1 ≤ s * k
need_sectors s zero k a b h = absurd (omega arith)
need_sectors s (suc n) k a b h = omega (arith, (ceil_div_le (suc n + 1) s k a).0 h, mul_comm s k)

module _ {image : List ℕ} {o : Unit} {block : List ℕ} {had has : Extent} {p : Plain} {n : ℕ} {f : File} (can : CanResizeFrom image o block had has p n f)
    {sliced block' : List ℕ} (r : Resliced image o block had.slices has.slices sliced block') where
  abbrev slices' : List ℕ
  slices' = slices_then p f has.slices

  told : (sliced ≡ sliced_image p image f.slices slices') × (block' ≡ whole_index p.F p.s slices')
  told = r.all p n f can.slices

  module _ (f' : File) (is : f'.slices ≡ slices_then p f has.slices) (size : length f'.sectors ≡ has.size) where
    sliced_is : sliced ≡ sliced_image p image f.slices f'.slices
    sliced_is = told.0 ∙ ap (sliced_image p image f.slices) (sym is)

    pub block_is : block' ≡ whole_index p.F p.s f'.slices
    block_is = told.1 ∙ ap (whole_index p.F p.s) (sym is)

    pub resized_shorter : has.size ≤ had.size → sliced ≡ resized_image p image f f'
    unfolding resized_image zeroed_sectors
    resized_shorter h =
        let z : length f'.sectors - length f.sectors ≡ 0 = omega (arith, can.size) in
        sliced_is
        ∙ ap (zeroed_sectors (sliced_image p image f.slices f'.slices) p.F p.s f'.slices (length f.sectors + file_from)) (sym z)

    pub resized_longer : {after : List ℕ} → after ≡ zeroed_sectors sliced p.F p.s slices' (had.size + 1) (has.size - had.size)
        → after ≡ resized_image p image f f'
    unfolding resized_image
    resized_longer e =
        let from : had.size + 1 ≡ length f.sectors + file_from = omega (arith, can.size) in
        let more : has.size - had.size ≡ length f'.sectors - length f.sectors = omega (arith, can.size) in
        e ∙ ap₂ (λ (i k : List ℕ). zeroed_sectors i p.F p.s k (had.size + 1) (has.size - had.size)) sliced_is (sym is)
        ∙ ap₂ (zeroed_sectors (sliced_image p image f.slices f'.slices) p.F p.s f'.slices) from more

  zero_from : had.size < has.size → CanZeroFrom sliced block' (had.size + 1) (has.size - had.size) p.F p.s (M p) slices'
  zero_from h = record {
    file = then_file can.slices r;
    room = λ some.
        let low = can.slices.on.good.limits.slice_low in
        omega (
          arith,
          need_sectors p.s has.size has.slices (omega (arith, low)) (omega arith) can.needed,
          ap (λ (x : ℕ). p.s * x) (then-length can.slices),
        );
  }

  pub can_zero : had.size < has.size → CanZero sliced block' (had.size + 1) (has.size - had.size)
  can_zero h = record { F = p.F; s = p.s; m = M p; slices = slices'; can = zero_from h }

  pub zeroed : {after : List ℕ} → had.size < has.size → Zeroed sliced block' (had.size + 1) (has.size - had.size) after
      → after ≡ zeroed_sectors sliced p.F p.s slices' (had.size + 1) (has.size - had.size)
  zeroed h z = z.all p.F p.s (M p) slices' (zero_from h)
