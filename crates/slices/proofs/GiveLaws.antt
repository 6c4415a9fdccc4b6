-- Giving slices back one after the other, and the block of those that are kept.
use mathlib.Core.Path.{◌≡◌, sym, ap, ap₂, ◌∙◌}
use mathlib.Core.List.{List}
use Prim.Native.Nat.{ℕ, ◌+◌, ◌*◌, ◌/◌, ◌%◌, ◌≤◌, ◌<◌}
use native.Mathlib.Omega.{arith}
use native.Mathlib.Nat.{mul-le-mul_right}
use native.Mathlib.Numerals.{add-one}
use lib.ListN.{length, get_or, take, drop, drop_of_length-le}
use lib.Seq.{drop-cons, get_or-take, take_all}
use Rattle.disc.specs.Numbers.{slice_start}
use Rattle.disc.specs.Stretches.{sector_in}
use Rattle.disc.proofs.Geometry.{quot}
use Rattle.words.specs.Store.{store}
use Rattle.map.specs.Marks.{all_marked, all_free, marked_free}
use Rattle.map.proofs.MarkLaws.{length_all_marked}
use Rattle.index.specs.Block.{whole_index, slice_number, joint_sector, cut_to}
use Rattle.index.proofs.BlockLaws.{holds-whole_index}
use Rattle.index.proofs.ReadLaws.{read_number}
use Rattle.index.proofs.ChangeLaws.{cut_whole}
use Rattle.refine.specs.Writes.{cut_image}
use Rattle.preservation.proofs.ResizeLaws.{cut_none, cut_all, cut_some}
use Rattle.slices.specs.Give.{CanFreeFrom, CanCutFrom, CanFree, CanCut, Freed}
use Rattle.slices.proofs.BlockLaws.{positive, slice_in, start_small, first_told, first_room}

-- ---- one slice after the other

module _ {image₀ block : List ℕ} {F s total : ℕ} {slices : List ℕ} (can : CanFreeFrom image₀ block F s total slices) where
  module _ (j : ℕ) (h : j < total) where
    inside : j < length slices
    inside = omega (arith, can.count)

    number_is : slice_number F s j block 0 ≡ get_or slices j 0
    number_is =
        read_number block F s 0 slices can.few (rw can.words (holds-whole_index F s slices)) (omega (arith, can.size)) can.above j inside (can.starts j inside)

    pub number_inside : {k : ℕ} → k ≡ slice_number F s j block 0 → (1 ≤ k) × (k ≤ 4096)
    number_inside e = (omega (arith, number_is, can.above j inside), omega (arith, number_is, can.most j inside))

    pub give_next : (image : List ℕ) (k : ℕ) {after : List ℕ} → k ≡ slice_number F s j block 0 → after ≡ marked_free image k → all_free after (drop (j + 1) slices) ≡ all_free image (drop j slices)
    unfolding all_marked
    give_next image k e a =
        ap (λ (l : List ℕ). all_free l (drop (j + 1) slices)) (a ∙ ap (marked_free image) (e ∙ number_is))
        ∙ ap (λ (n : ℕ). all_free (marked_free image (get_or slices j 0)) (drop n slices)) (add-one j)
        ∙ ap (all_free image) (sym (drop-cons slices j 0 inside))

  pub give_done : (image : List ℕ) (j : ℕ) → total ≤ j → image ≡ all_free image (drop j slices)
  unfolding all_marked
  give_done image j h = ap (all_free image) (sym (drop_of_length-le slices {i = j} (omega (arith, can.count))))

-- ---- a file's slices

module _ {image₀ block : List ℕ} {F s m total : ℕ} {slices : List ℕ} (can : CanCutFrom image₀ block F s m total slices) where
  pub free_from : CanFreeFrom image₀ block F s total slices
  free_from =
      let own = can.file.own in
      record {
        long = can.file.long;
        size = own.size;
        words = own.words;
        few = own.few;
        above = λ j x. (slice_in own j x).0;
        most = λ j x. omega (arith, (slice_in own j x).1, own.most);
        starts = λ j x. start_small own (get_or slices j 0) (slice_in own j x).1;
        count = can.count;
      }

  -- ---- the block of the slices that are kept

  module _ (keep : ℕ) where
    pub gave_none : (q : ℕ) → total ≤ keep → (image₀ ≡ cut_image image₀ q F s slices keep) × (block ≡ whole_index F s (take keep slices))
    gave_none q x =
        let y : length slices ≤ keep = omega (arith, can.count) in
        (sym (cut_none image₀ q F s slices keep y), can.file.own.words ∙ ap (whole_index F s) (sym (take_all keep slices y)))

    pub cut_words : {cut : List ℕ} → cut ≡ cut_to s keep block → cut ≡ whole_index F s (take keep slices)
    cut_words e = e ∙ ap (cut_to s keep) can.file.own.words ∙ cut_whole F s keep slices (positive can.file.own) can.file.own.few

    -- fewer are kept than there are
    module _ (fewer : keep < total) where
      shorter : keep < length slices
      shorter = omega (arith, can.count)

      module _ {freed : List ℕ} (gave : Freed image₀ block F s keep total freed) where
        freed_is : freed ≡ all_free image₀ (drop keep slices)
        freed_is = gave.all slices free_from

        pub gave_all : (q : ℕ) → keep ≡ 0 → freed ≡ cut_image image₀ q F s slices keep
        gave_all q z = freed_is ∙ sym (cut_all image₀ q F s slices keep z shorter)

        pub gave_some : (q : ℕ) {cut after : List ℕ} → 1 ≤ keep → cut ≡ cut_to s keep block → after ≡ store freed (q * 256) cut → after ≡ cut_image image₀ q F s slices keep
        gave_some q x e a =
            a ∙ ap₂ (λ (l w : List ℕ). store l (q * 256) w) freed_is (cut_words e) ∙ sym (cut_some image₀ q F s slices keep x shorter)

        pub gave_room : (q : ℕ) → q ≡ joint_sector block 0 0 → q * 256 + 256 ≤ length freed
        gave_room q e = omega (arith, first_room can.file q (omega arith) e, ap length freed_is, length_all_marked 1 (drop keep slices) image₀)

      -- the first slice is among those kept
      pub gave_first : 1 ≤ keep → joint_sector block 0 0 ≡ sector_in F s (take keep slices) 0
      gave_first x =
          let own = can.file.own in
          let z : 0 / s < keep = quot F s m slices (positive own) own.once 0 keep (omega (arith, mul-le-mul_right s x, own.size)) in
          first_told own (omega arith) ∙ ap (λ (k : ℕ). slice_start F s k + 0 % s) (sym (get_or-take keep slices (0 / s) 0 z))

pub can_free : {image block : List ℕ} {F s total : ℕ} → CanCut image block F s total → CanFree image block F s total
can_free can = record { slices = can.slices; can = free_from can.can }
