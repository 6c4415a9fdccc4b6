-- What the image says of a file by its index block: its slices and stretches, and whether one more can be taken.
use Rattle.std.specs.Prelude.{Result}
use mathlib.Core.Path.{◌≡◌, refl, sym, ap, ap₂, ◌∙◌}
use mathlib.Core.Bool.{Bool, true, false}
use mathlib.Core.List.{List}
use mathlib.Core.Logic.{◌≢◌}
use mathlib.Core.Option.{some}
use Prim.Native.Nat.{ℕ, suc, ◌+◌, ◌<◌}
use native.Mathlib.Omega.{arith}
use native.Mathlib.Numerals.{add-one}
use lib.Dec.{ltb}
use lib.ListN.{length}
use borrow.Author.Tests.{le-leb}
use Rattle.types.specs.declared.Slice.{Slice}
use Rattle.disc.specs.Numbers.{need}
use Rattle.disc.specs.Slices.{InRangeOnce}
use Rattle.disc.proofs.SliceLaws.{sum_law}
use Rattle.index.specs.Block.{whole_index, slice_total}
use Rattle.catalog.specs.declared.Unit.{Unit}
use Rattle.plain.specs.Table.{table_find}
use Rattle.plain.specs.Unit.{Plain, File, M, held, free_slices}
use Rattle.plain.specs.Transput.{one_if, slices_to_take}
use Rattle.refine.specs.OnDisc.{OnDisc}
use Rattle.refine.proofs.Ground.{ground, part_file}
use Rattle.slices.specs.declared.Lack.{Lack}
use Rattle.slices.specs.FileBlock.{FileBlock}
use Rattle.slices.specs.Take.{CanTakeFrom, next_word, next_asked, Chosen}
use Rattle.slices.proofs.BlockLaws.{block_total, unit_file}
use Rattle.slices.proofs.TakeLaws.{unit-take}
use Rattle.output.specs.Output.{room_word, RoomFor}

-- ---- the block of a file on the image

module _ {image : List ℕ} {p : Plain} (on : OnDisc image p) (n : ℕ) {f : File} (file : table_find n p.files ≡ some f) where
  once : InRangeOnce (M p) f.slices
  once k = omega (arith, on.good.once k, part_file p (ground p on.good) n f file k)

  pub file_block : {words : List ℕ} → words ≡ whole_index p.F p.s f.slices → FileBlock image words p.F p.s (M p) f.slices
  file_block {words} e = unit_file image words f.slices on.good.limits on.layout.size e (on.good.catalog.files n f file).few once

  -- ---- the slices of its block

  module _ {words : List ℕ} (e : words ≡ whole_index p.F p.s f.slices) where
    pub total_is : slice_total p.s words 0 ≡ length f.slices
    total_is = block_total (file_block e).own

    pub total_small : slice_total p.s words 0 < 65536
    total_small = omega (arith, total_is, sum_law (M p) f.slices once, on.good.limits.slices_high)

    pub more_is : {r len : ℕ} → len ≡ length f.sectors → r ≡ one_if (ltb (slice_total p.s words 0) (need p.s (len + 1))) → r ≡ slices_to_take p.s f
    more_is {r} {len} l q =
        q ∙ ap₂ (λ (a b : ℕ). one_if (ltb a (need p.s b))) total_is (add-one len ∙ ap suc l)

    -- ---- the questions of an append

    one_most : (b : Bool) → one_if b ≢ 0 → one_if b ≡ 1
    one_most true d = refl
    one_most false d = absurd (d refl)

    room_none : slices_to_take p.s f ≡ 0 → 0 ≡ room_word p f
    unfolding room_word
    room_none z = rw (z, le-leb 0 (free_slices p) (omega arith)) refl

    room_some : slices_to_take p.s f ≢ 0 → next_asked (M p) (held p) f.slices ≡ room_word p f
    unfolding room_word next_asked
    room_some d = rw (one_most (ltb (length f.slices) (need p.s (suc (length f.sectors)))) d) refl

    pub can-take : CanTakeFrom image words p.F p.s (M p) 0 (held p) f.slices
    can-take = unit-take on (file_block e) (omega arith) (part_file p (ground p on.good) n f file)

-- ---- the room for an append, by what the code finds

module _ {image : List ℕ} {o : Unit} {words : List ℕ} {more : ℕ} where
  pub room_by_none : more ≡ 0 → RoomFor image o words more 0
  room_by_none z = record { all = λ p on num n f file w m. room_none on n file w (sym m ∙ z) }

  pub room_by : more ≢ 0 → {r : Result Slice Lack} {word : ℕ} → Chosen image words o.first.0 o.slice o.slices r → word ≡ next_word r → RoomFor image o words more word
  room_by d {r} c e = record {
    all = λ p on num n f file w m.
        let own : Chosen image words p.F p.s (M p) r = rw (num.first, num.slice, num.slices) at c in
        e ∙ (own.all (held p) f.slices (can-take on n file w)).word ∙ room_some on n file w (λ y. d (m ∙ y));
  }
