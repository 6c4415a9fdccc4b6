-- Slices taken with the index block stored whole: what the taking asks, and the images that are left.
use mathlib.Core.Path.{◌≡◌, refl, sym, ap, ap₂, ◌∙◌}
use mathlib.Core.Bool.{Bool, true, false}
use mathlib.Core.List.{List, [], ◌++◌, append-nil}
use Prim.Native.Nat.{ℕ, ◌+◌, ◌*◌, ◌≤◌}
use native.Mathlib.Omega.{arith}
use lib.ListN.{length, length-append}
use Rattle.disc.specs.Decide.{Decides}
use Rattle.disc.specs.Slices.{taken, last_of}
use Rattle.disc.specs.Stretches.{sector_in}
use Rattle.disc.specs.OneStretch.{taken_for_file}
use Rattle.disc.proofs.SliceLaws.{none_left}
use Rattle.words.specs.Store.{store}
use Rattle.map.proofs.MarkLaws.{length_all_marked}
use Rattle.index.specs.Block.{whole_index, joint_sector}
use Rattle.refine.specs.Writes.{taken_image}
use Rattle.preservation.proofs.WriteLaws.{taken_size, taken_none}
use Rattle.preservation.proofs.ResizeLaws.{taken_some}
use Rattle.slices.specs.FileBlock.{FileBlock}
use Rattle.slices.specs.Take.{CanTakeFrom, CanTake, TakenFrom, CanLengthenFrom}
use Rattle.slices.proofs.BlockLaws.{first_told, first_room, file_with_lem}
use Rattle.slices.proofs.TakeLaws.{Fresh, fresh_taken, fresh_by, longer_own}

-- what is asked and true is answered yes
granted : {P : Type 0} (r : Bool) → Decides r P → P → r ≡ true
granted true d p = refl
granted false d p = absurd (d.not refl p)

pub length_taken_image : (image : List ℕ) (q F s : ℕ) (slices new : List ℕ) → length (taken_image image q F s slices new) ≡ length image
length_taken_image image q F s slices new = taken_size image q F s slices new ∙ length_all_marked 0 new image

-- the slices to take are n that are not held
pub catalog_fresh : {image block : List ℕ} {F s m n : ℕ} {held slices : List ℕ} → CanLengthenFrom image block F s m n held slices (taken m held (last_of slices) n)
    → Fresh m n held (taken m held (last_of slices) n)
catalog_fresh {m = m} {n} {held} {slices} can = fresh_taken m held (last_of slices) n can.once can.enough

pub file_fresh : {image block : List ℕ} {F s m n : ℕ} {held slices : List ℕ} → CanLengthenFrom image block F s m n held slices (taken_for_file m held slices n)
    → Fresh m n held (taken_for_file m held slices n)
file_fresh {m = m} {n} {held} {slices} can = fresh_by m held slices n can.once can.enough

module _ {image block : List ℕ} {F s m n : ℕ} {held slices more : List ℕ} (can : CanLengthenFrom image block F s m n held slices more) where
  pub can-take : CanTakeFrom image block F s m n held slices
  can-take = record {
    own = can.file.own;
    long = can.file.long;
    map = can.map;
    once = can.once;
    enough = can.enough;
    part = can.part;
  }

  pub can-take_more : CanTake image block F s m n
  can-take_more = record { held = held; slices = slices; can = can-take }

  module _ (fresh : Fresh m n held more) where
    -- the block of the longer file
    pub longer_file : {after longer : List ℕ} → length after ≡ length image → longer ≡ whole_index F s (slices ++ more) → FileBlock after longer F s m (slices ++ more)
    longer_file e w = file_with_lem can.file e (longer_own can-take fresh can.few w)

    pub took_none : (q : ℕ) → n ≡ 0 → (image ≡ taken_image image q F s slices more) × (block ≡ whole_index F s (slices ++ more))
    took_none q z =
        let e : [] ≡ more = sym (none_left more (fresh.count ∙ z)) in (
          sym (taken_none image q F s slices) ∙ ap (taken_image image q F s slices) e,
          can.file.own.words ∙ ap (whole_index F s) (sym (append-nil slices) ∙ ap (λ (l : List ℕ). slices ++ l) e),
        )

    module _ {marked longer : List ℕ} {r : Bool} (took : TakenFrom image F s slices more marked longer r) where
      fitted : r ≡ true
      fitted = granted r took.fits can.few

      pub longer_words : longer ≡ whole_index F s (slices ++ more)
      longer_words = took.words fitted

      -- slices are taken
      module _ (some : 1 ≤ n) where
        pub took_some : (q : ℕ) {after : List ℕ} → after ≡ store marked (q * 256) longer → after ≡ taken_image image q F s slices more
        took_some q a =
            a ∙ ap₂ (λ (l w : List ℕ). store l (q * 256) w) (took.marked fitted) longer_words
            ∙ sym (taken_some image q F s slices more (omega (arith, fresh.count)))

        -- the longer file has a first sector
        took_file : FileBlock marked longer F s m (slices ++ more)
        took_file = longer_file (ap length (took.marked fitted) ∙ length_all_marked 0 more image) longer_words

        any : 1 ≤ length (slices ++ more)
        any = omega (arith, length-append slices more, fresh.count)

        pub took_first : joint_sector longer 0 0 ≡ sector_in F s (slices ++ more) 0
        took_first = first_told took_file.own any

        pub took_room : (q : ℕ) → q ≡ joint_sector longer 0 0 → q * 256 + 256 ≤ length marked
        took_room q e = first_room took_file q any e
