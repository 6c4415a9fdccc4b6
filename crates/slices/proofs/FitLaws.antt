-- Whether a catalog and a file have room, tried on a copy of the map.
use mathlib.Core.Path.{◌≡◌, ap, ◌∙◌}
use mathlib.Core.Bool.{Bool, true, false}
use mathlib.Core.List.{List, ◌++◌}
use Prim.Native.Nat.{ℕ, ◌-◌, ◌/◌, ◌%◌, ◌≤◌}
use native.Mathlib.Omega.{arith}
use lib.ListN.{length, take, drop}
use Rattle.disc.specs.Numbers.{bit_word}
use Rattle.disc.specs.Words.{word}
use Rattle.disc.specs.Slices.{taken, last_of}
use Rattle.disc.specs.Kit.{map_sector}
use Rattle.disc.specs.Map.{map_bit}
use Rattle.disc.proofs.DecideLaws.{fails}
use Rattle.disc.proofs.SliceLaws.{occurrences_append}
use Rattle.words.specs.Store.{store, sector_words}
use Rattle.words.proofs.StoreLaws.{store_in, length_store, length-sector_words, get_d_sector_words}
use Rattle.slices.specs.declared.Growth.{Growth}
use Rattle.slices.specs.Take.{CanTakeFrom, CanTake, Taken, FileTaken}
use Rattle.slices.specs.Fit.{CanFitFrom, CanFit, Fits}
use Rattle.slices.proofs.TakeLaws.{can_fewer, can_fresh, can_after}

-- the copy has the image's map
pub record Copied (image scratch : List ℕ) : Type 0 where
  pub long : 2560 ≤ length scratch
  pub bits : (k : ℕ) → 1 ≤ k → k ≤ 4096 → map_bit scratch k ≡ map_bit image k

pub map_copied : (image blank : List ℕ) {scratch : List ℕ} → 2560 ≤ length image → 2560 ≤ length blank → scratch ≡ store blank 2304 (take 256 (drop 2304 image)) → Copied image scratch
unfolding sector_words map_bit
map_copied image blank long room copy =
    let map : List ℕ = sector_words image map_sector in
    let n : length map ≡ 256 = length-sector_words image map_sector (omega arith) in
    record {
      long = omega (arith, ap length copy, length_store blank 2304 map);
      bits = λ k a b.
          let w : ℕ = (k - 1) / 16 in
          ap (λ (l : List ℕ). word l map_sector w / bit_word ((k - 1) % 16) % 2) copy
          ∙ ap (λ (x : ℕ). x / bit_word ((k - 1) % 16) % 2) (store_in blank 2304 map w (omega arith) (omega arith) ∙ get_d_sector_words image map_sector w (omega arith));
    }

module _ {image scratch : List ℕ} (copy : Copied image scratch) where
  can_copied : {block : List ℕ} {F s m n : ℕ} {held slices : List ℕ} → CanTakeFrom image block F s m n held slices → CanTakeFrom scratch block F s m n held slices
  can_copied can = record {
    own = can.own;
    long = copy.long;
    map = λ k a b. omega (arith, copy.bits k a b, can.map k a b);
    once = can.once;
    enough = can.enough;
    part = can.part;
  }

  module _ {F s m : ℕ} {catalog file : Growth} where
    -- the catalog takes first
    first_from_lem : {held cs fs : List ℕ} → CanFitFrom image F s m catalog file held cs fs → CanTakeFrom scratch catalog.block.words F s m catalog.more held cs
    first_from_lem can = can_fewer (can_copied can.first) (omega arith)

    pub can_first : CanFit image F s m catalog file → CanTake scratch catalog.block.words F s m catalog.more
    can_first fit = record { held = fit.held; slices = fit.catalog_slices; can = first_from_lem fit.can }

    module _ {after new : List ℕ} {r : Bool} (took : Taken scratch catalog.block.words F s m catalog.more after new r) where
      pub first_full : r ≡ false → Fits image F s m catalog file false
      first_full e = record { all = λ held cs fs can. fails (λ p. (took.all held cs (first_from_lem can)).fits.not e p.0) }

      -- then the file
      module _ (e : r ≡ true) where
        second_from : {held cs fs : List ℕ} → CanFitFrom image F s m catalog file held cs fs
            → CanTakeFrom after file.block.words F s m file.more (taken m held (last_of cs) catalog.more ++ held) fs
        second_from {held} {cs} can =
            let new : List ℕ = taken m held (last_of cs) catalog.more in
            rw ((took.all held cs (first_from_lem can)).marked e)
            (can_after catalog.more file.more (can_copied can.first) (can_fresh (first_from_lem can)) can.second.own (λ k. omega (arith, occurrences_append k new held, can.second.part k)))

        pub can_second : CanFit image F s m catalog file → CanTake after file.block.words F s m file.more
        can_second fit = record { held = _; slices = fit.file_slices; can = second_from fit.can }

        pub second_fits : {after₂ new₂ : List ℕ} {r₂ : Bool} → FileTaken after file.block.words F s m file.more after₂ new₂ r₂ → Fits image F s m catalog file r₂
        second_fits then = record {
          all = λ held cs fs can.
              let one = (took.all held cs (first_from_lem can)).fits in
              let two = (then.all (taken m held (last_of cs) catalog.more ++ held) fs (second_from can)).fits in
              record { yes = λ x. (one.yes e, two.yes x); not = λ x p. two.not x p.1 };
        }
