-- SYS grows by a layer: its new slices are marked used, its index is written, H sectors are zeroed, its entry is written and the
-- free word counted.
use mathlib.Core.Path.{◌≡◌, refl, sym, ap, ◌∙◌}
use mathlib.Core.List.{List, ◌++◌}
use mathlib.Core.Logic.{◌≢◌}
use Prim.Native.Nat.{ℕ, suc, ◌+◌, ◌*◌, ◌-◌, ◌/◌, ◌%◌, ◌≤◌, ◌<◌}
use native.Mathlib.Omega.{arith}
use lib.ListN.{length}
use Rattle.disc.specs.Numbers.{ceil_div}
use Rattle.disc.specs.Words.{word, Words, Holds}
use Rattle.disc.specs.Names.{SYS}
use Rattle.disc.specs.Slices.{occurrences}
use Rattle.disc.specs.Stretches.{sector_in, index_words, stretch_count, sys_from}
use Rattle.disc.specs.Kit.{sys_index_sector}
use Rattle.disc.specs.Entries.{place_word, place_count, name_at, sys_entry}
use Rattle.disc.proofs.SliceLaws.{occurrences_append}
use Rattle.words.specs.Store.{store}
use Rattle.words.proofs.StoreLaws.{words_store}
use Rattle.map.specs.Marks.{all_used}
use Rattle.plain.specs.Unit.{Plain, sys_of, held, free_slices, free_sectors, entry}
use Rattle.plain.specs.Good.{Good}
use Rattle.plain.proofs.UnitLaws.{occurrences_held, entry_sys}
use Rattle.plain.proofs.GrowUnit.{entry_but_sys, grown_good}
use Rattle.refine.specs.Represents.{Layout}
use Rattle.refine.specs.OnDisc.{OnDisc}
use Rattle.refine.specs.Writes.{counted_free, store_place, zeroed_sectors, taken_image, grown_image, grown_sys}
use Rattle.refine.proofs.Sectors.{Same, marked_outside-map, same_trans, holds_kept}
use Rattle.refine.proofs.CatalogLaws.{name_cong}
use Rattle.refine.proofs.Ground.{Ground, ground, entry_named, joined_in, sys_ground, catalog_data, place_in}
use Rattle.refine.proofs.Writers.{place_off, place_same, long, write_used, NewLayer, write_layer, layer_old, grown_sector}
use Rattle.preservation.proofs.WriteLaws.{counted_on, counted_keep, zeroed_size, zeroed_keep, zeroed_zero, words_zeroed, taken_size, taken_keep, taken_index, words_taken, part_in_map, words_index_part, words_marks, words_sys_entry, write_own}
use Rattle.preservation.specs.Units.{layer_slices, grown_unit}

module _ {i : List ℕ} {p : Plain} (o : OnDisc i p) (room : ceil_div (p.H * suc p.layers) p.s - length p.sys ≤ free_slices p)
    (few : stretch_count (p.sys ++ layer_slices p) ≤ 127) where
  abbrev new : List ℕ
  new = layer_slices p

  abbrev all : List ℕ
  all = p.sys ++ new

  abbrev grown : Plain
  grown = grown_unit p

  gr : Ground p
  gr = ground p o.good

  good' : Good (grown_unit p)
  good' = grown_good p (suc p.layers) o.good room (omega arith) few

  gr' : Ground grown
  gr' = ground grown good'

  more : (k : ℕ) → occurrences k (held grown) ≡ occurrences k new + occurrences k (held p)
  more k = omega (arith, occurrences_held k p.sys p.files, occurrences_held k all p.files, occurrences_append k p.sys new)

  part : (k : ℕ) → occurrences k new ≤ occurrences k (held grown)
  part k = omega (arith, more k)

  -- the map
  abbrev i₁ : List ℕ
  i₁ = all_used i new

  r₁ : Layout i₁ p (free_sectors p) (held grown) (entry p)
  r₁ = write_used gr o.layout new (held grown) good'.once more

  -- the index, and the zeroed layer
  abbrev i₂ : List ℕ
  i₂ = taken_image i sys_index_sector p.F p.s p.sys new

  abbrev i₃ : List ℕ
  i₃ = zeroed_sectors i₂ p.F p.s all (p.H * p.layers + sys_from) p.H

  size₂ : length i₂ ≡ length i₁
  size₂ = taken_size i sys_index_sector p.F p.s p.sys new

  size₃ : length i₃ ≡ length i₁
  size₃ = zeroed_size i₂ p.F p.s all (p.H * p.layers + sys_from) p.H ∙ size₂

  data₃ : (x : ℕ) → x < p.H * suc p.layers + sys_from → (10 ≤ sector_in p.F p.s all x) × (sector_in p.F p.s all x < p.N)
  data₃ x hi = catalog_data (sys_ground gr') x (joined_in (sys_ground gr') x (omega (arith, hi)))

  zeroed_off : (q : ℕ) → ((b : ℕ) → p.H * p.layers + sys_from ≤ b → b < p.H * suc p.layers + sys_from → q ≢ sector_in p.F p.s all b) → Same i₂ i₃ q
  zeroed_off q off = zeroed_keep i₂ p.F p.s all (p.H * p.layers + sys_from) p.H q (λ x lo hi. off x (omega arith) (omega arith))

  keep₃ : (q : ℕ) → q ≢ 6 → ((b : ℕ) → p.H * p.layers + sys_from ≤ b → b < p.H * suc p.layers + sys_from → q ≢ sector_in p.F p.s all b) → Same i₁ i₃ q
  keep₃ q d off = same_trans (taken_keep i sys_index_sector p.F p.s p.sys new few q (λ x. d)) (zeroed_off q off)

  six₃ : Holds i₃ 6 (index_words p.F p.s all)
  six₃ =
      holds_kept (taken_index i sys_index_sector p.F p.s p.sys new few (omega (arith, long gr r₁)) r₁.sys.index)
      (zeroed_off 6 (λ b lo hi e. let d = data₃ b hi in omega (arith, d.0)))

  zero₃ : (b w : ℕ) → p.H * p.layers + sys_from ≤ b → b < p.H * suc p.layers + sys_from → w < 256 → word i₃ (sector_in p.F p.s all b) w ≡ 0
  zero₃ b w lo hi x =
      zeroed_zero i₂ p.F p.s all (p.H * p.layers + sys_from) p.H (λ y a c. let d = data₃ y (omega arith) in omega (arith, d.1, size₂, r₁.size)) b w (omega arith) (omega arith) x

  layer₃ : NewLayer p (sys_of p) new i₁ i₃
  layer₃ = record { size = size₃; keep = keep₃; index = six₃; zeroed = zero₃ }

  r₃ : Layout i₃ grown (free_sectors p) (held grown) (entry p)
  r₃ = write_layer gr r₁ new gr' i₃ layer₃

  words₃ : Words i₃
  words₃ =
      words_zeroed i₂ p.F p.s all (p.H * p.layers + sys_from) p.H
      (words_taken i sys_index_sector p.F p.s p.sys new (words_marks grown gr' 0 (omega arith) new i part (long gr o.layout) o.words)
      (words_index_part grown gr' all (sys_ground gr').part))

  -- the old places keep their words
  old₁ : (u w : ℕ) → u < place_count p.H p.layers → w < 16 → place_word i₁ p.F p.s p.sys sys_from u w ≡ place_word i p.F p.s p.sys sys_from u w
  old₁ = place_same (sys_ground gr) i i₁ (λ q x.
      (marked_outside-map 0 i new (omega arith) (part_in_map grown gr' new part) (long gr o.layout)).same _ (let d = catalog_data (sys_ground gr) q x in omega (arith, d.0), tt))

  old₃ : (u w : ℕ) → u < place_count p.H p.layers → w < 16 → place_word i₃ p.F p.s all sys_from u w ≡ place_word i p.F p.s p.sys sys_from u w
  old₃ u w x y = layer_old (sys_ground gr) (sys_ground gr') layer₃ u w x y ∙ old₁ u w x y

  module _ (t : ℕ) (in₀ : t < place_count p.H p.layers) (was : name_at (place_word i p.F p.s p.sys sys_from) t ≡ SYS) where
    abbrev e : List ℕ
    e = sys_entry p.H p.s (suc p.layers) all

    abbrev i₄ : List ℕ
    i₄ = store_place p (sys_of p) i₃ t e

    was₃ : name_at (place_word i₃ p.F p.s all sys_from) t ≡ SYS
    was₃ = name_cong (place_word i p.F p.s p.sys sys_from) (place_word i₃ p.F p.s all sys_from) t (λ w x. old₃ t w in₀ x) ∙ was

    -- SYS's entry stands in an old place
    same_place : store_place grown (sys_of grown) i₃ t e ≡ i₄
    same_place = ap (λ (q : ℕ). store i₃ (q * 256 + t % 16 * 16) e) (grown_sector p.F p.s p.sys new (t / 16 + sys_from) (place_in (sys_ground gr) t in₀))

    r₄ : Layout i₄ grown (free_sectors p) (held grown) (entry grown)
    r₄ =
        rw same_place at
        (write_own gr' r₃ (entry_named p o.good.catalog.names) (entry grown) SYS e refl (entry_but_sys p (suc p.layers)) (entry_sys grown) refl (omega arith) t (omega arith) was₃)

    words₄ : Words i₄
    words₄ = words_store i₃ _ e words₃ (words_sys_entry grown good')

    pub grow_on : OnDisc (grown_sys p i t (layer_slices p)) (grown_unit p)
    unfolding grown_image
    grow_on = counted_on good' words₄ r₄

    -- ---- the places afterwards: the old ones but SYS's keep their words, those of the new layer are unused

    -- after the entry and the free word
    late : (u w : ℕ) → u < place_count p.H (suc p.layers) → u ≢ t → w < 16
        → place_word (grown_sys p i t (layer_slices p)) p.F p.s all sys_from u w ≡ place_word i₃ p.F p.s all sys_from u w
    unfolding grown_image
    late u w x d y =
        place_same (sys_ground gr') i₄ (counted_free i₄ p.s) (λ q z. counted_keep i₄ p.s _ (let b = catalog_data (sys_ground gr') q z in omega (arith, b.0))) u w x y
        ∙ ap (λ (j : List ℕ). place_word j p.F p.s all sys_from u w) (sym same_place) ∙ place_off (sys_ground gr') i₃ r₃.size t (omega arith) e refl u w x d y

    pub grow_old : (u w : ℕ) → u < place_count p.H p.layers → u ≢ t → w < 16
        → place_word (grown_sys p i t (layer_slices p)) p.F p.s (p.sys ++ layer_slices p) sys_from u w ≡ place_word i p.F p.s p.sys sys_from u w
    grow_old u w x d y = late u w (omega arith) d y ∙ old₃ u w x y
