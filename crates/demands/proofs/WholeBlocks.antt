-- An index block is written whole where its slices change: each message's writes.
use mathlib.Core.Path.{◌≡◌, sym, ap, ◌∙◌}
use mathlib.Core.List.{List, [], ◌∷◌, ◌++◌}
use mathlib.Core.Logic.{◌≢◌}
use mathlib.Core.Option.{some}
use Prim.Native.Nat.{ℕ, suc, ◌+◌, ◌-◌, ◌*◌, ◌/◌, ◌≤◌, ◌<◌}
use native.Mathlib.Omega.{arith}
use lib.ListN.{length}
use Rattle.disc.specs.Words.{Holds}
use Rattle.disc.specs.Stretches.{sector_in, stretch_count, sys_from}
use Rattle.disc.specs.Kit.{sys_index_sector}
use Rattle.disc.specs.Entries.{place_count}
use Rattle.words.proofs.StoreLaws.{holds_store}
use Rattle.map.specs.Marks.{all_used}
use Rattle.map.proofs.MarkLaws.{InMap, length_all_marked}
use Rattle.index.specs.Block.{whole_index}
use Rattle.index.proofs.BlockLaws.{length-whole_index}
use Rattle.plain.specs.Table.{Table, table_find, table_put}
use Rattle.plain.specs.Unit.{Plain, File, sys_of, AreaUser, with_files, with_tables}
use Rattle.plain.specs.Catalog.{new_name}
use Rattle.plain.specs.Good.{Good}
use Rattle.plain.proofs.TableLaws.{find_put}
use Rattle.refine.specs.Writes.{taken_image, created_image, changed_image, appended_image, grown_sys}
use Rattle.refine.proofs.Sectors.{Same, holds_kept}
use Rattle.refine.proofs.Ground.{Ground, ground, joined_in, sys_ground, first_in, block_in, place_in, catalog_data, file_data, catalog_file, in_file}
use Rattle.preservation.proofs.ResizeLaws.{Resizes, resliced, remarked, resliced_cases, remarked_size}
use Rattle.change.specs.Rewrite.{Rewrites, stayed, moved}
use Rattle.change.specs.Change as change
use Rattle.demands.proofs.MessageFrames.{Off, OffIndex, layer_keep, entered_keep, created_keep, rewritten_keep, moved_keep, stored_keep}
use Rattle.demands.proofs.Slack.{changed_file, changed_resizes}

-- ---- the block as it is stored

module _ (i : List ℕ) (r F s : ℕ) (inside : r * 256 + 256 ≤ length i) where
  taken_whole : (slices new : List ℕ) → stretch_count (slices ++ new) ≤ 127 → 0 < length new → Holds (taken_image i r F s slices new) r (whole_index F s (slices ++ new))
  unfolding taken_image
  taken_whole slices [] few has = absurd (omega arith)
  taken_whole slices (k ∷ new) few has =
      holds_store (all_used i (k ∷ new)) r (whole_index F s (slices ++ (k ∷ new))) (omega (arith, length-whole_index F s (slices ++ (k ∷ new)) few, length_all_marked 0 (k ∷ new) i))

  resliced_whole : {l l' : List ℕ} → Resizes l l' → stretch_count l' ≤ 127 → l' ≢ l → 0 < length l' → Holds (resliced i r F s l l') r (whole_index F s l')
  resliced_whole {l} {l'} re few d has =
      resliced_cases i r F s re (λ j. Holds j r (whole_index F s l')) (λ e. absurd (d e)) (λ z. absurd (omega arith))
      (λ _. holds_store (remarked i l l') r (whole_index F s l') (omega (arith, length-whole_index F s l' few, remarked_size i r F s re)))

-- ---- what else is written is not the index block of a file, and not SYS's

module _ {p : Plain} (good : Good p) (n : ℕ) (f : File) (found : table_find n p.files ≡ some f) where
  g : Ground p
  g = ground p good

  -- the blocks lie in the file's slices
  file_joined : (x : ℕ) → 1 ≤ x → x < length f.sectors + 1 → x / p.s < length f.slices
  file_joined x lo hi = let z : x - 1 + 1 ≡ x = omega arith in rw z at (block_in p g n f found (x - 1) (omega arith))

  pub system_off : Off p f sys_index_sector
  system_off = record {
    map = omega arith;
    kit = omega arith;
    place = λ t h e. omega (arith, (catalog_data (sys_ground g) (t / 16 + sys_from) (place_in (sys_ground g) t h)).0);
    joined = λ x lo hi e. omega (arith, (file_data p g n f found x (file_joined x lo hi)).0);
  }

  pub system_index : OffIndex p f sys_index_sector
  system_index has e = omega (arith, (file_data p g n f found 0 (first_in p g f.slices has)).0)

  module _ (has : 0 < length f.slices) where
    index_data : (10 ≤ sector_in p.F p.s f.slices 0) × (sector_in p.F p.s f.slices 0 < p.N)
    index_data = file_data p g n f found 0 (first_in p g f.slices has)

    index_off : Off p f (sector_in p.F p.s f.slices 0)
    index_off = record {
      map = λ e. omega (arith, index_data.0);
      kit = λ e. omega (arith, index_data.0);
      place = λ t h e. catalog_file (sys_ground g) n f found 0 (t / 16 + sys_from) (first_in p g f.slices has) (place_in (sys_ground g) t h) e;
      joined = λ x lo hi e. let z : 0 ≡ x = in_file p g n f found 0 x (first_in p g f.slices has) (file_joined x lo hi) e in omega arith;
    }

-- ---- SYS grows

module _ (p : Plain) (good : Good p) (new : List ℕ) (files : Table File) (areas : Table (Table AreaUser)) (g' : Good (with_tables p (suc p.layers) (p.sys ++ new) files areas)) where
  abbrev grown : Plain
  grown = with_tables p (suc p.layers) (p.sys ++ new) files areas

  pub grown_whole : (i : List ℕ) → 2560 ≤ length i → (t : ℕ) → t < place_count p.H p.layers → 0 < length new → Holds (grown_sys p i t new) sys_index_sector (whole_index p.F p.s (p.sys ++ new))
  grown_whole i far t inside has =
      let gr : Ground grown = ground grown g' in
      holds_kept (taken_whole i sys_index_sector p.F p.s (omega (arith, far)) p.sys new g'.catalog.few has)
      (layer_keep p good new files areas g' i far t inside sys_index_sector (omega arith) (λ b h e. omega (arith, (catalog_data (sys_ground gr) b (joined_in (sys_ground gr) b (omega (arith, h)))).0)))

-- ---- Create and Set

module _ (p : Plain) (n : ℕ) (f : File) (g' : Good (with_files p (table_put n f p.files))) (i : List ℕ) (size : length i ≡ 256 * p.N) (t : ℕ) (inside : t < place_count p.H p.layers) where
  here : table_find n (table_put n f p.files) ≡ some f
  here = find_put n f p.files

  far : 2560 ≤ length i
  far = omega (arith, g'.limits.first, g'.limits.some_data)

  pub created_whole : 0 < length f.slices → Holds (created_image p (sys_of p) i t n f) (sector_in p.F p.s f.slices 0) (whole_index p.F p.s f.slices)
  created_whole has =
      holds_kept (taken_whole i _ p.F p.s (omega (arith, (index_data g' n f here has).1)) [] f.slices (g'.catalog.files n f here).few has)
      (entered_keep p n f g' i far t inside _ (index_off g' n f here has))

  pub created_system : Same i (created_image p (sys_of p) i t n f) sys_index_sector
  created_system = created_keep p n f g' i far t inside sys_index_sector (system_off g' n f here) (system_index g' n f here)

-- ---- Change

module _ (p : Plain) (n : ℕ) (f : File) (lent : List ℕ) (old : InMap f.slices) (g' : Good (change.unit_after p n f lent)) (i : List ℕ) (size : length i ≡ 256 * p.N) where
  abbrev m : ℕ
  m = new_name n lent

  abbrev f' : File
  f' = change.file_after p f lent

  now : table_find m (change.unit_after p n f lent).files ≡ some f'
  now = changed_file p n f lent

  long : 2560 ≤ length i
  long = omega (arith, g'.limits.first, g'.limits.some_data)

  pub changed_whole : {j : List ℕ} → change.ChangedOn p i n f lent j → (change.file_after p f lent).slices ≢ f.slices → 0 < length (change.file_after p f lent).slices
      → Holds j (sector_in p.F p.s (change.file_after p f lent).slices 0) (whole_index p.F p.s (change.file_after p f lent).slices)
  changed_whole {j} c d has = go c.rewrites
    where
      q : ℕ
      q = sector_in p.F p.s f'.slices 0

      off : Off (change.unit_after p n f lent) f' q
      off = index_off g' m f' now has

      stored : Holds (resliced i q p.F p.s f.slices f'.slices) q (whole_index p.F p.s f'.slices)
      stored = resliced_whole i q p.F p.s (omega (arith, (index_data g' m f' now has).1)) (changed_resizes p n f lent) (g'.catalog.files m f' now).few d has

      go : Rewrites i p c.t n m f f' j → Holds j q (whole_index p.F p.s f'.slices)
      go (stayed e w) =
          rw (w ∙ ap (λ (k : ℕ). changed_image p (sys_of p) i c.t k f f') (sym e)) (holds_kept stored (rewritten_keep p n m f f' old (changed_resizes p n f lent) g' i long c.t c.inside q off))
      go (moved x u first w) = rw w (holds_kept stored (moved_keep p n m f f' old (changed_resizes p n f lent) g' i long c.t c.inside q off u first.inside))

-- ---- Output

module _ (p : Plain) (n : ℕ) (f f' : File) (areas : Table (Table AreaUser)) (g' : Good (with_tables p p.layers p.sys (table_put n f' p.files) areas)) (i : List ℕ) (size : length i ≡ 256 * p.N)
    (words : List ℕ) (short : length words ≤ 256) (new : List ℕ) (more : length f.sectors < length f'.sectors) (e : f'.slices ≡ f.slices ++ new) where
  pub appended_whole : 0 < length new → 0 < length f'.slices → Holds (appended_image p i f new words) (sector_in p.F p.s f'.slices 0) (whole_index p.F p.s f'.slices)
  appended_whole some-new has =
      let there = find_put n f' p.files in
      let low : sector_in p.F p.s (f.slices ++ new) 0 < p.N = rw e at (index_data g' n f' there has).1 in
      let few : stretch_count (f.slices ++ new) ≤ 127 = rw e at (g'.catalog.files n f' there).few in
      let kept = stored_keep p n f f' areas i (omega (arith, g'.limits.first, g'.limits.some_data)) words short _ (index_off g' n f' there has) g' new more e in
      holds_kept (rw e (taken_whole i _ p.F p.s (omega arith) f.slices new few some-new)) kept
