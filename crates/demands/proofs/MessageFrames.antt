-- The sectors that the messages' writes leave alone: a sector that is none of those written keeps its words.
use mathlib.Core.Path.{◌≡◌, refl, sym, ap, ◌∙◌}
use mathlib.Core.List.{List, [], ◌++◌}
use mathlib.Core.Logic.{◌≢◌}
use mathlib.Core.Option.{some}
use Prim.Native.Nat.{ℕ, suc, ◌+◌, ◌-◌, ◌*◌, ◌/◌, ◌%◌, ◌≤◌, ◌<◌}
use native.Mathlib.Omega.{arith}
use lib.ListN.{length, length-append, get_or-append, drop}
use Rattle.disc.specs.Numbers.{slice_start}
use Rattle.disc.specs.Slices.{occurrences}
use Rattle.disc.specs.Stretches.{sector_in, block_sector, stretch_count, sys_from, file_from}
use Rattle.disc.specs.Kit.{sys_index_sector, kit_sector, map_sector}
use Rattle.disc.specs.Entries.{place_count}
use Rattle.disc.specs.Catalog.{place_sector}
use Rattle.disc.proofs.SliceLaws.{occurrences_append}
use Rattle.words.specs.Store.{zero_words, store}
use Rattle.words.proofs.StoreLaws.{length_store, length-zero_words}
use Rattle.map.proofs.MarkLaws.{InMap, length_all_marked}
use Rattle.plain.specs.Table.{Table, table_find, table_put, table_remove}
use Rattle.plain.specs.Unit.{Plain, File, sys_of, AreaUser, with_files, with_tables, file_entry}
use Rattle.plain.specs.Areas.{book_live}
use Rattle.plain.specs.Good.{Good}
use Rattle.plain.proofs.TableLaws.{find_put}
use Rattle.plain.proofs.UnitLaws.{entry_of}
use Rattle.plain.proofs.KeepsAreas.{remove_area_good}
use Rattle.refine.specs.Writes.{taken_image, empty_place, removed_image, grown_image, created_image, resized_image, changed_image, renamed_image, booked_image, replaced_image, appended_image, grown_sys, counted_free, store_place, zeroed_sectors}
use Rattle.refine.proofs.Sectors.{Same, same_trans, store_outside, sector_outside, marked_outside-map}
use Rattle.refine.proofs.Ground.{ground, entry_length, sys_ground, part_file, place_in}
use Rattle.preservation.proofs.WriteLaws.{part_in_map, counted_keep, zeroed_keep, taken_keep}
use Rattle.preservation.proofs.ResizeLaws.{Resizes, resliced, occurrences_old, occurrences_new, resliced_keep}
use Rattle.map.specs.Marks.{all_marked, all_free}

-- slices among those in the map are in the map
pub in_map_part : (l k : List ℕ) → InMap l → ((x : ℕ) → occurrences x k ≤ occurrences x l) → InMap k
in_map_part l k h part x one = h x (omega (arith, part x))

module _ (q : ℕ) where
  -- ---- one write

  pub marks_keep : (v : ℕ) (i l : List ℕ) → v ≤ 1 → InMap l → 2560 ≤ length i → q ≢ map_sector → Same i (all_marked v i l) q
  marks_keep v i l bit inside far d = (marked_outside-map v i l bit inside far).same q (d, tt)

  pub place_keep : (p : Plain) (i : List ℕ) (t : ℕ) (e : List ℕ) → length e ≡ 16 → q ≢ place_sector p.F p.s (sys_of p) t → Same i (store_place p (sys_of p) i t e) q
  place_keep p i t e len d = (store_outside i e (place_sector p.F p.s (sys_of p) t) (t % 16 * 16) (omega arith)).same q (d, tt)

  pub block_keep : (i : List ℕ) (r : ℕ) (words : List ℕ) → length words ≤ 256 → q ≢ r → Same i (store i (r * 256) words) q
  block_keep i r words len d = (sector_outside i words r len).same q (d, tt)

  -- slices taken: the map and the index block
  pub taking_keep : (i : List ℕ) (r F s : ℕ) (slices new : List ℕ) → stretch_count (slices ++ new) ≤ 127 → InMap new → 2560 ≤ length i → q ≢ map_sector → (0 < length new → q ≢ r)
      → Same i (taken_image i r F s slices new) q
  taking_keep i r F s slices new few inside far d e = same_trans (marks_keep 0 i new (omega arith) inside far d) (taken_keep i r F s slices new few q e)

  -- slices given back or taken: the map and the index block
  pub reslicing_keep : (i : List ℕ) (r F s : ℕ) {l l' : List ℕ} → Resizes l l' → stretch_count l' ≤ 127 → InMap l → InMap l' → 2560 ≤ length i → q ≢ map_sector → (0 < length l' → q ≢ r)
      → Same i (resliced i r F s l l') q
  reslicing_keep i r F s {l} {l'} re few old new far d e =
      let size = length_all_marked 1 (drop (length l') l) i in
      let given : InMap (drop (length l') l) = in_map_part l (drop (length l') l) old (λ x. omega (arith, occurrences_old re x)) in
      let taken : InMap (drop (length l) l') = in_map_part l' (drop (length l) l') new (λ x. omega (arith, occurrences_new re x)) in
      same_trans (marks_keep 1 i (drop (length l') l) (omega arith) given far d)
      (same_trans (marks_keep 0 (all_free i (drop (length l') l)) (drop (length l) l') (omega arith) taken (omega (arith, far)) d) (resliced_keep i r F s re few q e))

  -- ---- the end of a message: sectors zeroed, an entry stored, the free sectors counted

  pub finish_keep : (p : Plain) (i slices : List ℕ) (b n t : ℕ) (e : List ℕ) → length e ≡ 16 → q ≢ kit_sector → q ≢ place_sector p.F p.s (sys_of p) t
      → ((x : ℕ) → b ≤ x → x < b + n → q ≢ sector_in p.F p.s slices x) → Same i (counted_free (store_place p (sys_of p) (zeroed_sectors i p.F p.s slices b n) t e) p.s) q
  finish_keep p i slices b n t e len kit place off =
      same_trans (zeroed_keep i p.F p.s slices b n q off)
      (same_trans (place_keep p (zeroed_sectors i p.F p.s slices b n) t e len place) (counted_keep _ p.s q kit))

  -- a rename empties a place before
  pub rename_keep : (p : Plain) (i slices : List ℕ) (b n t u : ℕ) (e : List ℕ) → length e ≡ 16 → q ≢ kit_sector → q ≢ place_sector p.F p.s (sys_of p) t → q ≢ place_sector p.F p.s (sys_of p) u
      → ((x : ℕ) → b ≤ x → x < b + n → q ≢ sector_in p.F p.s slices x)
      → Same i (counted_free (store_place p (sys_of p) (empty_place p (sys_of p) (zeroed_sectors i p.F p.s slices b n) t) u e) p.s) q
  rename_keep p i slices b n t u e len kit place other off =
      same_trans (zeroed_keep i p.F p.s slices b n q off)
      (same_trans (place_keep p _ t (zero_words 16) (length-zero_words 16) place) (same_trans (place_keep p _ u e len other) (counted_keep _ p.s q kit)))

  -- a block stored, the free sectors counted
  pub append_keep : (i : List ℕ) (s r : ℕ) (words : List ℕ) → length words ≤ 256 → q ≢ kit_sector → q ≢ r → Same i (counted_free (store i (r * 256) words) s) q
  append_keep i s r words len kit d = same_trans (block_keep i r words len d) (counted_keep _ s q kit)

-- ---- each message, by the unit afterwards

-- Sector q is none of the map, the kit, the sectors of SYS's places and the blocks of file f, as joined sectors.
pub record Off (p : Plain) (f : File) (q : ℕ) : Type 0 where
  pub map : q ≢ map_sector
  pub kit : q ≢ kit_sector
  pub place : (t : ℕ) → t < place_count p.H p.layers → q ≢ place_sector p.F p.s (sys_of p) t
  pub joined : (x : ℕ) → 1 ≤ x → x < length f.sectors + 1 → q ≢ sector_in p.F p.s f.slices x

-- Sector q is not the index block of file f.
abbrev pub OffIndex : Plain → File → ℕ → Type 0
OffIndex p f q = 0 < length f.slices → q ≢ sector_in p.F p.s f.slices 0

-- ---- a file of a good unit

module _ {p : Plain} (g : Good p) (n : ℕ) (f : File) (found : table_find n p.files ≡ some f) where
  pub file_in_map : InMap f.slices
  file_in_map = part_in_map p (ground p g) f.slices (part_file p (ground p g) n f found)

  pub file_entry_lem : length (file_entry p.F p.s n f) ≡ 16
  file_entry_lem = entry_length p g n _ (entry_of p n f (g.catalog.files n f found).ordinary found)

-- ---- Remove and Remove area: file f, whose entry stands in place t

module _ (p : Plain) (g : Good p) (n : ℕ) (f : File) (found : table_find n p.files ≡ some f) (i : List ℕ) (far : 2560 ≤ length i) (t q : ℕ) (place : q ≢ place_sector p.F p.s (sys_of p) t) where
  pub removed_keep : q ≢ map_sector → q ≢ kit_sector → Same i (removed_image p (sys_of p) i t f) q
  unfolding removed_image
  removed_keep map kit =
      let size = length_store i (place_sector p.F p.s (sys_of p) t * 256 + t % 16 * 16) (zero_words 16) in
      same_trans (place_keep q p i t (zero_words 16) (length-zero_words 16) place)
      (same_trans (marks_keep q 1 (empty_place p (sys_of p) i t) f.slices (omega arith) (file_in_map g n f found) (omega (arith, far)) map) (counted_keep _ p.s q kit))

  pub booked_keep : Same i (booked_image p (sys_of p) i t n f) q
  unfolding booked_image
  booked_keep = place_keep q p i t _ (file_entry_lem (remove_area_good p n f g found) n (book_live f) (find_put n (book_live f) p.files)) place

-- ---- SYS grows by the slices `new`; the unit afterwards has these files

module _ (p : Plain) (g : Good p) (new : List ℕ) (files : Table File) (areas : Table (Table AreaUser)) (g' : Good (with_tables p (suc p.layers) (p.sys ++ new) files areas)) where
  abbrev grown : Plain
  grown = with_tables p (suc p.layers) (p.sys ++ new) files areas

  new_in_map : InMap new
  new_in_map = part_in_map grown (ground grown g') new (λ k. omega (arith, (sys_ground (ground grown g')).part k, occurrences_append k p.sys new))

  -- the old places stand where they stood
  old_sector : (t : ℕ) → t < place_count p.H p.layers → place_sector grown.F grown.s (sys_of grown) t ≡ place_sector p.F p.s (sys_of p) t
  old_sector t inside =
      ap (λ (k : ℕ). slice_start p.F p.s k + (t / 16 + sys_from) % p.s) (get_or-append p.sys new 0 ((t / 16 + sys_from) / p.s) (place_in (sys_ground (ground p g)) t inside))

  module _ (i : List ℕ) (far : 2560 ≤ length i) (t : ℕ) (inside : t < place_count p.H p.layers) (q : ℕ) (kit : q ≢ kit_sector)
      (blocks : (b : ℕ) → b < p.H * suc p.layers → q ≢ sector_in p.F p.s (p.sys ++ new) b) where
    abbrev longer : List ℕ
    longer = taken_image i sys_index_sector p.F p.s p.sys new

    -- after the index block
    pub layer_keep : Same longer (grown_sys p i t new) q
    unfolding grown_image
    layer_keep =
        finish_keep q p longer (p.sys ++ new) (p.H * p.layers + sys_from) p.H t _ refl kit (λ e. blocks (t / 16 + sys_from) (omega arith) (e ∙ sym (old_sector t inside)))
        (λ x lo hi. blocks x (omega arith))

    pub grown_keep : q ≢ map_sector → q ≢ sys_index_sector → Same i (grown_sys p i t new) q
    grown_keep map six = same_trans (taking_keep q i sys_index_sector p.F p.s p.sys new g'.catalog.few new_in_map far map (λ _. six)) layer_keep

-- ---- Create and Set: the file f is entered under name n

module _ (p : Plain) (n : ℕ) (f : File) (g' : Good (with_files p (table_put n f p.files))) (i : List ℕ) (far : 2560 ≤ length i) (t : ℕ) (inside : t < place_count p.H p.layers) (q : ℕ) where
  here : table_find n (table_put n f p.files) ≡ some f
  here = find_put n f p.files

  abbrev described : List ℕ
  described = taken_image i (sector_in p.F p.s f.slices 0) p.F p.s [] f.slices

  module _ (off : Off (with_files p (table_put n f p.files)) f q) where
    -- after the index block
    pub entered_keep : Same described (created_image p (sys_of p) i t n f) q
    unfolding created_image
    entered_keep =
        finish_keep q p described f.slices file_from (length f.sectors) t _ (file_entry_lem g' n f here) off.kit (off.place t inside)
        (λ x lo hi. off.joined x (omega arith) (omega arith))

    pub created_keep : OffIndex p f q → Same i (created_image p (sys_of p) i t n f) q
    created_keep own =
        same_trans (taking_keep q i _ p.F p.s [] f.slices (g'.catalog.files n f here).few (file_in_map g' n f here) far off.map own) entered_keep

-- ---- Change: the file f of name n becomes f' of name m

module _ (p : Plain) (n m : ℕ) (f f' : File) (old : InMap f.slices) (re : Resizes f.slices f'.slices) (g' : Good (with_files p (table_put m f' (table_remove n p.files))))
    (i : List ℕ) (far : 2560 ≤ length i) (t : ℕ) (inside : t < place_count p.H p.layers) (q : ℕ) (off : Off (with_files p (table_put m f' (table_remove n p.files))) f' q) where
  now : table_find m (table_put m f' (table_remove n p.files)) ≡ some f'
  now = find_put m f' (table_remove n p.files)

  abbrev sliced : List ℕ
  sliced = resliced i (sector_in p.F p.s f'.slices 0) p.F p.s f.slices f'.slices

  sliced_keep : OffIndex p f' q → Same i sliced q
  sliced_keep own = reslicing_keep q i _ p.F p.s re (g'.catalog.files m f' now).few old (file_in_map g' m f' now) far off.map own

  off_new : (x : ℕ) → length f.sectors + file_from ≤ x → x < length f.sectors + file_from + (length f'.sectors - length f.sectors) → q ≢ sector_in p.F p.s f'.slices x
  off_new x lo hi = off.joined x (omega arith) (omega arith)

  -- after the index block
  pub rewritten_keep : Same sliced (changed_image p (sys_of p) i t m f f') q
  unfolding changed_image resized_image
  rewritten_keep = finish_keep q p sliced f'.slices _ _ t _ (file_entry_lem g' m f' now) off.kit (off.place t inside) off_new

  pub moved_keep : (u : ℕ) → u < place_count p.H p.layers → Same sliced (renamed_image p (sys_of p) i t u m f f') q
  unfolding renamed_image resized_image
  moved_keep u there = rename_keep q p sliced f'.slices _ _ t u _ (file_entry_lem g' m f' now) off.kit (off.place t inside) (off.place u there) off_new

  pub changed_keep : OffIndex p f' q → Same i (changed_image p (sys_of p) i t m f f') q
  changed_keep own = same_trans (sliced_keep own) rewritten_keep

  pub renamed_keep : OffIndex p f' q → (u : ℕ) → u < place_count p.H p.layers → Same i (renamed_image p (sys_of p) i t u m f f') q
  renamed_keep own u there = same_trans (sliced_keep own) (moved_keep u there)

-- ---- Output: the file f of name n has other slices or sectors

module _ (p : Plain) (n : ℕ) (f f' : File) (areas : Table (Table AreaUser)) (i : List ℕ) (far : 2560 ≤ length i) (words : List ℕ) (short : length words ≤ 256) (q : ℕ)
    (off : Off (with_tables p p.layers p.sys (table_put n f' p.files) areas) f' q) where
  then_file : table_find n (table_put n f' p.files) ≡ some f'
  then_file = find_put n f' p.files

  off_block : (l : List ℕ) → f'.slices ≡ l → (b : ℕ) → b < length f'.sectors → q ≢ block_sector p.F p.s l file_from b
  off_block l e b low d = off.joined (b + file_from) (omega arith) (omega arith) (d ∙ ap (λ (k : List ℕ). block_sector p.F p.s k file_from b) (sym e))

  pub replaced_keep : (b : ℕ) → b < length f'.sectors → f'.slices ≡ f.slices → Same i (replaced_image p i f b words) q
  unfolding replaced_image
  replaced_keep b low e = block_keep q i _ words short (off_block f.slices e b low)

  module _ (g' : Good (with_tables p p.layers p.sys (table_put n f' p.files) areas)) (new : List ℕ) (more : length f.sectors < length f'.sectors) (e : f'.slices ≡ f.slices ++ new) where
    abbrev extended : List ℕ
    extended = taken_image i (sector_in p.F p.s (f.slices ++ new) 0) p.F p.s f.slices new

    -- after the index block
    pub stored_keep : Same extended (appended_image p i f new words) q
    unfolding appended_image
    stored_keep = append_keep q extended p.s _ words short off.kit (off_block (f.slices ++ new) e (length f.sectors) more)

    pub appended_keep : OffIndex p f' q → Same i (appended_image p i f new words) q
    appended_keep own =
        let all = file_in_map g' n f' then_file in
        let few : stretch_count (f.slices ++ new) ≤ 127 = rw e at (g'.catalog.files n f' then_file).few in
        same_trans
        (taking_keep q i _ p.F p.s f.slices new few
        (in_map_part f'.slices new all (λ x. omega (arith, ap (occurrences x) e, occurrences_append x f.slices new))) far off.map
        (λ h d. own (omega (arith, ap length e, length-append f.slices new)) (d ∙ ap (λ (l : List ℕ). sector_in p.F p.s l 0) (sym e))))
        stored_keep
