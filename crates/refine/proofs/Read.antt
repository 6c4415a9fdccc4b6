-- A sound image and state represent a good plain unit: the files that the places of SYS show, and the areas of the state.
use mathlib.Core.Path.{◌≡◌, refl, sym, ap, ◌∙◌, subst}
use mathlib.Core.List.{List, []}
use mathlib.Core.Option.{some}
use Prim.Native.Nat.{ℕ, ◌+◌, ◌*◌, ◌/◌, ◌%◌, ◌≤◌, ◌<◌}
use native.Mathlib.Omega.{arith}
use lib.ListN.{length, get_or}
use lib.Dec.{not_T}
use Rattle.types.specs.declared.State.{State}
use Rattle.disc.specs.Numbers.{need}
use Rattle.disc.specs.Words.{Holds}
use Rattle.disc.specs.Names.{is_system}
use Rattle.disc.specs.Slices.{occurrences, in_unit, InRangeOnce}
use Rattle.disc.specs.Stretches.{index_words, sector_in, block_sector, file_from, sys_from}
use Rattle.disc.specs.Kit.{Kit, sys_index_sector}
use Rattle.disc.specs.Map.{map_bit, ones_in_map}
use Rattle.disc.specs.Catalog.{Catalog, sys_catalog, places_of, places_in}
use Rattle.disc.proofs.Compare.{below_or}
use Rattle.disc.proofs.SliceLaws.{in_unit_in, in_unit_no, occurrences_append}
use Rattle.disc.proofs.Geometry.{ceil_cover}
use Rattle.words.specs.Store.{sector_words}
use Rattle.words.proofs.StoreLaws.{length-sector_words, words-sector_words, holds-sector_words}
use Rattle.map.proofs.MarkLaws.{map_bit_le}
use Rattle.map.proofs.CountLaws.{ones_free}
use Rattle.plain.specs.Table.{table_find, Every}
use Rattle.plain.specs.Unit.{Plain, File, sys_of, M, held, free_slices, free_sectors}
use Rattle.plain.specs.Good.{WordsOf, GoodFile, Good}
use Rattle.plain.proofs.UnitLaws.{occurrences_held}
use Rattle.sound.specs.State.{open_area}
use Rattle.sound.specs.Sound.{all_slices, slices_below, index_of, SoundFile, SoundWith, SoundUnit}
use Rattle.refine.specs.Represents.{FileOnImage, Represents}
use Rattle.refine.proofs.Ground.{Ground, block_in, file_data}
use Rattle.refine.proofs.ReadFile.{words-list_of, length_sectors, sector_at, block_count, few_from, index_holds, shown}
use Rattle.refine.proofs.ReadFiles.{files_below, sorted_files, FileAt, file_there, slices_files}
use Rattle.refine.proofs.ReadCatalog.{read_catalog, read_chains}
use Rattle.refine.proofs.ReadAreas.{read_areas, sorted_areas, eight_areas, not_open, good_area, same_area}

module _ {image : List ℕ} {state : State} {H s F N layers : ℕ} {sys : List ℕ} (so : SoundWith image state H s F N (sys_catalog layers sys)) where
  abbrev c : Catalog
  c = sys_catalog layers sys

  abbrev P : ℕ → ℕ → ℕ
  P = places_in image F s c

  abbrev count : ℕ
  count = places_of H c

  -- the unit that image and state show
  abbrev pub read_unit : Plain
  read_unit = record {
    unit = state.unit;
    H = H;
    s = s;
    F = F;
    N = N;
    layers = layers;
    sys = sys;
    files = files_below image state F s c count;
    areas = read_areas state;
  }

  -- ---- map and slices

  pos : 0 < s
  pos = omega (arith, so.limits.slice_low)

  held_same : (k : ℕ) → occurrences k (held read_unit) ≡ occurrences k (all_slices image state H s F c)
  held_same k =
      omega (
        arith,
        occurrences_held k sys (files_below image state F s c count),
        slices_files image state F s c H so.catalog.entries k,
        occurrences_append k sys (slices_below image state F s c count),
      )

  read_once : InRangeOnce (M read_unit) (held read_unit)
  read_once k = omega (arith, held_same k, so.once k)

  read-map : (k : ℕ) → 1 ≤ k → k ≤ 4096 → map_bit image k + occurrences k (held read_unit) ≡ in_unit (M read_unit) k
  read-map k a b = below_or (M read_unit) k
      (λ x. omega (arith, so.map.past k x b, held_same k, so.once k, in_unit_no (M read_unit) k x))
      (λ x.
      let m = so.map.marked k a x in
      let one = in_unit_in (M read_unit) k a x in
      below_or (map_bit image k) 1
      (λ y. omega (arith, m.0 (omega arith), held_same k, so.once k))
      (λ y. below_or (occurrences k (held read_unit)) 1
      (λ z. omega (arith, map_bit_le image k))
      (λ z. absurd (omega (arith, m.1 (omega (arith, held_same k)))))))

  -- ---- files

  found_at : (n : ℕ) (f : File) → table_find n read_unit.files ≡ some f → FileAt image state F s c count n f
  found_at n f h = file_there image state F s c count n f h

  sound_at : (n : ℕ) (f : File) (h : table_find n read_unit.files ≡ some f) → SoundFile image state F s P (found_at n f h).place
  sound_at n f h = let w = found_at n f h in so.catalog.entries.files w.place w.inside w.used w.ordinary

  covered : Every (λ n f. need s (length f.sectors) ≤ length f.slices) read_unit.files
  covered n f h =
      let w = found_at n f h in
      let e = length_sectors image state F s P w.place in
      subst (λ (x : File). need s (length x.sectors) ≤ length x.slices) w.read (rw e (sound_at n f h).legal.covered)

  gr : Ground read_unit
  gr = record {
    limits = so.limits;
    once = read_once;
    names = sorted_files image state F s c count;
    sys_cover = ceil_cover s (H * layers) (length sys) pos (omega (arith, so.catalog.count));
    cover = covered;
  }

  -- a file's block lies in the image
  block_inside : (n : ℕ) (f : File) → table_find n read_unit.files ≡ some f → (b : ℕ) → b < length f.sectors
      → block_sector F s f.slices file_from b * 256 + 256 ≤ length image
  block_inside n f h b x = omega (arith, (file_data read_unit gr n f h (b + 1) (block_in read_unit gr n f h b x)).1, so.size)

  -- a file's sectors are those of its blocks
  abbrev ReadFrom : File → Type 0
  ReadFrom f = (b : ℕ) → b < length f.sectors → get_or f.sectors b [] ≡ sector_words image (block_sector F s f.slices file_from b)

  read_sectors : (n : ℕ) (f : File) → table_find n read_unit.files ≡ some f → ReadFrom f
  read_sectors n f h = let w = found_at n f h in subst (λ (g : File). ReadFrom g) w.read (sector_at image state F s P w.place)

  sector_words_lem : (n : ℕ) (f : File) → table_find n read_unit.files ≡ some f → (b : ℕ) → b < length f.sectors → WordsOf 256 (get_or f.sectors b [])
  sector_words_lem n f h b x =
      let q : ℕ = block_sector F s f.slices file_from b in
      rw (read_sectors n f h b x) (record { count = length-sector_words image q (block_inside n f h b x); words = words-sector_words image q so.words })

  on_image : Every (λ n f. FileOnImage image F s f) read_unit.files
  on_image n f h =
      let w = found_at n f h in
      record {
        index =
            subst (λ (g : File). 0 < length g.slices → Holds image (sector_in F s g.slices 0) (index_words F s g.slices)) w.read
            (index_holds image F s (index_of state P w.place) (sound_at n f h).legal.index);
        blocks = λ b x. rw (read_sectors n f h b x) (holds-sector_words image (block_sector F s f.slices file_from b));
      }

  small : (t w : ℕ) → P t w < 65536
  small t w = so.words.each (block_sector F s sys sys_from (t / 16) * 256 + (t % 16 * 16 + w))

  good_file : Every (GoodFile (sys_of read_unit) s (read_areas state)) read_unit.files
  good_file n f h =
      let w = found_at n f h in
      let t : ℕ = w.place in
      let sf = sound_at n f h in
      let sh = shown image state F s P pos t sf in
      let len = length_sectors image state F s P t in
      let read = w.read in
      record {
        name = rw w.name at (so.catalog.entries.legal t w.inside w.used).name;
        ordinary = not_T (is_system n) (rw w.name at w.ordinary);
        attributes = rw (← read) sf.legal.allowed;
        entry_only = rw (← read) sf.legal.entry_only;
        optional = rw (← read) (words-list_of 3 (λ b. P t (3 + b)) (λ b. small t (3 + b)));
        tail = rw (← read) (words-list_of 6 (λ b. P t (10 + b)) (λ b. small t (10 + b)));
        sectors = sector_words_lem n f h;
        covered = covered n f h;
        few = rw (← read) (few_from image F s (index_of state P t) sf.legal.index);
        booked_low = rw (← read) (rw len sh.length_low);
        booked_slices_low = rw (← read) sh.slices_low;
        booked_covered = rw (← read) sh.covered;
        closed = λ e.
            let c = sh.closed (ap (open_area state) w.name ∙ not_open image state H s F c so.catalog.entries so.shaped so.areas n e) in
            rw (← read) (c.0 ∙ sym len, c.1);
      }

  -- ---- the unit

  read_kit : Kit image H s N (free_sectors read_unit) F
  read_kit =
      let ones : ones_in_map image ≡ free_slices read_unit = ones_free (M read_unit) (held read_unit) image so.limits.slices_high read-map so.words in
      rw ones at so.kit

  read_good : Good read_unit
  read_good = record {
    limits = so.limits;
    catalog = record {
      layered = so.catalog.layered;
      count = so.catalog.count;
      few = rw so.catalog.described (omega (arith, block_count image F s sys_index_sector so.catalog.index, so.catalog.index.few));
      names = sorted_files image state F s c count;
      chains = read_chains image state H s F layers sys pos small so.catalog.entries so.sys_entered so.map_entered;
      files = good_file;
    };
    sys_first = so.sys_first;
    once = read_once;
    area_names = sorted_areas state;
    eight = eight_areas state so.shaped so.areas.distinct;
    areas = good_area image state H s F c so.catalog.entries so.shaped so.areas;
  }

  read_represents : Represents image state read_unit
  read_represents = record {
    words = so.words;
    layout = record {
      size = so.size;
      kit = read_kit;
      map = read-map;
      sys = record { index = rw so.catalog.described so.catalog.index.pairs; places = read_catalog image state H s F layers sys pos small so.catalog.entries so.sys_entered so.map_entered state.unit N (read_areas state) };
      map_index = so.map_index;
      files = on_image;
    };
    areas = record {
      shaped = so.shaped;
      number = refl;
      distinct = so.areas.distinct;
      distinct_users = λ j u v h live. (so.areas.users j h live).distinct u v;
      each = same_area image state H s F c so.catalog.entries so.shaped so.areas;
    };
  }

-- The plain unit that an image and a state represent.
pub record Reads (image : List ℕ) (state : State) : Type 0 where
  pub plain : Plain
  pub good : Good plain
  pub represents : Represents image state plain

pub sound_reads : (image : List ℕ) (state : State) → SoundUnit image state → Reads image state
sound_reads image state u = record { plain = read_unit u.rules; good = read_good u.rules; represents = read_represents u.rules }

-- its layers are those with which the rules are met
pub reads_layers : (image : List ℕ) (state : State) (u : SoundUnit image state) → (sound_reads image state u).plain.layers ≡ u.layers
unfolding sound_reads
reads_layers image state u = refl
