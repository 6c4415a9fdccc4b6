-- Format makes a good unit, and the image that it writes represents it, whatever stood in the image before.
use mathlib.Core.Path.{◌≡◌, refl, sym, ap, ◌∙◌}
use mathlib.Core.Bool.{true}
use mathlib.Core.List.{List, [], ◌∷◌, append-nil}
use mathlib.Core.Logic.{◌≢◌, inl}
use mathlib.Core.Option.{Option, none, some}
use Prim.Native.Nat.{ℕ, zero, suc, ◌+◌, ◌*◌, ◌-◌, ◌/◌, ◌%◌, ◌≤◌, ◌<◌, compare}
use native.Mathlib.Nat.{mul-div-le, mul-le-mul_left, mod-eq_of_lt}
use native.Mathlib.Omega.{arith}
use lib.ListN.{length, get_or}
use Rattle.types.specs.declared.Area.{Area}
use Rattle.types.specs.declared.State.{State}
use Rattle.types.specs.State.{past_area, is_open, NoneOpen}
use Rattle.disc.specs.Numbers.{ceil_div, slice_count}
use Rattle.disc.specs.Words.{word, Words}
use Rattle.disc.specs.Names.{SYS, MAP, key_of}
use Rattle.disc.specs.Slices.{one_if_same, occurrences, InRangeOnce, free_count, first_of}
use Rattle.disc.specs.Stretches.{index_words, sector_in, sys_from, span}
use Rattle.disc.specs.Kit.{Limits, Kit, kit_sector, map_sector}
use Rattle.disc.specs.Map.{MapOf}
use Rattle.disc.specs.Entries.{place_word, place_count, map_entry}
use Rattle.disc.proofs.Compare.{compare_cases, same_or, below_or}
use Rattle.disc.proofs.DecideLaws.{never_true}
use Rattle.disc.proofs.NumberLaws.{ceil_div_some}
use Rattle.disc.proofs.WordLaws.{words_none, words_cons}
use Rattle.disc.proofs.SliceLaws.{same_le, sum_law}
use Rattle.disc.proofs.Geometry.{ceil_cover}
use Rattle.disc.proofs.CutLaws.{length_span}
use Rattle.disc.proofs.SpanLaws.{span_once, stretches_span, index_span, sector_of_span}
use Rattle.map.proofs.MapWordLaws.{map_of_words}
use Rattle.words.specs.Store.{store}
use Rattle.words.proofs.StoreLaws.{store_below, store_above, store_in}
use Rattle.plain.specs.Table.{table_find, table_put}
use Rattle.plain.specs.Unit.{Plain, M, held, free_sectors, entry}
use Rattle.plain.specs.Good.{Good}
use Rattle.plain.proofs.TableLaws.{some≢none, some_inj, find_put, find_put_other}
use Rattle.plain.proofs.UnitLaws.{entry_sys, entry-map, entry_other}
use Rattle.sound.specs.Places.{Unused}
use Rattle.sound.specs.State.{Shaped, first_open}
use Rattle.refine.specs.Represents.{CatalogOf, Layout, SameAreas, Represents, area_of_state}
use Rattle.refine.specs.Format.{sys_slices, fresh_unit, sys_index, fresh_free, formatted}
use Rattle.refine.proofs.CatalogLaws.{Named, name_in, name_zero, catalog_put, absent}
use Rattle.refine.proofs.FormatImage.{cleared, sys_at, map_at, sys_words, with_sys, formatted_stores, length_cleared, length_with_sys, length_formatted, cleared_zero, key_lt, map_place_lem, formatted_6, formatted_7, formatted_8, formatted-map, words_formatted}

-- ---- the numbers of a fresh unit

module _ (H s F N : ℕ) (lim : Limits H s F N) where
  abbrev m : ℕ
  m = slice_count s F N

  abbrev c : ℕ
  c = ceil_div H s

  -- SYS has some slices
  pub some_slices : 1 ≤ c
  some_slices = omega (arith, ceil_div_some H s (omega (arith, lim.slice_low)) lim.keys_low)

  pub length_sys : length (sys_slices H s) ≡ c
  length_sys = length_span 1 c

  -- and room for its H sectors
  pub sys_room : H ≤ s * c
  sys_room = omega (arith, ceil_cover s H c (omega (arith, lim.slice_low)) (omega arith))

  pub fresh_once : InRangeOnce m (sys_slices H s)
  fresh_once = span_once m c lim.slices_low

  -- the slices that SYS does not have are free
  pub free_slices_lem : free_count m (sys_slices H s) + c ≡ m
  free_slices_lem = omega (arith, sum_law m (sys_slices H s) fresh_once, length_sys)

  -- s sectors for each slice: not more than there are
  pub data_sectors : s * m ≤ N - F
  data_sectors = mul-div-le (N - F) s

  pub sys_sectors : s * c ≤ N - F
  sys_sectors = omega (arith, data_sectors, mul-le-mul_left s lim.slices_low)

  pub free_sectors_lem : fresh_free H s F N ≤ N - F
  free_sectors_lem =
      let f : free_count m (sys_slices H s) ≤ m = omega (arith, free_slices_lem) in omega (arith, data_sectors, mul-le-mul_left s f)

  -- SYS's sectors lie in the image
  pub sys_end : F + H ≤ N
  sys_end = omega (arith, sys_room, sys_sectors, lim.some_data)

  first_one : (n : ℕ) → 1 ≤ n → first_of (span 1 n) ≡ 1
  first_one zero h = absurd (omega arith)
  first_one (suc n) h = refl

  pub format_good : (unit : ℕ) → Good (fresh_unit unit H s F N)
  format_good unit = record {
    limits = lim;
    catalog = record {
      layered = omega arith;
      count = length_sys ∙ ap (λ (n : ℕ). ceil_div n s) (let e : H ≡ H * 1 = omega arith in e);
      few = omega (arith, ap length (stretches_span 1 c some_slices));
      names = tt;
      chains = λ k. omega (arith, same_le (compare (key_of H SYS) k), same_le (compare (key_of H MAP) k));
      files = λ n f h. absurd (some≢none (sym h));
    };
    sys_first = first_one c some_slices;
    once = λ k. rw (append-nil (sys_slices H s)) (fresh_once k);
    area_names = tt;
    eight = omega arith;
    areas = λ n us h. absurd (some≢none (sym h));
  }

-- ---- no area process

none_open : (n : ℕ) (l : List Area) → ((j : ℕ) → j < length l → is_open (get_or l j past_area) ≡ true → ⊥) → first_open n l ≡ none
none_open n [] h = refl
none_open n (a ∷ l) h = rw (never_true (is_open a) (h 0 (omega arith))) (none_open n l (λ j x. h (suc j) (omega arith)))

fresh_areas : (state : State) (H s F N : ℕ) → Shaped state → NoneOpen state → SameAreas state (fresh_unit state.unit H s F N)
fresh_areas state H s F N shaped closed = record {
  shaped = shaped;
  number = refl;
  distinct = λ j k x y a b e. absurd (closed j x a);
  distinct_users = λ j u v x a y z t e. absurd (closed j x a);
  each = λ n. ap area_of_state (none_open n state.areas (λ j x. closed j (omega (arith, shaped.eight))));
}

-- ---- the catalog

module _ (image : List ℕ) (unit H s F N k6 k7 : ℕ) (lim : Limits H s F N) (size : length image ≡ 256 * N) where
  abbrev p : Plain
  p = fresh_unit unit H s F N

  -- the places of SYS in an image
  abbrev P : List ℕ → ℕ → ℕ → ℕ
  P l = place_word l F s (sys_slices H s) sys_from

  abbrev count : ℕ
  count = place_count H 1

  abbrev start : ℕ
  start = F * 256

  -- they lie one after the other from sector F on
  place_index : (l : List ℕ) (t w : ℕ) → t < count → P l t w ≡ get_or l (start + 16 * t + w) 0
  place_index l t w x =
      let q : sector_in F s (sys_slices H s) (t / 16 + sys_from) ≡ F + t / 16 =
      sector_of_span F s 1 (ceil_div H s) (t / 16 + sys_from) (omega (arith, lim.slice_low)) (omega arith) (omega (arith, sys_room H s F N lim)) ∙ omega arith in
      let e : (F + t / 16) * 256 + (t % 16 * 16 + w) ≡ start + 16 * t + w = omega arith in
      ap (λ (r : ℕ). word l r (t % 16 * 16 + w)) q ∙ ap (λ (i : ℕ). get_or l i 0) e

  inside : start + 256 * H ≤ length image
  inside = omega (arith, sys_end H s F N lim)

  -- an entry stored in place t₀
  module _ (l : List ℕ) (t₀ : ℕ) (e : List ℕ) (sixteen : length e ≡ 16) (in₀ : t₀ < count) where
    put_off : (t w : ℕ) → t < count → t ≢ t₀ → w < 16 → P (store l (start + 16 * t₀) e) t w ≡ P l t w
    put_off t w x d y =
        place_index (store l (start + 16 * t₀) e) t w x
        ∙ below_or t t₀
        (λ (z : t < t₀). store_below l (start + 16 * t₀) e (start + 16 * t + w) (omega arith))
        (λ (z : t₀ ≤ t). store_above l (start + 16 * t₀) e (start + 16 * t + w) (omega arith))
        ∙ sym (place_index l t w x)

    put_in : length l ≡ length image → (w : ℕ) → w < 16 → P (store l (start + 16 * t₀) e) t₀ w ≡ get_or e w 0
    put_in same_size w y =
        place_index (store l (start + 16 * t₀) e) t₀ w in₀ ∙ store_in l (start + 16 * t₀) e w (omega arith) (omega (arith, inside))

  abbrev blank : List ℕ
  blank = cleared image H s F N k6 k7

  clear : (t : ℕ) → t < count → Unused (P blank) t
  clear t x = record {
    zero = λ w y. place_index blank t w x
        ∙ cleared_zero image H s F N k6 k7 (start + 16 * t + w) (omega arith) (omega arith) (omega (arith, inside));
  }

  -- nothing is entered
  no_entries : CatalogOf (P blank) count H (λ n. none)
  no_entries = record {
    each = λ t x. inl (clear t x);
    there = λ n e h. absurd (some≢none (sym h));
    alone = λ t u x y e z. absurd (z (name_zero (P blank) t (clear t x)));
  }

  -- SYS is
  abbrev sys_e : List ℕ
  sys_e = sys_words image H s F N k6 k7

  abbrev only_sys : ℕ → Option (List ℕ)
  only_sys n = table_find n (table_put SYS sys_e [])

  sys_only : only_sys SYS ≡ some sys_e
  sys_only = find_put SYS sys_e []

  not_sys : (n : ℕ) → n ≢ SYS → only_sys n ≡ none
  not_sys n d = find_put_other n SYS sys_e [] d

  named_sys : Named only_sys
  named_sys = record {
    name = λ n e h. same_or n SYS
        (λ q. ap name_in (some_inj (sym h ∙ ap only_sys q ∙ sys_only)) ∙ sym q)
        (λ d. absurd (some≢none (sym h ∙ not_sys n d)));
    zero = not_sys 0 (omega arith);
  }

  abbrev sys_t : ℕ
  sys_t = sys_at image H s F N k6 k7

  abbrev map_t : ℕ
  map_t = map_at image H s F N k6 k7

  sys_inside : sys_t < count
  sys_inside = omega (arith, key_lt H SYS lim.keys_low)

  map_inside : map_t < count
  map_inside = omega (arith, key_lt H MAP lim.keys_low, map_place_lem image H s F N k6 k7)

  -- the sector of a key below H
  key_of_lem : (t k : ℕ) → t / 16 ≡ k → k < H → t / 16 % H ≡ k
  key_of_lem t k e h = ap (λ (x : ℕ). x % H) e ∙ mod-eq_of_lt h

  abbrev first : List ℕ
  first = with_sys image H s F N k6 k7

  sys_entered_lem : CatalogOf (P first) count H only_sys
  sys_entered_lem = catalog_put no_entries (record { name = λ n e h. absurd (some≢none (sym h)); zero = refl }) (P first) only_sys SYS sys_t sys_inside
      (put_off blank sys_t sys_e refl sys_inside) not_sys
      sys_e sys_only refl (omega arith) (put_in blank sys_t sys_e refl sys_inside (length_cleared image H s F N k6 k7))
      (key_of_lem sys_t (key_of H SYS) (omega arith) (key_lt H SYS lim.keys_low))
      (λ t x e. absurd (absent no_entries SYS refl (omega arith) t x e)) (λ q. name_zero (P blank) sys_t (clear sys_t sys_inside))

  -- MAP's place is another one
  map_apart : map_t ≢ sys_t
  map_apart =
      compare_cases (key_of H MAP) (key_of H SYS) (λ o. 16 * key_of H MAP + one_if_same o ≢ 16 * key_of H SYS) (λ h e. omega arith) (λ h e. omega arith) (λ h e. omega arith)

  map_unused : Unused (P first) map_t
  map_unused = record {
    zero = λ w y. put_off blank sys_t sys_e refl sys_inside map_t w map_inside map_apart y ∙ (clear map_t map_inside).zero w y;
  }

  -- the unit's entries are SYS's and MAP's
  entry_not-map : (n : ℕ) → n ≢ MAP → entry p n ≡ only_sys n
  entry_not-map n d = same_or n SYS
      (λ q. ap (entry p) q ∙ entry_sys p ∙ sym sys_only ∙ ap only_sys (sym q))
      (λ a. entry_other p n a d ∙ sym (not_sys n a))

  abbrev last : List ℕ
  last = store first (start + 16 * map_t) map_entry

  map_entered_lem : CatalogOf (P last) count H (entry p)
  map_entered_lem = catalog_put sys_entered_lem named_sys (P last) (entry p) MAP map_t map_inside
      (put_off first map_t map_entry refl map_inside) entry_not-map
      map_entry (entry-map p) refl (omega arith) (put_in first map_t map_entry refl map_inside (length_with_sys image H s F N k6 k7))
      (key_of_lem map_t (key_of H MAP) (omega (arith, map_place_lem image H s F N k6 k7)) (key_lt H MAP lim.keys_low))
      (λ t x e. absurd (absent sys_entered_lem MAP (not_sys MAP (omega arith)) (omega arith) t x e)) (λ q. name_zero (P first) map_t map_unused)

  -- ---- the layout

  abbrev image' : List ℕ
  image' = formatted image H s F N k6 k7

  long : 2560 ≤ length image
  long = omega (arith, lim.first, lim.some_data)

  sys_held_lem : held p ≡ sys_slices H s
  sys_held_lem = append-nil (sys_slices H s)

  fresh_kit : Kit image' H s N (free_sectors p) F
  fresh_kit =
      let k = formatted_8 image H s F N k6 k7 lim.keys_low lim.first long in record {
        keys = k.at 0 (omega arith) (omega arith);
        slice = k.at 1 (omega arith) (omega arith);
        sectors = k.at 2 (omega arith) (omega arith);
        unused = k.at 3 (omega arith) (omega arith) ∙ ap (λ (l : List ℕ). s * free_count (slice_count s F N) l) (sym sys_held_lem);
        first = k.at 4 (omega arith) (omega arith);
        top = k.at 5 (omega arith) (omega arith);
      }

  fresh-map : MapOf image' (M p) (held p)
  fresh-map k a b =
      omega (
        arith,
        map_of_words image' (M p) (sys_slices H s) (fresh_once H s F N lim) (formatted-map image H s F N k6 k7 lim.keys_low lim.first long) k a b,
        ap (occurrences k) sys_held_lem,
      )

  -- slice 1 begins at sector F
  fresh_index : index_words F s (sys_slices H s) ≡ sys_index H s F
  fresh_index =
      let e : F + (1 - 1) * s ≡ F = omega arith in
      index_span F s 1 (ceil_div H s) (some_slices H s F N lim) ∙ ap (λ (q : ℕ). 1 ∷ (s * ceil_div H s) ∷ q ∷ []) e

  fresh_layout : Layout image' p (free_sectors p) (held p) (entry p)
  fresh_layout = record {
    size = length_formatted image H s F N k6 k7 ∙ size;
    kit = fresh_kit;
    map = fresh-map;
    sys = record { index = rw fresh_index (formatted_6 image H s F N k6 k7 lim.keys_low lim.first long); places = rw (formatted_stores image H s F N k6 k7) map_entered_lem };
    map_index = formatted_7 image H s F N k6 k7 lim.keys_low lim.first long;
    files = λ n f h. absurd (some≢none (sym h));
  }

  -- ---- its words

  fresh_words : Words image → k6 < 65536 → k7 < 65536 → Words image'
  fresh_words w a b =
      let n = lim.sectors in
      let f = lim.some_data in
      let sys_size : s * ceil_div H s < 65536 = omega (arith, sys_sectors H s F N lim) in
      let zeros : (l : List ℕ) → Words l → Words (0 ∷ 0 ∷ 0 ∷ l) = λ l x. words_cons 0 _ (omega arith) (words_cons 0 _ (omega arith) (words_cons 0 l (omega arith) x)) in
      let entry : (x y z len index reserved : ℕ) → x < 65536 → y < 65536 → z < 65536 → len < 65536 → index < 65536 → reserved < 65536
      → Words (x ∷ y ∷ z ∷ 0 ∷ 0 ∷ 0 ∷ 0x8010 ∷ len ∷ index ∷ reserved ∷ 0 ∷ 0 ∷ 0 ∷ 0 ∷ 0 ∷ 0 ∷ []) =
      λ x y z len index reserved hx hy hz hl hi hr.
      words_cons x _ hx (words_cons y _ hy (words_cons z _ hz (zeros _ (words_cons 0x8010 _ (omega arith)
      (words_cons len _ hl (words_cons index _ hi (words_cons reserved _ hr (zeros _ (zeros _ words_none))))))))) in
      words_formatted image H s F N k6 k7 w
      (words_cons 1 _ (omega arith) (words_cons (s * ceil_div H s) _ sys_size (words_cons F _ (omega arith) words_none)))
      (words_cons H _ (omega (arith, lim.keys_high)) (words_cons s _ (omega (arith, lim.slice_high)) (words_cons N _ (omega arith)
      (words_cons (fresh_free H s F N) _ (omega (arith, free_sectors_lem H s F N lim)) (words_cons F _ (omega arith) (words_cons N _ (omega arith)
      (words_cons k6 _ a (words_cons k7 _ b words_none))))))))
      (entry 0x5359 0x5300 0 (H * 1) 6 (s * length (sys_slices H s)) (omega arith) (omega arith) (omega arith) (omega (arith, lim.keys_high)) (omega arith)
      (omega (arith, ap (λ (x : ℕ). s * x) (length_sys H s F N lim))))
      (entry 0x4D41 0x5000 0 1 7 1 (omega arith) (omega arith) (omega arith) (omega arith) (omega arith) (omega arith))

-- THE THEOREM: whatever the image held before, Format's image represents the fresh unit.
pub format_represents : (image : List ℕ) (state : State) (H s F N k6 k7 : ℕ) → Limits H s F N → length image ≡ 256 * N → Words image → k6 < 65536 → k7 < 65536
    → Shaped state → NoneOpen state
    → Represents (formatted image H s F N k6 k7) state (fresh_unit state.unit H s F N)
format_represents image state H s F N k6 k7 lim size words a b shaped closed = record {
  words = fresh_words image state.unit H s F N k6 k7 lim size words a b;
  layout = fresh_layout image state.unit H s F N k6 k7 lim size;
  areas = fresh_areas state H s F N shaped closed;
}

-- "H = 1, s = 2, N = 20, F = 10: (P5) fresh map word 0 is 7800h, free 8", for every old content.
pub format_paper : (image : List ℕ) (k6 k7 : ℕ) → length image ≡ 256 * 20
    → (word (formatted image 1 2 10 20 k6 k7) map_sector 0 ≡ 0x7800) × (word (formatted image 1 2 10 20 k6 k7) kit_sector 3 ≡ 8)
format_paper image k6 k7 size =
    let long : 2560 ≤ length image = omega arith in (
      formatted-map image 1 2 10 20 k6 k7 (omega arith) (omega arith) long 0 (omega arith),
      (formatted_8 image 1 2 10 20 k6 k7 (omega arith) (omega arith) long).at 3 (omega arith) (omega arith),
    )
