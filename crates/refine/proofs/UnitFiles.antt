-- The files of a represented plain unit, as the places of SYS and the open areas show them.
use mathlib.Core.Path.{◌≡◌, refl, sym, ap, ◌∙◌}
use mathlib.Core.List.{List, [], ◌∷◌}
use mathlib.Core.Logic.{◌≢◌, ⊎_elim}
use mathlib.Core.Option.{Option, none, some}
use Prim.Native.Nat.{ℕ, zero, suc, ◌+◌, ◌*◌, ◌-◌, ◌≤◌, ◌<◌}
use native.Mathlib.Omega.{arith}
use lib.ListN.{length, get_or}
use lib.Dec.{T}
use Rattle.types.specs.declared.Area.{Area}
use Rattle.types.specs.declared.State.{State}
use Rattle.disc.specs.Numbers.{slice_start}
use Rattle.disc.specs.Words.{word, Holds}
use Rattle.disc.specs.Names.{is_system}
use Rattle.disc.specs.Slices.{first_of}
use Rattle.disc.specs.Stretches.{sector_in, index_words, stretch_count, slices_at}
use Rattle.disc.specs.Kit.{sys_index_sector}
use Rattle.disc.specs.Entries.{name_at, index_sector}
use Rattle.disc.specs.Catalog.{places_of, places_in}
use Rattle.disc.proofs.Compare.{below_or}
use Rattle.disc.proofs.StretchLaws.{count_some}
use Rattle.disc.proofs.EntryLaws.{entry_attributes_lem, entry_size, entry_index, entry_reserved, sector_first, index_none}
use Rattle.disc.proofs.IndexRead.{slices_read}
use Rattle.plain.specs.Table.{Table, table_find}
use Rattle.plain.specs.Unit.{Plain, File, AreaUser, sys_of, file_entry, entry}
use Rattle.plain.specs.Good.{Good, GoodFile}
use Rattle.plain.proofs.TableLaws.{some≢none, some_inj}
use Rattle.plain.proofs.UnitLaws.{entry_cases}
use Rattle.sound.specs.Places.{Unused, Used, IndexBlock, OwnIndex, slices_from, index_if, LegalFile}
use Rattle.sound.specs.State.{open_area, live_index, live_length}
use Rattle.sound.specs.Sound.{index_of, length_of, slices_of, SoundFile}
use Rattle.refine.specs.Represents.{PlaceOf, FileOnImage, LiveArea, area_of_state, area_of_unit, Represents}
use Rattle.refine.proofs.Ground.{Ground, ground, positive, catalog_slices_lem, sys_ground, file_slices_lem, length_small}
use Rattle.refine.proofs.StateLaws.{users_of_lem}

-- ---- one file's index block

-- the index sector is the first slice's where there is one
pub index_some : (F s n : ℕ) (l : List ℕ) → 1 ≤ n → index_sector F s n l ≡ slice_start F s (first_of l)
index_some F s zero l h = absurd (omega arith)
index_some F s (suc n) l h = refl

-- a file with slices has an index block in the sector of its first slice
pub index_block : (image : List ℕ) (F s q : ℕ) (l : List ℕ) → 0 < s → ((j : ℕ) → j < length l → 1 ≤ get_or l j 0) → 0 < length l → stretch_count l ≤ 127 → Holds image q (index_words F s l)
    → IndexBlock image F s q
index_block image F s q l pos above has few h =
    let read : slices_at image F s q ≡ l = slices_read image F s q pos l above few h in
    let count : word image q 0 ≡ stretch_count l = h.at 0 (omega arith) (omega arith) in
    record { some = rw count (count_some l has); few = rw count few; pairs = rw read h }

-- sector 6 describes SYS's slices
module _ (image : List ℕ) (p : Plain) (g : Good p) (h : Holds image sys_index_sector (index_words p.F p.s p.sys)) where
  sys_some : 0 < length p.sys
  sys_some = go p.sys g.sys_first
    where
      go : (l : List ℕ) → first_of l ≡ 1 → 0 < length l
      go [] e = absurd (omega arith)
      go (x ∷ l) e = omega arith

  pub sys_read : slices_at image p.F p.s sys_index_sector ≡ p.sys
  sys_read = slices_read image p.F p.s sys_index_sector (positive p (ground p g)) p.sys (catalog_slices_lem (sys_ground (ground p g))) g.catalog.few h

  pub sys_index_lem : IndexBlock image p.F p.s sys_index_sector
  sys_index_lem = index_block image p.F p.s sys_index_sector p.sys (positive p (ground p g)) (catalog_slices_lem (sys_ground (ground p g))) sys_some g.catalog.few h

-- the slices read from a file's index sector are its own
pub slices_from_lem : (image : List ℕ) (F s : ℕ) (f : File) → 10 ≤ F → 0 < s → ((j : ℕ) → j < length f.slices → 1 ≤ get_or f.slices j 0) → stretch_count f.slices ≤ 127
    → FileOnImage image F s f → slices_from image F s (index_sector F s (length f.slices) f.slices) ≡ f.slices
slices_from_lem image F s f low pos above few h = go f.slices refl (index_sector F s (length f.slices) f.slices) refl
  where
    go : (l : List ℕ) → f.slices ≡ l → (q : ℕ) → index_sector F s (length f.slices) f.slices ≡ q → slices_from image F s q ≡ f.slices
    go [] e zero z = sym e
    go [] e (suc q) z = absurd (let y : index_sector F s 0 [] ≡ suc q = rw e at z in omega arith)
    go (x ∷ l) e zero z = absurd (let y : F + (x - 1) * s ≡ 0 = rw e at z in omega arith)
    go (x ∷ l) e (suc q) z =
        let has : 0 < length f.slices = omega (arith, ap length e) in
        let here : sector_in F s f.slices 0 ≡ suc q = sector_first F s f.slices has ∙ z in
        slices_read image F s (suc q) pos f.slices above few (rw here at (h.index has))

pub own_index : (image : List ℕ) (F s : ℕ) (f : File) → 10 ≤ F → 0 < s → ((j : ℕ) → j < length f.slices → 1 ≤ get_or f.slices j 0) → stretch_count f.slices ≤ 127
    → FileOnImage image F s f → index_sector F s (length f.slices) f.slices ≢ 0 → OwnIndex image F s (index_sector F s (length f.slices) f.slices)
own_index image F s f low pos above few h nz = below_or 0 (length f.slices) own (λ y. absurd (nz (index_none F s f.slices y)))
  where
    own : 0 < length f.slices → OwnIndex image F s (index_sector F s (length f.slices) f.slices)
    own has =
        let q : ℕ = index_sector F s (length f.slices) f.slices in
        let words : Holds image q (index_words F s f.slices) = rw (sector_first F s f.slices has) at (h.index has) in
        let read : slices_at image F s q ≡ f.slices = slices_read image F s q pos f.slices above few words in
        record {
          block = index_block image F s q f.slices pos above has few words;
          first = ap (λ (l : List ℕ). slice_start F s (first_of l)) read ∙ sym (index_some F s (length f.slices) f.slices has);
        }

-- ---- the file in a place

module _ {image : List ℕ} {state : State} {p : Plain} (g : Good p) (r : Represents image state p) where
  abbrev pub P : ℕ → ℕ → ℕ
  P = places_in image p.F p.s (sys_of p)

  abbrev pub count : ℕ
  count = places_of p.H (sys_of p)

  gr : Ground p
  gr = ground p g

  pub file_at_lem : (t : ℕ) → t < count → Used P t → (T (is_system (name_at P t)) → ⊥)
      → (f : File) × (table_find (name_at P t) p.files ≡ some f) × ((w : ℕ) → w < 16 → P t w ≡ get_or (file_entry p.F p.s (name_at P t) f) w 0)
  file_at_lem t x used other = ⊎_elim
      (λ (z : Unused P t). absurd (used z))
      (λ (u : PlaceOf P p.H (entry p) t). entry_cases p (name_at P t) u.entered (λ q z. absurd (other (rw q tt))) (λ q z. absurd (other (rw q tt)))
      (λ f q z. (f, q, (λ w y. u.holds w y ∙ ap (λ (l : List ℕ). get_or l w 0) z))))
      (r.layout.sys.places.each t x)

  module _ (n : ℕ) (f : File) (found : table_find n p.files ≡ some f) where
    abbrev index : ℕ
    index = index_sector p.F p.s (length f.slices) f.slices

    fg : GoodFile (sys_of p) p.s p.areas n f
    fg = g.catalog.files n f found

    -- what the state says of the name: an area as the unit has it, or none
    pub live_area_lem : (a : Area) → open_area state n ≡ some a → (a.index.0 ≡ index) × (a.length ≡ length f.sectors)
    live_area_lem a e = go (table_find n p.areas) (ap area_of_state (sym e) ∙ r.areas.each n ∙ ap (area_of_unit p.F p.s (table_find n p.areas)) found)
      where
        go : (o : Option (Table AreaUser)) → area_of_state (some a) ≡ area_of_unit p.F p.s o (some f) → (a.index.0 ≡ index) × (a.length ≡ length f.sectors)
        go none z = absurd (some≢none z)
        go (some users) z = (ap (λ (l : LiveArea). l.index) (some_inj z), ap (λ (l : LiveArea). l.size) (some_inj z))

    pub no_live_area : open_area state n ≡ none → table_find n p.areas ≡ none
    no_live_area e = users_of_lem p.F p.s (table_find n p.areas) (table_find n p.files) (ap area_of_state (sym e) ∙ r.areas.each n)

    module _ (t : ℕ) (same : n ≡ name_at P t) (words : (w : ℕ) → w < 16 → P t w ≡ get_or (file_entry p.F p.s n f) w 0) where
      abbrev opt : length f.optional ≡ 3
      opt = fg.optional.count

      attributes_at : P t 6 ≡ f.attributes
      attributes_at = words 6 (omega arith) ∙ entry_attributes_lem n f.optional f.attributes f.booked (index_sector p.F p.s f.booked_slices f.slices) (p.s * f.booked_slices) f.tail opt

      size_at : P t 7 ≡ f.booked
      size_at = words 7 (omega arith) ∙ entry_size n f.optional f.attributes f.booked (index_sector p.F p.s f.booked_slices f.slices) (p.s * f.booked_slices) f.tail opt

      index_at : P t 8 ≡ index_sector p.F p.s f.booked_slices f.slices
      index_at = words 8 (omega arith) ∙ entry_index n f.optional f.attributes f.booked (index_sector p.F p.s f.booked_slices f.slices) (p.s * f.booked_slices) f.tail opt

      reserved_at : P t 9 ≡ p.s * f.booked_slices
      reserved_at = words 9 (omega arith) ∙ entry_reserved n f.optional f.attributes f.booked (index_sector p.F p.s f.booked_slices f.slices) (p.s * f.booked_slices) f.tail opt

      -- the live index sector and length, by the place and the state
      live : (o : Option Area) → open_area state n ≡ o → (live_index o (P t 8) ≡ index) × (live_length o (P t 7) ≡ length f.sectors)
      live none e =
          let c = fg.closed (no_live_area e) in
          (index_at ∙ ap (λ (k : ℕ). index_sector p.F p.s k f.slices) c.1, size_at ∙ c.0)
      live (some a) e = live_area_lem a e

      pub index_of_lem : index_of state P t ≡ index
      index_of_lem = ap (λ (k : ℕ). live_index (open_area state k) (P t 8)) (sym same) ∙ (live (open_area state n) refl).0

      pub length_of_lem : length_of state P t ≡ length f.sectors
      length_of_lem = ap (λ (k : ℕ). live_length (open_area state k) (P t 7)) (sym same) ∙ (live (open_area state n) refl).1

      pub slices_of_lem : slices_of image state p.F p.s P t ≡ f.slices
      slices_of_lem =
          ap (slices_from image p.F p.s) index_of_lem
          ∙ slices_from_lem image p.F p.s f g.limits.first (positive p gr) (file_slices_lem p gr n f found) fg.few (r.layout.files n f found)

      legal_file : LegalFile image p.F p.s f.attributes (length f.sectors) index
      legal_file =
          let own : slices_from image p.F p.s index ≡ f.slices =
          slices_from_lem image p.F p.s f g.limits.first (positive p gr) (file_slices_lem p gr n f found) fg.few (r.layout.files n f found) in
          record {
            allowed = fg.attributes;
            entry_only = rw own fg.entry_only;
            short = length_small p gr n f found;
            covered = rw own fg.covered;
            index = λ nz. own_index image p.F p.s f g.limits.first (positive p gr) (file_slices_lem p gr n f found) fg.few (r.layout.files n f found) nz;
          }

      -- the booked index sector beside the live one
      booked_index : (b : ℕ) → b ≤ length f.slices → index_sector p.F p.s b f.slices ≡ index_if b index
      booked_index zero le = refl
      booked_index (suc b) le = sym (index_some p.F p.s (length f.slices) f.slices (omega arith))

      pub sound_file : SoundFile image state p.F p.s P t
      sound_file = record {
        legal = rw (attributes_at, length_of_lem, index_of_lem) legal_file;
        closed = λ e.
            let c = fg.closed (no_live_area (ap (open_area state) same ∙ e)) in
            reserved_at ∙ ap (λ (k : ℕ). p.s * k) c.1 ∙ ap (λ (l : List ℕ). p.s * length l) (sym slices_of_lem);
        booked = λ a e. rw (slices_of_lem, length_of_lem, index_of_lem, size_at, index_at, reserved_at) (record {
          slices = f.booked_slices;
          sectors = refl;
          length_low = fg.booked_low;
          slices_low = fg.booked_slices_low;
          covered = fg.booked_covered;
          at = booked_index f.booked_slices fg.booked_slices_low;
        });
      }
