-- The file that a place of SYS shows, by the words of the place, the open areas and the image, and its entry.
use mathlib.Core.Path.{◌≡◌, refl, sym, ap, ◌∙◌}
use mathlib.Core.List.{List, [], ◌∷◌}
use mathlib.Core.Logic.{◌≢◌}
use mathlib.Core.Option.{Option, none, some}
use Prim.Native.Nat.{ℕ, zero, suc, ◌+◌, ◌*◌, ◌/◌, ◌%◌, ◌≤◌, ◌<◌}
use native.Mathlib.Omega.{arith}
use native.Mathlib.Nat.{div-eq_of_eq-mul_right}
use lib.ListN.{length, get_or}
use Rattle.types.specs.declared.Area.{Area}
use Rattle.types.specs.declared.State.{State}
use Rattle.disc.specs.Numbers.{need}
use Rattle.disc.specs.Words.{word, Words, Holds}
use Rattle.disc.specs.Stretches.{stretch_count, index_words, slices_at, sector_in, block_sector, file_from}
use Rattle.disc.specs.Entries.{name_at, index_sector}
use Rattle.disc.proofs.WordLaws.{words_none, words_cons}
use Rattle.disc.proofs.NameLaws.{pack_first, pack_second, pack_third}
use Rattle.disc.proofs.StretchLaws.{count_le}
use Rattle.disc.proofs.EntryLaws.{sector_first}
use Rattle.words.specs.Store.{sector_words}
use Rattle.plain.specs.Unit.{File, file_entry}
use Rattle.plain.specs.Good.{WordsOf}
use Rattle.sound.specs.Places.{IndexBlock, OwnIndex, slices_from, index_if}
use Rattle.sound.specs.State.{open_area, live_index, live_length}
use Rattle.sound.specs.Sound.{index_of, length_of, slices_of, SoundFile}
use Rattle.refine.proofs.UnitFiles.{index_some}

-- ---- a list by its elements

module _ {A : Type 0} where
  -- f 0, .., f (n - 1)
  abbrev list_of : ℕ → (ℕ → A) → List A
  list_of zero f = []
  list_of (suc n) f = f 0 ∷ list_of n (λ b. f (suc b))

  length-list_of : (n : ℕ) (f : ℕ → A) → length (list_of n f) ≡ n
  length-list_of zero f = refl
  length-list_of (suc n) f = ap suc (length-list_of n (λ b. f (suc b)))

  get_d_list_of : (n : ℕ) (f : ℕ → A) (d : A) (b : ℕ) → b < n → get_or (list_of n f) b d ≡ f b
  get_d_list_of zero f d b h = absurd (omega arith)
  get_d_list_of (suc n) f d zero h = refl
  get_d_list_of (suc n) f d (suc b) h = get_d_list_of n (λ b. f (suc b)) d b (omega arith)

pub words-list_of : (n : ℕ) (f : ℕ → ℕ) → ((b : ℕ) → f b < 65536) → WordsOf n (list_of n f)
words-list_of n f small = record { count = length-list_of n f; words = go n f small }
  where
    go : (n : ℕ) (f : ℕ → ℕ) → ((b : ℕ) → f b < 65536) → Words (list_of n f)
    go zero f small = words_none
    go (suc n) f small = words_cons (f 0) (list_of n (λ b. f (suc b))) (small 0) (go n (λ b. f (suc b)) (λ b. small (suc b)))

-- ---- a live index sector, 0 if there is none

-- as many stretches as the block counts, and some slice
pub block_count : (image : List ℕ) (F s q : ℕ) → IndexBlock image F s q → word image q 0 ≡ stretch_count (slices_at image F s q)
block_count image F s q b = b.pairs.at 0 (omega arith) (omega arith)

block_some : (image : List ℕ) (F s q : ℕ) → IndexBlock image F s q → 1 ≤ length (slices_at image F s q)
block_some image F s q b = omega (arith, block_count image F s q b, b.some, count_le (slices_at image F s q))

module _ (image : List ℕ) (F s : ℕ) where
  pub few_from : (q : ℕ) → (q ≢ 0 → OwnIndex image F s q) → stretch_count (slices_from image F s q) ≤ 127
  few_from zero own = omega arith
  few_from (suc q) own =
      let b = (own (omega arith)).block in
      omega (arith, block_count image F s (suc q) b, b.few)

  -- it is that of the slices that it describes
  pub index_from : (q : ℕ) → (q ≢ 0 → OwnIndex image F s q) → index_sector F s (length (slices_from image F s q)) (slices_from image F s q) ≡ q
  index_from zero own = refl
  index_from (suc q) own =
      let o = own (omega arith) in
      index_some F s (length (slices_at image F s (suc q))) (slices_at image F s (suc q)) (block_some image F s (suc q) o.block) ∙ o.first

  pub index_holds : (q : ℕ) → (q ≢ 0 → OwnIndex image F s q) → 0 < length (slices_from image F s q)
      → Holds image (sector_in F s (slices_from image F s q) 0) (index_words F s (slices_from image F s q))
  index_holds zero own h = absurd (omega arith)
  index_holds (suc q) own h =
      let e : sector_in F s (slices_at image F s (suc q)) 0 ≡ suc q = sector_first F s (slices_at image F s (suc q)) h ∙ index_from (suc q) own in
      rw e (own (omega arith)).block.pairs

  -- a booked index sector beside the live one
  pub index_booked : (n q : ℕ) → (q ≢ 0 → OwnIndex image F s q) → n ≤ length (slices_from image F s q) → index_sector F s n (slices_from image F s q) ≡ index_if n q
  index_booked zero q own h = refl
  index_booked (suc n) q own h =
      sym (index_some F s (length (slices_from image F s q)) (slices_from image F s q) (omega arith)) ∙ index_from q own

-- ---- the file in a place

module _ (image : List ℕ) (state : State) (F s : ℕ) (P : ℕ → ℕ → ℕ) where
  abbrev sectors_of : ℕ → List (List ℕ)
  sectors_of t = list_of (length_of state P t) (λ b. sector_words image (block_sector F s (slices_of image state F s P t) file_from b))

  abbrev pub read_file : ℕ → File
  read_file t = record {
    attributes = P t 6;
    optional = list_of 3 (λ b. P t (3 + b));
    tail = list_of 6 (λ b. P t (10 + b));
    booked = P t 7;
    booked_slices = P t 9 / s;
    slices = slices_of image state F s P t;
    sectors = sectors_of t;
  }

  pub length_sectors : (t : ℕ) → length (sectors_of t) ≡ length_of state P t
  length_sectors t = length-list_of (length_of state P t) (λ b. sector_words image (block_sector F s (slices_of image state F s P t) file_from b))

  pub sector_at : (t b : ℕ) → b < length (sectors_of t) → get_or (sectors_of t) b [] ≡ sector_words image (block_sector F s (slices_of image state F s P t) file_from b)
  sector_at t b h =
      get_d_list_of (length_of state P t) (λ b. sector_words image (block_sector F s (slices_of image state F s P t) file_from b)) [] b (omega (arith, length_sectors t))

  -- what the booked words say, closed or open
  pub record Shown (t : ℕ) : Type 0 where
    pub reserved : s * (P t 9 / s) ≡ P t 9
    pub index : index_sector F s (P t 9 / s) (slices_of image state F s P t) ≡ P t 8
    pub length_low : P t 7 ≤ length_of state P t
    pub slices_low : P t 9 / s ≤ length (slices_of image state F s P t)
    pub covered : need s (P t 7) ≤ P t 9 / s
    pub closed : open_area state (name_at P t) ≡ none → (P t 7 ≡ length_of state P t) × (P t 9 / s ≡ length (slices_of image state F s P t))

  module _ (pos : 0 < s) (t : ℕ) (sf : SoundFile image state F s P t) where
    abbrev own : index_of state P t ≢ 0 → OwnIndex image F s (index_of state P t)
    own = sf.legal.index

    shown_closed : open_area state (name_at P t) ≡ none → Shown t
    shown_closed e =
        let slices : List ℕ = slices_of image state F s P t in
        let r : P t 9 ≡ s * length slices = sf.closed e in
        let n : P t 9 / s ≡ length slices = div-eq_of_eq-mul_right pos r in
        let l : length_of state P t ≡ P t 7 = ap (λ (o : Option Area). live_length o (P t 7)) e in
        let i : index_of state P t ≡ P t 8 = ap (λ (o : Option Area). live_index o (P t 8)) e in
        record {
          reserved = ap (λ (x : ℕ). s * x) n ∙ sym r;
          index = ap (λ (x : ℕ). index_sector F s x slices) n ∙ index_from image F s (index_of state P t) own ∙ i;
          length_low = omega arith;
          slices_low = omega arith;
          covered = rw (← l, n) sf.legal.covered;
          closed = λ h. (sym l, n);
        }

    shown_open : (a : Area) → open_area state (name_at P t) ≡ some a → Shown t
    shown_open a e =
        let slices : List ℕ = slices_of image state F s P t in
        let b = sf.booked a e in
        let n : P t 9 / s ≡ b.slices = div-eq_of_eq-mul_right pos b.sectors in
        record {
          reserved = ap (λ (x : ℕ). s * x) n ∙ sym b.sectors;
          index = ap (λ (x : ℕ). index_sector F s x slices) n ∙ index_booked image F s b.slices (index_of state P t) own b.slices_low ∙ sym b.at;
          length_low = b.length_low;
          slices_low = omega (arith, b.slices_low);
          covered = rw n b.covered;
          closed = λ h. absurd (let z : ◌≡◌ {A = ℕ} 0 1 = cc in omega arith);
        }

    pub shown : Shown t
    shown = go (open_area state (name_at P t)) refl
      where
        go : (o : Option Area) → open_area state (name_at P t) ≡ o → Shown t
        go none e = shown_closed e
        go (some a) e = shown_open a e

  -- the sixteen words of the place are those of the file's entry
  pub entry_shown : (t : ℕ) → ((w : ℕ) → P t w < 65536) → Shown t → (w : ℕ) → w < 16 → P t w ≡ get_or (file_entry F s (name_at P t) (read_file t)) w 0
  entry_shown t small h w x =
      let a : name_at P t / 0x100000000 ≡ P t 0 = pack_first (P t 0) (P t 1) (P t 2) (small 1) (small 2) in
      let b : name_at P t / 65536 % 65536 ≡ P t 1 = pack_second (P t 0) (P t 1) (P t 2) (small 1) (small 2) in
      let c : name_at P t % 65536 ≡ P t 2 = pack_third (P t 0) (P t 1) (P t 2) (small 2) in
      let e : list_of 16 (P t) ≡ file_entry F s (name_at P t) (read_file t) = rw (a, b, c, h.index, h.reserved) refl in
      sym (get_d_list_of 16 (P t) 0 w x) ∙ ap (λ (l : List ℕ). get_or l w 0) e
