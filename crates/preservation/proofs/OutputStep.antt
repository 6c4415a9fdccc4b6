-- Output: a block of a file is replaced, or one is appended, with a slice taken where it is needed. The booked entry stays.
use mathlib.Core.Path.{◌≡◌, refl, sym, ap, ◌∙◌, ap₂, subst}
use mathlib.Core.Bool.{true, ◌||◌}
use mathlib.Core.List.{List, [], ◌∷◌, ◌++◌}
use mathlib.Core.Logic.{◌≢◌, ◌⊎◌, inl, inr}
use mathlib.Core.Option.{Option, some}
use Prim.Native.Nat.{ℕ, zero, suc, ◌+◌, ◌*◌, ◌/◌, ◌≤◌, ◌<◌}
use native.Mathlib.Omega.{arith}
use lib.Dec.{T, leb, eqb, leb→le, eqb→eq}
use lib.ListN.{length, get_or, set, length-append, length-set, get_or-append, take, drop}
use lib.Seq.{get_or-append_seam, get_or-set_same, get_or-set_other}
use Rattle.disc.specs.Words.{Words, Holds}
use Rattle.disc.specs.Attributes.{extendable}
use Rattle.disc.specs.Slices.{occurrences}
use Rattle.disc.specs.Stretches.{sector_in, stretch_count, index_words, block_sector, file_from}
use Rattle.disc.specs.Map.{ones_in_map}
use Rattle.disc.specs.Entries.{index_sector}
use Rattle.disc.proofs.Compare.{same_or}
use Rattle.disc.proofs.SliceLaws.{occurrences_append}
use Rattle.disc.proofs.OneStretchLaws.{length_for_file}
use Rattle.disc.proofs.TakenLaws.{free_same}
use Rattle.words.specs.Store.{store, sector_words, zero_words}
use Rattle.words.proofs.StoreLaws.{length_store, words_store, holds_store, store_same, length-zero_words, words-zero_words, length-sector_words, get_d_sector_words, words-sector_words, sector_words_holds}
use Rattle.map.specs.Marks.{all_used}
use Rattle.map.proofs.MarkLaws.{length_all_marked}
use Rattle.plain.specs.Table.{Table, table_find, table_put}
use Rattle.plain.specs.Unit.{Plain, File, AreaUser, M, held, free_slices, free_sectors, file_entry, entry}
use Rattle.plain.specs.Transput.{rewritten, with_file, slices_to_take}
use Rattle.plain.specs.Good.{Good}
use Rattle.plain.proofs.TableLaws.{find_put, find_put_other}
use Rattle.plain.proofs.KeepsAreas.{occurrences_put}
use Rattle.plain.proofs.KeepsTransput.{replace_good, append_few, append_good}
use Rattle.plain.proofs.UnitLaws.{entry_beside, entry_of}
use Rattle.refine.specs.Represents.{FileOnImage, Layout}
use Rattle.refine.specs.OnDisc.{OnDisc}
use Rattle.refine.specs.Writes.{taken_image, replaced_image, appended_image, extended_image}
use Rattle.refine.proofs.Sectors.{Same, same_refl, same_trans, holds_kept, sector_outside}
use Rattle.refine.proofs.Ground.{Ground, ground, first_in, block_in, file_data, in_file, part_file}
use Rattle.refine.proofs.Writers.{relabel, long, write_used, write_file, grown_sector}
use Rattle.preservation.proofs.WriteLaws.{counted_on, counted_word, taken_size, taken_keep, taken_holds, taken_index, words_taken, words_index_part, words_marks, counted_store}
use Rattle.preservation.specs.Units.{append_slices}
use borrow.Author.Tests.{leb-true}
use Rattle.plain.specs.Questions.{fill}
use Rattle.plain.specs.Areas.{moved}
use Rattle.plain.proofs.QuestionLaws.{or_case}
use Rattle.plain.proofs.WordLaws.{words_of_take}
use Rattle.preservation.proofs.AreaMessages.{output_on}

-- ---- the unit

module _ {p : Plain} (g : Good p) (n : ℕ) {f : File} (found : table_find n p.files ≡ some f) (slices : List ℕ) (sectors : List (List ℕ)) where
  -- the booked entry sees the first slice alone
  pub rewrite_entries : index_sector p.F p.s f.booked_slices slices ≡ index_sector p.F p.s f.booked_slices f.slices
      → (m : ℕ) → entry (with_file n (rewritten f slices sectors) p) m ≡ entry p m
  rewrite_entries first m =
      let new : File = rewritten f slices sectors in
      let p' : Plain = with_file n new p in
      let ordinary = (g.catalog.files n f found).ordinary in
      let words : file_entry p.F p.s n new ≡ file_entry p.F p.s n f = rw first refl in
      same_or m n
      (λ e. ap (entry p') e ∙ entry_of p' n new ordinary (find_put n new p.files) ∙ ap some words ∙ sym (entry_of p n f ordinary found) ∙ ap (entry p) (sym e))
      (λ d. entry_beside p (table_put n new p.files) p.areas m (find_put_other m n new p.files d))

-- ---- the image: an index and one block are stored

-- In an image i₂ with the index of the slices, block b is stored; the other blocks and their sectors are the old ones.
module _ {i₁ : List ℕ} {p : Plain} {v : ℕ} {h : List ℕ} {E : ℕ → Option (List ℕ)} (g : Ground p) (r : Layout i₁ p v h E) (n : ℕ) {f : File} (found : table_find n p.files ≡ some f)
    (slices : List ℕ) (sectors : List (List ℕ)) (g' : Ground (with_file n (rewritten f slices sectors) p))
    (b : ℕ) (words : List ℕ) (len : length words ≡ 256) (in₀ : b < length sectors) (own : get_or sectors b [] ≡ words)
    (rest : (c : ℕ) → c < length sectors → c ≢ b → (c < length f.sectors) × (get_or sectors c [] ≡ get_or f.sectors c []))
    (place : (c : ℕ) → c < length f.sectors → sector_in p.F p.s slices (c + 1) ≡ sector_in p.F p.s f.slices (c + 1))
    (i₂ : List ℕ) (size : length i₂ ≡ length i₁) (keep : (q : ℕ) → q ≢ sector_in p.F p.s slices 0 → Same i₁ i₂ q)
    (indexed : Holds i₂ (sector_in p.F p.s slices 0) (index_words p.F p.s slices)) where
  abbrev f' : File
  f' = rewritten f slices sectors

  abbrev p' : Plain
  p' = with_file n f' p

  abbrev at : ℕ
  at = block_sector p.F p.s slices file_from b

  abbrev i₃ : List ℕ
  i₃ = store i₂ (at * 256) words

  here : table_find n p'.files ≡ some f'
  here = find_put n f' p.files

  inside : (c : ℕ) → c < length sectors → (c + 1) / p.s < length slices
  inside c x = block_in p' g' n f' here c x

  zero_in : 0 / p.s < length slices
  zero_in = first_in p' g' slices (let x = inside b in₀ in omega arith)

  stored : (q : ℕ) → q ≢ at → Same i₂ i₃ q
  stored q d = (sector_outside i₂ words at (omega arith)).same q (d, tt)

  not_index : (c : ℕ) → c < length sectors → sector_in p.F p.s slices (c + 1) ≢ sector_in p.F p.s slices 0
  not_index c x e = let z : c + 1 ≡ 0 = in_file p' g' n f' here (c + 1) 0 (inside c x) zero_in e in omega arith

  block_off : (c : ℕ) → c < length sectors → c ≢ b → sector_in p.F p.s slices (c + 1) ≢ at
  block_off c x d e = let z : c + 1 ≡ b + 1 = in_file p' g' n f' here (c + 1) (b + 1) (inside c x) (inside b in₀) e in d (omega arith)

  blocks : (c : ℕ) → c < length sectors → Holds i₃ (sector_in p.F p.s slices (c + 1)) (get_or sectors c [])
  blocks c x = same_or c b
      (λ e. rw (e, own) (holds_store i₂ at words (let d = file_data p' g' n f' here (b + 1) (inside b in₀) in omega (arith, d.1, r.size))))
      (λ d.
      let old = rest c x d in
      rw old.1
      (holds_kept (rw (place c old.0) ((r.files n f found).blocks c old.0)) (same_trans (keep _ (not_index c x)) (stored _ (block_off c x d)))))

  file : FileOnImage i₃ p.F p.s f'
  file = record { index = λ x. holds_kept indexed (stored _ (λ e. not_index b in₀ (sym e))); blocks = blocks }

  pub write_block : Layout i₃ p' v h E
  write_block =
      write_file g r n f' g' i₃ (length_store i₂ (at * 256) words ∙ size)
      (λ q off. same_trans (keep q (off 0 zero_in)) (stored q (off (b + 1) (inside b in₀)))) file

-- ---- replace

module _ {i : List ℕ} {p : Plain} (o : OnDisc i p) (n : ℕ) {f : File} (found : table_find n p.files ≡ some f) (b : ℕ) (in₀ : b < length f.sectors)
    (words : List ℕ) (len : length words ≡ 256) (w : Words words) where
  abbrev sectors₁ : List (List ℕ)
  sectors₁ = set f.sectors b words

  same_length : length sectors₁ ≡ length f.sectors
  same_length = length-set f.sectors b words

  good₁ : Good (with_file n (rewritten f f.slices (set f.sectors b words)) p)
  good₁ = replace_good o.good n found b words (record { count = len; words = w })

  pub replace_on : OnDisc (replaced_image p i f b words) (with_file n (rewritten f f.slices (set f.sectors b words)) p)
  unfolding replaced_image
  replace_on =
      let p' : Plain = with_file n (rewritten f f.slices sectors₁) p in
      let gr = ground p o.good in
      let has : 0 < length f.slices = (let x = block_in p gr n f found b in₀ in omega arith) in
      let r = write_block gr o.layout n found f.slices sectors₁ (ground p' good₁) b words len (omega (arith, same_length)) (get_or-set_same f.sectors b words [] in₀)
      (λ c x d. (omega (arith, same_length), get_or-set_other f.sectors b c words [] d)) (λ c x. refl) i refl (λ q d. same_refl i q) ((o.layout.files n f found).index has) in
      let same : (k : ℕ) → occurrences k (held p') ≡ occurrences k (held p) = λ k. omega (arith, occurrences_put p n f (rewritten f f.slices sectors₁) k found) in
      record {
        good = good₁;
        words = words_store i _ words o.words w;
        layout = relabel r (ap (λ (x : ℕ). p.s * x) (free_same (M p) (held p') (held p) same)) same (rewrite_entries o.good n found f.slices sectors₁ refl);
      }

-- ---- append

-- a list lengthened keeps its first slice
index_append : (F s c : ℕ) (l m : List ℕ) → c ≤ length l → index_sector F s c (l ++ m) ≡ index_sector F s c l
index_append F s zero l m h = refl
index_append F s (suc c) [] m h = absurd (omega arith)
index_append F s (suc c) (x ∷ l) m h = refl

module _ {i : List ℕ} {p : Plain} (o : OnDisc i p) (n : ℕ) {f : File} (found : table_find n p.files ≡ some f) {users : Table AreaUser} (live : table_find n p.areas ≡ some users)
    (ext : T (extendable f.attributes)) (room : slices_to_take p.s f ≤ free_slices p)
    (few : (slices_to_take p.s f ≡ 0) ⊎ (stretch_count (f.slices ++ append_slices p f) ≤ 127))
    (words : List ℕ) (len : length words ≡ 256) (w : Words words) where
  abbrev count : ℕ
  count = slices_to_take p.s f

  abbrev new : List ℕ
  new = append_slices p f

  abbrev slices : List ℕ
  slices = f.slices ++ new

  abbrev sectors₂ : List (List ℕ)
  sectors₂ = f.sectors ++ (words ∷ [])

  abbrev more : File
  more = rewritten f slices sectors₂

  abbrev after : Plain
  after = with_file n more p

  new_count : length new ≡ count
  new_count = length_for_file (M p) (held p) f.slices count

  slices_count : length slices ≡ length f.slices + count
  slices_count = omega (arith, length-append f.slices new, new_count)

  one_more : length sectors₂ ≡ suc (length f.sectors)
  one_more = omega (arith, length-append f.sectors (words ∷ []))

  few₂ : stretch_count slices ≤ 127
  few₂ = append_few o.good n found few

  good₂ : Good after
  good₂ = append_good o.good n found live ext room few₂ words (record { count = len; words = w })

  gr : Ground p
  gr = ground p o.good

  gr' : Ground after
  gr' = ground after good₂

  here₂ : table_find n after.files ≡ some more
  here₂ = find_put n more p.files

  abbrev q₀ : ℕ
  q₀ = sector_in p.F p.s slices 0

  -- the map
  abbrev i₄ : List ℕ
  i₄ = all_used i new

  held_more : (k : ℕ) → occurrences k (held after) ≡ occurrences k new + occurrences k (held p)
  held_more k = omega (arith, occurrences_put p n f more k found, occurrences_append k f.slices new)

  r₄ : Layout i₄ p (free_sectors p) (held after) (entry p)
  r₄ = write_used gr o.layout new (held after) good₂.once held_more

  -- the index block
  abbrev i₅ : List ℕ
  i₅ = taken_image i q₀ p.F p.s f.slices new

  has : 0 < length slices
  has = let x = block_in after gr' n more here₂ 0 (omega (arith, one_more)) in omega arith

  index_in : q₀ * 256 + 256 ≤ length i₄
  index_in = let d = file_data after gr' n more here₂ 0 (first_in after gr' slices has) in omega (arith, d.1, r₄.size)

  indexed₅ : Holds i₅ q₀ (index_words p.F p.s slices)
  indexed₅ = same_or count 0
      (λ z.
      let some_there : 0 < length f.slices = omega (arith, has, slices_count) in
      taken_index i q₀ p.F p.s f.slices new few₂ index_in
      (rw (grown_sector p.F p.s f.slices new 0 (first_in p gr f.slices some_there)) ((r₄.files n f found).index some_there)))
      (λ d. taken_holds i q₀ p.F p.s f.slices new few₂ index_in (omega (arith, new_count)))

  r₆ : Layout (store i₅ (block_sector p.F p.s slices file_from (length f.sectors) * 256) words) after (free_sectors p) (held after) (entry p)
  r₆ =
      write_block gr r₄ n found slices sectors₂ gr' (length f.sectors) words len (omega (arith, one_more)) (get_or-append_seam f.sectors words [] [])
      (λ c x d. let lt : c < length f.sectors = omega (arith, one_more) in (lt, get_or-append f.sectors (words ∷ []) [] c lt))
      (λ c x. grown_sector p.F p.s f.slices new (c + 1) (block_in p gr n f found c x))
      i₅ (taken_size i q₀ p.F p.s f.slices new) (λ q d. taken_keep i q₀ p.F p.s f.slices new few₂ q (λ x. d)) indexed₅

  part : (k : ℕ) → occurrences k new ≤ occurrences k (held after)
  part k = omega (arith, held_more k)

  pub append_words : Words (taken_image i (sector_in p.F p.s (f.slices ++ append_slices p f) 0) p.F p.s f.slices (append_slices p f))
  append_words =
      words_taken i q₀ p.F p.s f.slices new (words_marks after gr' 0 (omega arith) new i part (long gr o.layout) o.words)
      (words_index_part after gr' slices (part_file after gr' n more here₂))

  -- the block's sector is a data sector in the image
  pub append_inside : (10 ≤ block_sector p.F p.s (f.slices ++ append_slices p f) file_from (length f.sectors))
      × (block_sector p.F p.s (f.slices ++ append_slices p f) file_from (length f.sectors) * 256 + 256 ≤ length i)
  append_inside =
      let d = file_data after gr' n more here₂ (length f.sectors + 1) (block_in after gr' n more here₂ (length f.sectors) (omega (arith, one_more))) in
      (d.0, omega (arith, d.1, o.layout.size))

  words₆ : Words (store i₅ (block_sector p.F p.s slices file_from (length f.sectors) * 256) words)
  words₆ = words_store i₅ _ words append_words w

  pub append_on : OnDisc (appended_image p i f (append_slices p f) words) (with_file n (rewritten f (f.slices ++ append_slices p f) (f.sectors ++ (words ∷ []))) p)
  unfolding appended_image
  append_on =
      counted_on good₂ words₆
      (relabel r₆ refl (λ x. refl)
      (rewrite_entries o.good n found slices sectors₂ (index_append p.F p.s f.booked_slices f.slices new (o.good.catalog.files n f found).booked_slices_low)))

-- ---- an append in two parts: the slices are taken, then the block is stored

module _ {i : List ℕ} {p : Plain} (o : OnDisc i p) (n : ℕ) {f : File} (found : table_find n p.files ≡ some f) {users : Table AreaUser} (live : table_find n p.areas ≡ some users)
    (ext : T (extendable f.attributes)) (room : slices_to_take p.s f ≤ free_slices p)
    (few : (slices_to_take p.s f ≡ 0) ⊎ (stretch_count (f.slices ++ append_slices p f) ≤ 127)) where
  -- the block's sector, the image with the slices taken, and the words that stand in the sector there
  abbrev sector : ℕ
  sector = block_sector p.F p.s (f.slices ++ append_slices p f) file_from (length f.sectors)

  abbrev longer : List ℕ
  longer = taken_image i (sector_in p.F p.s (f.slices ++ append_slices p f) 0) p.F p.s f.slices (append_slices p f)

  abbrev pub words_there : List ℕ
  words_there = sector_words longer sector

  data_there : (10 ≤ sector) × (sector * 256 + 256 ≤ length i)
  data_there = append_inside o n found live ext room few (zero_words 256) (length-zero_words 256) (words-zero_words 256)

  longer_size : length longer ≡ length i
  longer_size = taken_size i _ p.F p.s f.slices (append_slices p f) ∙ length_all_marked 0 (append_slices p f) i

  count_there : length words_there ≡ 256
  count_there = length-sector_words longer sector (omega (arith, data_there.1, longer_size))

  words_there_lem : Words words_there
  words_there_lem = words-sector_words longer sector (append_words o n found live ext room few (zero_words 256) (length-zero_words 256) (words-zero_words 256))

  stored_there : store longer (sector * 256) words_there ≡ longer
  stored_there = store_same longer (sector * 256) words_there (λ b h. sym (get_d_sector_words longer sector b (omega (arith, count_there))))

  -- the block is the file's before it is stored, with the words that stand there
  pub extended_on : OnDisc (extended_image p i f (append_slices p f)) (with_file n (rewritten f (f.slices ++ append_slices p f) (f.sectors ++ (words_there ∷ []))) p)
  unfolding extended_image appended_image
  extended_on = rw stored_there at (append_on o n found live ext room few words_there count_there words_there_lem)

  -- the free sectors that are counted are a word
  pub extended_counts : p.s * ones_in_map longer < 65536
  unfolding extended_image
  extended_counts = counted_word longer p.s (omega (arith, long (ground p o.good) o.layout, longer_size)) extended_on.words

  pub appended_stored : (words : List ℕ) → length words ≡ 256
      → store (extended_image p i f (append_slices p f)) (block_sector p.F p.s (f.slices ++ append_slices p f) file_from (length f.sectors) * 256) words
      ≡ appended_image p i f (append_slices p f) words
  unfolding extended_image appended_image
  appended_stored words len = sym (counted_store longer words p.s sector data_there.0 (omega arith))

-- ---- input and output as the plain unit has them: the lent words that Input fills are the block's, and the image after each is that
-- of the unit of the outcome.

-- ---- the block at a position

module _ {i : List ℕ} {p : Plain} (o : OnDisc i p) (n : ℕ) {f : File} (found : table_find n p.files ≡ some f) (k : ℕ) (below : k < length f.sectors) where
  pub block_inside : block_sector p.F p.s f.slices file_from k * 256 + 256 ≤ length i
  block_inside =
      let g = ground p o.good in
      let d = file_data p g n f found (k + 1) (block_in p g n f found k below) in
      omega (arith, d.1, o.layout.size)

  pub block_words : sector_words i (block_sector p.F p.s f.slices file_from k) ≡ get_or f.sectors k []
  block_words =
      sector_words_holds i (block_sector p.F p.s f.slices file_from k) (get_or f.sectors k []) block_inside ((o.good.catalog.files n f found).sectors k below).count
      ((o.layout.files n f found).blocks k below)

  -- "Input hands out the sector there."
  pub input_filled : (lent : List ℕ) → sector_words i (block_sector p.F p.s f.slices file_from k) ++ drop 256 lent ≡ fill (get_or f.sectors k []) lent
  input_filled lent = ap₂ (λ (x : List ℕ) (c : ℕ). x ++ drop c lent) block_words (sym ((o.good.catalog.files n f found).sectors k below).count)

-- ---- the questions of an append give the step's premises

-- The questions of an append, each answered yes: "extendable; where a slice is needed: one free; at most 127 stretches with it".
pub record Appends (p : Plain) (f : File) : Type 0 where
  pub extends : extendable f.attributes ≡ true
  pub free : leb (slices_to_take p.s f) (free_slices p) ≡ true
  pub few : (eqb (slices_to_take p.s f) 0 || leb (stretch_count (f.slices ++ append_slices p f)) 127) ≡ true

module _ {p : Plain} {f : File} (a : Appends p f) where
  pub appends_extends : T (extendable f.attributes)
  appends_extends = subst T (sym a.extends) tt

  pub appends_room : slices_to_take p.s f ≤ free_slices p
  appends_room = leb-true (slices_to_take p.s f) (free_slices p) a.free

  pub appends_few : (slices_to_take p.s f ≡ 0) ⊎ (stretch_count (f.slices ++ append_slices p f) ≤ 127)
  appends_few =
      or_case (eqb (slices_to_take p.s f) 0) (leb (stretch_count (f.slices ++ append_slices p f)) 127)
      (λ t. inl (eqb→eq (slices_to_take p.s f) 0 t)) (λ t. inr (leb→le (stretch_count (f.slices ++ append_slices p f)) 127 t)) (subst T (sym a.few) tt)

-- ---- the image after input and output at position k

module _ {i : List ℕ} {p : Plain} (o : OnDisc i p) (n sender : ℕ) {users : Table AreaUser} {u : AreaUser} {f : File} (live : table_find n p.areas ≡ some users)
    (w : table_find sender users ≡ some u) (found : table_find n p.files ≡ some f) (k : ℕ) where
  module _ (lent : List ℕ) (long : 256 ≤ length lent) (words : Words lent) where
    pub replaced_on : k < length f.sectors
        → OnDisc (replaced_image p i f k (take 256 lent)) (with_file n (rewritten f f.slices (set f.sectors k (take 256 lent))) (moved p n sender users u (suc k)))
    replaced_on below =
        let t = words_of_take 256 lent long words in
        output_on p n sender (rewritten f f.slices (set f.sectors k (take 256 lent))) (suc k) live w (omega (arith, length-set f.sectors k (take 256 lent)))
        (replace_on o n found k below (take 256 lent) t.count t.words)

    pub appended_on : k ≤ length f.sectors → Appends p f
        → OnDisc (appended_image p i f (append_slices p f) (take 256 lent))
        (with_file n (rewritten f (f.slices ++ append_slices p f) (f.sectors ++ (take 256 lent ∷ []))) (moved p n sender users u (suc k)))
    appended_on low a =
        let t = words_of_take 256 lent long words in
        output_on p n sender (rewritten f (f.slices ++ append_slices p f) (f.sectors ++ (take 256 lent ∷ []))) (suc k) live w
        (omega (arith, length-append f.sectors (take 256 lent ∷ [])))
        (append_on o n found live (appends_extends a) (appends_room a) (appends_few a) (take 256 lent) t.count t.words)
