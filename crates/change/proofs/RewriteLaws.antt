-- The writes of Change on a unit: what each asks for, and that they leave the image of the file after it.
use mathlib.Core.Path.{◌≡◌, refl, ap, ap₂, ◌∙◌, subst}
use mathlib.Core.Bool.{Bool, true, false, cond}
use mathlib.Core.List.{List}
use mathlib.Core.Logic.{◌≢◌}
use Prim.Native.Nat.{ℕ, ◌+◌, ◌*◌, ◌%◌, ◌≤◌, ◌<◌}
use native.Mathlib.Omega.{arith}
use native.Mathlib.Nat.{mod-lt, mul-le-mul_left}
use lib.ListN.{length, take, drop}
use lib.Seq.{take_all}
use Rattle.disc.specs.Numbers.{bit}
use Rattle.disc.specs.Words.{Words}
use Rattle.disc.specs.Names.{key_of, packed}
use Rattle.disc.specs.Attributes.{permanent}
use Rattle.disc.specs.Stretches.{sector_in}
use Rattle.disc.specs.Map.{ones_in_map}
use Rattle.disc.specs.Entries.{entry_words, index_sector}
use Rattle.disc.specs.Catalog.{place_sector}
use Rattle.disc.proofs.SliceLaws.{sum_law}
use Rattle.words.specs.Store.{store, zero_words}
use Rattle.words.proofs.StoreLaws.{length_store}
use Rattle.index.specs.Block.{whole_index, joint_sector}
use Rattle.catalog.specs.declared.Unit.{Unit}
use Rattle.catalog.specs.Catalog.{place_start, entry_at}
use Rattle.plain.specs.Table.{table_remove}
use Rattle.plain.specs.Unit.{Plain, File, sys_of, M, file_entry, with_files}
use Rattle.plain.specs.Catalog.{optional_in, tail_in}
use Rattle.plain.specs.Good.{WordsOf}
use Rattle.plain.proofs.WordLaws.{optional_words, tail_words}
use Rattle.plain.proofs.KeepsCatalog.{removed_good}
use Rattle.plain.proofs.ChangeUnit.{Changes, changes_size}
use Rattle.plain.proofs.QuestionLaws.{cond_law}
use Rattle.refine.specs.Writes.{counted_free, store_place, empty_place, resized_image, changed_image, renamed_image}
use Rattle.refine.proofs.Ground.{Ground, ground, top}
use Rattle.refine.proofs.Writers.{long}
use Rattle.preservation.proofs.WriteLaws.{counted_word, zeroed_size}
use Rattle.preservation.proofs.ResizeLaws.{resliced_size}
use Rattle.preservation.proofs.ChangeStep.{changes_resizes, changes_entry, change_on, rename_emptied, rename_on}
use Rattle.lookup.specs.Unit.{NumbersOf, CatalogOn}
use Rattle.lookup.proofs.UnitLaws.{on_catalog}
use Rattle.lookup.proofs.FindLaws.{place_room}
use Rattle.lookup.proofs.FileLaws.{file_entry_lem}
use Rattle.lookup.proofs.LookUpLaws.{entry_at_lem}
use Rattle.slices.specs.FileBlock.{FileBlock}
use Rattle.slices.proofs.BlockLaws.{unit_file, index_told}
use Rattle.lookup.specs.Find.{FirstUnused}
use Rattle.change.specs.declared.resize.Extent.{Extent}
use Rattle.change.specs.Resize.{slices_then, CanResizeFrom, CanResize, Resized}
use Rattle.change.proofs.ResizeLaws.{then-length, then_once}
use Rattle.change.specs.declared.rewrite.Standing.{Standing}
use Rattle.change.specs.declared.rewrite.Wanted.{Wanted}
use Rattle.change.specs.Move.{CanMoveFrom, CanMove, Moved, MovedFrom}
use Rattle.change.specs.Rewrite.{StandsAs, file_then, CanRewriteFrom, Rewrites, stayed, moved}
use Rattle.change.proofs.EntryLaws.{lent_optional, lent_tail, entry_optional, entry_tail}
use Rattle.change.proofs.MoveLaws.{stored_place}

-- ---- optional and tail

-- a part of one of two lists
cond_part : (P : List ℕ → List ℕ) (b : Bool) (x y u v : List ℕ) → P x ≡ u → P y ≡ v → P (cond b x y) ≡ cond b u v
cond_part P true x y u v d e = d
cond_part P false x y u v d e = e

module _ {image : List ℕ} {o : Unit} {now : Standing} {w : Wanted} {lent : List ℕ} {p : Plain} {n m : ℕ} {f : File} (can : CanRewriteFrom image o now w lent p n m f) where
  abbrev s₀ : StandsAs image o now p n f
  s₀ = can.stands

  num : NumbersOf o p
  num = can.stands.numbers

  abbrev t : ℕ
  t = can.stands.at.number

  abbrev f' : File
  f' = file_then p f w lent

  gr : Ground p
  gr = ground p s₀.on.good

  changes : Changes p f (file_then p f w lent) w.size w.slices
  changes =
      let fg = s₀.on.good.catalog.files n f s₀.file in
      record {
        slices = refl;
        sectors = refl;
        booked = refl;
        booked_slices = refl;
        needed = can.needed;
        attributes = can.allowed;
        entry_only = can.only;
        optional = cond_law (WordsOf 3) (permanent f.attributes) _ _ fg.optional (optional_words lent can.lent_words can.lent_size);
        tail = cond_law (WordsOf 6) (permanent f.attributes) _ _ fg.tail (tail_words lent can.lent_words can.lent_size);
        room = can.room;
        few = can.few;
      }

  pub place_inside : place_start now.place + 16 ≤ length image
  place_inside = place_room (on_catalog s₀.on) s₀.at.is

  -- ---- the words from which optional and tail come

  module _ {source : List ℕ} {b : Bool} (told : source ≡ cond b (entry_at image now.place) (take 16 lent)) (read : b ≡ bit 11 now.attributes) where
    abbrev old : List ℕ
    old = file_entry p.F p.s n f

    source_is : source ≡ cond (permanent f.attributes) old (take 16 lent)
    source_is =
        told ∙ ap₂ (λ (c : Bool) (l : List ℕ). cond c l (take 16 lent)) (read ∙ ap permanent s₀.attributes)
        (entry_at_lem (on_catalog s₀.on) s₀.at ∙ file_entry_lem s₀.on.good s₀.at f s₀.file)

    source_optional : take 3 (drop 3 source) ≡ cond (permanent f.attributes) f.optional (optional_in lent)
    source_optional =
        let fg = s₀.on.good.catalog.files n f s₀.file in
        let index : ℕ = index_sector p.F p.s f.booked_slices f.slices in
        ap (λ (l : List ℕ). take 3 (drop 3 l)) source_is
        ∙ cond_part (λ l. take 3 (drop 3 l)) (permanent f.attributes) old (take 16 lent) f.optional (optional_in lent)
        (entry_optional n f.optional f.attributes f.booked index (p.s * f.booked_slices) f.tail fg.optional.count fg.tail.count) (lent_optional lent)

    source_tail : take 6 (drop 10 source) ≡ cond (permanent f.attributes) f.tail (tail_in lent)
    source_tail =
        let fg = s₀.on.good.catalog.files n f s₀.file in
        let index : ℕ = index_sector p.F p.s f.booked_slices f.slices in
        ap (λ (l : List ℕ). take 6 (drop 10 l)) source_is
        ∙ cond_part (λ l. take 6 (drop 10 l)) (permanent f.attributes) old (take 16 lent) f.tail (tail_in lent)
        (entry_tail n f.optional f.attributes f.booked index (p.s * f.booked_slices) f.tail fg.optional.count fg.tail.count) (lent_tail lent)

  -- ---- slices and blocks

  abbrev had : Extent
  had = record { size = now.size; slices = now.slices }

  abbrev has : Extent
  has = record { size = w.size; slices = w.slices }

  resize_from : CanResizeFrom image o now.block.words had has p n f
  resize_from = record {
    slices = record {
      on = s₀.on;
      numbers = num;
      file = s₀.file;
      words = s₀.words;
      count = s₀.slices;
      room = can.room;
      few = can.few;
    };
    size = s₀.size ∙ ((s₀.on.good.catalog.files n f s₀.file).closed s₀.closed).0;
    needed = can.needed;
  }

  pub can_resize : CanResize image o now.block.words (record { size = now.size; slices = now.slices }) (record { size = w.size; slices = w.slices })
  can_resize = record { unit = p; name = n; file = f; can = resize_from }

  -- the reserved sectors are a word
  pub reserved_small : o.slice * w.slices < 65536
  reserved_small =
      let l : List ℕ = slices_then p f w.slices in
      let few : length l ≤ M p = omega (arith, sum_law (M p) l (then_once resize_from.slices)) in
      rw num.slice (omega (arith, mul-le-mul_left p.s few, ap (λ (x : ℕ). p.s * x) (then-length resize_from.slices), top p gr, gr.limits.sectors))

  module _ {resized block : List ℕ}
      (r : Resized image o now.block.words (record { size = now.size; slices = now.slices }) (record { size = w.size; slices = w.slices }) resized block) where
    same_size : length (resized_image p image f f') ≡ length image
    unfolding resized_image
    same_size =
        zeroed_size _ p.F p.s f'.slices _ _ ∙ resliced_size image (sector_in p.F p.s f'.slices 0) p.F p.s (changes_resizes changes)

    both : (resized ≡ resized_image p image f f') × (block ≡ whole_index p.F p.s f'.slices)
    both = r.all p n f resize_from f' refl (changes_size changes)

    index_is : joint_sector block 0 0 ≡ index_sector p.F p.s w.slices (slices_then p f w.slices)
    index_is =
        let l : List ℕ = slices_then p f w.slices in
        let file : FileBlock image block p.F p.s (M p) l =
        unit_file image block l s₀.on.good.limits s₀.on.layout.size both.1 can.few (then_once resize_from.slices) in
        index_told file ∙ ap (λ (c : ℕ). index_sector p.F p.s c l) (then-length resize_from.slices)

    -- ---- the entry

    module _ {source : List ℕ} {b : Bool} (told : source ≡ cond b (entry_at image now.place) (take 16 lent)) (read : b ≡ bit 11 now.attributes) {index : ℕ} (at : index ≡ joint_sector block 0 0) {words : List ℕ}
        (put : words ≡ entry_words (packed w.name) (take 3 (drop 3 source)) w.attributes w.size index (o.slice * w.slices) (take 6 (drop 10 source))) where
      words_are : words ≡ file_entry p.F p.s m f'
      words_are =
          put
          ∙ ap₂ (λ (k : ℕ) (l : List ℕ). entry_words k l w.attributes w.size index (o.slice * w.slices) (take 6 (drop 10 source))) can.name.packed (source_optional told read)
          ∙ ap₂ (λ (i s : ℕ). entry_words m f'.optional w.attributes w.size i (s * w.slices) (take 6 (drop 10 source))) (at ∙ index_is) num.slice
          ∙ ap (λ (l : List ℕ). entry_words m f'.optional w.attributes w.size (index_sector p.F p.s w.slices f'.slices) (p.s * w.slices) l) (source_tail told read)

      words-length : length words ≡ 16
      words-length = ap length words_are ∙ changes_entry changes m

      -- the name kept
      module _ (same : w.moves ≡ false) where
        abbrev kept_image : List ℕ
        kept_image = store_place p (sys_of p) (resized_image p image f f') t (file_entry p.F p.s n f')

        pub kept_room : (16 ≤ length words) × (place_start now.place + 16 ≤ length resized)
        kept_room = (omega (arith, words-length), omega (arith, place_inside, ap length both.0, same_size))

        module _ {stored : List ℕ} (put_in : stored ≡ store resized (place_start now.place) (take 16 words)) where
          stored_is : stored ≡ kept_image
          stored_is =
              put_in ∙ ap (store resized (place_start now.place)) (take_all 16 words (omega (arith, words-length)) ∙ words_are)
              ∙ ap₂ (λ (i : List ℕ) (k : ℕ). store i (place_start now.place) (file_entry p.F p.s k f')) both.0 (can.kept same)
              ∙ stored_place p (resized_image p image f f') s₀.at.is (file_entry p.F p.s n f')

          kept_on : Words (counted_free kept_image p.s)
          unfolding changed_image
          kept_on = (change_on s₀.on n s₀.file s₀.closed changes t s₀.at.is.inside s₀.at.named).words

          pub kept_count : (2560 ≤ length stored) × (o.slice * ones_in_map stored < 65536)
          kept_count =
              let far : 2560 ≤ length kept_image = omega (arith, length_store (resized_image p image f f') (place_sector p.F p.s (sys_of p) t * 256 + t % 16 * 16) (file_entry p.F p.s n f'), same_size, long gr s₀.on.layout) in
              let same_count : o.slice * ones_in_map stored ≡ p.s * ones_in_map kept_image = ap₂ (λ (a b : ℕ). a * b) num.slice (ap ones_in_map stored_is) in
              (omega (arith, ap length stored_is), omega (arith, counted_word kept_image p.s far kept_on))

          pub kept_rewrites : {after : List ℕ} → after ≡ counted_free stored o.slice → Rewrites image p can.stands.at.number n m f (file_then p f w lent) after
          unfolding changed_image
          kept_rewrites e = stayed (can.kept same) (e ∙ ap₂ counted_free stored_is num.slice)

      -- another name
      module _ (other : w.moves ≡ true) {k : ℕ} (key : k ≡ key_of o.catalog.keys (packed w.name)) where
        abbrev without : Plain
        without = with_files p (table_remove n p.files)

        differs : m ≢ n
        differs = can.moved other

        key_is : k ≡ key_of p.H m
        key_is = key ∙ ap₂ key_of num.catalog.keys can.name.packed

        emptied : CatalogOn (empty_place without (sys_of without) resized t) without
        emptied =
            let l = rename_emptied s₀.on n m s₀.file s₀.closed changes differs can.legal (can.vacant differs) (can.fits differs) t s₀.at.is.inside s₀.at.named in
            rw both.0 (record { good = removed_good p n s₀.on.good s₀.closed; size = l.size; sys = l.sys })

        move_from : CanMoveFrom resized o now.place k without t
        move_from = record {
          numbers = record { slice = num.slice; first = num.first; slices = num.slices; catalog = num.catalog };
          is = record { inside = s₀.at.is.inside; sector = s₀.at.is.sector; slot = s₀.at.is.slot };
          emptied = emptied;
          low = rw key_is (mod-lt _ (omega (arith, gr.limits.keys_low)));
          fits = rw key_is (can.fits differs);
        }

        pub can_move : CanMove resized o now.place k words
        can_move = record { unit = without; number = t; can = move_from; size = words-length }

        module _ {stored : List ℕ} (took : Moved resized o now.place k words stored) where
          taken_place : MovedFrom resized without t k words stored
          taken_place = took.all without t move_from

          -- the image with its place empty, and the entry in its new place
          abbrev bare : List ℕ
          bare = empty_place p (sys_of p) (resized_image p image f f') t

          abbrev moved_image : List ℕ
          moved_image = store_place p (sys_of p) bare taken_place.u (file_entry p.F p.s m f')

          first_unused : FirstUnused bare p (sys_of p) (key_of p.H m) taken_place.u
          first_unused =
              let x : FirstUnused bare without (sys_of without) (key_of p.H m) taken_place.u =
              subst (λ (j : ℕ). FirstUnused bare without (sys_of without) j taken_place.u) key_is
              (subst (λ (i : List ℕ). FirstUnused (empty_place without (sys_of without) i t) without (sys_of without) k taken_place.u) both.0 taken_place.first) in
              record { inside = x.inside; key = x.key; unused = x.unused; earlier = x.earlier }

          moved_is : stored ≡ moved_image
          moved_is = taken_place.written ∙ ap₂ (λ (i l : List ℕ). store_place p (sys_of p) (empty_place p (sys_of p) i t) taken_place.u l) both.0 words_are

          moved_words : Words (counted_free moved_image p.s)
          unfolding renamed_image
          moved_words =
              (rename_on s₀.on n m s₀.file s₀.closed changes differs can.legal (can.vacant differs) (can.fits differs) t s₀.at.is.inside s₀.at.named
              taken_place.u first_unused.inside first_unused.key first_unused.unused).words

          pub moved_count : (2560 ≤ length stored) × (o.slice * ones_in_map stored < 65536)
          moved_count =
              let far : 2560 ≤ length moved_image = omega (arith, length_store bare (place_sector p.F p.s (sys_of p) taken_place.u * 256 + taken_place.u % 16 * 16) (file_entry p.F p.s m f'), length_store (resized_image p image f f') (place_sector p.F p.s (sys_of p) t * 256 + t % 16 * 16) (zero_words 16), same_size, long gr s₀.on.layout) in
              let same_count : o.slice * ones_in_map stored ≡ p.s * ones_in_map moved_image = ap₂ (λ (a b : ℕ). a * b) num.slice (ap ones_in_map moved_is) in
              (omega (arith, ap length moved_is), omega (arith, counted_word moved_image p.s far moved_words))

          pub moved_rewrites : {after : List ℕ} → after ≡ counted_free stored o.slice → Rewrites image p can.stands.at.number n m f (file_then p f w lent) after
          unfolding renamed_image
          moved_rewrites e = moved differs taken_place.u first_unused (e ∙ ap₂ counted_free moved_is num.slice)
