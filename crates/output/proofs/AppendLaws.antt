-- The slices of an append: what each write asks for, and the image and the index sector that they leave.
use mathlib.Core.Path.{◌≡◌, refl, ap, ap₂, ◌∙◌}
use mathlib.Core.Bool.{Bool, true, false, cond, ◌||◌}
use mathlib.Core.List.{List, [], ◌∷◌, ◌++◌}
use mathlib.Core.Logic.{◌≢◌}
use Prim.Native.Nat.{ℕ, suc, ◌*◌, ◌≤◌, ◌<◌}
use native.Mathlib.Omega.{arith}
use lib.Dec.{leb, eqb}
use lib.ListN.{length, take}
use borrow.Author.Tests.{le-ltb}
use Rattle.disc.specs.Attributes.{extendable}
use Rattle.disc.specs.Stretches.{stretch_count, sector_in}
use Rattle.disc.specs.Map.{ones_in_map}
use Rattle.disc.specs.Entries.{index_sector}
use Rattle.index.specs.Block.{whole_index, joint_sector}
use Rattle.catalog.specs.declared.Unit.{Unit}
use Rattle.plain.specs.Table.{Table}
use Rattle.plain.specs.Unit.{Plain, File, AreaUser, M, held, free_slices}
use Rattle.plain.specs.Questions.{Outcome, asks, either}
use Rattle.plain.specs.Transput.{slices_to_take, refused_at, transferred, rewritten, with_file, append, output}
use Rattle.plain.proofs.KeepsTransput.{append_few}
use Rattle.refine.specs.Writes.{counted_free, taken_image, extended_image}
use Rattle.refine.proofs.Ground.{ground, part_file}
use Rattle.preservation.proofs.OutputStep.{extended_counts, Appends, appends_extends, appends_room, appends_few}
use Rattle.slices.specs.FileBlock.{FileBlock}
use Rattle.slices.specs.Take.{CanLengthenFrom, CanLengthenFile, Lengthened}
use Rattle.slices.proofs.BlockLaws.{index_told}
use Rattle.slices.proofs.StoreLaws.{length_taken_image, file_fresh, longer_file}
use Rattle.preservation.specs.Units.{append_slices}
use Rattle.output.specs.Output.{room_word, output_word, CanExtendFrom}
use Rattle.output.proofs.FileLaws.{file_block}

-- ---- the questions

-- At the live length the word of the questions is refused, or the block is appended.
module _ (p q : Plain) (move : ℕ → Plain) (n : ℕ) (f : File) (k : ℕ) (lent : List ℕ) where
  abbrev new_file_lem : File
  new_file_lem = rewritten f (f.slices ++ append_slices p f) (f.sectors ++ (take 256 lent ∷ []))

  pub record Appending (word : ℕ) (o : Outcome) : Type 0 where
    pub refused : word ≢ 0 → o ≡ refused_at q word k lent
    pub done : word ≡ 0 → (o ≡ transferred (with_file n new_file_lem (move (suc k))) k lent) × Appends p f

  pub appending : length f.sectors ≤ k → Appending (output_word p f k) (output p q move n f k lent)
  unfolding output_word room_word output append asks either
  appending end =
      rw (le-ltb k (length f.sectors) end)
      (go (extendable f.attributes) (leb (slices_to_take p.s f) (free_slices p)) (eqb (slices_to_take p.s f) 0 || leb (stretch_count (f.slices ++ append_slices p f)) 127)
      (λ x y z. record { extends = x; free = y; few = z }))
    where
      go : (a b c : Bool) → (a ≡ true → b ≡ true → c ≡ true → Appends p f) → Appending (cond a (cond b (cond c 0 0x0808) 0x0900) 0x0A00)
          (asks a (refused_at q 0x0A00 k lent) (asks b (refused_at q 0x0900 k lent) (asks c (refused_at q 0x0808 k lent) (transferred (with_file n new_file_lem (move (suc k))) k lent))))
      go true true true all = record { refused = λ d. absurd (d refl); done = λ z. (refl, all refl refl refl) }
      go true true false all = record { refused = λ d. refl; done = λ z. absurd (omega arith) }
      go true false c all = record { refused = λ d. refl; done = λ z. absurd (omega arith) }
      go false b c all = record { refused = λ d. refl; done = λ z. absurd (omega arith) }

pub appends : (p : Plain) (f : File) (k : ℕ) → length f.sectors ≤ k → output_word p f k ≡ 0 → Appends p f
appends p f k end z = ((appending p p (λ _. p) 0 f k [] end).done z).1

module _ {image : List ℕ} {o : Unit} {block : List ℕ} {count : ℕ} {p : Plain} {n : ℕ} {users : Table AreaUser} {f : File} (can : CanExtendFrom image o block count p n users f) where
  abbrev new : List ℕ
  new = append_slices p f

  abbrev slices : List ℕ
  slices = f.slices ++ append_slices p f

  yes : Appends p f
  yes = appends p f (length f.sectors) (omega arith) can.yes

  file : FileBlock image block p.F p.s (M p) f.slices
  file = file_block can.on n can.file can.words

  -- ---- slices taken

  lengthen : CanLengthenFrom image block p.F p.s (M p) (slices_to_take p.s f) (held p) f.slices (append_slices p f)
  lengthen = record {
    file = file;
    map = can.on.layout.map;
    once = can.on.good.once;
    enough = appends_room yes;
    part = part_file p (ground p can.on.good) n f can.file;
    few = append_few can.on.good n can.file (appends_few yes);
  }

  pub can_lengthen : CanLengthenFile image block o.first.0 o.slice o.slices count
  can_lengthen = rw (can.numbers.first, can.numbers.slice, can.numbers.slices, can.more) (record { held = held p; slices = f.slices; can = lengthen })

  module _ {image₁ longer : List ℕ} (took : Lengthened image block o.first.0 o.slice o.slices count image₁ longer) where
    took_all : (image₁ ≡ taken_image image (sector_in p.F p.s slices 0) p.F p.s f.slices new) × (longer ≡ whole_index p.F p.s slices)
    took_all = (rw (can.numbers.first, can.numbers.slice, can.numbers.slices, can.more) at took).all (held p) f.slices lengthen

    took_size : length image₁ ≡ length image
    took_size = ap length took_all.0 ∙ length_taken_image image (sector_in p.F p.s slices 0) p.F p.s f.slices new

    -- ---- the free sectors counted

    pub can_count : (2560 ≤ length image₁) × (o.slice * ones_in_map image₁ < 65536)
    can_count = (
      omega (arith, took_size, file.long),
      rw (can.numbers.slice, took_all.0) (extended_counts can.on n can.file can.live (appends_extends yes) (appends_room yes) (appends_few yes)),
    )

    pub extended_is : {after : List ℕ} → after ≡ counted_free image₁ o.slice → after ≡ extended_image p image f (append_slices p f)
    unfolding extended_image
    extended_is e = e ∙ ap₂ counted_free took_all.0 can.numbers.slice

    pub index_is : {q : ℕ} → q ≡ joint_sector longer 0 0 → q ≡ index_sector p.F p.s (length (f.slices ++ append_slices p f)) (f.slices ++ append_slices p f)
    index_is e = e ∙ index_told (longer_file lengthen (file_fresh lengthen) {after = image₁} took_size took_all.1)
