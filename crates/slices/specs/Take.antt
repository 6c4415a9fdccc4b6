-- "Taking a slice: the next number after the file's last if free, else the lowest free": the next slice, and n of them on the map and in
-- the index block; and those that a file takes, by document 02, R-6.
use Rattle.std.specs.Prelude.{◌≡◌, Bool, true, cond, Result, Ok, Err, List, [], ◌∷◌, ◌++◌, ℕ, ◌≤◌, leb, length}
use Rattle.types.specs.declared.Slice.{Slice}
use Rattle.disc.specs.Decide.{Decides}
use Rattle.disc.specs.Slices.{occurrences, InRangeOnce, free_count, choose, taken, last_of}
use Rattle.disc.specs.Stretches.{stretch_count, sector_in}
use Rattle.disc.specs.OneStretch.{taken_for_file}
use Rattle.disc.specs.Map.{MapOf}
use Rattle.map.specs.Marks.{all_used}
use Rattle.index.specs.Block.{whole_index}
use Rattle.refine.specs.Writes.{taken_image}
use Rattle.slices.specs.declared.Lack.{Lack}
use Rattle.slices.specs.declared.Lack.TheVariants.{NoneFree, Crowded}
use Rattle.slices.specs.FileBlock.{SliceBlock, FileBlock}

-- The map is that of the slices `held`, the file's among them, and n slices are free.
pub record CanTakeFrom (image block : List ℕ) (F s m n : ℕ) (held slices : List ℕ) : Type 0 where
  pub own : SliceBlock block F s m slices
  pub long : 2560 ≤ length image
  pub map : MapOf image m held
  pub once : InRangeOnce m held
  pub enough : n ≤ free_count m held
  pub part : (k : ℕ) → occurrences k slices ≤ occurrences k held

pub record CanTake (image block : List ℕ) (F s m n : ℕ) : Type 0 where
  pub held : List ℕ
  pub slices : List ℕ
  pub can : CanTakeFrom image block F s m n held slices

-- ---- the next slice

-- The slice that a file with these slices takes next, if one is free and the file has at most 127 stretches with it.
unfoldable pub next_of : ℕ → List ℕ → List ℕ → Result Slice Lack
next_of m held slices =
    let k : ℕ = choose m held (last_of slices) in
    cond (leb 1 (free_count m held)) (cond (leb (stretch_count (slices ++ (k ∷ []))) 127) (Ok (record { 0 = k })) (Err Crowded)) (Err NoneFree)

-- "Where a slice is needed: one free? 0900h; at most 127 stretches with it? 0808h", asked by an appending output: the word for each case of
-- the answer, and what is asked of a file with these slices: 0, or the word of the first no.
abbrev pub next_word : Result Slice Lack → ℕ
next_word (Ok k) = 0
next_word (Err NoneFree) = 0x0900
next_word (Err Crowded) = 0x0808

unfoldable pub next_asked : ℕ → List ℕ → List ℕ → ℕ
next_asked m held slices =
    cond (leb 1 (free_count m held)) (cond (leb (stretch_count (slices ++ taken_for_file m held slices 1)) 127) 0 0x0808) 0x0900

pub record ChosenFrom (m : ℕ) (held slices : List ℕ) (r : Result Slice Lack) : Type 0 where
  pub next : r ≡ next_of m held slices
  pub word : next_word r ≡ next_asked m held slices

pub record Chosen (image block : List ℕ) (F s m : ℕ) (r : Result Slice Lack) : Type 0 where
  pub all : (held slices : List ℕ) → CanTakeFrom image block F s m 0 held slices → ChosenFrom m held slices r

-- ---- n slices, one after the other

-- Whether there are at most 127 stretches with the slices `more`; if so they are marked used, and the block is that of the longer list.
pub record TakenFrom (image : List ℕ) (F s : ℕ) (slices more after new : List ℕ) (r : Bool) : Type 0 where
  pub fits : Decides r (stretch_count (slices ++ more) ≤ 127)
  pub marked : r ≡ true → after ≡ all_used image more
  pub words : r ≡ true → new ≡ whole_index F s (slices ++ more)

-- By 01's choice.
pub record Taken (image block : List ℕ) (F s m n : ℕ) (after new : List ℕ) (r : Bool) : Type 0 where
  pub all : (held slices : List ℕ) → CanTakeFrom image block F s m n held slices
      → TakenFrom image F s slices (taken m held (last_of slices) n) after new r

-- "For a file that has none ... the lowest stretch": those that a file takes.
pub record FileTaken (image block : List ℕ) (F s m n : ℕ) (after new : List ℕ) (r : Bool) : Type 0 where
  pub all : (held slices : List ℕ) → CanTakeFrom image block F s m n held slices
      → TakenFrom image F s slices (taken_for_file m held slices n) after new r

-- ---- the index block stored whole

-- The image has the file's sectors, n slices are free, and the block has room for the slices `more`.
pub record CanLengthenFrom (image block : List ℕ) (F s m n : ℕ) (held slices more : List ℕ) : Type 0 where
  pub file : FileBlock image block F s m slices
  pub map : MapOf image m held
  pub once : InRangeOnce m held
  pub enough : n ≤ free_count m held
  pub part : (k : ℕ) → occurrences k slices ≤ occurrences k held
  pub few : stretch_count (slices ++ more) ≤ 127

-- By 01's choice, for a catalog: "SYS still takes first, one by one."
pub record CanLengthen (image block : List ℕ) (F s m n : ℕ) : Type 0 where
  pub held : List ℕ
  pub slices : List ℕ
  pub can : CanLengthenFrom image block F s m n held slices (taken m held (last_of slices) n)

-- The index block goes to sector q.
pub record LengthenedAt (image block : List ℕ) (q F s m n : ℕ) (after new : List ℕ) : Type 0 where
  pub all : (held slices : List ℕ) → let more = taken m held (last_of slices) n in CanLengthenFrom image block F s m n held slices more
      → (after ≡ taken_image image q F s slices more) × (new ≡ whole_index F s (slices ++ more))

-- For an ordinary file, by the choice for files.
pub record CanLengthenFile (image block : List ℕ) (F s m n : ℕ) : Type 0 where
  pub held : List ℕ
  pub slices : List ℕ
  pub can : CanLengthenFrom image block F s m n held slices (taken_for_file m held slices n)

-- "An ordinary file's index block is the first sector of its first slice."
pub record Lengthened (image block : List ℕ) (F s m n : ℕ) (after new : List ℕ) : Type 0 where
  pub all : (held slices : List ℕ) → let more = taken_for_file m held slices n in CanLengthenFrom image block F s m n held slices more
      → (after ≡ taken_image image (sector_in F s (slices ++ more) 0) F s slices more) × (new ≡ whole_index F s (slices ++ more))
