-- The writes of the messages on an image: each changes one part of the layout. A message's image is a sequence of these.
use Rattle.std.specs.Prelude.{cond, List, [], ◌∷◌, ◌++◌, ℕ, zero, suc, ◌+◌, ◌*◌, ◌-◌, ◌%◌, leb, length, take, drop}
use Rattle.disc.specs.Stretches.{block_sector, sector_in, file_from}
use Rattle.disc.specs.Kit.{kit_sector}
use Rattle.disc.specs.Map.{ones_in_map}
use Rattle.disc.specs.Entries.{sys_entry}
use Rattle.disc.specs.Catalog.{Catalog, place_sector}
use Rattle.words.specs.Store.{store, zero_words}
use Rattle.map.specs.Marks.{all_used, all_free}
use Rattle.index.specs.Block.{whole_index}
use Rattle.plain.specs.Unit.{Plain, File, sys_of, file_entry}
use Rattle.plain.specs.Areas.{book_live}

-- The kit's free word.
abbrev pub set_free : List ℕ → ℕ → List ℕ
set_free image free = store image (kit_sector * 256 + 3) (free ∷ [])

-- "Free sectors equals s times the ones in the map."
unfoldable pub counted_free : List ℕ → ℕ → List ℕ
counted_free image s = set_free image (s * ones_in_map image)

-- 16 words at place t of a catalog; "an emptied place is zeroed".
abbrev pub store_place : Plain → Catalog → List ℕ → ℕ → List ℕ → List ℕ
store_place p c image t words = store image (place_sector p.F p.s c t * 256 + t % 16 * 16) words

abbrev pub empty_place : Plain → Catalog → List ℕ → ℕ → List ℕ
empty_place p c image t = store_place p c image t (zero_words 16)

-- n sectors of the joined stretches of some slices, from sector b on, are zeroed.
unfoldable pub zeroed_sectors : List ℕ → ℕ → ℕ → List ℕ → ℕ → ℕ → List ℕ
zeroed_sectors image F s slices b zero = image
zeroed_sectors image F s slices b (suc n) = store (zeroed_sectors image F s slices b n) (sector_in F s slices (b + n) * 256) (zero_words 256)

-- "An index block is written whole when its file's slices change": some are taken at the end, and the block in sector q is that
-- of all of them.
unfoldable pub taken_image : List ℕ → ℕ → ℕ → ℕ → List ℕ → List ℕ → List ℕ
taken_image image q F s slices [] = image
taken_image image q F s slices (k ∷ new) = store (all_used image (k ∷ new)) (q * 256) (whole_index F s (slices ++ (k ∷ new)))

-- Remove: the place of the name in its catalog is emptied, its slices are given back.
unfoldable pub removed_image : Plain → Catalog → List ℕ → ℕ → File → List ℕ
removed_image p c image t f = counted_free (all_free (empty_place p c image t) f.slices) p.s

-- "SYS first grows by H zeroed sectors": a catalog takes the slices `new`, and the blocks of one layer more are zeroed.
abbrev pub layered_image : Plain → Catalog → List ℕ → List ℕ → List ℕ
layered_image p c image new =
    let longer : List ℕ = taken_image image c.index p.F p.s c.slices new in
    zeroed_sectors longer p.F p.s (c.slices ++ new) (p.H * c.layers + c.from) p.H

-- Its own entry is written anew, in place t of the catalog `home` in which it is entered.
unfoldable pub grown_image : Plain → Catalog → List ℕ → List ℕ → Catalog → ℕ → List ℕ → List ℕ
grown_image p c image new home t words = counted_free (store_place p home (layered_image p c image new) t words) p.s

-- SYS is entered in itself, with its new length and slices.
abbrev pub grown_sys : Plain → List ℕ → ℕ → List ℕ → List ℕ
grown_sys p image t new =
    grown_image p (sys_of p) image new (sys_of p) t (sys_entry p.H p.s (suc p.layers) (p.sys ++ new))

-- Create, Set: the new file's slices are taken and its blocks zeroed; its entry stands in place t.
unfoldable pub created_image : Plain → Catalog → List ℕ → ℕ → ℕ → File → List ℕ
created_image p c image t n f =
    let longer : List ℕ = taken_image image (sector_in p.F p.s f.slices 0) p.F p.s [] f.slices in
    let zeroed : List ℕ = zeroed_sectors longer p.F p.s f.slices file_from (length f.sectors) in
    counted_free (store_place p c zeroed t (file_entry p.F p.s n f)) p.s

-- "Gives back from the end": the first `keep` of a file's slices are kept; the index block in sector q is written whole, unless
-- none is kept or none is given back.
unfoldable pub cut_block : List ℕ → ℕ → ℕ → ℕ → List ℕ → ℕ → List ℕ
cut_block image q F s slices zero = image
cut_block image q F s slices (suc keep) = store image (q * 256) (whole_index F s (take (suc keep) slices))

unfoldable pub cut_image : List ℕ → ℕ → ℕ → ℕ → List ℕ → ℕ → List ℕ
cut_image image q F s slices keep =
    cond (leb (length slices) keep) image (cut_block (all_free image (drop keep slices)) q F s slices keep)

-- The slices and blocks of file f become those of f': "a changed length gives back from the end or takes until need is met; sectors
-- that join are zero".
unfoldable pub resized_image : Plain → List ℕ → File → File → List ℕ
resized_image p image f f' =
    let q : ℕ = sector_in p.F p.s f'.slices 0 in
    let cut : List ℕ = cut_image image q p.F p.s f.slices (length f'.slices) in
    let longer : List ℕ = taken_image cut q p.F p.s f.slices (drop (length f.slices) f'.slices) in
    zeroed_sectors longer p.F p.s f'.slices (length f.sectors + file_from) (length f'.sectors - length f.sectors)

-- Change of file f, whose entry stands in place t, to f': its own name n is kept, or it is renamed to m and "empties the entry's
-- place, then takes one by the new key", place u.
unfoldable pub changed_image : Plain → Catalog → List ℕ → ℕ → ℕ → File → File → List ℕ
changed_image p c image t n f f' =
    counted_free (store_place p c (resized_image p image f f') t (file_entry p.F p.s n f')) p.s

unfoldable pub renamed_image : Plain → Catalog → List ℕ → ℕ → ℕ → ℕ → File → File → List ℕ
renamed_image p c image t u m f f' =
    counted_free (store_place p c (empty_place p c (resized_image p image f f') t) u (file_entry p.F p.s m f')) p.s

-- Remove area: "length and slices are booked".
unfoldable pub booked_image : Plain → Catalog → List ℕ → ℕ → ℕ → File → List ℕ
booked_image p c image t n f = store_place p c image t (file_entry p.F p.s n (book_live f))

-- Output below the live length: block b of file f is replaced by 256 words.
unfoldable pub replaced_image : Plain → List ℕ → File → ℕ → List ℕ → List ℕ
replaced_image p image f b words = store image (block_sector p.F p.s f.slices file_from b * 256) words

-- Output at the live length: the slices `new` are taken, and the block after the last is stored.
unfoldable pub appended_image : Plain → List ℕ → File → List ℕ → List ℕ → List ℕ
appended_image p image f new words =
    let slices : List ℕ = f.slices ++ new in
    let longer : List ℕ = taken_image image (sector_in p.F p.s slices 0) p.F p.s f.slices new in
    counted_free (store longer (block_sector p.F p.s slices file_from (length f.sectors) * 256) words) p.s

-- The same before the block is stored: the slices `new` are taken.
unfoldable pub extended_image : Plain → List ℕ → File → List ℕ → List ℕ
extended_image p image f new =
    let slices : List ℕ = f.slices ++ new in
    counted_free (taken_image image (sector_in p.F p.s slices 0) p.F p.s f.slices new) p.s
