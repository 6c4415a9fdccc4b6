-- The writes of the messages and of Format pass by sectors 0 to 5.
use mathlib.Core.List.{List, [], ◌++◌}
use mathlib.Core.Option.{Option, none, some}
use Prim.Native.Nat.{ℕ, ◌+◌, ◌-◌, ◌*◌, ◌≤◌}
use native.Mathlib.Omega.{arith}
use lib.Dec.{eqb, ltb}
use lib.ListN.{length, take, drop}
use Rattle.types.specs.declared.Answer.{Answer}
use Rattle.types.specs.declared.Operation.{Operation}
use Rattle.types.specs.declared.Operation.TheVariants.{Reserve, Position, Sense, Transput, Other}
use Rattle.disc.specs.Names.{SYS, MAP, key_of}
use Rattle.disc.specs.Stretches.{sector_in, block_sector, sys_from, file_from}
use Rattle.disc.specs.Kit.{sys_index_sector}
use Rattle.words.specs.Store.{zero_words}
use Rattle.plain.specs.Unit.{Plain, File, sys_of}
use Rattle.plain.specs.Transput.{is_output}
use Rattle.refine.specs.Writes.{store_place, removed_image, grown_image, created_image, resized_image, changed_image, renamed_image, booked_image, replaced_image, appended_image, grown_sys}
use Rattle.refine.specs.Format.{store_block, map_place, system_sectors, clear_sys, enter_at, fresh_catalog, formatted}
use Rattle.preservation.specs.Units.{append_slices}
use Rattle.output.specs.Output.{output_image}
use Rattle.transput.specs.Transput.{transput_image}
use Rattle.area_messages.specs.AreaMessages.{message_image}
use Rattle.demands.proofs.Overlaid.{Beyond, beyond_none, beyond_then, beyond_cond, beyond_store, beyond_all_marked, beyond_counted, beyond_sector, beyond_zeroed, beyond_taken, beyond_cut}

-- ---- the messages: all sectors of the unit's slices are data sectors, F or above

module _ (p : Plain) (data_low : 6 ≤ p.F) where
  beyond_place : (t : ℕ) (words : List ℕ) → Beyond (λ i. store_place p (sys_of p) i t words)
  beyond_place t words = beyond_store _ words (omega arith)

  pub beyond_resized : (f f' : File) → Beyond (λ i. resized_image p i f f')
  unfolding resized_image
  beyond_resized f f' =
      beyond_then (beyond_zeroed p.F p.s f'.slices (length f.sectors + file_from) (length f'.sectors - length f.sectors) data_low)
      (beyond_then (beyond_taken (sector_in p.F p.s f'.slices 0) p.F p.s f.slices (drop (length f.slices) f'.slices) (omega arith))
      (beyond_cut (sector_in p.F p.s f'.slices 0) p.F p.s f.slices (length f'.slices) (omega arith)))

  pub beyond_emptied : (t : ℕ) (f f' : File) → Beyond (λ i. store_place p (sys_of p) (resized_image p i f f') t (zero_words 16))
  beyond_emptied t f f' = beyond_then (beyond_place t (zero_words 16)) (beyond_resized f f')

  pub beyond_removed : (t : ℕ) (f : File) → Beyond (λ i. removed_image p (sys_of p) i t f)
  unfolding removed_image
  beyond_removed t f = beyond_then (beyond_counted p.s) (beyond_then (beyond_all_marked 1 f.slices) (beyond_place t (zero_words 16)))

  pub beyond_grown : (t : ℕ) (new : List ℕ) → Beyond (λ i. grown_sys p i t new)
  unfolding grown_image
  beyond_grown t new =
      beyond_then (beyond_counted p.s) (beyond_then (beyond_place t _)
      (beyond_then (beyond_zeroed p.F p.s (p.sys ++ new) (p.H * p.layers + sys_from) p.H data_low)
      (beyond_taken sys_index_sector p.F p.s p.sys new (omega arith))))

  pub beyond_created : (t n : ℕ) (f : File) → Beyond (λ i. created_image p (sys_of p) i t n f)
  unfolding created_image
  beyond_created t n f =
      beyond_then (beyond_counted p.s) (beyond_then (beyond_place t _)
      (beyond_then (beyond_zeroed p.F p.s f.slices file_from (length f.sectors) data_low)
      (beyond_taken (sector_in p.F p.s f.slices 0) p.F p.s [] f.slices (omega arith))))

  pub beyond_changed : (t n : ℕ) (f f' : File) → Beyond (λ i. changed_image p (sys_of p) i t n f f')
  unfolding changed_image
  beyond_changed t n f f' = beyond_then (beyond_counted p.s) (beyond_then (beyond_place t _) (beyond_resized f f'))

  pub beyond_renamed : (t u m : ℕ) (f f' : File) → Beyond (λ i. renamed_image p (sys_of p) i t u m f f')
  unfolding renamed_image
  beyond_renamed t u m f f' = beyond_then (beyond_counted p.s) (beyond_then (beyond_place u _) (beyond_emptied t f f'))

  pub beyond_booked : (t n : ℕ) (f : File) → Beyond (λ i. booked_image p (sys_of p) i t n f)
  unfolding booked_image
  beyond_booked t n f = beyond_place t _

  beyond_replaced : (f : File) (b : ℕ) (words : List ℕ) → Beyond (λ i. replaced_image p i f b words)
  unfolding replaced_image
  beyond_replaced f b words = beyond_sector (block_sector p.F p.s f.slices file_from b) words (omega arith)

  beyond_appended : (f : File) (new words : List ℕ) → Beyond (λ i. appended_image p i f new words)
  unfolding appended_image
  beyond_appended f new words =
      let slices : List ℕ = f.slices ++ new in
      beyond_then (beyond_counted p.s) (beyond_then (beyond_sector (block_sector p.F p.s slices file_from (length f.sectors)) words (omega arith))
      (beyond_taken (sector_in p.F p.s slices 0) p.F p.s f.slices new (omega arith)))

  beyond_transput : (f : File) (operation result k : ℕ) (lent : List ℕ) → Beyond (λ i. transput_image p i f operation result k lent)
  unfolding transput_image output_image
  beyond_transput f operation result k lent =
      beyond_cond (is_output operation)
      (beyond_cond (eqb result 0)
      (beyond_cond (ltb k (length f.sectors)) (beyond_replaced f k (take 256 lent)) (beyond_appended f (append_slices p f) (take 256 lent))) beyond_none) beyond_none

  pub beyond_message : (operation : Operation) (a : Answer) (lent : List ℕ) (f : Option File) → Beyond (λ i. message_image p i operation a lent f)
  unfolding message_image
  beyond_message operation a lent none = beyond_none
  beyond_message (Reserve count) a lent (some f) = beyond_none
  beyond_message (Position block) a lent (some f) = beyond_none
  beyond_message Sense a lent (some f) = beyond_none
  beyond_message (Transput operation bytes block) a lent (some f) = beyond_transput f operation a.result a.block.0 lent
  beyond_message (Other operation) a lent (some f) = beyond_none

-- ---- Format

beyond_block : (q : ℕ) (vs : List ℕ) → 6 ≤ q → Beyond (λ i. store_block i q vs)
unfolding store_block
beyond_block q vs h = beyond_sector q _ h

beyond_system : (H s F N k6 k7 : ℕ) → Beyond (λ i. system_sectors i H s F N k6 k7)
unfolding system_sectors
beyond_system H s F N k6 k7 =
    beyond_then (beyond_block 9 _ (omega arith)) (beyond_then (beyond_block 8 _ (omega arith)) (beyond_then (beyond_block 7 _ (omega arith)) (beyond_block 6 _ (omega arith))))

beyond_entered : (F k j : ℕ) (entry : List ℕ) → 6 ≤ F → Beyond (λ i. enter_at i F k j entry)
unfolding enter_at
beyond_entered F k j entry h = beyond_store _ entry (omega arith)

beyond_catalog : (H s F : ℕ) → 6 ≤ F → Beyond (λ i. fresh_catalog i H s F)
unfolding fresh_catalog clear_sys
beyond_catalog H s F h =
    beyond_then (beyond_entered F (key_of H MAP) (map_place H) _ h) (beyond_then (beyond_entered F (key_of H SYS) 0 _ h) (beyond_sector F (zero_words (256 * H)) h))

pub beyond_formatted : (H s F N k6 k7 : ℕ) → 6 ≤ F → Beyond (λ i. formatted i H s F N k6 k7)
unfolding formatted
beyond_formatted H s F N k6 k7 h = beyond_then (beyond_catalog H s F h) (beyond_system H s F N k6 k7)
