-- The result words: "Every call ends with a result word", 0 or that of the first question that is answered no.
use Rattle.std.specs.Prelude.{ℕ, Result, Ok, Err}
use Rattle.types.specs.declared.Refusal.{Refusal}
use Rattle.types.specs.declared.Refusal.TheVariants.{CatalogParameter, CatalogUnsound, NoEntry, EntryExists, DiscFull, IndexFull, FormatRecord}
use Rattle.types.specs.declared.Refusal.TheVariants.{AreaIllegal, AreaUnsound, NoArea, AreaFull, AreaReserved, NotUserOrPastEnd, UsersOrIndexFull, BlockSize, WriteProtected}

-- The words of document 01, in hexadecimal 1200, 9000, 5000, 1010, 1100, 1008, 1080; of areas 0A00, 8800, 4800, 0900, 0200, 0810, 0808,
-- 0880, 0C00.
abbrev pub refusal_word : Refusal → ℕ
refusal_word CatalogParameter = 4608
refusal_word CatalogUnsound = 36864
refusal_word NoEntry = 20480
refusal_word EntryExists = 4112
refusal_word DiscFull = 4352
refusal_word IndexFull = 4104
refusal_word FormatRecord = 4224
refusal_word AreaIllegal = 2560
refusal_word AreaUnsound = 34816
refusal_word NoArea = 18432
refusal_word AreaFull = 2304
refusal_word AreaReserved = 512
refusal_word NotUserOrPastEnd = 2064
refusal_word UsersOrIndexFull = 2056
refusal_word BlockSize = 2176
refusal_word WriteProtected = 3072

-- "else the word is 0".
abbrev pub result_word : {A : Type 0} → Result A Refusal → ℕ
result_word (Ok _) = 0
result_word (Err refusal) = refusal_word refusal

-- "The first no decides; nothing changes": what a call leaves of a value, for which it gives a new one if it is not refused.
abbrev pub left_of : {A : Type 0} → A → Result A Refusal → A
left_of old (Ok new) = new
left_of old (Err refusal) = old
