-- No refusal has the word 0, which every other call ends with.
use mathlib.Core.Logic.{◌≢◌}
use native.Mathlib.Omega.{arith}
use Rattle.types.specs.declared.Refusal.{Refusal}
use Rattle.types.specs.declared.Refusal.TheVariants.{CatalogParameter, CatalogUnsound, NoEntry, EntryExists, DiscFull, IndexFull, FormatRecord}
use Rattle.types.specs.declared.Refusal.TheVariants.{AreaIllegal, AreaUnsound, NoArea, AreaFull, AreaReserved, NotUserOrPastEnd, UsersOrIndexFull, BlockSize, WriteProtected}
use Rattle.types.specs.Words.{refusal_word}

pub refusal_nonzero : (refusal : Refusal) → refusal_word refusal ≢ 0
refusal_nonzero CatalogParameter z = omega arith
refusal_nonzero CatalogUnsound z = omega arith
refusal_nonzero NoEntry z = omega arith
refusal_nonzero EntryExists z = omega arith
refusal_nonzero DiscFull z = omega arith
refusal_nonzero IndexFull z = omega arith
refusal_nonzero FormatRecord z = omega arith
refusal_nonzero AreaIllegal z = omega arith
refusal_nonzero AreaUnsound z = omega arith
refusal_nonzero NoArea z = omega arith
refusal_nonzero AreaFull z = omega arith
refusal_nonzero AreaReserved z = omega arith
refusal_nonzero NotUserOrPastEnd z = omega arith
refusal_nonzero UsersOrIndexFull z = omega arith
refusal_nonzero BlockSize z = omega arith
refusal_nonzero WriteProtected z = omega arith
