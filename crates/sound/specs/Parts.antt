-- The rules of a sound unit in the parts in which they are decided, and the marks of slices that files have.
use Rattle.std.specs.Prelude.{◌≡◌, Bool, true, false, List, [], ◌∷◌, ◌++◌, ℕ, ◌*◌, ◌-◌, ◌≤◌, ◌<◌, length, get_or}
use Rattle.types.specs.declared.State.{State}
use Rattle.types.specs.State.{area_at, IsOpen}
use Rattle.disc.specs.Words.{Holds}
use Rattle.disc.specs.Slices.{InRangeOnce, occurrences}
use Rattle.disc.specs.Kit.{Kit, Limits, map_index_sector}
use Rattle.disc.specs.Map.{ones_in_map}
use Rattle.disc.specs.Entries.{name_at, sys_entry, map_entry}
use Rattle.disc.specs.Catalog.{Catalog, places_of, places_in}
use Rattle.sound.specs.Places.{Used, Entered, LegalPlace}
use Rattle.sound.specs.State.{DistinctAreas, LegalUsers}

-- "The image has 256 times N words, laid out as above; the kit is within limits; free sectors equals s times the ones in the
-- map"; MAP has "the index 1, 1, 9".
pub record SoundKit (image : List ℕ) (H s F N : ℕ) : Type 0 where
  pub size : length image ≡ 256 * N
  pub kit : Kit image H s N (s * ones_in_map image) F
  pub limits : Limits H s F N
  pub map_index : Holds image map_index_sector (1 ∷ 1 ∷ 9 ∷ [])

-- The names: "Every used entry has a legal name .., alone of that name, in a sector of its key"; SYS and MAP are entered.
pub record SoundNames (image : List ℕ) (H s F : ℕ) (c : Catalog) : Type 0 where
  pub sys_entered : Entered (places_in image F s c) (places_of H c) (sys_entry H s c.layers c.slices)
  pub map_entered : Entered (places_in image F s c) (places_of H c) map_entry
  pub legal : (t : ℕ) → t < places_of H c → Used (places_in image F s c) t → LegalPlace (places_in image F s c) H t
  pub alone : (t u : ℕ) → t < places_of H c → u < places_of H c → Used (places_in image F s c) t → Used (places_in image F s c) u
      → name_at (places_in image F s c) t ≡ name_at (places_in image F s c) u → t ≡ u

-- The users of all open areas, and their distinct names.
pub record SoundUsers (state : State) : Type 0 where
  pub distinct : DistinctAreas state
  pub users : (j : ℕ) → j < 8 → IsOpen state j → LegalUsers (area_at state j)

-- A mark for each slice, 1 where it is in the list and 0 where it is not: mark k - 1 is slice k's.
pub record MarksOf (marks : List ℕ) (slices : List ℕ) : Type 0 where
  pub size : length marks ≡ 4096
  pub each : (k : ℕ) → 1 ≤ k → k ≤ 4096 → get_or marks (k - 1) 0 ≡ occurrences k slices

-- The answer is true exactly if Q holds and the new slices, beside those marked before, are the unit's and stand once; then
-- they are marked too.
pub record Marking (answer : Bool) (Q : Type 0) (m : ℕ) (marks : List ℕ) (slices new : List ℕ) : Type 0 where
  pub yes : answer ≡ true → Q × InRangeOnce m (slices ++ new) × MarksOf marks (slices ++ new)
  pub not : answer ≡ false → Q → InRangeOnce m (slices ++ new) → ⊥
