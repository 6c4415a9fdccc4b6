-- What the soundness check answers: whether image and state are a sound unit, and the numbers of one that is.
use Rattle.std.specs.Prelude.{◌≡◌, List, ℕ, eqb, Option, Some, None}
use Rattle.types.specs.declared.State.{State}
use Rattle.disc.specs.Decide.{Decides}
use Rattle.disc.specs.Numbers.{slice_count}
use Rattle.disc.specs.Words.{word}
use Rattle.disc.specs.Stretches.{slices_at}
use Rattle.disc.specs.Kit.{kit_sector, sys_index_sector}
use Rattle.disc.specs.Catalog.{sys_catalog}
use Rattle.sound.specs.Sound.{SoundUnit}
use Rattle.catalog.specs.declared.Unit.{Unit}
use Rattle.catalog.specs.Value.{CatalogIs}

-- "Kit words 0 to 5: H (SYS size), s (sectors in a slice), N (sectors), free sectors, F (first data sector), top = N"; "M = (N - F) / s";
-- SYS with H keys, the L of the rules and the slices that its index block describes.
pub record NumbersBy (image : List ℕ) (state : State) (unit : SoundUnit image state) (u : Unit) : Type 0 where
  pub slice : u.slice ≡ word image kit_sector 1
  pub first : u.first.0 ≡ word image kit_sector 4
  pub slices : u.slices ≡ slice_count (word image kit_sector 1) (word image kit_sector 4) (word image kit_sector 2)
  pub catalog : CatalogIs u.catalog (word image kit_sector 0)
      (sys_catalog unit.layers (slices_at image (word image kit_sector 4) (word image kit_sector 1) sys_index_sector))

-- The result word for each case of the answer, where `refusal` is the word of the question's no.
abbrev pub word_of : ℕ → Option Unit → ℕ
word_of refusal (Some u) = 0
word_of refusal None = refusal

-- "2. Image sound with the state? 9000h", and of area create and remove and of the area messages "sound? 8800h".
abbrev pub sound_word : Option Unit → ℕ
sound_word r = word_of 0x9000 r

abbrev pub area_sound_word : Option Unit → ℕ
area_sound_word r = word_of 0x8800 r

-- Each word is 0 exactly if image and state are a sound unit; then the numbers are those that the rules have.
pub record Judges (image : List ℕ) (state : State) (r : Option Unit) : Type 0 where
  pub sound : Decides (eqb (sound_word r) 0) (SoundUnit image state)
  pub area_sound : Decides (eqb (area_sound_word r) 0) (SoundUnit image state)
  pub numbers : (u : Unit) → r ≡ Some u → (unit : SoundUnit image state) → NumbersBy image state unit u
