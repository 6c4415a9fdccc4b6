-- Format: its record, its questions, and what it leaves: "18 bytes and at least 9 words lent? 1080h; unit known, no area
-- process, limits met, free = N - F, top = N, image length 256 times N? 1200h."
use Rattle.std.specs.Prelude.{◌≡◌, false, List, ℕ, ◌*◌, ◌-◌, ◌≤◌, length, get_or, Result}
use Rattle.types.specs.declared.State.{State}
use Rattle.types.specs.declared.Message.TheVariants.{Init}
use Rattle.types.specs.declared.Refusal.{Refusal}
use Rattle.types.specs.Words.{result_word, left_of}
use Rattle.disc.specs.Kit.{Limits}
use Rattle.state.specs.Areas.{with_initialized}
use Rattle.first_question.specs.Known.{Known}
use Rattle.refine.specs.Format.{system_sectors, fresh_catalog, formatted}

-- The record's words (source document, 7.2): the unit number, and the unit parameters H, s, N, free, F, top and two more.
abbrev pub lent_unit : List ℕ → ℕ
lent_unit lent = get_or lent 0 0

abbrev pub lent_keys : List ℕ → ℕ
lent_keys lent = get_or lent 1 0

abbrev pub lent_slice : List ℕ → ℕ
lent_slice lent = get_or lent 2 0

abbrev pub lent_sectors : List ℕ → ℕ
lent_sectors lent = get_or lent 3 0

abbrev pub lent_free : List ℕ → ℕ
lent_free lent = get_or lent 4 0

abbrev pub lent_first : List ℕ → ℕ
lent_first lent = get_or lent 5 0

abbrev pub lent_top : List ℕ → ℕ
lent_top lent = get_or lent 6 0

-- "18 bytes and at least 9 words lent?"
pub record RecordLent (bytes : ℕ) (lent : List ℕ) : Type 0 where
  pub count : bytes ≡ 18
  pub words : 9 ≤ length lent

-- "Limits met".
abbrev pub LentLimits : List ℕ → Type 0
LentLimits lent = Limits (lent_keys lent) (lent_slice lent) (lent_first lent) (lent_sectors lent)

-- "Unit known, no area process, limits met, free = N - F, top = N, image length 256 times N?" The first two are what Init asks first.
pub record Formattable (image : List ℕ) (state : State) (lent : List ℕ) : Type 0 where
  pub known : Known state (Init (lent_unit lent))
  pub limits : LentLimits lent
  pub free : lent_free lent ≡ lent_sectors lent - lent_first lent
  pub top : lent_top lent ≡ lent_sectors lent
  pub size : length image ≡ 256 * lent_sectors lent

-- The image that Format writes by the record: its sectors 6 to 9, then SYS.
abbrev pub system_by : List ℕ → List ℕ → List ℕ
system_by image lent =
    system_sectors image (lent_keys lent) (lent_slice lent) (lent_first lent) (lent_sectors lent) (get_or lent 7 0) (get_or lent 8 0)

abbrev pub catalog_by : List ℕ → List ℕ → List ℕ
catalog_by image lent = fresh_catalog image (lent_keys lent) (lent_slice lent) (lent_first lent)

abbrev pub formatted_by : List ℕ → List ℕ → List ℕ
formatted_by image lent =
    formatted image (lent_keys lent) (lent_slice lent) (lent_first lent) (lent_sectors lent) (get_or lent 7 0) (get_or lent 8 0)

-- "It .. leaves the unit uninitialized."
abbrev pub uninitialized : State → State
uninitialized state = with_initialized state false

-- The result word, and the state after the call.
pub record Formatted : Type 0 where
  pub result : ℕ
  pub state : State

-- The word 0 and the state that the call hands back; a refusal's word and the state before it.
abbrev pub after_format : State → Result State Refusal → Formatted
after_format state done = record { result = result_word done; state = left_of state done }

-- "The first no decides; nothing changes".
pub record Refused (result : ℕ) (image : List ℕ) (state : State) (after : List ℕ) (r : Formatted) : Type 0 where
  pub word : r.result ≡ result
  pub same : after ≡ image
  pub kept : r.state ≡ state

-- No question has the answer no.
pub record Written (image : List ℕ) (state : State) (lent after : List ℕ) (r : Formatted) : Type 0 where
  pub word : r.result ≡ 0
  pub whole : after ≡ formatted_by image lent
  pub left : r.state ≡ uninitialized state

-- What comes of Format: the image after it, the result word and the state.
pub data FormatAnswer (image : List ℕ) (state : State) (bytes : ℕ) (lent after : List ℕ) (r : Formatted) : Type 0 where
  not_lent : (RecordLent bytes lent → ⊥) → Refused 0x1080 image state after r → FormatAnswer image state bytes lent after r
  not_allowed : RecordLent bytes lent → (Formattable image state lent → ⊥) → Refused 0x1200 image state after r
      → FormatAnswer image state bytes lent after r
  written : RecordLent bytes lent → Formattable image state lent → Written image state lent after r
      → FormatAnswer image state bytes lent after r
