-- The places of a catalog as its blocks lie in the image: the blocks of a key, the words of a place, and searches along a key's
-- places. SYS is such a catalog.
use Rattle.std.specs.Prelude.{◌≡◌, Bool, true, ◌&&◌, cond, List, ℕ, zero, suc, ◌+◌, ◌*◌, ◌<◌, eqb, ltb, take, drop, Option, Some, None}
use Rattle.disc.specs.Decide.{Decides}
use Rattle.disc.specs.Words.{word}
use Rattle.disc.specs.Names.{pack, key_of}
use Rattle.disc.specs.Stretches.{sys_from}
use Rattle.disc.specs.Kit.{sys_index_sector}
use Rattle.index.specs.Block.{joint_sector}
use Rattle.catalog.specs.declared.Catalog.{Catalog}
use Rattle.catalog.specs.declared.Place.{Place}

-- SYS as a value of the code: "Sector 6 is the index block of SYS", and its blocks begin with joined sector 0.
abbrev pub sys_value : ℕ → ℕ → Catalog
sys_value keys layers = record { index = record { 0 = sys_index_sector }; from = sys_from; keys = keys; layers = layers }

-- "Key k lives in sectors k, k + H, k + 2H and so on": the sector of key k's block of layer l.
unfoldable pub key_sector : List ℕ → Catalog → ℕ → ℕ → ℕ
key_sector image c k l = joint_sector image c.index.0 (c.keys * l + k + c.from)

-- Slot i of sector q: "Entry, 16 words", sixteen entries to a sector.
abbrev pub place_at : ℕ → ℕ → Place
place_at q i = record { sector = record { 0 = q }; slot = i }

abbrev pub slot_word : List ℕ → ℕ → ℕ → ℕ → ℕ
slot_word image q i w = word image q (i * 16 + w)

-- The image's index of a place's first word, and the place's words.
abbrev pub place_start : Place → ℕ
place_start p = p.sector.0 * 256 + p.slot * 16

abbrev pub entry_word : List ℕ → Place → ℕ → ℕ
entry_word image p w = slot_word image p.sector.0 p.slot w

unfoldable pub entry_at : List ℕ → Place → List ℕ
entry_at image p = take 16 (drop (place_start p) image)

-- Whether name n stands in slot i of sector q.
unfoldable pub slot_named : List ℕ → ℕ → ℕ → ℕ → Bool
slot_named image n q i = eqb (pack (slot_word image q i 0) (slot_word image q i 1) (slot_word image q i 2)) n

-- Whether the n words of sector q from word b on are zero.
unfoldable pub zero_run : List ℕ → ℕ → ℕ → ℕ → Bool
zero_run image q zero b = true
zero_run image q (suc n) b = eqb (word image q b) 0 && zero_run image q n (suc b)

-- "Unused place (16 zero words)": whether slot i of sector q is one.
unfoldable pub slot_unused : List ℕ → ℕ → ℕ → Bool
slot_unused image q i = zero_run image q 16 (i * 16)

-- The first of the n slots from i on that passes the test; the slot after them if none does.
unfoldable pub slot_from : (ℕ → Bool) → ℕ → ℕ → ℕ
slot_from test zero i = i
slot_from test (suc n) i = cond (test i) i (slot_from test n (suc i))

-- The first of a sector's 16 slots that passes the test, 16 if none does.
abbrev pub first_slot : (ℕ → Bool) → ℕ
first_slot test = slot_from test 16 0

-- That slot as an answer: none if it is not one of the sector's 16.
abbrev pub slot_answer : ℕ → Option ℕ
slot_answer i = cond (ltb i 16) (Some i) None

-- Slot i of sector q if it is one of the sector's 16, else another answer.
abbrev pub slot_or : ℕ → ℕ → Option Place → Option Place
slot_or q i rest = cond (ltb i 16) (Some (place_at q i)) rest

-- The first place that passes the test, in the n layers from l on: layer by layer, in each slot by slot.
unfoldable pub place_from : (ℕ → ℕ → Bool) → (ℕ → ℕ) → ℕ → ℕ → Option Place
place_from test sectors zero l = None
place_from test sectors (suc n) l = let rest = place_from test sectors n (suc l) in slot_or (sectors l) (first_slot (test (sectors l))) rest

-- "Does the name stand in the catalog?": the place of name n, sought in the blocks of its key.
abbrev pub place_named : List ℕ → Catalog → ℕ → Option Place
place_named image c n = place_from (slot_named image n) (key_sector image c (key_of c.keys n)) c.layers 0

-- "An entry takes the first unused place (16 zero words)" of its key.
abbrev pub place_unused : List ℕ → Catalog → ℕ → Option Place
place_unused image c k = place_from (slot_unused image) (key_sector image c k) c.layers 0

-- ---- the answers

-- The result word for each case of a search's answer, where `refusal` is the word of the question's no.
abbrev pub word_of : ℕ → Option Place → ℕ
word_of refusal (Some place) = 0
word_of refusal None = refusal

-- "3. Does the name stand in the catalog? No: 5000h (Look-up, Change, Remove)".
abbrev pub name_word : Option Place → ℕ
name_word r = word_of 0x5000 r

-- Area create: "entered ..? 4800h".
abbrev pub area_name_word : Option Place → ℕ
area_name_word r = word_of 0x4800 r

-- SYS, MAP and the names of open areas must stand in SYS: "2. Image sound with the state? 9000h", and of area create and remove and of the
-- area messages "sound? 8800h".
abbrev pub sound_word : Option Place → ℕ
sound_word r = word_of 0x9000 r

abbrev pub area_sound_word : Option Place → ℕ
area_sound_word r = word_of 0x8800 r

-- "6. New name unused? 1010h": a place is the no here.
abbrev pub new_name_word : Option Place → ℕ
new_name_word (Some place) = 0x1010
new_name_word None = 0

-- "With all 16 times L places taken by other names, SYS first grows": the layers for each case of the search of an unused place.
abbrev pub layers_with : ℕ → Option Place → ℕ
layers_with layers (Some place) = layers
layers_with layers None = suc layers

-- A slot in one of the n layers passes the test.
pub record SomePlace (test : ℕ → ℕ → Bool) (sectors : ℕ → ℕ) (n : ℕ) : Type 0 where
  pub layer : ℕ
  pub slot : ℕ
  pub low : layer < n
  pub inside : slot < 16
  pub passes : test (sectors layer) slot ≡ true

-- Name n stands in one of its key's places; key k has an unused place.
abbrev pub Stands : List ℕ → Catalog → ℕ → Type 0
Stands image c n = SomePlace (slot_named image n) (key_sector image c (key_of c.keys n)) c.layers

abbrev pub HasUnused : List ℕ → Catalog → ℕ → Type 0
HasUnused image c k = SomePlace (slot_unused image) (key_sector image c k) c.layers

-- What the search of a name promises: its place, and each question's word, 0 exactly if the answer to it is yes.
pub record NamePlace (image : List ℕ) (c : Catalog) (n : ℕ) (r : Option Place) : Type 0 where
  pub place : r ≡ place_named image c n
  pub stands : Decides (eqb (name_word r) 0) (Stands image c n)
  pub entered : Decides (eqb (area_name_word r) 0) (Stands image c n)
  pub sound : Decides (eqb (sound_word r) 0) (Stands image c n)
  pub area_sound : Decides (eqb (area_sound_word r) 0) (Stands image c n)
  pub new : Decides (eqb (new_name_word r) 0) (Stands image c n → ⊥)

-- What the search of an unused place promises: the first one, and the layers, which stay exactly if there is one.
pub record UnusedPlace (image : List ℕ) (c : Catalog) (k : ℕ) (r : Option Place) : Type 0 where
  pub place : r ≡ place_unused image c k
  pub layers : Decides (eqb (layers_with c.layers r) c.layers) (HasUnused image c k)
