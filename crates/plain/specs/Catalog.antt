-- The catalog messages, each with the questions 1 and 3 to 8 that concern it (question 2 is never answered no here).
use Rattle.std.specs.Prelude.{Bool, not, ◌&&◌, ◌||◌, cond, List, [], ◌++◌, ℕ, ◌-◌, length, take, get_or, replicate, leb, eqb}
use Rattle.types.specs.declared.Name.{Name}
use Rattle.disc.specs.Numbers.{need, negative}
use Rattle.disc.specs.Names.{named, unit_in, name_of, legal_name}
use Rattle.disc.specs.Attributes.{legal_attributes, legal_with, gives_entry_only, permanent}
pub use Rattle.disc.specs.Entries.{optional_in, tail_in}
use Rattle.plain.specs.Table.{Table, table_find, table_put, table_remove, is_some}
use Rattle.plain.specs.Unit.{Plain, File, sys_of, entry, with_files}
use Rattle.plain.specs.Questions.{Outcome, asks, given, replies, done, fill, known}
use Rattle.plain.specs.Taking.{Taking, taking, layers_for, enough, zero_sectors}

-- The attributes and the size of a lent entry.
abbrev pub attributes_in : List ℕ → ℕ
attributes_in lent = get_or lent 6 0

abbrev pub size_in : List ℕ → ℕ
size_in lent = get_or lent 9 0

-- "4. Lent record at least 16 words?"
abbrev pub is_record : List ℕ → Bool
is_record lent = leb 16 (length lent)

-- "Init leaves everything standing." "Init: no area process? 1200h"
abbrev pub step_init : Plain → ℕ → List ℕ → Outcome
step_init p unit lent =
    asks (known p unit) (replies p 0x1200 lent)
    (asks (eqb (length p.areas) 0) (replies p 0x1200 lent)
    (done p lent))

-- "Create, Set: need(size) slices, size zero sectors, all booked", from question 4's name, size and attributes on. Bit 13 is not given
-- (R-9), so that "13 only with no slices" is no question here.
unfoldable pub new_file : Plain → ℕ → ℕ → ℕ → List ℕ → List ℕ → List ℕ → Outcome
new_file p n size attributes optional tail lent =
    let count : ℕ = need p.s size in
    let t : Taking = taking p (sys_of p) (layers_for p.H (sys_of p) n p.files) [] count in
    let f : File = record {
      attributes = attributes;
      optional = optional;
      tail = tail;
      booked = size;
      booked_slices = count;
      slices = t.file_new;
      sectors = zero_sectors size;
    } in
    asks (legal_name n) (replies p 0x1200 lent)
    (asks (not (negative size)) (replies p 0x1200 lent)
    (asks (legal_attributes attributes) (replies p 0x1200 lent)
    (asks (not (gives_entry_only attributes)) (replies p 0x1200 lent)
    (asks (not (is_some (entry p n))) (replies p 0x1010 lent)
    (enough p (sys_of p) t t.file_new lent (table_put n f p.files))))))

-- "Create's optional and tail are zero."
abbrev pub step_create : Plain → Name → ℕ → ℕ → List ℕ → Outcome
step_create p name size attributes lent =
    asks (known p (unit_in name)) (replies p 0x1200 lent)
    (new_file p (named name) size attributes (replicate 3 0) (replicate 6 0) lent)

-- "Set takes size from entry word 9, name from the message, optional, attributes and tail from the entry."
abbrev pub step_set : Plain → Name → List ℕ → Outcome
step_set p name lent =
    asks (known p (unit_in name)) (replies p 0x1200 lent)
    (asks (is_record lent) (replies p 0x1200 lent)
    (new_file p (named name) (size_in lent) (attributes_in lent) (optional_in lent) (tail_in lent) lent))

-- "Look-up gives the booked entry." "3. Does the name stand in the catalog? No: 5000h"
abbrev pub step_look_up : Plain → Name → List ℕ → Outcome
step_look_up p name lent =
    asks (known p (unit_in name)) (replies p 0x1200 lent)
    (given (entry p (named name)) (replies p 0x5000 lent) λ e.
    asks (is_record lent) (replies p 0x1200 lent)
    (done p (fill e lent)))

-- "Remove drops the name." "5. No area process, not SYS or MAP; not permanent? 1200h"
abbrev pub step_remove : Plain → Name → List ℕ → Outcome
step_remove p name lent =
    let n : ℕ = named name in
    asks (known p (unit_in name)) (replies p 0x1200 lent)
    (asks (is_some (entry p n)) (replies p 0x5000 lent)
    (given (table_find n p.files) (replies p 0x1200 lent) λ f.
    asks (not (is_some (table_find n p.areas))) (replies p 0x1200 lent)
    (asks (not (permanent f.attributes)) (replies p 0x1200 lent)
    (done (with_files p (table_remove n p.files)) lent))))

-- "Name kept if entry word 0 is 0."
abbrev pub new_name : ℕ → List ℕ → ℕ
new_name n lent = cond (eqb (get_or lent 0 0) 0) n (name_of (get_or lent 0 0) (get_or lent 1 0) (get_or lent 2 0))

-- "Attributes or length (word 9) [kept] if negative."
abbrev pub kept_or : ℕ → ℕ → ℕ
kept_or w old = cond (negative w) old w

-- "Gives back from the end or takes until need is met; sectors that join are zero."
abbrev pub resized : ℕ → List (List ℕ) → List (List ℕ)
resized n sectors = take n sectors ++ zero_sectors (n - length sectors)

-- The slices after a message: those held where the length is kept ("equal is no change"), else need of the new length.
abbrev pub slices_after : ℕ → ℕ → File → ℕ
slices_after s size f = cond (eqb size f.booked) (length f.slices) (need s size)

-- The file after a Change: "optional and tail are replaced"; "for a permanent file optional and tail stay too".
abbrev pub changed : File → ℕ → ℕ → ℕ → List ℕ → List ℕ → File
changed f attributes size count slices lent = record {
  attributes = attributes;
  optional = cond (permanent f.attributes) f.optional (optional_in lent);
  tail = cond (permanent f.attributes) f.tail (tail_in lent);
  booked = size;
  booked_slices = count;
  slices = slices;
  sectors = resized size f.sectors;
}

-- Change of file f, name n, to the name m, from question 4's name, size and attributes on. "5. No area process, not
-- permanent (Change: name and length kept)? 1200h. 6. New name unused? 1010h." "A rename empties the entry's place,
-- then takes one by the new key": the own name is none of the others.
unfoldable pub change_file : Plain → ℕ → File → ℕ → ℕ → ℕ → List ℕ → Outcome
change_file p n f m size attributes lent =
    let others : Table File = table_remove n p.files in
    let count : ℕ = slices_after p.s size f in
    let layers : ℕ = cond (eqb m n) p.layers (layers_for p.H (sys_of p) m others) in
    let t : Taking = taking p (sys_of p) layers f.slices (count - length f.slices) in
    let slices : List ℕ = take count f.slices ++ t.file_new in
    asks (legal_name m) (replies p 0x1200 lent)
    (asks (legal_attributes attributes) (replies p 0x1200 lent)
    (asks (legal_with attributes count) (replies p 0x1200 lent)
    (asks (not (is_some (table_find n p.areas))) (replies p 0x1200 lent)
    (asks (not (permanent f.attributes) || (eqb m n && eqb size f.booked)) (replies p 0x1200 lent)
    (asks (eqb m n || not (is_some (entry p m))) (replies p 0x1010 lent)
    (enough p (sys_of p) t slices lent (table_put m (changed f attributes size count slices lent) others)))))))

-- R-9: "1200h at question 4", whichever attributes the entry has.
abbrev pub step_change : Plain → Name → List ℕ → Outcome
step_change p name lent =
    let n : ℕ = named name in
    asks (known p (unit_in name)) (replies p 0x1200 lent)
    (asks (is_some (entry p n)) (replies p 0x5000 lent)
    (asks (is_record lent) (replies p 0x1200 lent)
    (given (table_find n p.files) (replies p 0x1200 lent) λ f.
    asks (not (gives_entry_only (attributes_in lent))) (replies p 0x1200 lent)
    (change_file p n f (new_name n lent) (kept_or (size_in lent) f.booked) (kept_or (attributes_in lent) f.attributes) lent))))
