-- Area create and remove, and the messages to an area process but transput.
use Rattle.std.specs.Prelude.{Bool, not, ◌&&◌, ◌||◌, cond, List, [], ℕ, zero, suc, length, leb, ltb, eqb}
use Rattle.std.proofs.Math.Option.{Option, none, some}
use Rattle.types.specs.declared.Name.{Name}
use Rattle.types.specs.declared.Role.{Role}
use Rattle.types.specs.declared.Role.TheVariants.{Sharing, ExclusiveWriter, ExclusiveUser}
use Rattle.disc.specs.Numbers.{negative}
use Rattle.disc.specs.Names.{named, unit_in}
use Rattle.disc.specs.Catalog.{is_reserved}
use Rattle.plain.specs.Table.{Table, table_find, table_put, table_remove, total, is_some}
use Rattle.plain.specs.Unit.{Plain, File, AreaUser, sys_of, entry, with_tables, with_areas}
use Rattle.plain.specs.Questions.{Outcome, asks, given, replies, done, known}

-- "Create area: dummy if open." "Entered? 4800h; not SYS or MAP? 0A00h; already open, or one of eight vacant? 0900h."
abbrev pub step_create_area : Plain → Name → List ℕ → Outcome
step_create_area p name lent =
    let n : ℕ = named name in
    asks (known p (unit_in name)) (replies p 0x0A00 lent)
    (asks (is_some (entry p n)) (replies p 0x4800 lent)
    (asks (not (is_reserved (sys_of p) n)) (replies p 0x0A00 lent)
    (asks (not (is_some (table_find n p.areas))) (done p lent)
    (asks (ltb (length p.areas) 8) (replies p 0x0900 lent)
    (done (with_areas p (table_put n [] p.areas)) lent)))))

-- A file whose live length and slices are booked.
abbrev pub book_live : File → File
book_live f = record {
  attributes = f.attributes;
  optional = f.optional;
  tail = f.tail;
  booked = length f.sectors;
  booked_slices = length f.slices;
  slices = f.slices;
  sectors = f.sectors;
}

-- "Remove area: dummy if none or if it has users; else length and slices are booked." "Not SYS or MAP? 0A00h". An open
-- area has a file in every good unit.
abbrev pub step_remove_area : Plain → Name → List ℕ → Outcome
step_remove_area p name lent =
    let n : ℕ = named name in
    asks (known p (unit_in name)) (replies p 0x0A00 lent)
    (asks (not (is_reserved (sys_of p) n)) (replies p 0x0A00 lent)
    (given (table_find n p.areas) (done p lent) λ users.
    asks (eqb (length users) 0) (done p lent)
    (given (table_find n p.files) (done p lent) λ f.
    done (with_tables p p.layers p.sys (table_put n (book_live f) p.files) (table_remove n p.areas)) lent)))

-- 1 for an exclusive user, for an exclusive writer, and for any user.
abbrev pub is_exclusive : Role → ℕ
is_exclusive Sharing = 0
is_exclusive ExclusiveWriter = 0
is_exclusive ExclusiveUser = 1

abbrev pub is_writer : Role → ℕ
is_writer Sharing = 0
is_writer ExclusiveWriter = 1
is_writer ExclusiveUser = 0

abbrev pub is_user : Role → ℕ
is_user role = 1

-- The number of users of a kind.
abbrev pub users_of : (Role → ℕ) → Table AreaUser → ℕ
users_of kind users = total (λ r. kind r.val.role) users

-- Is another user than the sender of the kind?
abbrev pub other : (Role → ℕ) → ℕ → Table AreaUser → Bool
other kind sender users = ltb 0 (users_of kind (table_remove sender users))

-- "Reserve 2, 3, 4 (exclusive writer, user, exclusive user)"; "each user's role .. only rises".
abbrev pub raised : ℕ → Role → Role
raised count ExclusiveUser = ExclusiveUser
raised count ExclusiveWriter = cond (eqb count 4) ExclusiveUser ExclusiveWriter
raised count Sharing = cond (eqb count 4) ExclusiveUser (cond (eqb count 2) ExclusiveWriter Sharing)

-- "Inserts the sender at position 0 or adds 1 to its open count."
abbrev pub opened : ℕ → Option AreaUser → AreaUser
opened count none = record { role = raised count Sharing; opens = 1; position = 0 }
opened count (some u) = record { role = raised count u.role; opens = suc u.opens; position = u.position }

abbrev pub opens_of : Option AreaUser → ℕ
opens_of none = 0
opens_of (some u) = u.opens

-- "2: no other exclusive writer, 4: no other user? 0A00h; entry vacant or own, count below 65,535? 0808h"
unfoldable pub step_reserve : Plain → ℕ → ℕ → Table AreaUser → ℕ → List ℕ → Outcome
step_reserve p n sender users count lent =
    asks (not (eqb count 2 && other is_writer sender users)) (replies p 0x0A00 lent)
    (asks (not (eqb count 4 && other is_user sender users)) (replies p 0x0A00 lent)
    (asks (is_some (table_find sender users) || ltb (length users) 3) (replies p 0x0808 lent)
    (asks (ltb (opens_of (table_find sender users)) 65535) (replies p 0x0808 lent)
    (done (with_areas p (table_put n (table_put sender (opened count (table_find sender users)) users) p.areas)) lent))))

-- "Release (0) takes 1; at zero the user and role go." The open count is the second argument, never 0 in a good unit.
abbrev pub released : ℕ → ℕ → AreaUser → Table AreaUser → Table AreaUser
released sender zero u users = table_remove sender users
released sender (suc zero) u users = table_remove sender users
released sender (suc (suc k)) u users = table_put sender (record { role = u.role; opens = suc k; position = u.position }) users

unfoldable pub step_release : Plain → ℕ → ℕ → Table AreaUser → AreaUser → List ℕ → Outcome
step_release p n sender users u lent = done (with_areas p (table_put n (released sender u.opens u users) p.areas)) lent

-- The unit with the sender's position in area n set to k.
abbrev pub at_position : AreaUser → ℕ → AreaUser
at_position u k = record { role = u.role; opens = u.opens; position = k }

abbrev pub moved : Plain → ℕ → ℕ → Table AreaUser → AreaUser → ℕ → Plain
moved p n sender users u k = with_areas p (table_put n (table_put sender (at_position u k) users) p.areas)

-- "Position: not negative? 0A00h (becomes 0); not past the length? 0810h (becomes the length)." `move` sets the
-- position, `refusal` answers with a unit, word and position, and `next` goes on from the unit and position reached.
unfoldable pub positioned : (ℕ → Plain) → ℕ → ℕ → (Plain → ℕ → ℕ → Outcome) → (Plain → ℕ → Outcome) → Outcome
positioned move block len refusal next =
    asks (not (negative block)) (refusal (move 0) 0x0A00 0)
    (asks (leb block len) (refusal (move len) 0x0810 len)
    (next (move block) block))

-- "Position sets the sender's position."
abbrev pub step_position : Plain → ℕ → ℕ → Table AreaUser → AreaUser → File → ℕ → List ℕ → Outcome
step_position p n sender users u f block lent =
    positioned (moved p n sender users u) block (length f.sectors) (λ q word k. replies q word lent) (λ q k. done q lent)
