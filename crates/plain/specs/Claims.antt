-- What is claimed of the plain unit alone: `Good` is kept, the sum, what a refused call leaves, that SYS never shrinks, that
-- entry-only files never become more, which slices files take, and which result words never come.
use Rattle.std.specs.Prelude.{◌≡◌, List, [], ◌∷◌, ◌++◌, cond, ◌≢◌, ℕ, suc, ◌+◌, ◌-◌, ◌≤◌, length, take, T, eqb}
use Rattle.std.proofs.Math.Option.{some}
use Rattle.types.specs.declared.Operation.{Operation}
use Rattle.types.specs.declared.Operation.TheVariants.{Position, Transput}
use Rattle.types.specs.declared.Message.{Message}
use Rattle.types.specs.declared.Message.TheVariants.{Set, Create, Change, AreaMessage}
use Rattle.types.specs.declared.Name.{Name}
use Rattle.disc.specs.Numbers.{need}
use Rattle.disc.specs.Words.{Words}
use Rattle.disc.specs.Names.{named}
use Rattle.disc.specs.Attributes.{entry_only}
use Rattle.disc.specs.Slices.{InRangeOnce, taken, last_of}
use Rattle.disc.specs.OneStretch.{taken_for_file, InOneStretch}
use Rattle.disc.specs.Catalog.{slices_needed}
use Rattle.plain.specs.Table.{Row, Table, table_find, table_remove, total}
use Rattle.plain.specs.Unit.{Plain, File, AreaUser, M, slices_of, held, free_slices, sys_of}
use Rattle.plain.specs.Taking.{layers_for}
use Rattle.plain.specs.Catalog.{size_in, new_name, kept_or, slices_after}
use Rattle.plain.specs.Areas.{moved}
use Rattle.plain.specs.Transput.{is_random, one_if, slices_to_take}
use Rattle.plain.specs.Step.{Call, Reply, step, after, answers}
use Rattle.plain.specs.Questions.{Outcome}
use Rattle.plain.specs.Good.{Good}

-- The lent words of every call are words.
abbrev pub LentWords : List Call → Type 0
LentWords [] = Unit {0}
LentWords (c ∷ calls) = Words c.lent × LentWords calls

-- "The free slices and the slices that all names hold, SYS among them, add up to the unit's number of slices. No slice
-- stands under two names, or twice under one", and each is one of 1 to M.
pub record Adds (p : Plain) : Type 0 where
  pub sum : free_slices p + length (held p) ≡ M p
  pub once : InRangeOnce (M p) (held p)

-- "Position and 5, 7 move the position".
pub data Moves : Operation → Type 0 where
  position : {block : ℕ} → Moves (Position block)
  random : {operation bytes block : ℕ} → T (is_random operation) → Moves (Transput operation bytes block)

-- q is p but for the position of the message's sender in the message's area.
pub record OnlyMoved (p : Plain) (name : Name) (sender : ℕ) (q : Plain) : Type 0 where
  pub users : Table AreaUser
  pub user : AreaUser
  pub is_open : table_find (named name) p.areas ≡ some users
  pub is_user : table_find sender users ≡ some user
  pub to : ℕ
  pub moves : q ≡ moved p (named name) sender users user to

-- What a refused call leaves: everything, "save the sender's position where document 01 says so".
pub data Left (p : Plain) : Message → Plain → Type 0 where
  everything : {message : Message} → Left p message p
  but_position : {name : Name} {sender : ℕ} {operation : Operation} {q : Plain} → Moves operation
      → OnlyMoved p name sender q → Left p (AreaMessage name sender operation) q

-- A refused call: lent words stay, "returned byte counts are 0", the number of entries is 0.
pub record Refused (p : Plain) (message : Message) (lent : List ℕ) (o : Outcome) : Type 0 where
  pub unit : Left p message o.unit
  pub words : o.lent ≡ lent
  pub bytes : o.answer.bytes ≡ 0
  pub entries : o.answer.entries ≡ 0

-- "SYS has H times L sectors .. It never shrinks": q has p's H and at least p's layers, and the slices that SYS has in p are the first
-- of those that it has in q.
pub record NeverShrinks (p q : Plain) : Type 0 where
  pub keys : q.H ≡ p.H
  pub layers : p.layers ≤ q.layers
  pub new : List ℕ
  pub slices : q.sys ≡ p.sys ++ new

-- 1 for a file with the attributes a, and the number of them.
abbrev pub has_attributes : ℕ → Row File → ℕ
has_attributes a r = one_if (eqb r.val.attributes a)

abbrev pub files_with : ℕ → Plain → ℕ
files_with a p = total (has_attributes a) p.files

-- "No program of ours creates them now" (document 02, R-9): of any attributes with bit 13, no more files have them in q than in p.
abbrev pub NoMoreEntryOnly : Plain → Plain → Type 0
NoMoreEntryOnly p q = (a : ℕ) → T (entry_only a) → files_with a q ≤ files_with a p

-- A file that had the slices `old` has `count` slices in q, under the name n: the first of the old ones, and for what these lack the choice
-- beside the slices that SYS has in q and those of p's files. "SYS still takes first, one by one" (document 02, R-6): those that it lacks
-- for so many layers, by 01's choice beside all that are held in p.
pub record TakenIn (p : Plain) (layers : ℕ) (old : List ℕ) (count n : ℕ) (q : Plain) : Type 0 where
  pub grown : q.layers ≡ layers
  pub sys : let lacks : ℕ = slices_needed p.H p.s (sys_of p) layers - length p.sys in
      q.sys ≡ p.sys ++ taken (M p) (held p) (last_of p.sys) lacks
  pub file : File
  pub entered : table_find n q.files ≡ some file
  pub slices : file.slices ≡ take count old ++ taken_for_file (M p) (q.sys ++ slices_of p.files) old (count - length old)

-- The slices of a file f and of what it is afterwards: the same where it has as many blocks; with one block more, those and the choice for
-- what that block lacks.
pub data Appended (p : Plain) (f : File) : File → Type 0 where
  as_long : {g : File} → length g.sectors ≡ length f.sectors → g.slices ≡ f.slices → Appended p f g
  longer : {g : File} → length g.sectors ≡ suc (length f.sectors)
      → g.slices ≡ f.slices ++ taken_for_file (M p) (held p) f.slices (slices_to_take p.s f) → Appended p f g

-- An area message leaves SYS's slices, and of its file that.
pub record AppendedIn (p : Plain) (f : File) (n : ℕ) (q : Plain) : Type 0 where
  pub sys : q.sys ≡ p.sys
  pub file : File
  pub entered : table_find n q.files ≡ some file
  pub slices : Appended p f file

-- The layers of SYS for a file of name n that gets the name m: a kept name needs no other place.
abbrev pub layers_after : Plain → ℕ → ℕ → ℕ
layers_after p n m = cond (eqb m n) p.layers (layers_for p.H (sys_of p) m (table_remove n p.files))

-- Which slices the file of a message takes, and how many: by a Create or Set, for a file that has none, and by a Change, where these are
-- answered 0; and by an area message, refused or not.
pub record SlicesTaken (p : Plain) (name : Name) (lent : List ℕ) : Type 0 where
  pub create : (size attributes : ℕ) → let o = step p (Create name size attributes) lent in
      let layers : ℕ = layers_for p.H (sys_of p) (named name) p.files in
      o.answer.result ≡ 0 → TakenIn p layers [] (need p.s size) (named name) o.unit
  pub set : let o = step p (Set name) lent in
      let layers : ℕ = layers_for p.H (sys_of p) (named name) p.files in
      o.answer.result ≡ 0 → TakenIn p layers [] (need p.s (size_in lent)) (named name) o.unit
  pub change : (f : File) → table_find (named name) p.files ≡ some f → let o = step p (Change name) lent in
      let new : ℕ = new_name (named name) lent in
      let count : ℕ = slices_after p.s (kept_or (size_in lent) f.booked) f in
      o.answer.result ≡ 0 → TakenIn p (layers_after p (named name) new) f.slices count new o.unit
  pub area : (f : File) (sender : ℕ) (operation : Operation) → table_find (named name) p.files ≡ some f
      → AppendedIn p f (named name) (step p (AreaMessage name sender operation) lent).unit

-- "9000h and 8800h never come": a result word is neither.
pub record NeverUnsound (word : ℕ) : Type 0 where
  pub catalog : word ≢ 0x9000
  pub area : word ≢ 0x8800

-- The same of every reply of a list.
abbrev pub EachNeverUnsound : List Reply → Type 0
EachNeverUnsound [] = Unit {0}
EachNeverUnsound (r ∷ replies) = NeverUnsound r.answer.result × EachNeverUnsound replies

-- The claims. The last seven hold of every plain unit, good or not; `in_one_stretch` is said of the choice, whatever slices are held.
pub record PlainClaims : Type 0 where
  pub keeps : (p : Plain) (message : Message) (lent : List ℕ) → Good p → Words lent → Good (step p message lent).unit
  pub adds : (calls : List Call) (p : Plain) → Good p → LentWords calls → Good (after p calls) × Adds (after p calls)
  pub refuses : (p : Plain) (message : Message) (lent : List ℕ) → (step p message lent).answer.result ≢ 0
      → Refused p message lent (step p message lent)
  pub never_shrinks : (calls : List Call) (p : Plain) → NeverShrinks p (after p calls)
  pub no_more_entry_only : (calls : List Call) (p : Plain) → NoMoreEntryOnly p (after p calls)
  pub slices_taken : (p : Plain) (name : Name) (lent : List ℕ) → SlicesTaken p name lent
  pub in_one_stretch : (m : ℕ) (held : List ℕ) (n : ℕ) → InOneStretch m held n
  pub never_unsound : (p : Plain) (message : Message) (lent : List ℕ) → NeverUnsound (step p message lent).answer.result
  pub never_unsound_after : (calls : List Call) (p : Plain) → EachNeverUnsound (answers p calls)
