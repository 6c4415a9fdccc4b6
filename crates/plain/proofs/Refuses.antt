-- One walk over the questions of every call. What a refused call leaves: the unit, but for the sender's position where Position, 5
-- and 7 moved it, and the lent words; the byte count and the number of entries are 0. No result word is 9000h or 8800h, SYS has
-- not shrunk, and there are no more entry-only files.
use mathlib.Core.Path.{◌≡◌, refl, sym, ap, ◌∙◌}
use mathlib.Core.Bool.{Bool, true, false, not, ◌||◌, cond}
use mathlib.Core.List.{List, [], ◌∷◌, ◌++◌, append-nil, append_assoc}
use mathlib.Core.Logic.{◌≢◌}
use mathlib.Core.Option.{Option, none, some}
use Prim.Native.Nat.{ℕ, ◌≤◌}
use native.Mathlib.Omega.{arith}
use lib.Dec.{T, eqb}
use Rattle.types.specs.declared.Name.{Name}
use Rattle.types.specs.declared.Operation.{Operation}
use Rattle.types.specs.declared.Operation.TheVariants.{Reserve, Position, Sense, Transput, Other}
use Rattle.types.specs.declared.Message.{Message}
use Rattle.types.specs.declared.Message.TheVariants.{Init, Set, Create, LookUp, Change, Remove, CreateArea, RemoveArea, AreaMessage, UnitDescription, Listing}
use Rattle.disc.specs.Names.{named}
use Rattle.disc.specs.Attributes.{entry_only}
use Rattle.plain.specs.Table.{Table, table_find, table_put, table_remove, total}
use Rattle.plain.specs.Unit.{Plain, File, AreaUser, sys_of, with_tables, with_areas}
use Rattle.plain.specs.Questions.{Outcome, asks, given, either, done}
use Rattle.plain.specs.Taking.{layers_for}
use Rattle.plain.specs.Catalog.{attributes_in, step_init, new_file, step_create, step_set, step_look_up, step_remove, change_file, step_change}
use Rattle.plain.specs.Areas.{step_create_area, step_remove_area, step_reserve, step_release, moved, positioned}
use Rattle.plain.specs.Transput.{one_if, is_output, refused_at, input, append, output, step_transput}
use Rattle.plain.specs.Reports.{step_listing, step_description}
use Rattle.plain.specs.Step.{Call, reserve_count, user_step, operation_step, step_area, step, after, answers}
use Rattle.plain.specs.Claims.{Moves, position, random, Left, everything, but_position, Refused, NeverShrinks, has_attributes, files_with, NoMoreEntryOnly, NeverUnsound, EachNeverUnsound}
use Rattle.plain.proofs.QuestionLaws.{asks_law, given_law, either_law, end_law}
use Rattle.plain.proofs.TableLaws.{weight_at, total_put, total_remove}
use Rattle.plain.proofs.AttributeLaws.{given_ordinary, ordinary_most, kept_most}
use Rattle.plain.proofs.TakingLaws.{layers_up}
use Rattle.plain.proofs.GrowUnit.{sys_taken}

-- ---- SYS and the entry-only files

-- What the unit q after any answer keeps of p.
record Kept (p q : Plain) : Type 0 where
  sys : NeverShrinks p q
  sectors : q.N ≡ p.N
  entry_only : NoMoreEntryOnly p q

-- a file h, with the attributes a only where that of the name n had them, in its place or instead of it under the name m
module _ (a n : ℕ) (h : File) (files : Table File) (most : one_if (eqb h.attributes a) ≤ weight_at (has_attributes a) n (table_find n files)) where
  put_most : total (has_attributes a) (table_put n h files) ≤ total (has_attributes a) files
  put_most = omega (arith, total_put (has_attributes a) n h files, most)

  renamed_most : (m : ℕ) → total (has_attributes a) (table_put m h (table_remove n files)) ≤ total (has_attributes a) files
  renamed_most m = omega (arith, total_put (has_attributes a) m h (table_remove n files), total_remove (has_attributes a) n files, most)

module _ {p : Plain} where
  -- where layers and SYS's slices stay
  other_files : {files : Table File} {areas : Table (Table AreaUser)} → ((a : ℕ) → T (entry_only a) → total (has_attributes a) files ≤ files_with a p)
      → Kept p (with_tables p p.layers p.sys files areas)
  other_files fewer = record { sys = record { keys = refl; layers = omega arith; new = []; slices = sym (append-nil p.sys) }; sectors = refl; entry_only = fewer }

  -- where the files stay too, or one has another length, slices or sectors
  same_sys : {areas : Table (Table AreaUser)} → Kept p (with_areas p areas)
  same_sys = other_files (λ a t. omega arith)

  same_attributes : (n : ℕ) (h : File) {f : File} {areas : Table (Table AreaUser)} → table_find n p.files ≡ some f → h.attributes ≡ f.attributes
      → Kept p (with_tables p p.layers p.sys (table_put n h p.files) areas)
  same_attributes n h e q = other_files (λ a t. put_most a n h p.files (rw (e, q) (omega arith)))

  -- where SYS has taken its slices for more layers
  more_sys : {layers : ℕ} {files : Table File} {areas : Table (Table AreaUser)} → p.layers ≤ layers → ((a : ℕ) → T (entry_only a) → total (has_attributes a) files ≤ files_with a p)
      → Kept p (with_tables p layers (p.sys ++ sys_taken p layers) files areas)
  more_sys {layers} up fewer = record { sys = record { keys = refl; layers = up; new = sys_taken p layers; slices = refl }; sectors = refl; entry_only = fewer }

  left_kept : {message : Message} {q : Plain} → Left p message q → Kept p q
  left_kept everything = same_sys
  left_kept (but_position m o) = rw o.moves same_sys

shrinks_trans : {p q r : Plain} → NeverShrinks p q → NeverShrinks q r → NeverShrinks p r
shrinks_trans {p} a b = record {
  keys = b.keys ∙ a.keys;
  layers = omega (arith, a.layers, b.layers);
  new = a.new ++ b.new;
  slices = b.slices ∙ ap (λ (l : List ℕ). l ++ b.new) a.slices ∙ append_assoc p.sys a.new b.new;
}

-- ---- the claims of one outcome

-- a word that is none of the two, as a test
abbrev other : ℕ → Bool
other word = not (eqb word 0x9000 || eqb word 0x8800)

not_unsound : (word : ℕ) → T (other word) → NeverUnsound word
not_unsound word t = record { catalog = λ e. rw e at t; area = λ e. rw e at t }

record Stays (p : Plain) (message : Message) (lent : List ℕ) (o : Outcome) : Type 0 where
  refused : o.answer.result ≢ 0 → Refused p message lent o
  word : NeverUnsound o.answer.result
  kept : Kept p o.unit

module _ {p : Plain} {message : Message} {lent : List ℕ} where
  -- A refusal that leaves the unit q, with any block.
  leaves : {q : Plain} (word : ℕ) {k : ℕ} → T (other word) → Left p message q → Stays p message lent (refused_at q word k lent)
  leaves word t l = search (not_unsound word t, left_kept l)

  -- A call that is not refused.
  accepts : {o : Outcome} → o.answer.result ≡ 0 → Kept p o.unit → Stays p message lent o
  accepts e g = record { refused = λ h. absurd (h e); word = rw e (not_unsound 0 tt); kept = g }

  -- A refusal that leaves everything.
  keeps : (word : ℕ) {k : ℕ} → T (other word) → Stays p message lent (refused_at p word k lent)
  keeps word t = leaves word t everything

  -- A question; one that brings a value.
  ask : (b : Bool) {refusal next : Outcome} → Stays p message lent refusal → Stays p message lent next → Stays p message lent (asks b refusal next)
  ask b stop rest = asks_law (Stays p message lent) b stop (λ _. rest)

  bring : {A : Type 0} (o : Option A) {refusal : Outcome} {next : A → Outcome}
      → Stays p message lent refusal → ((a : A) → o ≡ some a → Stays p message lent (next a)) → Stays p message lent (given o refusal next)
  bring o stop rest = given_law (Stays p message lent) o stop rest

-- ---- catalog messages, area create and remove, reports

module _ (p : Plain) (message : Message) (lent : List ℕ) where
  -- the refusal of most questions
  no : Stays p message lent (refused_at p 0x1200 0 lent)
  no = keeps 0x1200 tt

  init : (unit : ℕ) → Stays p message lent (step_init p unit lent)
  init unit = ask _ no (ask _ no (accepts refl same_sys))

  new_file_stays : (n size attributes : ℕ) (optional tail : List ℕ) → Stays p message lent (new_file p n size attributes optional tail lent)
  unfolding new_file
  new_file_stays n size attributes optional tail =
      ask _ no (ask _ no (asks_law (Stays p message lent) _ no λ legal. asks_law (Stays p message lent) _ no λ ordinary. ask _ (keeps _ tt)
      (ask _ (keeps _ tt) (ask _ (keeps _ tt) (ask _ (keeps _ tt) (accepts refl (more_sys (layers_up p.H (sys_of p) n p.files)
      (λ a t. put_most a n _ p.files (ordinary_most attributes _ (given_ordinary attributes legal ordinary) a t)))))))))

  create : (name : Name) (size attributes : ℕ) → Stays p message lent (step_create p name size attributes lent)
  create name size attributes = ask _ no (new_file_stays _ _ _ _ _)

  set : (name : Name) → Stays p message lent (step_set p name lent)
  set name = ask _ no (ask _ no (new_file_stays _ _ _ _ _))

  look_up : (name : Name) → Stays p message lent (step_look_up p name lent)
  look_up name = ask _ no (bring _ (keeps _ tt) λ e _. ask _ no (accepts refl same_sys))

  remove : (name : Name) → Stays p message lent (step_remove p name lent)
  remove name = ask _ no (ask _ (keeps _ tt) (bring _ no λ f _. ask _ no (ask _ no
      (accepts refl (other_files (λ a t. omega (arith, total_remove (has_attributes a) (named name) p.files)))))))

  -- a kept name needs no layer more
  change_up : (same : Bool) (m : ℕ) (others : Table File) → p.layers ≤ cond same p.layers (layers_for p.H (sys_of p) m others)
  change_up true m others = omega arith
  change_up false m others = layers_up p.H (sys_of p) m others

  change_stays : (n : ℕ) (f : File) (m size attributes : ℕ) → ((a : ℕ) → T (entry_only a) → one_if (eqb attributes a) ≤ weight_at (has_attributes a) n (table_find n p.files))
      → Stays p message lent (change_file p n f m size attributes lent)
  unfolding change_file
  change_stays n f m size attributes most =
      ask _ no (ask _ no (ask _ no (ask _ no (ask _ no (ask _ (keeps _ tt)
      (ask _ (keeps _ tt) (ask _ (keeps _ tt) (ask _ (keeps _ tt) (accepts refl (more_sys (change_up (eqb m n) m (table_remove n p.files))
      (λ a t. renamed_most a n _ p.files (most a t) m)))))))))))

  change : (name : Name) → Stays p message lent (step_change p name lent)
  change name = ask _ no (ask _ (keeps _ tt) (ask _ no (bring _ no λ f e. asks_law (Stays p message lent) _ no λ ordinary.
      change_stays _ _ _ _ _ (rw e (kept_most (attributes_in lent) f.attributes ordinary)))))

  -- the dummies answer 0
  dummy : Stays p message lent (done p lent)
  dummy = accepts refl same_sys

  create_area : (name : Name) → Stays p message lent (step_create_area p name lent)
  create_area name =
      ask _ (keeps _ tt) (ask _ (keeps _ tt) (ask _ (keeps _ tt) (ask _ dummy (ask _ (keeps _ tt) (accepts refl same_sys)))))

  remove_area : (name : Name) → Stays p message lent (step_remove_area p name lent)
  remove_area name =
      ask _ (keeps _ tt) (ask _ (keeps _ tt) (bring _ dummy λ users _. ask _ dummy (bring _ dummy λ f e. accepts refl (same_attributes (named name) _ e refl))))

  description : (unit bytes : ℕ) → Stays p message lent (step_description p unit bytes lent)
  unfolding step_description
  description unit bytes = ask _ no (ask _ no (ask _ no (accepts refl same_sys)))

  listing : (unit : ℕ) → Stays p message lent (step_listing p unit lent)
  unfolding step_listing
  listing unit = ask _ no (ask _ no (accepts refl same_sys))

-- ---- area messages

-- Position, done by itself or before 5 and 7: both refusals and what follows start from a moved unit.
position_stays : {p : Plain} {message : Message} {lent : List ℕ} (move : ℕ → Plain) (block len : ℕ)
    (refusal : Plain → ℕ → ℕ → Outcome) (next : Plain → ℕ → Outcome)
    → ((word k : ℕ) → T (other word) → Stays p message lent (refusal (move k) word k)) → ((k : ℕ) → Stays p message lent (next (move k) k))
    → Stays p message lent (positioned move block len refusal next)
unfolding positioned
position_stays move block len refusal next stop go = ask _ (stop _ _ tt) (ask _ (stop _ _ tt) (go block))

module _ (p : Plain) (message : Message) (lent : List ℕ) (n sender : ℕ) (users : Table AreaUser) (u : AreaUser) (f : File) (entered : table_find n p.files ≡ some f) where
  -- Input and output from the unit q that Position left.
  input_stays : (q : Plain) (k : ℕ) → Left p message q → Stays p message lent (input q (moved p n sender users u) f k lent)
  unfolding input
  input_stays q k l = ask _ (leaves _ (end_law (λ word. T (other word)) f.attributes tt tt) l) (accepts refl same_sys)

  output_stays : (q : Plain) (k : ℕ) → Left p message q → Stays p message lent (output p q (moved p n sender users u) n f k lent)
  unfolding output append
  output_stays q k l =
      either_law (Stays p message lent) _ (λ _. accepts refl (same_attributes n _ entered refl))
      (λ _. ask _ (leaves _ tt l) (ask _ (leaves _ tt l) (ask _ (leaves _ tt l) (accepts refl (same_attributes n _ entered refl)))))

module _ (p : Plain) (lent : List ℕ) (name : Name) (sender : ℕ) (users : Table AreaUser) (is_open : table_find (named name) p.areas ≡ some users) where
  reserve_stays : (operation : Operation) (count : ℕ) → Stays p (AreaMessage name sender operation) lent (step_reserve p (named name) sender users count lent)
  unfolding step_reserve
  reserve_stays operation count = ask _ (keeps _ tt) (ask _ (keeps _ tt) (ask _ (keeps _ tt) (ask _ (keeps _ tt) (accepts refl same_sys))))

  module _ (u : AreaUser) (is_user : table_find sender users ≡ some u) (f : File) (entered : table_find (named name) p.files ≡ some f) where
    moved_left : {operation : Operation} (k : ℕ) → Moves operation → Left p (AreaMessage name sender operation) (moved p (named name) sender users u k)
    moved_left k m = but_position m (record { users = users; user = u; is_open = is_open; is_user = is_user; to = k; moves = refl })

    transput_stays : (operation bytes block : ℕ)
        → Stays p (AreaMessage name sender (Transput operation bytes block)) lent (step_transput p (named name) sender users u f operation bytes block lent)
    unfolding step_transput
    transput_stays operation bytes block =
        ask _ (keeps _ tt) (ask _ (keeps _ tt) (ask _ (keeps _ tt) (ask _ (keeps _ tt) (either_law P _
        (λ t. position_stays _ _ _ _ _ (λ word k w. leaves word w (moved_left k (random t))) (λ k. go _ k (moved_left k (random t))))
        (λ _. go p u.position everything)))))
      where
        P : Outcome → Type 0
        P = Stays p (AreaMessage name sender (Transput operation bytes block)) lent

        move : ℕ → Plain
        move = moved p (named name) sender users u

        go : (q : Plain) (k : ℕ) → Left p (AreaMessage name sender (Transput operation bytes block)) q
            → P (either (is_output operation) (output p q move (named name) f k lent) (input q move f k lent))
        go q k l = either_law P _
            (λ _. output_stays p _ lent (named name) sender users u f entered q k l)
            (λ _. input_stays p _ lent (named name) sender users u f entered q k l)

    user_stays : (operation : Operation) → Stays p (AreaMessage name sender operation) lent (user_step p (named name) sender users u f operation lent)
    unfolding user_step step_release
    user_stays (Reserve count) = accepts refl same_sys
    user_stays (Position block) = position_stays _ _ _ _ _ (λ word k w. leaves word w (moved_left k position)) (λ k. accepts refl same_sys)
    user_stays Sense = accepts refl same_sys
    user_stays (Transput operation bytes block) = transput_stays operation bytes block
    user_stays (Other operation) = keeps _ tt

  operation_stays : (operation : Operation) (count : Option ℕ)
      → Stays p (AreaMessage name sender operation) lent (operation_step p (named name) sender users operation count lent)
  unfolding operation_step
  operation_stays operation (some count) = reserve_stays operation count
  operation_stays operation none = bring _ (keeps _ tt) λ u is_user. bring _ (keeps _ tt) λ f entered. user_stays u is_user f entered operation

area : (p : Plain) (lent : List ℕ) (name : Name) (sender : ℕ) (operation : Operation)
    → Stays p (AreaMessage name sender operation) lent (step_area p name sender operation lent)
area p lent name sender operation =
    ask _ (keeps _ tt) (bring _ (keeps _ tt) λ users is_open. ask _ (keeps _ tt) (ask _ (keeps _ tt) (ask _ (keeps _ tt)
    (operation_stays p lent name sender users is_open operation (reserve_count operation)))))

-- ---- every call

stays : (p : Plain) (message : Message) (lent : List ℕ) → Stays p message lent (step p message lent)
stays p (Init unit) lent = init p _ lent unit
stays p (Set name) lent = set p _ lent name
stays p (Create name size attributes) lent = create p _ lent name size attributes
stays p (LookUp name) lent = look_up p _ lent name
stays p (Change name) lent = change p _ lent name
stays p (Remove name) lent = remove p _ lent name
stays p (CreateArea name) lent = create_area p _ lent name
stays p (RemoveArea name) lent = remove_area p _ lent name
stays p (AreaMessage name sender operation) lent = area p lent name sender operation
stays p (UnitDescription unit bytes) lent = description p _ lent unit bytes
stays p (Listing unit) lent = listing p _ lent unit

pub refuses : (p : Plain) (message : Message) (lent : List ℕ) → (step p message lent).answer.result ≢ 0 → Refused p message lent (step p message lent)
refuses p message lent = (stays p message lent).refused

-- the unit's sectors are as many as before
pub step_sectors : (p : Plain) (message : Message) (lent : List ℕ) → (step p message lent).unit.N ≡ p.N
step_sectors p message lent = (stays p message lent).kept.sectors

-- ---- every list of calls

pub never_unsound_lem : (p : Plain) (message : Message) (lent : List ℕ) → NeverUnsound (step p message lent).answer.result
never_unsound_lem p message lent = (stays p message lent).word

pub never_unsound_after_lem : (calls : List Call) (p : Plain) → EachNeverUnsound (answers p calls)
never_unsound_after_lem [] p = tt
never_unsound_after_lem (c ∷ calls) p = (never_unsound_lem p c.message c.lent, never_unsound_after_lem calls (step p c.message c.lent).unit)

pub never_shrinks_lem : (calls : List Call) (p : Plain) → NeverShrinks p (after p calls)
never_shrinks_lem [] p = same_sys.sys
never_shrinks_lem (c ∷ calls) p =
    let q : Plain = (step p c.message c.lent).unit in
    shrinks_trans (stays p c.message c.lent).kept.sys (never_shrinks_lem calls q)

pub no_more_entry_only_lem : (calls : List Call) (p : Plain) → NoMoreEntryOnly p (after p calls)
no_more_entry_only_lem [] p a t = omega arith
no_more_entry_only_lem (c ∷ calls) p a t =
    let q : Plain = (step p c.message c.lent).unit in
    omega (arith, (stays p c.message c.lent).kept.entry_only a t, no_more_entry_only_lem calls q a t)
