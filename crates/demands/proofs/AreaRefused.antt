-- A refused message to an area process: the image stays, and the state but for the sender's position.
use Rattle.std.specs.Prelude.{Some, None, Option as Maybe}
use mathlib.Core.Path.{◌≡◌, refl, sym, ap, ◌∙◌, subst}
use mathlib.Core.Bool.{Bool, true, false, not, ◌&&◌, cond}
use mathlib.Core.List.{List}
use mathlib.Core.Logic.{◌≢◌}
use mathlib.Core.Option.{Option, none, some}
use Prim.Native.Nat.{ℕ, zero, suc}
use native.Mathlib.Omega.{arith}
use lib.Dec.{eqb}
use lib.ListN.{length}
use borrow.Author.Tests.{eq-eqb, ne_eqb}
use Rattle.types.specs.declared.Name.{Name}
use Rattle.types.specs.declared.Answer.{Answer}
use Rattle.types.specs.declared.State.{State}
use Rattle.types.specs.declared.Operation.{Operation}
use Rattle.types.specs.declared.Operation.TheVariants.{Reserve, Position, Sense, Transput, Other}
use Rattle.types.specs.declared.Message.TheVariants.{AreaMessage}
use Rattle.types.specs.State.{area_at}
use Rattle.disc.specs.Names.{named, unit_in}
use Rattle.disc.proofs.Compare.{same_or}
use Rattle.disc.proofs.DecideLaws.{true≢false}
use Rattle.state.specs.declared.Kind.TheVariants.{Exclusive}
use Rattle.state.specs.Areas.{set_area, area_named, entry_of, any_other, reserved}
use Rattle.plain.specs.Table.{table_find}
use Rattle.plain.specs.Unit.{Plain, File}
use Rattle.plain.specs.Questions.{Outcome, replies, known}
use Rattle.plain.specs.Areas as plain
use Rattle.plain.specs.Transput.{step_transput}
use Rattle.plain.specs.Step.{is_known, reserve_count, user_step, operation_step, step_area}
use Rattle.plain.specs.Good.{Good}
use Rattle.plain.specs.Claims.{Moves, position, random}
use Rattle.refine.specs.Represents.{Represents}
use Rattle.refine.proofs.StateLaws.{same_absent}
use Rattle.preservation.proofs.AreaMessages.{area-set_same, reserve_refused, area_found, area_other, reserve_outcome, sender_absent, sender_found, area_file}
use Rattle.preservation.proofs.AreaUnit.{area_shut, area_reserved, area_nobody, area_strange, area_asked, operation_reserve, operation_stranger, operation_user, user_release}
use Rattle.area_users.specs.AreaUsers.{at_position, position_word, position_reached}
use Rattle.area_users.specs.Seat.{Seat, area_users, area_user}
use Rattle.area_users.proofs.UserLaws.{own_position, positioned_by}
use Rattle.transput.specs.Transput.{transput_state}
use Rattle.transput.proofs.TransputLaws.{kept_state}
use Rattle.area_messages.specs.AreaMessages.{reserve_word, message_image, user_state, operation_state, message_state}
use Rattle.area_messages.proofs.MessageLaws as messages
use Rattle.demands.specs.Demands.{StateLeft, everything, but_position}
use Rattle.demands.proofs.TransputRefused.{Reached, own, there, transput_stops}

-- ---- the image

pub refused_image : (p : Plain) (image lent : List ℕ) (operation : Operation) (a : Answer) → a.result ≢ 0 → (f : Option File) → message_image p image operation a lent f ≡ image
refused_image p image lent operation a d f = sym (messages.refused_image p image lent operation a (λ _. d) f)

-- ---- the state

module _ {image : List ℕ} {state : State} {p : Plain} (g : Good p) (r : Represents image state p) (name : Name) (sender : ℕ) (lent : List ℕ) (mine : known p (unit_in name) ≡ true)
    (q : Plain) (a : Answer) (filled : List ℕ) (nz : a.result ≢ 0) where
  -- the outcome in hand
  abbrev x : Outcome
  x = record { unit = q; answer = a; lent = filled }

  abbrev Keeps : Operation → State → Type 0
  Keeps operation next = StateLeft p q state next (AreaMessage name sender operation)

  unit_is : {o : Plain} {b : Answer} {l : List ℕ} → x ≡ record { unit = o; answer = b; lent = l } → q ≡ o
  unit_is e = ap (λ (y : Outcome). y.unit) e

  never : {C : Type 0} {o : Plain} {l : List ℕ} → x ≡ replies o 0 l → C
  never e = absurd (nz (ap (λ (y : Outcome). y.answer.result) e))

  module _ (j : ℕ) (here : area_named (named name) state ≡ Some j) (f : File) (file : table_find (named name) p.files ≡ some f) where
    module _ (d : sender ≢ 0) where
      module _ (u : ℕ) (w : entry_of sender (area_at state j) ≡ Some u) where
        seat : Seat image state p (named name) j sender u f
        seat = record { good = g; represents = r; named = here; nonzero = d; entry = w; file = file }

        moves : {operation : Operation} (k : ℕ) → Moves operation → q ≡ plain.moved p (named name) sender (area_users state j) (area_user state j u) k → Keeps operation (at_position state j u k)
        moves k m e = but_position m
            (record { users = area_users state j; user = area_user state j u; is_open = area_found r.areas (named name) j here; is_user = sender_found r.areas (named name) j here sender d u w; to = k; moves = e })
            (record { j = j; u = u; is_open = here; is_user = w; left = refl })

        position_left : (block : ℕ) → x ≡ plain.step_position p (named name) sender (area_users state j) (area_user state j u) f block lent
            → Keeps (Position block) (at_position state j u (position_reached block (length f.sectors)))
        position_left block e =
            let by = positioned_by (plain.moved p (named name) sender (area_users state j) (area_user state j u)) block (length f.sectors) (λ q word k. replies q word lent) (λ q k. replies q 0 lent) in
            same_or (position_word block (length f.sectors)) 0 (λ z. never (e ∙ (by.done z).0)) (λ h. moves (position_reached block (length f.sectors)) position (unit_is (e ∙ by.refused h)))

        transput_left : (operation bytes block : ℕ) → x ≡ step_transput p (named name) sender (area_users state j) (area_user state j u) f operation bytes block lent
            → Keeps (Transput operation bytes block) (transput_state p f state j u operation a.result a.block.0)
        transput_left operation bytes block e = rw (← kept_state p f a.block.0 state j u operation a.result nz)
            (go (subst (λ (y : Outcome). Reached p (named name) sender (area_users state j) (area_user state j u) f operation bytes block lent y.unit y.answer.block.0) (sym e)
            (transput_stops p (named name) sender (area_users state j) (area_user state j u) f operation bytes block lent (λ z. nz (ap (λ (y : Outcome). y.answer.result) e ∙ z)))))
          where
            go : Reached p (named name) sender (area_users state j) (area_user state j u) f operation bytes block lent q a.block.0 → Keeps (Transput operation bytes block) (at_position state j u a.block.0)
            go (own s k) = everything s (own_position seat a.block.0 k)
            go (there t s) = moves a.block.0 (random t) s

        user_left : (operation : Operation) → x ≡ user_step p (named name) sender (area_users state j) (area_user state j u) f operation lent → Keeps operation (user_state p f state j u operation a)
        unfolding user_step user_state
        user_left (Reserve count) e = never (e ∙ user_release p (named name) sender (area_users state j) (area_user state j u) f lent count)
        user_left (Position block) e = position_left block e
        user_left Sense e = never e
        user_left (Transput operation bytes block) e = transput_left operation bytes block e
        user_left (Other operation) e = everything (unit_is e) refl

      -- "Release and all else: sender a user?"
      entry_left : (operation : Operation) (found : Maybe ℕ) → entry_of sender (area_at state j) ≡ found → x ≡ operation_step p (named name) sender (area_users state j) operation none lent
          → Keeps operation (operation_state p f state j sender operation a 0 found)
      unfolding operation_state
      entry_left operation (Some u) w e = user_left u w operation
          (e ∙ operation_user p (named name) sender (area_users state j) operation lent (area_user state j u) f (sender_found r.areas (named name) j here sender d u w) file)
      entry_left operation None w e =
          everything (unit_is (e ∙ operation_stranger p (named name) sender (area_users state j) operation lent (sender_absent r.areas (named name) j here sender d w))) refl

      reserve_left : (operation : Operation) (count : ℕ) (found : Maybe ℕ) → x ≡ operation_step p (named name) sender (area_users state j) operation (some (suc count)) lent
          → Keeps operation (operation_state p f state j sender operation a (suc count) found)
      unfolding operation_state
      reserve_left operation count found e =
          let by = e ∙ operation_reserve p (named name) sender (area_users state j) operation lent (suc count) ∙ reserve_outcome r.areas (named name) j here sender d (suc count) lent in
          let word : (reserved (area_at state j) sender (suc count)).word ≢ 0 = λ z. nz (ap (λ (y : Outcome). y.answer.result) by ∙ z) in
          let shut : eqb (reserved (area_at state j) sender (suc count)).word 0 ≡ false = ne_eqb _ 0 word in
          everything (rw shut at (unit_is by)) (ap (set_area state j) (reserve_refused (area_at state j) sender (suc count) shut) ∙ area-set_same state j)

      operation_left : (operation : Operation) → x ≡ operation_step p (named name) sender (area_users state j) operation (reserve_count operation) lent
          → Keeps operation (operation_state p f state j sender operation a (reserve_word operation) (entry_of sender (area_at state j)))
      operation_left (Reserve zero) e = entry_left (Reserve 0) (entry_of sender (area_at state j)) refl e
      operation_left (Reserve (suc count)) e = reserve_left (Reserve (suc count)) count (entry_of sender (area_at state j)) e
      operation_left (Position block) e = entry_left (Position block) (entry_of sender (area_at state j)) refl e
      operation_left Sense e = entry_left Sense (entry_of sender (area_at state j)) refl e
      operation_left (Transput operation bytes block) e = entry_left (Transput operation bytes block) (entry_of sender (area_at state j)) refl e
      operation_left (Other operation) e = entry_left (Other operation) (entry_of sender (area_at state j)) refl e

    live : table_find (named name) p.areas ≡ some (area_users state j)
    live = area_found r.areas (named name) j here

    exclusive : plain.other plain.is_exclusive sender (area_users state j) ≡ any_other Exclusive sender (area_at state j)
    exclusive = area_other r.areas (named name) j here Exclusive sender

    -- "No other exclusive user? 0200h; sender not 0? 0810h; known operation? 0A00h."
    asked_left : (operation : Operation) → x ≡ step_area p name sender operation lent → (b : Bool) → any_other Exclusive sender (area_at state j) ≡ b → (z : Bool) → eqb sender 0 ≡ z
        → (s : Bool) → is_known operation ≡ s
        → Keeps operation (cond (not b && (not z && s)) (operation_state p f state j sender operation a (reserve_word operation) (entry_of sender (area_at state j))) state)
    asked_left operation e true b z y s k = everything (unit_is (e ∙ area_reserved p name sender operation lent mine live (exclusive ∙ b))) refl
    asked_left operation e false b true y s k = everything (unit_is (e ∙ area_nobody p name sender operation lent mine live (exclusive ∙ b) y)) refl
    asked_left operation e false b false y false k = everything (unit_is (e ∙ area_strange p name sender operation lent mine live (exclusive ∙ b) y k)) refl
    asked_left operation e false b false y true k =
        operation_left (λ z. true≢false (sym (eq-eqb sender 0 z) ∙ y)) operation (e ∙ area_asked p name sender operation lent mine live (exclusive ∙ b) y k)

  found_left : (operation : Operation) → x ≡ step_area p name sender operation lent → (found : Maybe ℕ) → area_named (named name) state ≡ found → (o : Option File) → table_find (named name) p.files ≡ o
      → Keeps operation (message_state p state sender operation a found o)
  unfolding message_state
  found_left operation e None h o file = everything (unit_is (e ∙ area_shut p name sender operation lent mine (same_absent state p r.areas (named name) h))) refl
  found_left operation e (Some j) h none file =
      absurd (let entered = (area_file g (named name) (area_found r.areas (named name) j h)).1 in let z : ◌≡◌ {A = ℕ} 0 1 = cc in omega arith)
  found_left operation e (Some j) h (some f) file =
      asked_left j h f file operation e (any_other Exclusive sender (area_at state j)) refl (eqb sender 0) refl (is_known operation) refl

  pub refused_state : (operation : Operation) → x ≡ step_area p name sender operation lent
      → Keeps operation (message_state p state sender operation a (area_named (named name) state) (table_find (named name) p.files))
  refused_state operation e = found_left operation e (area_named (named name) state) refl (table_find (named name) p.files) refl
