-- The messages to an area process by what the code finds: each answer is the plain unit's, image and state are those of its unit.
use Rattle.std.specs.Prelude.{Some, None, Option as Maybe}
use mathlib.Core.Path.{◌≡◌, refl, sym, ap, ap₂, ◌∙◌}
use mathlib.Core.Bool.{Bool, true, false, not, ◌&&◌}
use mathlib.Core.List.{List}
use mathlib.Core.Logic.{◌≢◌}
use mathlib.Core.Option.{Option, none, some}
use Prim.Native.Nat.{ℕ, zero, suc, ◌<◌}
use native.Mathlib.Omega.{arith}
use lib.Dec.{T, eqb}
use lib.ListN.{length}
use borrow.Author.Tests.{eq-eqb, ne_eqb}
use Rattle.types.specs.declared.Name.{Name}
use Rattle.types.specs.declared.Answer.{Answer}
use Rattle.types.specs.declared.Area.{Area}
use Rattle.types.specs.declared.State.{State}
use Rattle.types.specs.declared.Operation.{Operation}
use Rattle.types.specs.declared.Operation.TheVariants.{Reserve, Position, Sense, Transput, Other}
use Rattle.types.specs.State.{area_at}
use Rattle.disc.specs.Names.{named, unit_in}
use Rattle.disc.proofs.Compare.{same_or}
use Rattle.catalog.specs.declared.Unit.{Unit}
use Rattle.state.specs.declared.Kind.TheVariants.{Exclusive}
use Rattle.state.specs.Areas.{set_area, area_named, entry_of, any_other, reserved}
use Rattle.plain.specs.Table.{table_find}
use Rattle.plain.specs.Unit.{Plain, File}
use Rattle.plain.specs.Questions.{answer, replies, known}
use Rattle.plain.specs.Areas as plain
use Rattle.plain.specs.Step.{is_known, reserve_count, user_step, operation_step, step_area}
use Rattle.plain.specs.Good.{Good}
use Rattle.refine.specs.Represents.{Represents}
use Rattle.refine.proofs.LeavesLaws.{leaves, leaves_as, leaves_by}
use Rattle.refine.proofs.StateLaws.{same_absent}
use Rattle.preservation.proofs.AreaMessages.{area_low, area_found, area_other, sender_absent, sender_found, area_file}
use Rattle.preservation.proofs.AreaUnit.{area_shut, area_reserved, area_nobody, area_strange, area_asked, operation_reserve, operation_stranger, operation_user, user_position, user_sense, user_transput}
use Rattle.lookup.specs.Unit.{NumbersOf, Meant}
use Rattle.lookup.proofs.MeantLaws.{meant_known}
use Rattle.area_users.specs.declared.AreaReply.{AreaReply}
use Rattle.area_users.specs.AreaUsers.{area_reply, at_position, position_word, position_reached, reserved_reply, released_reply, position_reply}
use Rattle.refine.specs.Leaves.{Leaves, StandFor}
use Rattle.area_users.specs.Seat.{Seat, area_users, area_user}
use Rattle.area_users.proofs.UserLaws.{seat_size, reserve_leaves, release_leaves, moved_stands, reached_low, positioned_by}
use Rattle.transput.specs.Transput.{Transputs, Seated}
use Rattle.transput.proofs.TransputLaws.{kept_image}
use Rattle.area_messages.specs.AreaMessages.{reserve_word, message_image, user_state, operation_state, admitted, message_state, UserSteps, OperatesFrom, CanOperate, Operates, AreaMessages}

-- ---- the image of a refused message, and of those that write nothing

abbrev pub is_transput : Operation → Bool
is_transput (Reserve count) = false
is_transput (Position block) = false
is_transput Sense = false
is_transput (Transput operation bytes block) = true
is_transput (Other operation) = false

module _ (p : Plain) (image lent : List ℕ) where
  pub refused_image : (operation : Operation) (a : Answer) → (T (is_transput operation) → a.result ≢ 0) → (f : Option File) → image ≡ message_image p image operation a lent f
  unfolding message_image
  refused_image operation a d none = refl
  refused_image (Reserve count) a d (some f) = refl
  refused_image (Position block) a d (some f) = refl
  refused_image Sense a d (some f) = refl
  refused_image (Transput operation bytes block) a d (some f) = kept_image p f a.block.0 image lent operation a.result (d tt)
  refused_image (Other operation) a d (some f) = refl

  reserve_image : (operation : Operation) (a : Answer) (f : File) → reserve_word operation ≢ 0 → image ≡ message_image p image operation a lent (some f)
  unfolding message_image
  reserve_image (Reserve count) a f d = refl
  reserve_image (Position block) a f d = refl
  reserve_image Sense a f d = refl
  reserve_image (Transput operation bytes block) a f d = absurd (d refl)
  reserve_image (Other operation) a f d = refl

-- ---- a user's operation

-- Position, at the live length of the descriptor
module _ {image : List ℕ} {state : State} {p : Plain} {n j sender u : ℕ} {f : File} (seat : Seat image state p n j sender u f) (block : ℕ) (lent : List ℕ) where
  abbrev len : ℕ
  len = length f.sectors

  abbrev move : ℕ → Plain
  move = plain.moved p n sender (area_users state j) (area_user state j u)

  position_outcome : plain.step_position p n sender (area_users state j) (area_user state j u) f block lent ≡ replies (move (position_reached block len)) (position_word block len) lent
  position_outcome =
      let stepped = positioned_by move block len (λ q word k. replies q word lent) (λ q k. replies q 0 lent) in
      same_or (position_word block len) 0
      (λ z. let d = stepped.done z in d.0 ∙ ap₂ (λ (k w : ℕ). replies (move k) w lent) (sym d.2) (sym z))
      (λ d. stepped.refused d)

  position_leaves : Leaves (plain.step_position p n sender (area_users state j) (area_user state j u) f block lent) (answer (position_word block len) 0 0 0) lent
      (StandFor image (at_position state j u (position_reached block len)))
  position_leaves = leaves_by position_outcome (moved_stands seat (position_reached block len) (reached_low block len))

module _ {image : List ℕ} {state : State} {o : Unit} {j sender u : ℕ} {lent : List ℕ} {reply : AreaReply} where
  pub step_release_lem : {count : ℕ} → reply ≡ released_reply state j u → UserSteps image state o j sender u (Reserve count) lent reply lent image
  unfolding user_state message_image
  step_release_lem {count} e = record { all = λ p n f seat num. rw e (record { leaves = release_leaves seat count lent; written = refl; reached = refl }) }

  pub step_position_lem : {block : ℕ} → reply ≡ position_reply state j u block → UserSteps image state o j sender u (Position block) lent reply lent image
  unfolding user_state message_image
  step_position_lem {block} e = record {
    all = λ p n f seat num.
        let q = e ∙ ap (λ (m : ℕ). area_reply (at_position state j u (position_reached block m)) (position_word block m) 0 0) (seat_size seat) in
        rw q (record {
          leaves = leaves_as (user_position p n sender (area_users state j) (area_user state j u) f lent block) (position_leaves seat block lent);
          written = refl;
          reached = refl;
        });
  }

  pub step_sense : reply ≡ area_reply state 0 0 0 → UserSteps image state o j sender u Sense lent reply lent image
  unfolding user_state message_image
  step_sense e = record {
    all = λ p n f seat num.
        rw e (record {
          leaves = leaves (user_sense p n sender (area_users state j) (area_user state j u) f lent) seat.good seat.represents;
          written = refl;
          reached = refl;
        });
  }

  pub step_other : {operation : ℕ} → reply ≡ area_reply state 0x0A00 0 0 → UserSteps image state o j sender u (Other operation) lent reply lent image
  unfolding user_state user_step message_image
  step_other e = record { all = λ p n f seat num. rw e (record { leaves = leaves refl seat.good seat.represents; written = refl; reached = refl }) }

  pub step_transput_lem : {operation bytes block : ℕ} {filled after : List ℕ} → Transputs image state o j sender u operation bytes block lent reply filled after
      → UserSteps image state o j sender u (Transput operation bytes block) lent reply filled after
  unfolding user_state message_image
  step_transput_lem {operation} {bytes} {block} {filled} {after} h = record {
    all = λ p n f seat num.
        let t = h.all p n f seat num in
        record {
          leaves = leaves_as (user_transput p n sender (area_users state j) (area_user state j u) f lent operation bytes block) t.leaves;
          written = t.written;
          reached = t.reached;
        };
  }

-- ---- the operation

reserve_some : (operation : Operation) → reserve_word operation ≢ 0 → reserve_count operation ≡ some (reserve_word operation)
reserve_some (Reserve zero) d = absurd (d refl)
reserve_some (Reserve (suc count)) d = refl
reserve_some (Position block) d = absurd (d refl)
reserve_some Sense d = absurd (d refl)
reserve_some (Transput operation bytes block) d = absurd (d refl)
reserve_some (Other operation) d = absurd (d refl)

reserve_none : (operation : Operation) → reserve_word operation ≡ 0 → reserve_count operation ≡ none
reserve_none (Reserve zero) z = refl
reserve_none (Reserve (suc count)) z = absurd (omega arith)
reserve_none (Position block) z = refl
reserve_none Sense z = refl
reserve_none (Transput operation bytes block) z = refl
reserve_none (Other operation) z = refl

module _ (p : Plain) (f : File) (state : State) (j sender : ℕ) (operation : Operation) (a : Answer) where
  state_reserve : (count : ℕ) (found : Maybe ℕ) → count ≢ 0 → set_area state j (reserved (area_at state j) sender count).area ≡ operation_state p f state j sender operation a count found
  unfolding operation_state
  state_reserve zero found d = absurd (d refl)
  state_reserve (suc count) found d = refl

  state_user : (count : ℕ) (found : Maybe ℕ) (u : ℕ) → count ≡ 0 → found ≡ Some u → user_state p f state j u operation a ≡ operation_state p f state j sender operation a count found
  unfolding operation_state
  state_user count found u z e = rw (z, e) refl

  state_stranger : (count : ℕ) (found : Maybe ℕ) → count ≡ 0 → found ≡ None → state ≡ operation_state p f state j sender operation a count found
  unfolding operation_state
  state_stranger count found z e = rw (z, e) refl

module _ (image : List ℕ) (state : State) (o : Unit) (j sender : ℕ) (operation : Operation) where
  exclusive : (p : Plain) (n : ℕ) (f : File) → OperatesFrom image state o j sender p n f → plain.other plain.is_exclusive sender (area_users state j) ≡ false
  exclusive p n f from = area_other from.represents.areas n j from.named Exclusive sender ∙ from.alone

  seat_of : {p : Plain} {n u : ℕ} {f : File} → OperatesFrom image state o j sender p n f → entry_of sender (area_at state j) ≡ Some u → Seat image state p n j sender u f
  seat_of from e = record { good = from.good; represents = from.represents; named = from.named; nonzero = from.nonzero; entry = e; file = from.file }

  pub operate_low : CanOperate image state o j sender → j < 8
  operate_low c = area_low c.can.represents.areas c.n j c.can.named

  pub operate_reserve : {lent : List ℕ} {reply : AreaReply} {count : ℕ} → count ≡ reserve_word operation → count ≢ 0 → reply ≡ reserved_reply state j sender count
      → Operates image state o j sender operation lent reply lent image
  operate_reserve {lent} {count = count} w d e = record {
    all = λ p n f from.
        let l = reserve_leaves from.good from.represents n j from.named sender from.nonzero (exclusive p n f from) count lent in
        let is : operation_step p n sender (area_users state j) operation (reserve_count operation) lent ≡ plain.step_reserve p n sender (area_users state j) count lent =
        ap (λ (x : Option ℕ). operation_step p n sender (area_users state j) operation x lent) (reserve_some operation (λ z. d (w ∙ z)) ∙ ap some (sym w))
        ∙ operation_reserve p n sender (area_users state j) operation lent count in
        rw e (record {
          leaves = leaves_as is l;
          written = reserve_image p image lent operation _ f (λ z. d (w ∙ z));
          reached =
              state_reserve p f state j sender operation _ count (entry_of sender (area_at state j)) d
              ∙ ap (λ (x : ℕ). operation_state p f state j sender operation (answer (reserved (area_at state j) sender count).word 0 0 0) x (entry_of sender (area_at state j))) w;
        });
  }

  module _ {count : ℕ} (w : count ≡ reserve_word operation) (z : count ≡ 0) {area : Area} (own : area ≡ area_at state j) {found : Maybe ℕ} (search : found ≡ entry_of sender area) where
    entry_is : entry_of sender (area_at state j) ≡ found
    entry_is = ap (λ (a : Area). entry_of sender a) (sym own) ∙ sym search

    pub operate_stranger : {lent : List ℕ} {reply : AreaReply} → found ≡ None → reply ≡ area_reply state 0x0810 0 0 → Operates image state o j sender operation lent reply lent image
    operate_stranger {lent} absent e = record {
      all = λ p n f from.
          let is : operation_step p n sender (area_users state j) operation (reserve_count operation) lent ≡ replies p 0x0810 lent =
          ap (λ (x : Option ℕ). operation_step p n sender (area_users state j) operation x lent) (reserve_none operation (sym w ∙ z))
          ∙ operation_stranger p n sender (area_users state j) operation lent (sender_absent from.represents.areas n j from.named sender from.nonzero (entry_is ∙ absent)) in
          rw e (record {
            leaves = leaves is from.good from.represents;
            written = refused_image p image lent operation (answer 0x0810 0 0 0) (λ _ q. omega arith) (some f);
            reached = state_stranger p f state j sender operation _ (reserve_word operation) (entry_of sender (area_at state j)) (sym w ∙ z) (entry_is ∙ absent);
          });
    }

    module _ {u : ℕ} (at : found ≡ Some u) where
      pub operate_seated : CanOperate image state o j sender → Seated image state o j sender u
      operate_seated c = record { p = c.p; n = c.n; f = c.f; seat = seat_of c.can (entry_is ∙ at); numbers = c.can.numbers }

      pub operate_user : {lent filled after : List ℕ} {reply : AreaReply} → UserSteps image state o j sender u operation lent reply filled after → Operates image state o j sender operation lent reply filled after
      operate_user {lent} {filled} {after} {reply} h = record {
        all = λ p n f from.
            let seat = seat_of from (entry_is ∙ at) in
            let l = h.all p n f seat from.numbers in
            let is : operation_step p n sender (area_users state j) operation (reserve_count operation) lent ≡ user_step p n sender (area_users state j) (area_user state j u) f operation lent =
            ap (λ (x : Option ℕ). operation_step p n sender (area_users state j) operation x lent) (reserve_none operation (sym w ∙ z))
            ∙ operation_user p n sender (area_users state j) operation lent (area_user state j u) f (sender_found from.represents.areas n j from.named sender from.nonzero u (entry_is ∙ at)) from.file in
            record {
              leaves = leaves_as is l.leaves;
              written = l.written;
              reached = l.reached ∙ state_user p f state j sender operation reply.answer (reserve_word operation) (entry_of sender (area_at state j)) u (sym w ∙ z) (entry_is ∙ at);
            };
      }

-- ---- the message

is_true : (b : Bool) → T b → b ≡ true
is_true true t = refl
is_true false t = absurd t

module _ (p : Plain) (state : State) (sender : ℕ) (operation : Operation) (a : Answer) where
  state_shut : (found : Maybe ℕ) (f : Option File) → found ≡ None → state ≡ message_state p state sender operation a found f
  unfolding message_state
  state_shut found f e = rw e refl

  state_refused : (found : Maybe ℕ) (j : ℕ) (f : Option File) → found ≡ Some j → admitted (area_at state j) sender operation ≡ false → state ≡ message_state p state sender operation a found f
  unfolding message_state
  state_refused found j none e q = rw e refl
  state_refused found j (some f) e q = rw (e, q) refl

  state_admitted : (found : Maybe ℕ) (j : ℕ) (o : Option File) (f : File) → found ≡ Some j → o ≡ some f → admitted (area_at state j) sender operation ≡ true
      → operation_state p f state j sender operation a (reserve_word operation) (entry_of sender (area_at state j)) ≡ message_state p state sender operation a found o
  unfolding message_state
  state_admitted found j o f e s q = rw (e, s, q) refl

module _ {image : List ℕ} {state : State} {o : Unit} (name : Name) (meant : Meant image state o (unit_in name)) (sender : ℕ) (operation : Operation) {n : ℕ} (is : n ≡ named name)
    {found : Maybe ℕ} (search : found ≡ area_named n state) where
  -- question 1 is answered yes
  mine : {p : Plain} → Represents image state p → known p (unit_in name) ≡ true
  mine {p} r = is_true (known p (unit_in name)) (meant_known meant r)

  found_is : area_named (named name) state ≡ found
  found_is = ap (λ (m : ℕ). area_named m state) (sym is) ∙ sym search

  pub message_shut : {lent : List ℕ} {reply : AreaReply} → found ≡ None → reply ≡ area_reply state 0x4800 0 0 → AreaMessages image state o name sender operation lent reply lent image
  message_shut {lent} absent e = record {
    all = λ p g r num.
        rw e (record {
          leaves = leaves (area_shut p name sender operation lent (mine r) (same_absent state p r.areas (named name) (found_is ∙ absent))) g r;
          written = refused_image p image lent operation (answer 0x4800 0 0 0) (λ _ q. omega arith) (table_find (named name) p.files);
          reached = state_shut p state sender operation _ (area_named (named name) state) (table_find (named name) p.files) (found_is ∙ absent);
        });
  }

  module _ {j : ℕ} (at : found ≡ Some j) {area : Area} (own : area ≡ area_at state j) where
    here : area_named (named name) state ≡ Some j
    here = found_is ∙ at

    kept : {lent : List ℕ} {reply : AreaReply} (word : ℕ) → word ≢ 0 → admitted (area_at state j) sender operation ≡ false
        → ((p : Plain) → Good p → Represents image state p → step_area p name sender operation lent ≡ replies p word lent)
        → reply ≡ area_reply state word 0 0 → AreaMessages image state o name sender operation lent reply lent image
    kept {lent} word d q step e = record {
      all = λ p g r num.
          rw e (record {
            leaves = leaves (step p g r) g r;
            written = refused_image p image lent operation (answer word 0 0 0) (λ _. d) (table_find (named name) p.files);
            reached = state_refused p state sender operation _ (area_named (named name) state) j (table_find (named name) p.files) here q;
          });
    }

    exclusive_is : (p : Plain) → Represents image state p → plain.other plain.is_exclusive sender (area_users state j) ≡ any_other Exclusive sender area
    exclusive_is p r = area_other r.areas (named name) j here Exclusive sender ∙ ap (any_other Exclusive sender) (sym own)

    pub message_reserved : {lent : List ℕ} {reply : AreaReply} → any_other Exclusive sender area ≡ true → reply ≡ area_reply state 0x0200 0 0 → AreaMessages image state o name sender operation lent reply lent image
    message_reserved {lent} x e = kept 0x0200 (λ q. omega arith)
        (ap (λ (b : Bool). not b && (not (eqb sender 0) && is_known operation)) (ap (any_other Exclusive sender) (sym own) ∙ x))
        (λ p g r. area_reserved p name sender operation lent (mine r) (area_found r.areas (named name) j here) (exclusive_is p r ∙ x)) e

    module _ (x : any_other Exclusive sender area ≡ false) where
      first_yes : admitted (area_at state j) sender operation ≡ (not (eqb sender 0) && is_known operation)
      first_yes = ap (λ (b : Bool). not b && (not (eqb sender 0) && is_known operation)) (ap (any_other Exclusive sender) (sym own) ∙ x)

      pub message_nobody : {lent : List ℕ} {reply : AreaReply} → sender ≡ 0 → reply ≡ area_reply state 0x0810 0 0 → AreaMessages image state o name sender operation lent reply lent image
      message_nobody {lent} z e = kept 0x0810 (λ q. omega arith)
          (first_yes ∙ ap (λ (b : Bool). not b && is_known operation) (eq-eqb sender 0 z))
          (λ p g r. area_nobody p name sender operation lent (mine r) (area_found r.areas (named name) j here) (exclusive_is p r ∙ x) (eq-eqb sender 0 z)) e

      module _ (d : sender ≢ 0) where
        pub message_strange : {lent : List ℕ} {reply : AreaReply} → is_known operation ≡ false → reply ≡ area_reply state 0x0A00 0 0 → AreaMessages image state o name sender operation lent reply lent image
        message_strange {lent} s e = kept 0x0A00 (λ q. omega arith)
            (first_yes ∙ ap₂ (λ (b c : Bool). not b && c) (ne_eqb sender 0 d) s)
            (λ p g r. area_strange p name sender operation lent (mine r) (area_found r.areas (named name) j here) (exclusive_is p r ∙ x) (ne_eqb sender 0 d) s) e

        operates_from : {p : Plain} {f : File} → Good p → Represents image state p → NumbersOf o p → table_find (named name) p.files ≡ some f → OperatesFrom image state o j sender p (named name) f
        operates_from g r num file =
            record { good = g; represents = r; numbers = num; named = here; file = file; nonzero = d; alone = ap (any_other Exclusive sender) (sym own) ∙ x }

        pub message_can : CanOperate image state o j sender
        message_can =
            let h = meant.standing in
            let file = area_file h.good (named name) (area_found h.represents.areas (named name) j here) in
            record { p = h.unit; n = named name; f = file.0; can = operates_from h.good h.represents h.numbers file.1 }

        pub message_asked : {lent filled after : List ℕ} {reply : AreaReply} → is_known operation ≡ true → Operates image state o j sender operation lent reply filled after
            → AreaMessages image state o name sender operation lent reply filled after
        message_asked {lent} {filled} {after} {reply} s h = record {
          all = λ p g r num.
              let live = area_found r.areas (named name) j here in
              let file = area_file g (named name) live in
              let l = h.all p (named name) file.0 (operates_from g r num file.1) in
              let step = area_asked p name sender operation lent (mine r) live (exclusive_is p r ∙ x) (ne_eqb sender 0 d) s in
              let yes = first_yes ∙ ap₂ (λ (b c : Bool). not b && c) (ne_eqb sender 0 d) s in
              record {
                leaves = leaves_as step l.leaves;
                written = l.written ∙ ap (message_image p image operation reply.answer lent) (sym file.1);
                reached =
                    l.reached
                    ∙ state_admitted p state sender operation reply.answer (area_named (named name) state) j (table_find (named name) p.files) file.0 here file.1 yes;
              };
        }
