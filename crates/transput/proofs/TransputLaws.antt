-- Transput by what the code finds: each answer is the plain unit's, and image and state are those of its unit.
use mathlib.Core.Path.{◌≡◌, refl, sym, ap, ap₂, ◌∙◌, subst}
use mathlib.Core.Bool.{Bool, true, false, not, ◌&&◌, cond}
use mathlib.Core.List.{List, []}
use mathlib.Core.Logic.{◌≢◌}
use mathlib.Core.Option.{some}
use Prim.Native.Nat.{ℕ, suc, ◌+◌, ◌≤◌, ◌<◌}
use native.Mathlib.Omega.{arith}
use native.Mathlib.Numerals.{add-one}
use lib.Dec.{leb, eqb}
use lib.ListN.{length, get_or}
use borrow.Author.Tests.{lt-ltb, le-ltb, le-leb, lt-leb, eq-eqb, ne_eqb, leb-true}
use Rattle.types.specs.declared.User.{User}
use Rattle.types.specs.declared.Area.{Area}
use Rattle.types.specs.declared.State.{State}
use Rattle.types.specs.State.{area_at, user_at}
use Rattle.disc.specs.Attributes.{write_protected}
use Rattle.catalog.specs.declared.Unit.{Unit}
use Rattle.state.specs.declared.Kind.TheVariants.{Writer}
use Rattle.disc.specs.Names.{packed}
use Rattle.state.specs.Areas.{any_other}
use Rattle.plain.specs.Table.{Table, table_find}
use Rattle.plain.specs.Unit.{Plain, File, AreaUser}
use Rattle.plain.specs.Questions.{Outcome, asks, either, fill}
use Rattle.plain.specs.Areas.{is_writer, other, moved, positioned}
use Rattle.plain.specs.Transput.{is_output, is_random, refused_at, end_word, input, step_transput}
use Rattle.plain.proofs.QuestionLaws.{end_law, true_yes, false_no, asks_yes, asks_no, either_yes, either_no}
use Rattle.refine.specs.Represents.{Represents}
use Rattle.refine.proofs.LeavesLaws.{leaves, leaves_as, leaves_by}
use Rattle.refine.proofs.StateLaws.{named_name}
use Rattle.preservation.proofs.Whole.{on_disc}
use Rattle.preservation.proofs.AreaMessages.{area_other}
use Rattle.preservation.proofs.OutputStep.{input_filled}
use Rattle.lookup.specs.Unit.{NumbersOf}
use Rattle.area_users.specs.declared.AreaReply.{AreaReply}
use Rattle.area_users.specs.AreaUsers.{area_reply, at_position, position_word, position_reached}
use Rattle.area_users.specs.Seat.{Seat, area_users, area_user}
use Rattle.area_users.proofs.UserLaws.{seat_size, position_inside, moved_stands, own_position, reached_low, Positioned, positioned_by}
use Rattle.blocks.specs.Blocks.{AttributesOf, BlockRead}
use Rattle.output.specs.Output.{Placed, SomePlaced, output_image, output_state, Outputs}
use Rattle.output.proofs.OutputLaws.{own_size, own_from, own_attributes, image_refused, state_refused}
use Rattle.transput.specs.Transput.{refusal_word, RefusalFor, input_state, InputLeaves, Inputs, transput_from, transput_image, transput_state, TransputLeaves, TransputsAt, Seated, Transputs}

-- ---- the questions before the position is moved

module _ (area : Area) (attributes sender operation bytes count : ℕ) where
  pub word_bytes : bytes ≢ 512 → 0x0880 ≡ refusal_word area attributes sender operation bytes count
  unfolding refusal_word
  word_bytes d = rw (ne_eqb bytes 512 d) refl

  pub word_short : bytes ≡ 512 → count < 256 → 0x0880 ≡ refusal_word area attributes sender operation bytes count
  unfolding refusal_word
  word_short e x = rw (eq-eqb bytes 512 e, lt-leb 256 count x) refl

  module _ (e : bytes ≡ 512) (x : 256 ≤ count) where
    pub word_input : is_output operation ≡ false → 0 ≡ refusal_word area attributes sender operation bytes count
    unfolding refusal_word
    word_input out = rw (eq-eqb bytes 512 e, le-leb 256 count x, out) refl

    module _ (out : is_output operation ≡ true) where
      pub word_writer : any_other Writer sender area ≡ true → 0x0A00 ≡ refusal_word area attributes sender operation bytes count
      unfolding refusal_word
      word_writer w = rw (eq-eqb bytes 512 e, le-leb 256 count x, out, w) refl

      pub word_protected : any_other Writer sender area ≡ false → write_protected attributes ≡ true → 0x0C00 ≡ refusal_word area attributes sender operation bytes count
      unfolding refusal_word
      word_protected w t = rw (eq-eqb bytes 512 e, le-leb 256 count x, out, w, t) refl

      pub word_output : any_other Writer sender area ≡ false → write_protected attributes ≡ false → 0 ≡ refusal_word area attributes sender operation bytes count
      unfolding refusal_word
      word_output w t = rw (eq-eqb bytes 512 e, le-leb 256 count x, out, w, t) refl

-- ---- image and state by the result word

module _ (p : Plain) (f : File) (k : ℕ) where
  pub kept_image : (image lent : List ℕ) (operation word : ℕ) → word ≢ 0 → image ≡ transput_image p image f operation word k lent
  unfolding transput_image
  kept_image image lent operation word d = go (is_output operation)
    where
      go : (b : Bool) → image ≡ cond b (output_image p image f word k lent) image
      go true = image_refused p f k image lent word d
      go false = refl

  pub kept_state : (state : State) (j u operation word : ℕ) → word ≢ 0 → at_position state j u k ≡ transput_state p f state j u operation word k
  unfolding transput_state input_state
  kept_state state j u operation word d = go (is_output operation)
    where
      go : (b : Bool) → at_position state j u k ≡ cond b (output_state p f state j u word k) (at_position state j u (cond (eqb word 0) (suc k) k))
      go true = state_refused p f k state j u word d
      go false = rw (ne_eqb word 0 d) refl

  input_image : (image lent : List ℕ) (operation result : ℕ) → is_output operation ≡ false → image ≡ transput_image p image f operation result k lent
  unfolding transput_image
  input_image image lent operation result out = rw out refl

  input_reached : (state : State) (j u operation result : ℕ) → is_output operation ≡ false → input_state state j u result k ≡ transput_state p f state j u operation result k
  unfolding transput_state
  input_reached state j u operation result out = rw out refl

  output_image_lem : (image lent : List ℕ) (operation result : ℕ) → is_output operation ≡ true → output_image p image f result k lent ≡ transput_image p image f operation result k lent
  unfolding transput_image
  output_image_lem image lent operation result out = rw out refl

  output_reached : (state : State) (j u operation result : ℕ) → is_output operation ≡ true → output_state p f state j u result k ≡ transput_state p f state j u operation result k
  unfolding transput_state
  output_reached state j u operation result out = rw out refl

refused_state : (state : State) (j u k word : ℕ) → word ≢ 0 → at_position state j u k ≡ input_state state j u word k
unfolding input_state
refused_state state j u k word d = rw (ne_eqb word 0 d) refl

done_state : (state : State) (j u k : ℕ) → at_position state j u (k + 1) ≡ input_state state j u 0 k
unfolding input_state
done_state state j u k = ap (at_position state j u) (add-one k)

-- ---- input

module _ {image : List ℕ} {state : State} {o : Unit} {p q : Plain} {n j sender u : ℕ} {f : File} {k : ℕ} (at : Placed image state o p q n j sender u f k) (lent : List ℕ) where
  pub input_refused : {w : ℕ} → length f.sectors ≤ k → w ≡ end_word f.attributes → InputLeaves image state p q n j sender u f k lent (area_reply (at_position state j u k) w 0 k) lent
  unfolding input
  input_refused {w} x e = record {
    leaves = leaves (asks_no _ _ _ (false_no (le-ltb k (length f.sectors) x)) ∙ ap (λ (y : ℕ). refused_at q y k lent) (sym e)) at.good at.represents;
    block = refl;
    reached = refused_state state j u k w (λ z. end_law (λ (y : ℕ). y ≢ 0) f.attributes (λ y. omega arith) (λ y. omega arith) (sym e ∙ z));
  }

  pub input_handed : k < length f.sectors → InputLeaves image state p q n j sender u f k lent (area_reply (at_position state j u (k + 1)) 0 512 k) (fill (get_or f.sectors k []) lent)
  unfolding input
  input_handed x = record {
    leaves = leaves_by (asks_yes _ _ _ (true_yes (lt-ltb k (length f.sectors) x))) (rw (add-one k) (moved_stands at.seat (suc k) x));
    block = refl;
    reached = done_state state j u k;
  }

module _ {image : List ℕ} {state : State} {o : Unit} {j u k : ℕ} {area : Area} (own : area ≡ area_at state j) where
  pub inputs_refused : {lent : List ℕ} {reply : AreaReply} {a w : ℕ} → area.length ≤ k → AttributesOf image o (packed area.name) a → w ≡ end_word a
      → reply ≡ area_reply (at_position state j u k) w 0 k → Inputs image state o j u k lent reply lent
  inputs_refused {lent} x attributes word e = record {
    all = λ p q n sender f at. rw e (input_refused at lent (omega (arith, own_size own at)) (word ∙ ap end_word (own_attributes own at attributes)));
  }

  pub inputs_handed : {lent : List ℕ} {reply : AreaReply} {after : List ℕ} → k < area.length → BlockRead image area.index.0 k lent after
      → reply ≡ area_reply (at_position state j u (k + 1)) 0 512 k → Inputs image state o j u k lent reply after
  inputs_handed {lent} x h e = record {
    all = λ p q n sender f at.
        let from = own_from own at x in
        rw (e, h.all p n f from ∙ input_filled from.on n from.file k from.below lent) (input_handed at lent from.below);
  }

-- ---- input or output

module _ {image : List ℕ} {state : State} {o : Unit} {j u operation k : ℕ} {lent : List ℕ} {reply : AreaReply} where
  pub at_output : {after : List ℕ} → is_output operation ≡ true → Outputs image state o j u k lent reply after → TransputsAt image state o j u operation k lent reply lent after
  at_output {after} out h = record {
    all = λ p q n sender f at.
        let l = h.all p q n sender f at in
        record {
          leaves = leaves_as (either_yes _ _ _ (true_yes out)) l.leaves;
          written = rw l.block (l.written ∙ output_image_lem p f k image lent operation reply.answer.result out);
          reached = rw l.block (l.reached ∙ output_reached p f k state j u operation reply.answer.result out);
        };
  }

  pub at_input : {filled : List ℕ} → is_output operation ≡ false → Inputs image state o j u k lent reply filled → TransputsAt image state o j u operation k lent reply filled image
  at_input {filled} out h = record {
    all = λ p q n sender f at.
        let l = h.all p q n sender f at in
        record {
          leaves = leaves_as (either_no _ _ _ (false_no out)) l.leaves;
          written = rw l.block (input_image p f k image lent operation reply.answer.result out);
          reached = rw l.block (l.reached ∙ input_reached p f k state j u operation reply.answer.result out);
        };
  }

-- ---- one unit: transput by a user

module _ {image : List ℕ} {state : State} {o : Unit} {p : Plain} {n j sender u : ℕ} {f : File} (seat : Seat image state p n j sender u f) (num : NumbersOf o p) where
  abbrev users : Table AreaUser
  users = area_users state j

  abbrev pu : AreaUser
  pu = area_user state j u

  -- the sender at its own position, and at another
  pub placed_own : (k : ℕ) → k ≡ (user_at (area_at state j) u).position.0 → Placed image state o p p n j sender u f k
  placed_own k e = record {
    seat = seat;
    numbers = num;
    low = omega (arith, position_inside seat);
    good = seat.good;
    represents = subst (λ (s : State). Represents image s p) (sym (own_position seat k e)) seat.represents;
  }

  pub placed_moved : (k : ℕ) → k ≤ length f.sectors → Placed image state o p (moved p n sender (area_users state j) (area_user state j u) k) n j sender u f k
  placed_moved k x = record {
    seat = seat;
    numbers = num;
    low = x;
    good = (moved_stands seat k x).good;
    represents = (moved_stands seat k x).represents;
  }

  module _ (operation bytes block : ℕ) (lent : List ℕ) where
    abbrev step : Outcome
    step = step_transput p n sender (area_users state j) (area_user state j u) f operation bytes block lent

    abbrev word : ℕ
    word = refusal_word (area_at state j) f.attributes sender operation bytes (length lent)

    writers : other is_writer sender (area_users state j) ≡ any_other Writer sender (area_at state j)
    writers = area_other seat.represents.areas n j seat.named Writer sender

    -- "5 and 7 do Position first"
    abbrev len : ℕ
    len = length f.sectors

    abbrev transput_at : Plain → ℕ → Outcome
    transput_at q k = transput_from state p q n j sender u f operation k lent

    abbrev next : Outcome
    next = either (is_random operation) (positioned (moved p n sender users pu) block (length f.sectors) (λ q w k. refused_at q w k lent) transput_at) (transput_at p pu.position)

    -- the questions before the position is moved
    record Asked (refusal : ℕ) (x : Outcome) : Type 0 where
      refuses : refusal ≢ 0 → x ≡ refused_at p refusal pu.position lent
      allows : refusal ≡ 0 → (x ≡ next) × (256 ≤ length lent)

    asked : Asked (refusal_word (area_at state j) f.attributes sender operation bytes (length lent)) step
    unfolding refusal_word step_transput asks
    asked =
        rw writers
        (go (eqb bytes 512) (leb 256 (length lent)) (is_output operation) (any_other Writer sender (area_at state j)) (write_protected f.attributes) (leb-true 256 (length lent)))
      where
        go : (a b c d e : Bool) → (b ≡ true → 256 ≤ length lent) → Asked (cond (a && b) (cond c (cond d 0x0A00 (cond e 0x0C00 0)) 0) 0x0880)
            (asks a (refused_at p 0x0880 pu.position lent) (asks b (refused_at p 0x0880 pu.position lent)
            (asks (not (c && d)) (refused_at p 0x0A00 pu.position lent) (asks (not (c && e)) (refused_at p 0x0C00 pu.position lent) next))))
        go false b c d e long = record { refuses = λ h. refl; allows = λ z. absurd (omega arith) }
        go true false c d e long = record { refuses = λ h. refl; allows = λ z. absurd (omega arith) }
        go true true false d e long = record { refuses = λ h. absurd (h refl); allows = λ z. (refl, long refl) }
        go true true true true e long = record { refuses = λ h. refl; allows = λ z. absurd (omega arith) }
        go true true true false true long = record { refuses = λ h. refl; allows = λ z. absurd (omega arith) }
        go true true true false false long = record { refuses = λ h. absurd (h refl); allows = λ z. (refl, long refl) }

    -- ---- the replies

    refused : (q : Plain) (w k : ℕ) → w ≢ 0 → step ≡ refused_at q w k lent → Placed image state o p q n j sender u f k
        → TransputLeaves step image state p f j u operation lent (area_reply (at_position state j u k) w 0 k) lent image
    refused q w k d e at = record {
      leaves = leaves e at.good at.represents;
      written = kept_image p f k image lent operation w d;
      reached = kept_state p f k state j u operation w d;
    }

    pub refused_asked : {reply : AreaReply} {w : ℕ} (k : ℕ) → w ≡ word → w ≢ 0 → k ≡ (user_at (area_at state j) u).position.0 → reply ≡ area_reply (at_position state j u k) w 0 k
        → TransputLeaves step image state p f j u operation lent reply lent image
    refused_asked {w = w} k e d own r =
        rw r (refused p w k d (asked.refuses (λ z. d (e ∙ z)) ∙ ap₂ (λ (x y : ℕ). refused_at p x y lent) (sym e) (sym own)) (placed_own k own))

    module _ {w : ℕ} (e : w ≡ word) (yes : w ≡ 0) where
      pub allowed : 256 ≤ length lent
      allowed = (asked.allows (sym e ∙ yes)).1

      pub transput_own : {reply : AreaReply} {filled after : List ℕ} (k : ℕ) → is_random operation ≡ false → k ≡ (user_at (area_at state j) u).position.0
          → TransputsAt image state o j u operation k lent reply filled after → TransputLeaves step image state p f j u operation lent reply filled after
      transput_own {reply} {filled} {after} k r own h =
          let is : step ≡ transput_from state p p n j sender u f operation k lent =
          (asked.allows (sym e ∙ yes)).0 ∙ either_no _ _ _ (false_no r) ∙ ap (λ (x : ℕ). transput_from state p p n j sender u f operation x lent) (sym own) in
          subst (λ (x : Outcome). TransputLeaves x image state p f j u operation lent reply filled after) (sym is) (h.all p p n sender f (placed_own k own))

      module _ (r : is_random operation ≡ true) where
        first : Positioned (moved p n sender users pu) block len (λ q w k. refused_at q w k lent) transput_at (position_word block len) (position_reached block len) step
        first =
            subst (Positioned (moved p n sender users pu) block len (λ q w k. refused_at q w k lent) transput_at (position_word block len) (position_reached block len))
            (sym ((asked.allows (sym e ∙ yes)).0 ∙ either_yes _ _ _ (true_yes r))) (positioned_by (moved p n sender users pu) block len _ _)

        pub refused_first : {reply : AreaReply} {v k : ℕ} → v ≡ position_word block len → k ≡ position_reached block len → v ≢ 0 → reply ≡ area_reply (at_position state j u k) v 0 k
            → TransputLeaves step image state p f j u operation lent reply lent image
        refused_first {v = v} {k = k} x y d q =
            rw q
            (refused (moved p n sender users pu k) v k d (first.refused (λ z. d (x ∙ z)) ∙ ap₂ (λ (a b : ℕ). refused_at (moved p n sender users pu b) a b lent) (sym x) (sym y))
            (placed_moved k (omega (arith, reached_low block len))))

        pub transput_first : {reply : AreaReply} {filled after : List ℕ} {v : ℕ} → v ≡ position_word block len → v ≡ 0 → TransputsAt image state o j u operation block lent reply filled after
            → TransputLeaves step image state p f j u operation lent reply filled after
        transput_first {reply} {filled} {after} x z h =
            let g = first.done (sym x ∙ z) in
            subst (λ (y : Outcome). TransputLeaves y image state p f j u operation lent reply filled after) (sym g.0)
            (h.all p (moved p n sender users pu block) n sender f (placed_moved block g.1))

        pub first_low : {v : ℕ} → v ≡ position_word block len → v ≡ 0 → block ≤ length f.sectors
        first_low x z = (first.done (sym x ∙ z)).1

-- ---- every unit on the image, by what the code finds

-- the sender's own position
pub own_is : (state : State) (j u : ℕ) {area : Area} {user : User} → area ≡ area_at state j → user ≡ user_at area u → user.position.0 ≡ (user_at (area_at state j) u).position.0
own_is state j u a e = ap (λ (x : User). x.position.0) (e ∙ ap (λ (y : Area). user_at y u) a)

module _ {image : List ℕ} {state : State} {o : Unit} {j sender u operation bytes : ℕ} (block : ℕ) (lent : List ℕ) {area : Area} (own : area ≡ area_at state j)
    {w : ℕ} (asks : RefusalFor image o area sender operation bytes (length lent) w) where
  -- what was found is that of every unit
  module _ {p : Plain} {n : ℕ} {f : File} (seat : Seat image state p n j sender u f) (num : NumbersOf o p) where
    word_is : w ≡ refusal_word (area_at state j) f.attributes sender operation bytes (length lent)
    word_is =
        let h : RefusalFor image o (area_at state j) sender operation bytes (length lent) w = subst (λ (a : Area). RefusalFor image o a sender operation bytes (length lent) w) own asks in
        let file : table_find (packed (area_at state j).name) p.files ≡ some f = ap (λ (m : ℕ). table_find m p.files) (named_name state n j seat.named) ∙ seat.file in
        h.all p (on_disc seat.good seat.represents) num f file

  pub transputs_refused : {reply : AreaReply} {k : ℕ} → w ≢ 0 → k ≡ (user_at (area_at state j) u).position.0 → reply ≡ area_reply (at_position state j u k) w 0 k
      → Transputs image state o j sender u operation bytes block lent reply lent image
  transputs_refused {k = k} d q r = record { all = λ p n f seat num. refused_asked seat num operation bytes block lent k (word_is seat num) d q r }

  module _ (yes : w ≡ 0) where
    long_lent : Seated image state o j sender u → 256 ≤ length lent
    long_lent s = allowed s.seat s.numbers operation bytes block lent (word_is s.seat s.numbers) yes

    pub some_own : {k : ℕ} → Seated image state o j sender u → k ≡ (user_at (area_at state j) u).position.0 → SomePlaced image state o j u k × (256 ≤ length lent)
    some_own {k} s q = (record { p = s.p; q = s.p; n = s.n; sender = sender; f = s.f; placed = placed_own s.seat s.numbers k q }, long_lent s)

    pub transputs_own : {reply : AreaReply} {filled after : List ℕ} {k : ℕ} → is_random operation ≡ false → k ≡ (user_at (area_at state j) u).position.0
        → TransputsAt image state o j u operation k lent reply filled after → Transputs image state o j sender u operation bytes block lent reply filled after
    transputs_own {k = k} r q h = record { all = λ p n f seat num. transput_own seat num operation bytes block lent (word_is seat num) yes k r q h }

    module _ (r : is_random operation ≡ true) {v : ℕ} (x : v ≡ position_word block area.length) where
      position_is : {p : Plain} {n : ℕ} {f : File} → Seat image state p n j sender u f → v ≡ position_word block (length f.sectors)
      position_is seat = x ∙ ap (λ (m : ℕ). position_word block m) (ap (λ (y : Area). y.length) own ∙ seat_size seat)

      pub transputs_past : {reply : AreaReply} {k : ℕ} → k ≡ position_reached block area.length → v ≢ 0 → reply ≡ area_reply (at_position state j u k) v 0 k
          → Transputs image state o j sender u operation bytes block lent reply lent image
      transputs_past {k = k} y d e = record {
        all = λ p n f seat num.
            refused_first seat num operation bytes block lent (word_is seat num) yes r (position_is seat)
            (y ∙ ap (λ (m : ℕ). position_reached block m) (ap (λ (a : Area). a.length) own ∙ seat_size seat)) d e;
      }

      module _ (z : v ≡ 0) where
        pub some_first : Seated image state o j sender u → SomePlaced image state o j u block × (256 ≤ length lent)
        some_first s =
            let low = first_low s.seat s.numbers operation bytes block lent (word_is s.seat s.numbers) yes r (position_is s.seat) z in (
              record {
                p = s.p;
                q = moved s.p s.n sender (area_users state j) (area_user state j u) block;
                n = s.n;
                sender = sender;
                f = s.f;
                placed = placed_moved s.seat s.numbers block low;
              },
              long_lent s,
            )

        pub transputs_first : {reply : AreaReply} {filled after : List ℕ} → TransputsAt image state o j u operation block lent reply filled after
            → Transputs image state o j sender u operation bytes block lent reply filled after
        transputs_first h = record { all = λ p n f seat num. transput_first seat num operation bytes block lent (word_is seat num) yes r (position_is seat) z h }
