-- What a message to an area process writes, and the unit that it leaves: Output alone writes, and changes its own file alone.
use mathlib.Core.Path.{◌≡◌, refl, sym, ◌∙◌}
use mathlib.Core.Bool.{Bool, not}
use mathlib.Core.List.{List, ◌∷◌, [], ◌++◌}
use mathlib.Core.Logic.{◌≢◌}
use mathlib.Core.Option.{Option, none, some}
use Prim.Native.Nat.{ℕ, ◌<◌}
use native.Mathlib.Omega.{arith}
use lib.Dec.{T, ltb, ltb→lt}
use lib.Ieee.Bits.{is_true, is_false}
use lib.ListN.{length, take, length-set, length-append}
use Rattle.types.specs.declared.Name.{Name}
use Rattle.types.specs.declared.Answer.{Answer}
use Rattle.types.specs.declared.Operation.{Operation}
use Rattle.types.specs.declared.Operation.TheVariants.{Reserve, Position, Sense, Transput, Other}
use Rattle.disc.specs.Names.{named}
use Rattle.plain.specs.Table.{Table, table_find, table_put}
use Rattle.plain.specs.Unit.{Plain, File, AreaUser, with_tables}
use Rattle.plain.specs.Questions.{Outcome, asks, either, answer}
use Rattle.plain.specs.Areas.{moved, positioned, step_reserve, step_release}
use Rattle.plain.specs.Transput.{is_output, refused_at, input, append, output, step_transput}
use Rattle.plain.specs.Step.{reserve_count, user_step, operation_step, step_area}
use Rattle.plain.proofs.QuestionLaws.{asks_law, given_law, either_law, end_law}
use Rattle.refine.specs.Writes.{replaced_image, appended_image}
use Rattle.preservation.specs.Units.{append_slices}
use Rattle.output.specs.Output.{output_image}
use Rattle.transput.specs.Transput.{transput_image}
use Rattle.area_messages.specs.AreaMessages.{message_image}
use Rattle.area_messages.proofs.MessageLaws.{is_transput, refused_image}

-- The unit u and the image j after a message to the area of name n.
pub data Did (p : Plain) (i lent : List ℕ) (n : ℕ) (u : Plain) (j : List ℕ) : Type 0 where
  nothing : j ≡ i → u.files ≡ p.files → u.sys ≡ p.sys → Did p i lent n u j
  replaced : (f f' : File) (areas : Table (Table AreaUser)) (b : ℕ) → b < length f'.sectors → f'.slices ≡ f.slices → table_find n p.files ≡ some f
      → u ≡ with_tables p p.layers p.sys (table_put n f' p.files) areas → j ≡ replaced_image p i f b (take 256 lent) → Did p i lent n u j
  appended : (f f' : File) (areas : Table (Table AreaUser)) → length f.sectors < length f'.sectors → f'.slices ≡ f.slices ++ append_slices p f → table_find n p.files ≡ some f
      → u ≡ with_tables p p.layers p.sys (table_put n f' p.files) areas → j ≡ appended_image p i f (append_slices p f) (take 256 lent) → Did p i lent n u j

module _ (p : Plain) (i lent : List ℕ) (name : Name) (sender : ℕ) where
  module _ (operation : Operation) where
    -- an outcome's unit, and the image by its answer
    record Does (o : Outcome) : Type 0 where
      at : Did p i lent (named name) o.unit (message_image p i operation o.answer lent (table_find (named name) p.files))

    leaves : {o : Outcome} → (T (is_transput operation) → o.answer.result ≢ 0) → o.unit.files ≡ p.files → o.unit.sys ≡ p.sys → Does o
    leaves {o} d e s = record { at = nothing (sym (refused_image p i lent operation o.answer d (table_find (named name) p.files))) e s }

    refuses : {o : Outcome} → o.answer.result ≢ 0 → o.unit.files ≡ p.files → o.unit.sys ≡ p.sys → Does o
    refuses d = leaves (λ _. d)

    ask : (b : Bool) {refusal next : Outcome} → Does refusal → Does next → Does (asks b refusal next)
    ask b d rest = asks_law Does b d (λ _. rest)

  -- ---- transput

  module _ (operation bytes block : ℕ) (users : Table AreaUser) (u : AreaUser) (f : File) (found : table_find (named name) p.files ≡ some f) where
    abbrev this : Operation
    this = Transput operation bytes block

    abbrev move : ℕ → Plain
    move = moved p (named name) sender users u

    abbrev image : Answer → List ℕ
    image a = message_image p i this a lent (table_find (named name) p.files)

    image_is : (a : Answer) → image a ≡ transput_image p i f operation a.result a.block.0 lent
    unfolding message_image
    image_is a = rw found refl

    input_is : (k : ℕ) → T (not (is_output operation)) → transput_image p i f operation 0 k lent ≡ i
    unfolding transput_image
    input_is k t = rw (is_false (is_output operation) t) refl

    replaced_is : (k : ℕ) → T (is_output operation) → T (ltb k (length f.sectors)) → transput_image p i f operation 0 k lent ≡ replaced_image p i f k (take 256 lent)
    unfolding transput_image output_image
    replaced_is k t low = rw (is_true (is_output operation) t, is_true (ltb k (length f.sectors)) low) refl

    appended_is : (k : ℕ) → T (is_output operation) → T (not (ltb k (length f.sectors))) → transput_image p i f operation 0 k lent ≡ appended_image p i f (append_slices p f) (take 256 lent)
    unfolding transput_image output_image
    appended_is k t high = rw (is_true (is_output operation) t, is_false (ltb k (length f.sectors)) high) refl

    stop : {q : Plain} {word k : ℕ} → word ≢ 0 → q.files ≡ p.files → q.sys ≡ p.sys → Does this (refused_at q word k lent)
    stop d e s = refuses this d e s

    go : (q : Plain) (k : ℕ) → q.files ≡ p.files → q.sys ≡ p.sys → Does this (either (is_output operation) (output p q move (named name) f k lent) (input q move f k lent))
    unfolding output append input
    go q k e s = either_law (Does this) _
        (λ out. either_law (Does this) _
        (λ low. record {
          at = replaced f _ _ k (omega (arith, ltb→lt k (length f.sectors) low, length-set f.sectors k (take 256 lent))) refl found refl (image_is (answer 0 512 k 0) ∙ replaced_is k out low);
        })
        (λ high. ask this _ (stop (omega arith) e s) (ask this _ (stop (omega arith) e s) (ask this _ (stop (omega arith) e s) (record {
          at = appended f _ _ (omega (arith, length-append f.sectors (take 256 lent ∷ []))) refl found refl (image_is (answer 0 512 k 0) ∙ appended_is k out high);
        })))))
        (λ in₀. ask this _ (stop (end_law (λ word. word ≢ 0) f.attributes (omega arith) (omega arith)) e s) (record { at = nothing (image_is (answer 0 512 k 0) ∙ input_is k in₀) refl refl }))

    transput_does : Does this (step_transput p (named name) sender users u f operation bytes block lent)
    unfolding step_transput positioned
    transput_does =
        ask this _ (stop (omega arith) refl refl) (ask this _ (stop (omega arith) refl refl) (ask this _ (stop (omega arith) refl refl) (ask this _ (stop (omega arith) refl refl) (either_law (Does this) _
        (λ _. ask this _ (stop (omega arith) refl refl) (ask this _ (stop (omega arith) refl refl) (go (move block) block refl refl)))
        (λ _. go p u.position refl refl)))))

  -- ---- every operation

  position_does : (block : ℕ) (users : Table AreaUser) (u : AreaUser) (f : File) → Does (Position block) (user_step p (named name) sender users u f (Position block) lent)
  unfolding user_step positioned
  position_does block users u f = ask _ _ (leaves _ absurd refl refl) (ask _ _ (leaves _ absurd refl refl) (leaves _ absurd refl refl))

  reserve_does : (count k : ℕ) (users : Table AreaUser) → Does (Reserve count) (step_reserve p (named name) sender users k lent)
  unfolding step_reserve
  reserve_does count k users = ask _ _ (leaves _ absurd refl refl) (ask _ _ (leaves _ absurd refl refl) (ask _ _ (leaves _ absurd refl refl) (ask _ _ (leaves _ absurd refl refl) (leaves _ absurd refl refl))))

  user_does : (operation : Operation) (users : Table AreaUser) (u : AreaUser) (f : File) → table_find (named name) p.files ≡ some f → Does operation (user_step p (named name) sender users u f operation lent)
  unfolding user_step step_release
  user_does (Reserve count) users u f found = leaves _ absurd refl refl
  user_does (Position block) users u f found = position_does block users u f
  user_does Sense users u f found = leaves _ absurd refl refl
  user_does (Transput k bytes block) users u f found = transput_does k bytes block users u f found
  user_does (Other k) users u f found = leaves _ absurd refl refl

  operation_does : (operation : Operation) (o : Option ℕ) (users : Table AreaUser) → reserve_count operation ≡ o → Does operation (operation_step p (named name) sender users operation o lent)
  unfolding operation_step
  operation_does operation none users e =
      given_law (Does operation) _ (refuses operation (omega arith) refl refl) λ u _. given_law (Does operation) _ (refuses operation (omega arith) refl refl) λ f found. user_does operation users u f found
  operation_does (Reserve count) (some k) users e = reserve_does count k users
  operation_does (Position block) (some k) users e = absurd (let z : ◌≡◌ {A = ℕ} 0 1 = cc in omega arith)
  operation_does Sense (some k) users e = absurd (let z : ◌≡◌ {A = ℕ} 0 1 = cc in omega arith)
  operation_does (Transput a b c) (some k) users e = absurd (let z : ◌≡◌ {A = ℕ} 0 1 = cc in omega arith)
  operation_does (Other a) (some k) users e = absurd (let z : ◌≡◌ {A = ℕ} 0 1 = cc in omega arith)

  area_does : (operation : Operation) → Does operation (step_area p name sender operation lent)
  area_does operation =
      ask operation _ (refuses operation (omega arith) refl refl)
      (given_law (Does operation) _ (refuses operation (omega arith) refl refl) λ users _.
      ask operation _ (refuses operation (omega arith) refl refl) (ask operation _ (refuses operation (omega arith) refl refl)
      (ask operation _ (refuses operation (omega arith) refl refl) (operation_does operation (reserve_count operation) users refl))))

  pub area_did : (operation : Operation) → Did p i lent (named name) (step_area p name sender operation lent).unit
      (message_image p i operation (step_area p name sender operation lent).answer lent (table_find (named name) p.files))
  area_did operation = (area_does operation).at
