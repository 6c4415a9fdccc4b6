-- A refused transput in the plain unit: "returned blocks (transput only) are the user's position by then".
use mathlib.Core.Path.{◌≡◌, refl}
use mathlib.Core.Bool.{Bool}
use mathlib.Core.List.{List}
use mathlib.Core.Logic.{◌≢◌}
use Prim.Native.Nat.{ℕ}
use lib.Dec.{T}
use Rattle.plain.specs.Table.{Table}
use Rattle.plain.specs.Unit.{Plain, File, AreaUser}
use Rattle.plain.specs.Questions.{Outcome, asks, either}
use Rattle.plain.specs.Areas.{moved, positioned}
use Rattle.plain.specs.Transput.{is_output, is_random, refused_at, input, append, output, step_transput}
use Rattle.plain.proofs.QuestionLaws.{asks_law, either_law}

module _ (p : Plain) (n sender : ℕ) (users : Table AreaUser) (u : AreaUser) (f : File) (operation bytes block : ℕ) (lent : List ℕ) where
  -- The unit q once the position is k: it is p and the position the user's own, or 5 and 7 have moved it.
  pub data Reached (q : Plain) (k : ℕ) : Type 0 where
    own : q ≡ p → k ≡ u.position → Reached q k
    there : T (is_random operation) → q ≡ moved p n sender users u k → Reached q k

  -- A refused outcome has that unit, and hands back that position.
  record Stops (o : Outcome) : Type 0 where
    at : o.answer.result ≢ 0 → Reached o.unit o.answer.block.0

  done : {o : Outcome} → o.answer.result ≡ 0 → Stops o
  done e = record { at = λ h. absurd (h e) }

  stop : {q : Plain} {word k : ℕ} → Reached q k → Stops (refused_at q word k lent)
  stop r = record { at = λ h. r }

  ask : (b : Bool) {refusal next : Outcome} → Stops refusal → Stops next → Stops (asks b refusal next)
  ask b no_more rest = asks_law Stops b no_more (λ _. rest)

  abbrev move : ℕ → Plain
  move = moved p n sender users u

  go : (q : Plain) (k : ℕ) → Reached q k → Stops (either (is_output operation) (output p q move n f k lent) (input q move f k lent))
  unfolding output append input
  go q k r =
      either_law Stops _ (λ _. either_law Stops _ (λ _. done refl) (λ _. ask _ (stop r) (ask _ (stop r) (ask _ (stop r) (done refl))))) (λ _. ask _ (stop r) (done refl))

  stops : Stops (step_transput p n sender users u f operation bytes block lent)
  unfolding step_transput positioned
  stops =
      ask _ (stop (own refl refl)) (ask _ (stop (own refl refl)) (ask _ (stop (own refl refl)) (ask _ (stop (own refl refl)) (either_law Stops _
      (λ t. ask _ (stop (there t refl)) (ask _ (stop (there t refl)) (go (move block) block (there t refl))))
      (λ _. go p u.position (own refl refl))))))

  pub transput_stops : (step_transput p n sender users u f operation bytes block lent).answer.result ≢ 0
      → Reached (step_transput p n sender users u f operation bytes block lent).unit (step_transput p n sender users u f operation bytes block lent).answer.block.0
  transput_stops = stops.at
