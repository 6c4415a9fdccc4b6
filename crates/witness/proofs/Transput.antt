-- Transput by a user of an open area: its contract has a result.
use mathlib.Core.Path.{◌≡◌, refl, sym, ap₂, ◌∙◌}
use mathlib.Core.Bool.{Bool, true, false}
use mathlib.Core.List.{List}
use Prim.Native.Nat.{ℕ, ◌≤◌}
use lib.ListN.{length}
use Rattle.types.specs.declared.State.{State}
use Rattle.types.specs.State.{area_at, user_at}
use Rattle.disc.specs.Words.{Words}
use Rattle.disc.proofs.Compare.{same_or, below_or}
use Rattle.catalog.specs.declared.Unit.{Unit}
use Rattle.plain.specs.Table.{table_find}
use Rattle.plain.specs.Unit.{Plain, File}
use Rattle.plain.specs.Transput.{is_output, is_random, step_transput}
use Rattle.plain.proofs.TableLaws.{some_inj}
use Rattle.refine.proofs.SoundRepresents.{sound_represents}
use Rattle.refine.proofs.StateLaws.{named_name}
use Rattle.refine.proofs.UserLaws.{entry_id}
use Rattle.lookup.specs.Unit.{NumbersOf}
use Rattle.area_users.specs.declared.AreaReply.{AreaReply}
use Rattle.area_users.specs.AreaUsers.{at_position, position_word}
use Rattle.area_users.specs.Seat.{Seat, area_users, area_user}
use Rattle.output.specs.Output.{Placed, OutputLeaves, Outputs}
use Rattle.output.proofs.OutputLaws.{output_leaves}
use Rattle.transput.specs.Transput.{refusal_word, InputLeaves, Inputs, TransputsAt, TransputLeaves, Transputs}
use Rattle.transput.proofs.TransputLaws.{input_refused, input_handed, at_output, at_input, placed_own, placed_moved, refused_asked, allowed, transput_own, refused_first, transput_first, first_low}

-- A reply with the lent words and the image that are left, as a contract says.
pub record SomeReply (P : AreaReply → List ℕ → List ℕ → Type 0) : Type 0 where
  pub reply : AreaReply
  pub filled : List ℕ
  pub after : List ℕ
  pub holds : P reply filled after

-- ---- one user, one unit: what a contract says of every unit is said of the one that image and state represent

module _ {image : List ℕ} {state : State} {j u : ℕ} {p : Plain} {n sender : ℕ} {f : File} (seat : Seat image state p n j sender u f) where
  same_seat : {p' : Plain} {n' sender' : ℕ} {f' : File} → Seat image state p' n' j sender' u f' → (p' ≡ p) × (n' ≡ n) × (sender' ≡ sender) × (f' ≡ f)
  same_seat {p'} {n'} {sender'} {f'} s =
      let unit : p' ≡ p = sound_represents.unique image state p p' seat.good s.good seat.represents s.represents in
      let name : n' ≡ n = sym (named_name state n' j s.named) ∙ named_name state n j seat.named in
      let from : sender' ≡ sender = sym (entry_id (area_at state j) sender' u s.entry) ∙ entry_id (area_at state j) sender u seat.entry in
      (unit, name, from, some_inj (sym s.file ∙ ap₂ (λ (x : Plain) (m : ℕ). table_find m x.files) unit name ∙ seat.file))

  one_transput : {o : Unit} {operation bytes block : ℕ} {lent : List ℕ} {r : AreaReply} {filled after : List ℕ}
      → TransputLeaves (step_transput p n sender (area_users state j) (area_user state j u) f operation bytes block lent) image state p f j u operation lent r filled after
      → Transputs image state o j sender u operation bytes block lent r filled after
  one_transput l = record { all = λ p' n' f' s num. let e = same_seat s in rw (e.0, e.1, e.3) l }

module _ {image : List ℕ} {state : State} {o : Unit} {p q : Plain} {n j sender u : ℕ} {f : File} {k : ℕ} (at : Placed image state o p q n j sender u f k) where
  same_unit : {p' q' : Plain} {n' sender' : ℕ} {f' : File} → Placed image state o p' q' n' j sender' u f' k → q' ≡ q
  same_unit {q' = q'} a = sound_represents.unique image (at_position state j u k) q q' at.good a.good at.represents a.represents

  one_output : {lent : List ℕ} {r : AreaReply} {after : List ℕ} → OutputLeaves image state p q n j sender u f k lent r after → Outputs image state o j u k lent r after
  one_output l = record { all = λ p' q' n' sender' f' a. let e = same_seat at.seat a.seat in rw (e.0, same_unit a, e.1, e.2, e.3) l }

  one_input : {lent : List ℕ} {r : AreaReply} {filled : List ℕ} → InputLeaves image state p q n j sender u f k lent r filled → Inputs image state o j u k lent r filled
  one_input l = record { all = λ p' q' n' sender' f' a. let e = same_seat at.seat a.seat in rw (e.0, same_unit a, e.1, e.2, e.3) l }

  -- ---- at a position

  module _ (operation : ℕ) (lent : List ℕ) (long : 256 ≤ length lent) (words : Words lent) where
    output_some : is_output operation ≡ true → SomeReply (TransputsAt image state o j u operation k lent)
    output_some out = record { reply = _; filled = _; after = _; holds = at_output out (one_output (output_leaves at lent long words)) }

    input_some : is_output operation ≡ false → SomeReply (TransputsAt image state o j u operation k lent)
    input_some out = below_or k (length f.sectors) (λ x. told (input_handed at lent x)) (λ x. told (input_refused at lent x refl))
      where
        told : {r : AreaReply} {filled : List ℕ} → InputLeaves image state p q n j sender u f k lent r filled → SomeReply (TransputsAt image state o j u operation k lent)
        told l = record { reply = _; filled = _; after = _; holds = at_input out (one_input l) }

    at_some : SomeReply (TransputsAt image state o j u operation k lent)
    at_some = go (is_output operation) refl
      where
        go : (b : Bool) → is_output operation ≡ b → SomeReply (TransputsAt image state o j u operation k lent)
        go true e = output_some e
        go false e = input_some e

-- ---- transput

module _ {image : List ℕ} {state : State} {o : Unit} {p : Plain} {n j sender u : ℕ} {f : File} (seat : Seat image state p n j sender u f) (num : NumbersOf o p)
    (operation bytes block : ℕ) (lent : List ℕ) (words : Words lent) where
  abbrev Result : Type 0
  Result = SomeReply (Transputs image state o j sender u operation bytes block lent)

  told : {r : AreaReply} {filled after : List ℕ}
      → TransputLeaves (step_transput p n sender (area_users state j) (area_user state j u) f operation bytes block lent) image state p f j u operation lent r filled after → Result
  told l = record { reply = _; filled = _; after = _; holds = one_transput seat l }

  abbrev word : ℕ
  word = refusal_word (area_at state j) f.attributes sender operation bytes (length lent)

  pub transput_some : SomeReply (Transputs image state o j sender u operation bytes block lent)
  transput_some = same_or word 0 (λ z. go z (is_random operation) refl) (λ d. told (refused_asked seat num operation bytes block lent own refl d refl refl))
    where
      own : ℕ
      own = (user_at (area_at state j) u).position.0

      here : {q : Plain} {k : ℕ} → word ≡ 0 → Placed image state o p q n j sender u f k → SomeReply (TransputsAt image state o j u operation k lent)
      here z at = at_some at operation lent (allowed seat num operation bytes block lent refl z) words

      go : word ≡ 0 → (b : Bool) → is_random operation ≡ b → Result
      go z false r = told (transput_own seat num operation bytes block lent refl z own r refl (here z (placed_own seat num own refl)).holds)
      go z true r = same_or (position_word block (length f.sectors)) 0
          (λ y. told (transput_first seat num operation bytes block lent refl z r refl y (here z (placed_moved seat num block (first_low seat num operation bytes block lent refl z r refl y))).holds))
          (λ d. told (refused_first seat num operation bytes block lent refl z r refl refl d refl))
