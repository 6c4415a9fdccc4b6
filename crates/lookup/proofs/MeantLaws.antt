-- Question 1 is answered yes of every unit that image and state represent, and of every one on the image with the number, if it is of
-- one: the plain unit's answer depends on its number alone.
use mathlib.Core.Path.{◌≡◌, sym, ◌∙◌, subst}
use mathlib.Core.Bool.{◌&&◌}
use mathlib.Core.List.{List}
use Prim.Native.Nat.{ℕ, ◌≤◌}
use lib.Dec.{T, leb, leb→le, eqb, eqb→eq}
use Rattle.types.specs.declared.State.{State}
use Rattle.catalog.specs.declared.Unit.{Unit}
use Rattle.plain.specs.Unit.{Plain}
use Rattle.plain.specs.Questions.{known}
use Rattle.plain.proofs.QuestionLaws.{and_left, and_right}
use Rattle.refine.specs.Represents.{Represents}
use Rattle.lookup.specs.Unit.{MeantOn, Meant}

known_same : (p : Plain) (u : ℕ) → T (known p u) → u ≡ p.unit
known_same p u t = eqb→eq u p.unit (and_left (eqb u p.unit) (leb u 3) t)

pub known_low : (p : Plain) (u : ℕ) → T (known p u) → u ≤ 3
known_low p u t = leb→le u 3 (and_right (eqb u p.unit) (leb u 3) t)

known_too : (p q : Plain) (u : ℕ) → p.unit ≡ q.unit → T (known p u) → T (known q u)
known_too p q u e t = subst (λ (n : ℕ). T (eqb u n && leb u 3)) e t

pub meant_known : {image : List ℕ} {state : State} {o : Unit} {u : ℕ} {p : Plain} → Meant image state o u → Represents image state p → T (known p u)
meant_known {u = u} {p = p} m r = known_too m.standing.unit p u (sym m.standing.represents.areas.number ∙ r.areas.number) m.meant

pub meant_on_known : {image : List ℕ} {o : Unit} {u : ℕ} (p : Plain) → MeantOn image o u → p.unit ≡ u → T (known p u)
meant_on_known {u = u} p m e = known_too m.standing.unit p u (sym (known_same m.standing.unit u m.meant) ∙ sym e) m.meant
