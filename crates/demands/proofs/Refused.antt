-- A call that a later question refuses: what each message's own contract says of image and state, and what the plain unit says of its
-- refusals.
use mathlib.Core.Path.{◌≡◌, refl, sym, ap, ◌∙◌}
use mathlib.Core.List.{List}
use mathlib.Core.Logic.{◌≢◌}
use Prim.Native.Nat.{ℕ}
use Rattle.types.specs.declared.Answer.{Answer}
use Rattle.types.specs.declared.State.{State}
use Rattle.types.specs.declared.Message.{Message}
use Rattle.types.specs.declared.Message.TheVariants.{Init, Set, Create, LookUp, Change, Remove, CreateArea, RemoveArea, AreaMessage, UnitDescription, Listing}
use Rattle.plain.specs.Unit.{Plain}
use Rattle.plain.specs.Step.{Reply, step, reply}
use Rattle.plain.specs.Good.{Good}
use Rattle.plain.specs.Claims.{Left, everything}
use Rattle.plain.proofs.PlainClaims.{plain_claims}
use Rattle.refine.specs.Represents.{Represents}
use Rattle.refine.specs.Leaves.{Decided, refused, written}
use Rattle.refine.specs.Demands.{Performed}
use Rattle.first_question.specs.Known.{Known}
use Rattle.perform.specs.Perform.{Obeyed}
use Rattle.perform.proofs.ObeyLaws.{known_yes, init_done_lem}
use Rattle.demands.specs.Demands.{StateLeft, RefusedLater}
use Rattle.demands.specs.Demands as demands
use Rattle.demands.proofs.AreaRefused.{refused_image, refused_state}

-- ---- image and state

same : {p q : Plain} {result : ℕ} {Same : Type 0} {Written : Plain → Type 0} → result ≢ 0 → Decided p result Same Written q → Same
same nz (refused d u s) = s
same nz (written z w) = absurd (nz z)

module _ {image : List ℕ} {state : State} {p : Plain} (g : Good p) (rep : Represents image state p) {lent : List ℕ} {r : Performed} where
  left : (message : Message) → Known state message → Obeyed p image state message lent r → r.answer.result ≢ 0 → (q : Plain) → (step p message lent).unit ≡ q → Left p message q
      → (r.image ≡ image) × StateLeft p q state r.state message
  left (Init unit) k o nz q e l = absurd (nz (ap (λ (x : Reply). x.answer.result) (o.same ∙ ap reply (init_done_lem g rep lent k))))
  left (Set name) k o nz q e everything = (same nz o.wrote.0.step.left, demands.everything refl o.wrote.1)
  left (Create name size attributes) k o nz q e everything = (same nz (o.wrote.0.step lent).left, demands.everything refl o.wrote.1)
  left (LookUp name) k o nz q e everything = (o.wrote.0, demands.everything refl o.wrote.1)
  left (Change name) k o nz q e everything = (same nz o.wrote.0.step.left, demands.everything refl o.wrote.1)
  left (Remove name) k o nz q e everything = (same nz (o.wrote.0.step lent).left, demands.everything refl o.wrote.1)
  left (CreateArea name) k o nz q e everything = (o.wrote.0, demands.everything refl (same nz (o.wrote.1.step lent).left))
  left (RemoveArea name) k o nz q e everything = let s = same nz (o.wrote.step lent).left in (s.0, demands.everything refl s.1)
  left (AreaMessage name sender operation) k o nz q e l =
      let a = o.wrote in
      let mine = known_yes g rep k.unit in (
        a.written ∙ refused_image p image lent operation r.answer nz _,
        rw a.reached
            (refused_state g rep name sender lent mine q r.answer r.lent nz operation
            (sym (a.leaves.answered ∙ ap (λ (u : Plain). record { unit = u; answer = r.answer; lent = r.lent }) e))),
      )
  left (UnitDescription unit bytes) k o nz q e everything = (o.wrote.0, demands.everything refl o.wrote.1)
  left (Listing unit) k o nz q e everything = (o.wrote.0, demands.everything refl o.wrote.1)

  pub refused_later : (message : Message) → Known state message → Obeyed p image state message lent r → r.answer.result ≢ 0 → RefusedLater p image state message lent r
  refused_later message k o nz =
      let e = ap (λ (x : Reply). x.answer) o.same in
      let c = plain_claims.refuses p message lent (λ z. nz (ap (λ (a : Answer). a.result) e ∙ z)) in
      let s = left message k o nz _ refl c.unit in
      record {
        answered = e;
        bytes = ap (λ (a : Answer). a.bytes) e ∙ c.bytes;
        entries = ap (λ (a : Answer). a.entries) e ∙ c.entries;
        same_image = s.0;
        same_lent = ap (λ (x : Reply). x.lent) o.same ∙ c.words;
        same_state = s.1;
      }
