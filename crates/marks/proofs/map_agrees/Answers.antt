-- `marks::map_agrees` meets its contract: each test is what a map that agrees has. Assumes nothing.
use Rattle.std.proofs.Common.{refl, sym, ◌∙◌, ◌≤◌, arith}
use borrow.Author.Tests.{eqb-true, eqb-false}
use Rattle.disc.specs.Words.{Words}
use Rattle.disc.proofs.DecideLaws.{true≢false, fails}
use Rattle.marks.proofs.AgreeLaws.{agree_filled, agree_edge, agree_full, agree_past}
use Rattle.marks.proofs.map_agrees.Goals as goal
use Rattle.marks.proofs.map_agrees.Goals.{then-filled, else-filled}

pub returns-then-full-eq-MAP_WORDS : goal.returns-then-full-eq-MAP_WORDS
returns-then-full-eq-MAP_WORDS c =
    let a = c.args in
    let words : Words a.image.now = record { each = λ k. (c.type_inv.image k).fits } in
    λ all is once. record {
      yes = λ e. agree_full a.image.now a.marks.now a.g.slices all words (omega arith) is once c.if-full-eq-MAP_WORDS.true (c.filled.ensures.yes e);
      not = λ e sound. c.filled.ensures.not e (agree_filled a.image.now a.marks.now a.g.slices all words (omega arith) is once sound);
    }

pub returns-then-image-full-eq65536 : goal.returns-then-image-full-eq65536
returns-then-image-full-eq65536 c =
    let a = c.args in
    let words : Words a.image.now = record { each = λ k. (c.type_inv.image k).fits } in
    elim c.if-filled.branch [
      | then-filled w ↦ λ all is once.
          agree_past a.image.now a.marks.now a.g.slices all words (omega arith) is once
          _ _ _ refl w.packed.ensures.0 c.bit_word.ensures
          (c.filled-2.ensures.yes w.if-filled.true) (eqb-true _ _ (sym w.value-is ∙ c.if-image-full-eq65536.true)) c.cleared.ensures
      | else-filled w ↦ absurd (true≢false (sym c.if-image-full-eq65536.true ∙ w.value-is ∙ w.if-filled.false))
    ]

pub returns-else-image-full-eq65536 : goal.returns-else-image-full-eq65536
returns-else-image-full-eq65536 c =
    let a = c.args in
    let words : Words a.image.now = record { each = λ k. (c.type_inv.image k).fits } in
    let few : a.g.slices ≤ 4096 = omega arith in
    elim c.if-filled.branch [
      | then-filled w ↦ λ all is once. rw c.if-image-full-eq65536.false (fails (λ sound.
          eqb-false _ _ (sym w.value-is ∙ c.if-image-full-eq65536.false)
          (agree_edge a.image.now a.marks.now a.g.slices all words few is once
          _ _ _ refl w.packed.ensures.0 c.bit_word.ensures (omega (arith, few, c.if-full-eq-MAP_WORDS.false)) sound)))
      | else-filled w ↦ λ all is once. rw c.if-image-full-eq65536.false (fails (λ sound.
          c.filled-2.ensures.not w.if-filled.false
          (agree_filled a.image.now a.marks.now a.g.slices all words few is once sound)))
    ]
