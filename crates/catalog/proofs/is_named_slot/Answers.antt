-- `catalog::is_named_slot` meets its contract. Assumes nothing.
use mathlib.Core.Path.{◌≡◌, sym, ◌∙◌}
use native.Mathlib.Nat.{add-zero}
use native.Mathlib.Omega.{arith}
use borrow.Author.Tests.{ne_eqb}
use Rattle.disc.proofs.NameLaws.{pack_injective}
use Rattle.catalog.specs.Catalog.{slot_word, slot_named}
use Rattle.catalog.proofs.is_named_slot.Goals as goal

pub returns-then-first-name : goal.returns-then-first-name
unfolding slot_named
returns-then-first-name c =
    let a = c.args in
    let fits = c.type_inv.image in
    let word = slot_word a.image.now a.q.0 a.slot in
    let e : c.word-first.result ≡ word 0 = c.word-first.ensures ∙ rw add-zero in
    sym (ne_eqb _ _ (λ z.
    let same = pack_injective (word 0) (word 1) (word 2) a.name.0 a.name.1 a.name.2 (fits _).fits (fits _).fits (omega arith) (omega arith) z in
    c.if-first-name.true (e ∙ same.0)))

pub returns : goal.returns
unfolding slot_named
returns c =
    c.same_name.ensures ∙ rw (c.word-first.ensures, c.word-second.ensures, c.word-third.ensures, add-zero)
