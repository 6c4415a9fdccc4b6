-- `catalog::is_named_within` meets its contract. Assumes nothing.
use mathlib.Core.Path.{◌≡◌, refl, sym, ap, ◌∙◌}
use mathlib.Core.List.{List}
use Prim.Native.Nat.{ℕ, ◌+◌, ◌*◌}
use native.Mathlib.Omega.{arith}
use native.Mathlib.Nat.{add-zero}
use lib.ListN.{get_or}
use borrow.Author.Tests.{ne_eqb}
use Rattle.disc.proofs.NameLaws.{pack_injective}
use Rattle.catalog.specs.Catalog.{slot_word, slot_named}
use Rattle.catalog.proofs.is_named_within.Goals as goal

-- word w of the slot, by the image's index
at-word : (image : List ℕ) (q i w : ℕ) → get_or image (q * 256 + i * 16 + w) 0 ≡ slot_word image q i w
at-word image q i w = let e : q * 256 + i * 16 + w ≡ q * 256 + (i * 16 + w) = omega arith in ap (λ (x : ℕ). get_or image x 0) e

pub returns-then-image-at : goal.returns-then-image-at
unfolding slot_named
returns-then-image-at c =
    let a = c.args in
    let fits = c.type_inv.image in
    let word = slot_word a.image.now a.q.0 a.slot in
    let e : get_or a.image.now (a.q.0 * 256 + a.slot * 16) 0 ≡ word 0 = rw add-zero at (at-word a.image.now a.q.0 a.slot 0) in
    sym (ne_eqb _ _ (λ z.
    let same = pack_injective (word 0) (word 1) (word 2) a.name.0 a.name.1 a.name.2 (fits _).fits (fits _).fits (omega arith) (omega arith) z in
    c.if-image-at.true (e ∙ same.0)))

pub returns : goal.returns
unfolding slot_named
returns c =
    let a = c.args in
    let word = at-word a.image.now a.q.0 a.slot in
    c.same_name.ensures ∙ rw (← word 0, ← word 1, ← word 2, add-zero) refl
