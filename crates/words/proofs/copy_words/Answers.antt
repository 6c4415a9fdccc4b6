-- `words::copy_words` meets its contract: after i turns i words are stored. Assumes nothing.
use mathlib.Core.Path.{◌≡◌, refl, sym}
use native.Mathlib.Omega.{arith}
use borrow.Author.Rules.{rules}
use Rattle.words.proofs.StoreLaws.{store_none, store_more, length_part, part_snoc}
use Rattle.words.proofs.copy_words.Goals as goal

pub loop-i-init : goal.loop-i-init
loop-i-init c = (sym (store_none _ _), refl)

pub loop-i-preserved : goal.loop-i-preserved
loop-i-preserved c =
    let a = c.args in
    let i = c.loop-i.i in (
      store_more _ _ i _ _ _ _ (length_part a.src.now a.from i (omega arith)) (part_snoc a.src.now a.from i (omega arith))
          c.loop-i.invariant.0,
      search rules,
    )
