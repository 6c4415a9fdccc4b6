-- `words::clear_words` meets its contract. Assumes nothing.
use Rattle.std.proofs.Common.{◌≡◌, ◌+◌, ◌*◌, ◌-◌, ap, ◌∙◌, arith}
use Rattle.words.specs.Store.{zero_words}
use Rattle.words.proofs.StoreLaws.{length-zero_words, length_part, store_part}
use Rattle.words.proofs.clear_words.Goals as goal

pub returns : goal.returns
unfolding zero_words
returns c =
    let a = c.args in
    let at = a.q.0 * 256 + a.from in
    let n : at + a.count - at ≡ a.count = omega arith in
    let z : c.fill.new.self ≡ zero_words a.count = c.fill.ensures.after (λ y e. e) ∙ ap zero_words (length_part a.image.now at _ (omega arith) ∙ n) in
    rw z (store_part _ _ at (at + a.count) (omega (arith, length-zero_words a.count)) (omega arith))
