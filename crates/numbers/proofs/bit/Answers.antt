-- `numbers::bit` meets its contract: the one bit that is left of the word is that bit times its own word. Assumes nothing.
use Rattle.std.proofs.Common.{◌≡◌, ℕ, ◌*◌, ◌/◌, ◌%◌, ◌<◌, ap, not, zero, suc, arith, nat_eq, pow_pos}
use Rattle.std.proofs.lemmas.Nat.Bits.{and_pow}
use Rattle.std.proofs.lemmas.Bool.{eq-eqb, ne_eqb}
use Rattle.disc.specs.Numbers.{bit_word}
use Rattle.numbers.proofs.bit.Goals as goal

some_or_none : (t p : ℕ) → t < 2 → 0 < p → not (nat_eq (t * p) 0) ≡ nat_eq t 1
some_or_none zero p h k = ap not (eq-eqb (0 * p) 0 (omega arith))
some_or_none (suc zero) p h k = ap not (ne_eqb (1 * p) 0 (λ e. absurd (omega arith)))
some_or_none (suc (suc t)) p h k = absurd (omega arith)

pub returns : goal.returns
returns c =
    let a = c.args in
    rw (c.bit_word.ensures, and_pow) (some_or_none (a.w / bit_word a.n % 2) (bit_word a.n) (omega arith) (pow_pos _))
