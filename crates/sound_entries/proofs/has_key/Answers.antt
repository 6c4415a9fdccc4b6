-- `sound_entries::has_key` meets its contract: a sum that is so many times the number of keys, and the key, has the key as its rest.
-- Assumes nothing.
use Rattle.std.proofs.Common.{◌≡◌, ℕ, ◌+◌, ◌*◌, ◌%◌, ◌<◌, sym, ap, ◌∙◌, mod-eq_of_lt, arith}
use native.Mathlib.Nat.{mul-add-mod_self_right}
use borrow.Author.Tests.{eqb-false}
use Rattle.disc.specs.Names.{pack, key_of}
use Rattle.disc.proofs.NameLaws.{key_pack}
use Rattle.sound_entries.proofs.has_key.Goals as goal

-- the key, by a quotient that shows it
key_is : (x y z H quotient : ℕ) → y < 65536 → z < 65536 → {sum key : ℕ} → sum ≡ (x + y + z) % 65536 → quotient * H + key ≡ sum → key < H → key_of H (pack x y z) ≡ key
key_is x y z H quotient p q {key = key} e f l =
    key_pack x y z H p q ∙ ap (λ (n : ℕ). n % H) (sym e ∙ sym f) ∙ mul-add-mod_self_right quotient H key ∙ mod-eq_of_lt l

pub returns-then-quotient-keys : goal.returns-then-quotient-keys
returns-then-quotient-keys c =
    let a = c.args in
    let guessed = c.if-quotient-keys.true in
    record {
      yes = λ _. sym (key_is a.name.0 a.name.1 a.name.2 a.expected.catalog.keys _ (omega arith) (omega arith) (omega arith) guessed c.requires);
      not = λ e _. eqb-false _ _ e guessed;
    }
