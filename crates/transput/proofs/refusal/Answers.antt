-- `transput::refusal` meets its contract. Assumes nothing.
use mathlib.Core.Path.{sym, ap, ◌∙◌}
use Rattle.disc.specs.Attributes.{write_protected}
use Rattle.blocks.proofs.BlockLaws.{file_attributes}
use Rattle.transput.proofs.TransputLaws.{word_bytes, word_short, word_input, word_writer, word_protected, word_output}
use Rattle.transput.proofs.refusal.Goals as goal
use Rattle.transput.proofs.refusal.Goals.{then-bytes-ne512-via-then-bytes-ne512, then-bytes-ne512-via-else-bytes-ne512+then-count-lt256}

pub returns-then-bytes-ne512 : goal.returns-then-bytes-ne512
returns-then-bytes-ne512 c =
    elim c.then-bytes-ne512.branch [
      | then-bytes-ne512-via-then-bytes-ne512 w ↦ record { all = λ p on num f file. word_bytes _ _ _ _ _ _ w.if-bytes-ne512.true }
      | then-bytes-ne512-via-else-bytes-ne512+then-count-lt256 w ↦ record { all = λ p on num f file. word_short _ _ _ _ _ _ w.if-bytes-ne512.false w.if-count-lt256.true }
    ]

pub returns-then-not-is_output : goal.returns-then-not-is_output
returns-then-not-is_output c =
    record { all = λ p on num f file. word_input _ _ _ _ _ _ c.if-bytes-ne512.false c.if-count-lt256.false (sym c.is_output.ensures ∙ c.if-not-is_output.true) }

pub returns-then-any_other : goal.returns-then-any_other
returns-then-any_other c =
    record {
      all = λ p on num f file.
          word_writer _ _ _ _ _ _ c.if-bytes-ne512.false c.if-count-lt256.false
          (sym c.is_output.ensures ∙ c.if-not-is_output.false) (sym c.any_other.ensures ∙ c.if-any_other.true);
    }

pub returns-then-bit : goal.returns-then-bit
returns-then-bit c =
    record {
      all = λ p on num f file.
          word_protected _ _ _ _ _ _ c.if-bytes-ne512.false c.if-count-lt256.false
          (sym c.is_output.ensures ∙ c.if-not-is_output.false)
          (sym c.any_other.ensures ∙ c.if-any_other.false)
          (ap write_protected (sym (file_attributes c.attributes_of.ensures on num file)) ∙ sym c.bit.ensures ∙ c.if-bit.true);
    }

pub returns : goal.returns
returns c =
    record {
      all = λ p on num f file.
          word_output _ _ _ _ _ _ c.if-bytes-ne512.false c.if-count-lt256.false
          (sym c.is_output.ensures ∙ c.if-not-is_output.false)
          (sym c.any_other.ensures ∙ c.if-any_other.false)
          (ap write_protected (sym (file_attributes c.attributes_of.ensures on num file)) ∙ sym c.bit.ensures ∙ c.if-bit.false);
    }
