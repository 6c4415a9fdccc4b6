-- `numbers::slices_by` meets its contract. Assumes nothing.
use Rattle.std.proofs.Common.{ℕ, ◌*◌, ◌/◌, ◌∙◌, ap₂, arith}
use Rattle.numbers.proofs.ReciprocalLaws.{by_reciprocal}
use Rattle.numbers.proofs.slices_by.Goals as goal

pub returns-clause-whole : goal.returns-clause-whole
returns-clause-whole c = λ s k low is whole. ap₂ (λ (m r : ℕ). m * r / 65536) whole is ∙ by_reciprocal s k low (omega arith)
