-- `output::output` meets its contract. Assumes nothing.
use Rattle.types.proofs.RefusalLaws.{refusal_nonzero}
use Rattle.disc.specs.Words.{Words}
use Rattle.output.proofs.OutputLaws.{outputs_refused, block_ready, outputs_stored}
use Rattle.output.proofs.output.Goals as goal

pub replace-requires : goal.replace-requires
replace-requires c =
    (block_ready c.in-Ok.ensures.prepared c.in-Ok.ensures.done c.area_at-area.ensures c.requires.0, c.requires.1)

pub returns-in-Ok : goal.returns-in-Ok
returns-in-Ok c =
    -- the lent words are words
    let words : let a = c.args in Words a.lent.now = record { each = λ k. (c.type_inv.lent k).fits } in
    outputs_stored c.in-Ok.ensures.prepared c.in-Ok.ensures.done c.area_at-area.ensures c.requires.1 words c.replace.ensures

pub returns-in-Err : goal.returns-in-Err
returns-in-Err c =
    let words : let a = c.args in Words a.lent.now = record { each = λ k. (c.type_inv.lent k).fits } in
    rw c.refused.ensures (outputs_refused c.in-Err.ensures.prepared c.requires.1 words (refusal_nonzero c.in-Err.refusal))
