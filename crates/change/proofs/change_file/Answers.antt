-- `change::change_file` meets its contract. Assumes nothing.
use Rattle.std.proofs.lemmas.Result.{err_from_is_err_and}
use Rattle.types.proofs.RefusalLaws.{refusal_nonzero}
use Rattle.disc.specs.Words.{Words}
use Rattle.change.proofs.FileLaws.{known, all_yes, can_judge, file_refused, can_stay, file_stays, can_grow, can_change, file_grows}
use Rattle.change.proofs.change_file.Goals as goal
use Rattle.change.proofs.change_file.Goals.{then-layers-unit, else-layers-unit}

pub judged-requires : goal.judged-requires
judged-requires c =
    can_judge (known c.standing-f.ensures c.wanted-w.ensures c.layers_for-layers.ensures) c.requires.can

pub returns-in_err-judged : goal.returns-in_err-judged
returns-in_err-judged c =
    let e = err_from_is_err_and c.from_residual.result c.from_residual.ensures.1 in
    let k = known c.standing-f.ensures c.wanted-w.ensures c.layers_for-layers.ensures in
    rw (e.1, e.2) (record { all = λ p f can. file_refused k can c.in_err-judged.ensures (refusal_nonzero _) })

pub grow-grown-requires : goal.grow-grown-requires
grow-grown-requires c =
    let words : Words c.args.lent.now = record { each = λ k. (c.type_inv.lent k).fits } in
    can_grow (known c.standing-f.ensures c.wanted-w.ensures c.layers_for-layers.ensures) c.requires.can
    (all_yes c.in_ok-judged.ensures c.requires.size words) c.if-layers-unit.false

pub rewrite-requires : goal.rewrite-requires
rewrite-requires c =
    -- the lent words are words
    let words : Words c.args.lent.now = record { each = λ k. (c.type_inv.lent k).fits } in
    let k = known c.standing-f.ensures c.wanted-w.ensures c.layers_for-layers.ensures in
    let yes = all_yes c.in_ok-judged.ensures c.requires.size words in
    elim c.if-layers-unit.branch [
      | then-layers-unit w ↦ rw (w.image-is, w.grown-is) (can_stay k c.requires.can yes w.if-layers-unit.true)
      | else-layers-unit w ↦
          rw (w.image-is, w.grown-is) (can_change k c.requires.can yes w.if-layers-unit.false w.grow-grown.ensures)
    ]

pub returns : goal.returns
returns c =
    let words : Words c.args.lent.now = record { each = λ k. (c.type_inv.lent k).fits } in
    let k = known c.standing-f.ensures c.wanted-w.ensures c.layers_for-layers.ensures in
    let yes = all_yes c.in_ok-judged.ensures c.requires.size words in
    record {
      all = λ p f can.
          elim c.if-layers-unit.branch [
            | then-layers-unit w ↦ file_stays k can yes w.if-layers-unit.true (rw (w.image-is, w.grown-is) at c.rewrite.ensures)
            | else-layers-unit w ↦
                file_grows k can yes w.if-layers-unit.false w.grow-grown.ensures (rw (w.image-is, w.grown-is) at c.rewrite.ensures)
          ];
    }
