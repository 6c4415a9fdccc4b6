-- `sound_entries::place_legal` meets its contract. Assumes nothing.
use Rattle.std.proofs.Common.{sym, ◌∙◌}
use Rattle.disc.proofs.DecideLaws.{true≢false}
use Rattle.sound_entries.proofs.PlaceLaws.{first_used, judged_name, judged_key, judged_rest}
use Rattle.sound_entries.proofs.place_legal.Goals as goal
use Rattle.sound_entries.proofs.place_legal.Goals.{then-legal_by, else-legal_by}

pub returns-then-has_key : goal.returns-then-has_key
returns-then-has_key c =
    let n = c.place_name-name.ensures in
    elim c.if-legal_by.branch [
      | then-legal_by w ↦ judged_rest n (first_used n c.if-name-eq0.false) c.legal_by.ensures w.if-legal_by.true (w.has_key.ensures.yes (sym w.value-is ∙ c.if-has_key.true)) c.system_legal.ensures
      | else-legal_by w ↦ absurd (true≢false (sym c.if-has_key.true ∙ w.value-is ∙ w.if-legal_by.false))
    ]

pub returns-else-has_key : goal.returns-else-has_key
returns-else-has_key c =
    let n = c.place_name-name.ensures in
    let used = first_used n c.if-name-eq0.false in
    record {
      yes = λ e. absurd (true≢false (sym e ∙ c.if-has_key.false));
      not = λ _ p. elim c.if-legal_by.branch [
        | then-legal_by w ↦ judged_key n used (w.has_key.ensures.not (sym w.value-is ∙ c.if-has_key.false)) p
        | else-legal_by w ↦ judged_name n used c.legal_by.ensures w.if-legal_by.false p
      ];
    }
