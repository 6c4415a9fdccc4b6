-- `change::change` meets its contract. Assumes nothing.
use mathlib.Core.Path.{sym, ◌∙◌}
use Rattle.change.proofs.ChangeLaws.{sought, sought_file, changes_none, changes_short, changes_entry_only, changes_system, changes_open, can_change_file, changes_file}
use Rattle.change.proofs.change.Goals as goal
use Rattle.change.proofs.change.Goals.{then-lent-lt16-via-then-lent-lt16, then-lent-lt16-via-else-lent-lt16+then-gives_entry_only, then-lent-lt16-via-else-lent-lt16+else-gives_entry_only+then-is_system, then-lent-lt16-via-else-lent-lt16+else-gives_entry_only+else-is_system+then-is_open}

pub returns-in_default : goal.returns-in_default
returns-in_default c = changes_none (sought c.requires c.stored-n.ensures c.find_name.ensures) c.in_default.is

pub returns-then-lent-lt16 : goal.returns-then-lent-lt16
returns-then-lent-lt16 c =
    let s = sought c.requires c.stored-n.ensures c.find_name.ensures in
    elim c.then-lent-lt16.branch [
      | then-lent-lt16-via-then-lent-lt16 w ↦ changes_short s c.in-Some.is w.if-lent-lt16.true
      | then-lent-lt16-via-else-lent-lt16+then-gives_entry_only w ↦
          changes_entry_only s c.in-Some.is w.if-lent-lt16.false (sym w.gives_entry_only.ensures ∙ w.if-gives_entry_only.true)
      | then-lent-lt16-via-else-lent-lt16+else-gives_entry_only+then-is_system w ↦
          changes_system s c.in-Some.is w.if-lent-lt16.false (sym w.is_system.ensures ∙ w.if-is_system.true)
      | then-lent-lt16-via-else-lent-lt16+else-gives_entry_only+else-is_system+then-is_open w ↦
          changes_open s c.in-Some.is w.if-lent-lt16.false (sym w.gives_entry_only.ensures ∙ w.if-gives_entry_only.false)
          (sym w.is_system.ensures ∙ w.if-is_system.false) (sym w.is_open.ensures ∙ w.if-is_open.true)
    ]

pub change_file-requires : goal.change_file-requires
change_file-requires c =
    can_change_file
    (sought_file (sought c.requires c.stored-n.ensures c.find_name.ensures) c.in-Some.is
    (sym c.is_system.ensures ∙ c.if-is_system.false) (sym c.is_open.ensures ∙ c.if-is_open.false)) c.if-lent-lt16.false

pub returns : goal.returns
returns c =
    changes_file
    (sought_file (sought c.requires c.stored-n.ensures c.find_name.ensures) c.in-Some.is
    (sym c.is_system.ensures ∙ c.if-is_system.false) (sym c.is_open.ensures ∙ c.if-is_open.false)) c.if-lent-lt16.false
    (sym c.gives_entry_only.ensures ∙ c.if-gives_entry_only.false) c.change_file.ensures
