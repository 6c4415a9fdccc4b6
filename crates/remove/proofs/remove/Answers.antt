-- `remove::remove` meets its contract. Assumes nothing.
use mathlib.Core.Path.{sym, ap, ◌∙◌}
use Rattle.disc.specs.Numbers.{bit}
use Rattle.lookup.proofs.MessageLaws.{some_closed}
use Rattle.remove.proofs.RemoveLaws.{sought, sought_file, removes_none, removes_system, removes_open, removes_permanent, removes_done}
use Rattle.remove.proofs.remove.Goals as goal
use Rattle.remove.proofs.remove.Goals.{then-is_system-via-then-is_system, then-is_system-via-else-is_system+then-is_open, then-is_system-via-else-is_system+else-is_open+then-bit}

pub returns-in_default : goal.returns-in_default
returns-in_default c =
    removes_none (sought c.requires c.stored-n.ensures c.find_name.ensures) c.in_default.is

pub returns-then-is_system : goal.returns-then-is_system
returns-then-is_system c =
    let s = sought c.requires c.stored-n.ensures c.find_name.ensures in
    elim c.then-is_system.branch [
      | then-is_system-via-then-is_system w ↦
          removes_system s c.in-Some.is (sym c.is_system.ensures ∙ w.if-is_system.true)
      | then-is_system-via-else-is_system+then-is_open w ↦
          removes_open s c.in-Some.is (sym c.is_system.ensures ∙ w.if-is_system.false) (sym w.is_open.ensures ∙ w.if-is_open.true)
      | then-is_system-via-else-is_system+else-is_open+then-bit w ↦
          removes_permanent
          (sought_file s c.in-Some.is (sym c.is_system.ensures ∙ w.if-is_system.false) (sym w.is_open.ensures ∙ w.if-is_open.false))
          (ap (bit 11) (sym w.entry_word.ensures) ∙ sym w.bit.ensures ∙ w.if-bit.true)
    ]

pub drop_file-requires : goal.drop_file-requires
drop_file-requires c =
    some_closed
    (sought_file (sought c.requires c.stored-n.ensures c.find_name.ensures) c.in-Some.is
    (sym c.is_system.ensures ∙ c.if-is_system.false) (sym c.is_open.ensures ∙ c.if-is_open.false))

pub returns : goal.returns
returns c =
    removes_done
    (sought_file (sought c.requires c.stored-n.ensures c.find_name.ensures) c.in-Some.is
    (sym c.is_system.ensures ∙ c.if-is_system.false) (sym c.is_open.ensures ∙ c.if-is_open.false))
    (ap (bit 11) (sym c.entry_word.ensures) ∙ sym c.bit.ensures ∙ c.if-bit.false) c.drop_file.ensures
