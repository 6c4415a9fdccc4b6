-- `areas::create_area` meets its contract. Assumes nothing.
use mathlib.Core.Path.{sym, ◌∙◌}
use Rattle.areas.proofs.CreateLaws.{sought, sought_file, creates_none, creates_system, creates_open, creates_full, creates_done}
use Rattle.areas.proofs.create_area.Goals as goal

pub returns-in_default : goal.returns-in_default
returns-in_default c = creates_none (sought c.requires c.stored-n.ensures c.find_name.ensures) c.in_default.is

pub returns-then-is_system : goal.returns-then-is_system
returns-then-is_system c =
    creates_system (sought c.requires c.stored-n.ensures c.find_name.ensures) c.in-Some.is
    (sym c.is_system.ensures ∙ c.if-is_system.true)

pub returns-then-is_open : goal.returns-then-is_open
returns-then-is_open c =
    creates_open (sought c.requires c.stored-n.ensures c.find_name.ensures) c.in-Some.is
    (sym c.is_system.ensures ∙ c.if-is_system.false) (sym c.is_open.ensures ∙ c.if-is_open.true)

pub returns-in_default-vacant_area_of : goal.returns-in_default-vacant_area_of
returns-in_default-vacant_area_of c =
    creates_full
    (sought_file (sought c.requires c.stored-n.ensures c.find_name.ensures) c.in-Some.is
    (sym c.is_system.ensures ∙ c.if-is_system.false) (sym c.is_open.ensures ∙ c.if-is_open.false))
    (sym c.vacant_area_of.ensures.first ∙ c.in_default-vacant_area_of.is)

pub returns : goal.returns
returns c =
    creates_done
    (sought_file (sought c.requires c.stored-n.ensures c.find_name.ensures) c.in-Some.is
    (sym c.is_system.ensures ∙ c.if-is_system.false) (sym c.is_open.ensures ∙ c.if-is_open.false))
    (sym c.vacant_area_of.ensures.first ∙ c.in-Some-vacant_area_of.is) c.stored-n.ensures c.entry_word-length.ensures
    c.entry_word.ensures c.open_area.ensures
