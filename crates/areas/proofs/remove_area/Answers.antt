-- `areas::remove_area` meets its contract. Assumes nothing.
use mathlib.Core.Path.{sym, ◌∙◌}
use Rattle.areas.proofs.RemoveLaws.{ordinary, live, removes_system, removes_none, area_inside, removes_used, removes_lost, can_book, removes_done}
use Rattle.areas.proofs.remove_area.Goals as goal

pub returns-then-is_system : goal.returns-then-is_system
returns-then-is_system c =
    removes_system c.requires c.stored-n.ensures.packed (sym c.is_system.ensures ∙ c.if-is_system.true)

pub returns-in_default : goal.returns-in_default
returns-in_default c =
    removes_none (ordinary c.requires c.stored-n.ensures c.is_system.ensures c.if-is_system.false)
    (sym c.find_area.ensures.first ∙ c.in_default.is)

pub area_at-area-requires : goal.area_at-area-requires
area_at-area-requires c =
    area_inside (ordinary c.requires c.stored-n.ensures c.is_system.ensures c.if-is_system.false)
    (sym c.find_area.ensures.first ∙ c.in-Some.is)

pub returns-then-user_count-ne0 : goal.returns-then-user_count-ne0
returns-then-user_count-ne0 c =
    removes_used
    (live (ordinary c.requires c.stored-n.ensures c.is_system.ensures c.if-is_system.false)
    (sym c.find_area.ensures.first ∙ c.in-Some.is) c.area_at-area.ensures)
    (λ z. c.if-user_count-ne0.true (c.user_count.ensures ∙ z))

pub returns-in_default-find_name : goal.returns-in_default-find_name
returns-in_default-find_name c =
    removes_lost
    (live (ordinary c.requires c.stored-n.ensures c.is_system.ensures c.if-is_system.false)
    (sym c.find_area.ensures.first ∙ c.in-Some.is) c.area_at-area.ensures)
    c.find_name.ensures c.in_default-find_name.is

pub book-requires : goal.book-requires
book-requires c =
    can_book
    (live (ordinary c.requires c.stored-n.ensures c.is_system.ensures c.if-is_system.false)
    (sym c.find_area.ensures.first ∙ c.in-Some.is) c.area_at-area.ensures)
    c.find_name.ensures c.in-Some-find_name.is

pub returns : goal.returns
returns c =
    removes_done
    (live (ordinary c.requires c.stored-n.ensures c.is_system.ensures c.if-is_system.false)
    (sym c.find_area.ensures.first ∙ c.in-Some.is) c.area_at-area.ensures)
    c.find_name.ensures c.in-Some-find_name.is (sym c.user_count.ensures ∙ c.if-user_count-ne0.false)
    c.book.ensures c.close_area.ensures
