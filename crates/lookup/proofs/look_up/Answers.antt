-- `lookup::look_up` meets its contract. Assumes nothing.
use native.Mathlib.Omega.{arith}
use Rattle.lookup.proofs.UnitLaws.{searchable}
use Rattle.lookup.proofs.FindLaws.{name_room}
use Rattle.lookup.proofs.LookUpLaws.{looks_none, looks_short, looks_done}
use Rattle.lookup.proofs.look_up.Goals as goal

pub find_name-requires : goal.find_name-requires
find_name-requires c = let pre = c.requires in searchable pre.standing

pub returns-in_default : goal.returns-in_default
returns-in_default c =
    looks_none _ _ c.requires c.stored.ensures.packed c.find_name.ensures c.in_default.is

pub returns-then-lent-lt16 : goal.returns-then-lent-lt16
returns-then-lent-lt16 c =
    looks_short _ _ c.requires c.stored.ensures.packed c.find_name.ensures c.in-Some.is c.if-lent-lt16.true

pub read_entry-requires : goal.read_entry-requires
read_entry-requires c =
    (omega (arith, c.if-lent-lt16.false), name_room (searchable c.requires.standing) c.find_name.ensures c.in-Some.is)

pub returns : goal.returns
returns c =
    looks_done _ _ c.requires c.stored.ensures.packed c.find_name.ensures c.in-Some.is c.if-lent-lt16.false
    c.read_entry.ensures
