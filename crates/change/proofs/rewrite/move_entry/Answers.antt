-- `change::rewrite::move_entry` meets its contract. Assumes nothing.
use native.Mathlib.Omega.{arith}
use Rattle.change.proofs.MoveLaws.{move_room, move_inside, moved_from}
use Rattle.change.proofs.rewrite.move_entry.Goals as goal

pub clear_place-requires : goal.clear_place-requires
clear_place-requires c = move_room c.requires.can

pub write_entry-requires : goal.write_entry-requires
write_entry-requires c =
    (omega (arith, c.requires.size), move_inside c.requires.can c.clear_place.ensures c.find_unused.ensures.found c.in-Some.is)

pub returns : goal.returns
returns c =
    record {
      all = λ p t can.
          moved_from can c.clear_place.ensures c.find_unused.ensures.found c.in-Some.is c.requires.size c.write_entry.ensures;
    }
