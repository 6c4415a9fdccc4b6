-- `create::create` meets its contract. Assumes nothing.
use mathlib.Core.Path.{refl}
use Rattle.create.proofs.MessageLaws.{creates}
use Rattle.create.proofs.create.Goals as goal

pub returns : goal.returns
returns c =
    creates c.args.name c.stored.ensures.packed c.new_file.ensures c.requires refl refl
