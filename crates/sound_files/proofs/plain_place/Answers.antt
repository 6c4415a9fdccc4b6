-- `sound_files::plain_place` meets its contract. Assumes nothing.
use native.Mathlib.Omega.{arith}
use borrow.Author.Tests.{eqb-true}
use Rattle.sound_files.proofs.PlainLaws.{plain_unused, plain_used}
use Rattle.sound_files.proofs.plain_place.Goals as goal

pub returns-then-image-at : goal.returns-then-image-at
returns-then-image-at c = plain_unused c.name_at.result c.name_at.ensures (eqb-true _ _)

pub returns : goal.returns
returns c =
    plain_used c.requires.4 (omega (arith, c.if-image-at.false, c.requires.0.limits.first)) c.plain_file.ensures
