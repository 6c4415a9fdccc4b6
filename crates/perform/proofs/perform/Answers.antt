-- `perform::perform` meets its contract: the first two questions, then the message. Assumes nothing.
use Rattle.soundness.proofs.TopLaws.{judged_sound}
use Rattle.refine.proofs.SoundRepresents.{sound_represents}
use Rattle.perform.specs.Perform.{obeyed}
use Rattle.perform.proofs.NumberLaws.{numbers_of}
use Rattle.perform.proofs.perform.Goals as goal

pub obey-requires : goal.obey-requires
obey-requires c =
    let x = sound_represents.reads _ _ (judged_sound c.judge.ensures c.in-Some.is) in
    record {
      known = c.known.ensures.yes c.if-not-known.false;
      standing = record { unit = x.0; good = x.1; represents = x.2; numbers = numbers_of x.1 x.2 (c.judge.ensures.numbers _ c.in-Some.is) };
    }

pub returns : goal.returns
returns c =
    obeyed (c.known.ensures.yes c.if-not-known.false) (judged_sound c.judge.ensures c.in-Some.is)
    (λ p g r. c.obey.ensures.all p g r (numbers_of g r (c.judge.ensures.numbers _ c.in-Some.is)))
