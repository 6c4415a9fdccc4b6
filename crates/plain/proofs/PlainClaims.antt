-- The claims about the plain unit, proved.
use Rattle.disc.proofs.OneStretchLaws.{in_one_stretch_lem}
use Rattle.plain.specs.Step.{after}
use Rattle.plain.specs.Claims.{PlainClaims}
use Rattle.plain.proofs.Keeps.{step_keeps, list_keeps, good_adds}
use Rattle.plain.proofs.SlicesTaken.{slices_taken_lem}
use Rattle.plain.proofs.Refuses.{refuses, never_shrinks_lem, no_more_entry_only_lem, never_unsound_lem, never_unsound_after_lem}

pub plain_claims : PlainClaims
plain_claims = record {
  keeps = step_keeps;
  adds = λ calls p g w. let after-good = list_keeps calls p g w in (after-good, good_adds (after p calls) after-good);
  refuses = refuses;
  never_shrinks = never_shrinks_lem;
  no_more_entry_only = no_more_entry_only_lem;
  slices_taken = slices_taken_lem;
  in_one_stretch = in_one_stretch_lem;
  never_unsound = never_unsound_lem;
  never_unsound_after = never_unsound_after_lem;
}
