-- The cases worked on paper, by computation.
use mathlib.Core.Path.{refl}
use Rattle.disc.specs.Slices.{lowest_one}
use Rattle.disc.specs.OneStretch.{lowest_stretch, taken_for_file}
use Rattle.plain.specs.Unit.{entry}
use Rattle.plain.specs.Questions.{asks, given, either}
use Rattle.plain.specs.Catalog.{new_file, change_file}
use Rattle.plain.specs.Areas.{step_reserve, step_release, positioned}
use Rattle.plain.specs.Transput.{end_word, input, append, output, step_transput}
use Rattle.plain.specs.Reports.{step_listing}
use Rattle.plain.specs.Step.{user_step, operation_step}
use Rattle.examples.specs.Paper.{Paper}

pub paper : Paper
unfolding lowest_one lowest_stretch taken_for_file entry asks given either new_file change_file step_reserve step_release positioned end_word input append output step_transput step_listing user_step operation_step
paper = record {
  p1 = (refl, refl, refl, refl);
  p2 = (refl, refl);
  p3 = (refl, refl);
  p4 = (refl, refl);
  p5 = (refl, refl);
  p6 = (refl, refl, refl, refl);
  p7 = (refl, refl, refl, refl);
  p8 = (refl, refl);
  accepted = refl;
  size8 = refl;
  size7 = refl;
  fourth = refl;
  fixed_end = refl;
  extendable_end = refl;
  gaps_left = (refl, refl, refl);
  one_slice = ((refl, refl, refl, refl), (refl, refl, refl, refl), (refl, refl, refl, refl));
  two_slices = ((refl, refl, refl, refl), (refl, refl, refl, refl), (refl, refl, refl, refl));
  three_slices = ((refl, refl, refl, refl), (refl, refl, refl, refl), (refl, refl, refl, refl));
  four_slices = ((refl, refl, refl, refl), (refl, refl, refl, refl), (refl, refl, refl, refl));
  six_slices = ((refl, refl, refl, refl), (refl, refl, refl, refl), (refl, refl, refl, refl));
  seven_slices = (refl, refl, refl);
  part_of_three = (refl, refl, refl, refl);
  first_output = (refl, refl, refl, refl);
  four_outputs = (refl, refl, refl, refl);
  live_output = (refl, refl, refl, refl);
  cut_and_longer = (refl, refl, refl, refl);
  letter_longer = (refl, refl, refl, refl);
  letter_output = (refl, refl, refl, refl);
  surplus_longer = (refl, refl, refl, refl);
  surplus_output = (refl, refl, refl, refl);
  surplus_outputs = (refl, refl, refl, refl);
  other_key = (refl, ((refl, refl, refl, refl), (refl, refl, refl, refl), (refl, refl, refl, refl)));
  sys_first = ((refl, refl, refl, refl), (refl, refl, refl, refl), (refl, refl, refl, refl));
  sys_taken = ((refl, refl, refl), (refl, refl, refl), (refl, refl, refl));
  sys_and_five = ((refl, refl, refl, refl), (refl, refl, refl, refl), (refl, refl, refl, refl));
  sys_and_six = (refl, refl, refl);
  mixed_key = (refl, refl);
  small_key = (refl, refl);
  beside_answers = refl;
  beside_slices = (refl, refl);
  beside_words = (refl, refl);
  rename_answers = refl;
  renamed_words = (refl, refl);
  entry_only_looked = refl;
  entry_only_kept = (refl, refl);
  entry_only_renamed = (refl, refl);
  entry_only_area = (refl, refl);
  entry_only_listed = (refl, refl);
  entry_only_removed = (refl, refl);
  entry_only_ordinary = (refl, refl);
  entry_only_longer = (refl, refl);
  entry_only_slices = refl;
  entry_only_refused = (refl, refl);
}
