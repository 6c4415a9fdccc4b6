-- The examples, by computation.
use mathlib.Core.Path.{refl}
use Rattle.disc.specs.Slices.{lowest_one}
use Rattle.disc.specs.OneStretch.{lowest_stretch, taken_for_file}
use Rattle.plain.specs.Unit.{entry}
use Rattle.plain.specs.Questions.{asks, given, either}
use Rattle.plain.specs.Catalog.{new_file, change_file}
use Rattle.plain.specs.Areas.{step_reserve, step_release, positioned}
use Rattle.plain.specs.Transput.{end_word, input, append, output, step_transput}
use Rattle.plain.specs.Reports.{step_listing, step_description}
use Rattle.plain.specs.Step.{user_step, operation_step}
use Rattle.examples.specs.Examples.{Examples}

pub examples : Examples
unfolding lowest_one lowest_stretch taken_for_file entry asks given either new_file change_file step_reserve step_release positioned end_word input append output step_transput step_listing step_description user_step operation_step
examples = record {
  init = refl;
  init_none = refl;
  set = refl;
  set_words = refl;
  create = refl;
  create_words = refl;
  character = refl;
  system = refl;
  keyed = refl;
  keyed_sys = (refl, refl);
  grow = refl;
  grown_sys = (refl, refl);
  grown_file = refl;
  grow_in_slack = refl;
  slack_sys = (refl, refl);
  look_up = refl;
  look_up_sys = refl;
  look_up_map = refl;
  change = refl;
  changed_slices = refl;
  changed_words = refl;
  permanent_words = refl;
  old = refl;
  old_slices = refl;
  old_words = refl;
  old_permanent = refl;
  given_back = (refl, refl);
  served = refl;
  served_sys = refl;
  remove = refl;
  removed = refl;
  stretched = refl;
  one_stretch = (refl, refl);
  crowded_sys = refl;
  create_area = refl;
  remove_area = refl;
  before_known = refl;
  before_unknown = refl;
  unknown = refl;
  strangers = refl;
  reserve = refl;
  roles = refl;
  count = refl;
  position = refl;
  input = refl;
  input_words = refl;
  random_input = refl;
  empty_input = refl;
  output3 = refl;
  output7 = refl;
  output19 = refl;
  appended = refl;
  unbooked = refl;
  booked = refl;
  reused = refl;
  cleared = refl;
  random_output = refl;
  long_output3 = refl;
  long_output7 = refl;
  long_output19 = refl;
  description = refl;
  description_words = refl;
  listing = refl;
  listing_words = refl;
}
