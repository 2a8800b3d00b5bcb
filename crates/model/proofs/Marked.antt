-- Document 01's marked cases, computed by the definitions.
use mathlib.Core.Path.{refl}
use Rattle.whole.specs.Half.{half, half_size}
use Rattle.whole.specs.Round.{round, exact, inexact}
use Rattle.whole.specs.Sum.{sum_by, upto_by}
use Rattle.whole.specs.Tab.{tab, any, all}
use Rattle.rational.specs.Power.{even}
use Rattle.model.specs.Set.{term_sizes, generator_sizes, span, longer, radius_of}
use Rattle.model.specs.Valid.{order, rises, bad_range, bad_order, is_too_wide}
use Rattle.model.specs.Finish.{insert, collect_into, those, shift, growth, fold_vector, fold_all, size, smallest}
use Rattle.model.specs.Finish.{fold_smallest, fold_times, keep_at, collect_terms, drop_zero_terms, drop_zero_generators, fold_high}
use Rattle.model.specs.Finish.{fold_terms, fold_generators, drop_unused, finish}
use Rattle.model.specs.Step.{dot, bilinear, raw_centre, raw_linear, raw_square, raw_pair, pairs, remainder, raw, inexact_at}
use Rattle.model.specs.Step.{carried_at, rounded_at, rounded, step}
use Rattle.model.specs.Bytes.{number, word}
use Rattle.model.specs.Body.{given_set}
use Rattle.model.specs.Field.{meaning}
use Rattle.model.specs.Run.{kind_of, first_of, misplaced, cut, causes}
use Rattle.model.specs.Marked.{MarkedTable}

pub marked : MarkedTable
unfolding step rounded raw raw_centre raw_linear raw_square raw_pair pairs remainder inexact_at carried_at rounded_at dot bilinear sum_by upto_by
    tab round exact inexact term_sizes generator_sizes radius_of longer finish drop_unused fold_generators fold_terms fold_high
    drop_zero_generators drop_zero_terms collect_terms insert collect_into those fold_all fold_vector shift growth fold_times fold_smallest
    smallest size keep_at order any all even half half_size causes first_of misplaced cut kind_of meaning number word given_set bad_range
    bad_order is_too_wide span rises
marked = record {
  half_rounds_to_even = refl;
  less_rounds_down = refl;
  minus-half_rounds_to_even = refl;
  more_rounds_down = refl;
  folds-even = refl;
  folds-negative = refl;
  halves_term = refl;
  widest = refl;
  too_wide = refl;
  folds-high = refl;
}
