-- The step whose entries are known within half-widths.
use Rattle.std.specs.Prelude.{[], true, ◌||◌, ◌+◌}
use Rattle.model.specs.Limits.{standard_weights}
use Rattle.model.specs.Step as Step
use Rattle.model.specs.Step.{raw, remainder, inexact_at}
use Rattle.model.specs.Ranged as Ranged
use Rattle.model.specs.Ranged.{gain}
use Rattle.model.specs.Body.{step_rows, step_columns, given_step, ranged_length, given_widths}
use Rattle.model.specs.Moving.{image_by}
use Rattle.model.specs.Described.{bad_step_range, bad_width_range, negative_width, of_step_body, folds_of, units_of, half_of, Described}

abbrev pub kind : Described
kind = record {
  -- ---- what the field does
  tag = 9;
  meaning = λ b next s.
      of_step_body b (ranged_length b)
      (bad_step_range (given_step b) || (negative_width b || bad_width_range (given_step b) (given_widths b))) s next
      (Ranged.ranged_step standard_weights (given_step b) (given_widths b) s)
      (folds_of (Step.rounded (Ranged.ranged_raw (given_step b) (given_widths b) s)));
  anew = true;
  works = true;
  ruled = λ b next s ρ i.
      let p = given_step b in units_of (remainder p s i + gain (step_columns b) (given_widths b) s i) + half_of (inexact_at (raw p s) i);
  -- ---- where a motion goes
  offset_limit = λ b i. 0;
  move = λ b p m x i. image_by (given_step b) (p.linear m) (p.quadratic m) x i;
  coordinates = λ b n. step_rows b;
  fresh = λ b. [];
}
